-- What a walk that builds remembers, for every kind: it stays right while nodes are added, and the result of a node that was made is one more. Assumes nothing.
use mathlib.Core.Path.{◌≡◌, sym, ◌∙◌}
use mathlib.Core.List.{List}
use Prim.Native.Nat.{ℕ}
use lib.ListN.{length, drop}
use Rattle.theory.specs.Build.{Ext}
use Rattle.theory.specs.Diagrams.{Branch, Node}
use Rattle.theory.specs.Functions.{Fun}
use Rattle.theory.specs.Kind.{Kind}
use Rattle.theory.specs.WellFormed.{Mean}
use Rattle.table_words.specs.Holding.{Holds, Grown}
use Rattle.table_words.specs.Table.{Table, nodes}
use Rattle.table_words.proofs.Filling.{grown_ext}
use Rattle.table_records.specs.Nodes.{layout_of}
use Rattle.table_records.proofs.Making.{lawful}
use Rattle.table_notes.specs.Far.{memory, Aside, Windowed}
use Rattle.table_notes.specs.Plain.{plain}
use Rattle.table_memory.specs.Memory.{Stored, Noted}
use Rattle.table_memory.proofs.Remembering as M
use Rattle.promises.specs.Words.{sizes}

-- a branch means a function that is said otherwise, over sizes that are said otherwise
pub mean_said : {K : Kind} {N : List (Node K)} {k : ℕ} {b : Branch K} {S S' : List ℕ} {g h : Fun K} → S' ≡ S → ((s : List ℕ) → h s ≡ g s) → Mean N k (drop k S) b g → Mean N k (drop k S') b h
mean_said z q m = rw z (record { ok = m.ok; says = λ s v. m.says s v ∙ sym (q s) })

-- w is the table with all branches filled, w' that with the node made; what an entry says stays right while nodes are added
module _ {K : Kind} (T : Table K) {n : ℕ} {R : List ℕ → List ℕ → ℕ → ℕ → Type 0}
    (more : (u v : List ℕ) → Holds (layout_of T) u → sizes v ≡ sizes u → Ext (nodes T u) (nodes T v) → (key : List ℕ) (x y : ℕ) → R u key x y → R v key x y)
    {w w' s : List ℕ} {N : List (Node K)} (ok : Holds (layout_of T) (plain w)) (g : Grown (layout_of T) (plain w) (plain w') N) (e : Ext (nodes T (plain w)) N) (a : Aside w w')
    (d : Noted n R w s) where
  pub noted_made : Noted n R w' s
  noted_made =
      M.noted_made w w' s d g.kept a
      (more (plain w) (plain w') ok ((lawful T).kept_sizes (plain w) (plain w') ok.laid g.kept) (grown_ext (lawful T) (plain w) (plain w') N ok g e))

  -- and its result is remembered, which leaves the table w''
  pub noted_result : {w'' s'' key : List ℕ} {x y : ℕ} → length key ≡ n → (plain w'' ≡ plain w') × Stored (memory w' s) (memory w'' s'') key x y × Windowed w'' → R (plain w') key x y
      → Noted n R w'' s''
  noted_result {w''} {s''} {key} {x} {y} l m c = M.noted_stored w' w'' s s'' key x y l noted_made m c
