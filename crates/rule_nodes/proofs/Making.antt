-- The laws of `find` and `make`: those of every kind, for branch words. Assumes nothing.
use Rattle.std.specs.Prelude.{Option, None, Some}
use mathlib.Core.Path.{◌≡◌, refl, sym, ap, subst, ◌∙◌}
use mathlib.Core.List.{List}
use mathlib.Core.Option.{some}
use Prim.Native.Nat.{ℕ, zero, suc, ◌<◌}
use native.Mathlib.Omega.{arith}
use Rattle.theory.specs.Build.{make}
use Rattle.theory.specs.Deciding.{Alike}
use Rattle.theory.specs.Diagrams.{blank}
use Rattle.theory.specs.Rules.{Branch, Built, node}
use Rattle.table_words.specs.Holding as H
use Rattle.table_words.specs.Words.{listed}
use Rattle.table_records.specs.Changes.{pair_of, Pushed, RecordIs, Finds as FindsRecord}
use Rattle.table_records.specs.Nodes.{Absent}
use Rattle.table_records.proofs.Making as M
use Rattle.rule_words.specs.Table.{rule_table}
use Rattle.rule_words.specs.Words.{branches, branch_of}
use Rattle.rule_words.proofs.Regular.{regular}
use Rattle.rule_words.proofs.Reading.{decode_inj, word_again}
use Rattle.rule_nodes.specs.Nodes.{layout, Holds, Makes, Listed, AllSame, Finds}
use Rattle.rule_words.specs.declared.Branch.{Branch as CodeBranch}
use Rattle.rule_words.specs.declared.Branch.TheVariants.{Node as NodeIs}
use Rattle.rule_nodes.proofs.Reading.{good_small}
use Rattle.promises.specs.Words.{capacity, features, size, count}
use Rattle.promises.specs.RuleWords.{decode, rule_node_list as nodes}

-- ---- what the search's answer tells
pub found_at : (w : List ℕ) (k : ℕ) (l : List ℕ) (r : Option CodeBranch) (b : CodeBranch) → r ≡ Some b → Finds w k l r → Finds w k l (Some b)
found_at w k l r b e f = subst (λ (x : Option CodeBranch). Finds w k l x) e f

pub found_missing : (w : List ℕ) (k : ℕ) (l : List ℕ) (r : Option CodeBranch) → r ≡ None → Finds w k l r → Absent rule_table w k l
found_missing w k l r e f = subst (λ (x : Option CodeBranch). Finds w k l x) e f

-- a rule record's spare words are 0
no_spare : (j : ℕ) → pair_of 0 0 j ≡ 0
no_spare zero = refl
no_spare (suc j) = refl

module _ (w : List ℕ) (k : ℕ) (l : List ℕ) (ok : Holds w) (hk : k < features w) (li : Listed w k l) where
  abbrev bs : List Branch
  bs = branches (size w k) (listed l)

  -- ---- find
  -- equal branches need no node
  pub found_same : (b : CodeBranch) → branch_of b ≡ decode (listed l 0) → AllSame (size w k) l → Finds w k l (Some b)
  found_same b e a =
      let d = ok.laid.laid in
      let x : listed l 0 < 131072 = omega (arith, good_small w (suc k) (listed l 0) (li.each 0 (omega (arith, d.large k hk))), d.within, d.most) in
      (M.found_same regular w k l ok hk li (λ v h. ap decode (a.each v h)) ∙ ap (λ (c : Branch). let t : Built = (c, nodes w) in t) (sym e), word_again b (listed l 0) e x)

  not_alike : (AllSame (size w k) l → ⊥) → ¬ Alike blank bs
  not_alike n a = n (record { each = λ v h. decode_inj (listed l v) (listed l 0) (M.alike_arms regular w k l ok hk li a v h) })

  -- an equal node is there
  pub found_node : (i : ℕ) → i < count w → (AllSame (size w k) l → ⊥) → RecordIs w i k l → Finds w k l (Some (NodeIs i))
  found_node i h n q = (M.found_node regular w k l ok hk li refl i h (not_alike n) q, omega (arith, h, ok.laid.laid.within, ok.laid.laid.most))

  -- neither: the branch must be made
  pub found_none : (AllSame (size w k) l → ⊥) → FindsRecord w k l None → Absent rule_table w k l
  found_none n f = M.found_none regular w k l ok hk li (not_alike n) f

  -- ---- make
  pub made_new : (w' : List ℕ) (r i : ℕ) → Absent rule_table w k l → count w < capacity w → decode r ≡ node i → i ≡ count w → Pushed w w' k l 0 0 → Makes w w' k l (Some r)
  made_new w' r i ab less e q p =
      let g : H.Gives layout w w' (make k bs (nodes w)) (some (decode r)) =
      subst (λ (b : Branch). H.Gives layout w w' (make k bs (nodes w)) (some b)) (sym (e ∙ ap node q)) (M.made_new regular w k l ok hk li refl w' ab less (λ j h. no_spare j) p) in
      record { grown = g.grown; answers = g.answers }

  pub made_none : Absent rule_table w k l → (count w < capacity w → ⊥) → Makes w w k l None
  made_none ab full = let g = M.made_none regular w k l ok hk li refl ab full in record { grown = g.grown; answers = g.answers }

  pub made_there : (r : ℕ) (b : CodeBranch) → decode r ≡ branch_of b → make k bs (nodes w) ≡ (branch_of b, nodes w) → Makes w w k l (Some r)
  made_there r b e f =
      let g = M.made_there regular w k l ok hk li (decode r) (f ∙ ap (λ (c : Branch). let t : Built = (c, nodes w) in t) (sym e)) in
      record { grown = g.grown; answers = g.answers }
