-- Contract between layers: what a kind of table must obey for the collector. Assumes nothing.
use Rattle.std.specs.Prelude.{◌≡◌, List, ℕ, suc, ◌+◌, ◌≤◌, ◌<◌, length, set}
use Rattle.theory.specs.Diagrams.{Branch}
use Rattle.theory.specs.Kind.{Kind}
use Rattle.table_words.specs.Table.{Table}
use Rattle.table_words.specs.Words.{way_of}
use Rattle.table_collect.specs.Walk.{Laid}

module _ {K : Kind} (T : Table K) where
  -- the branch b, going where the word r goes
  abbrev pub turned : Branch K → ℕ → Branch K
  turned b r = record { adds = b.adds; to = T.goal r }

  pub record Laying : Type 0 where
    pub least : T.first ≤ 65536
    pub many : T.places ≤ 32
    pub ways : (f : ℕ → ℕ) (v : ℕ) → T.word f v ≡ way_of T.first f v
    -- a branch laid into a body is there, the others and what is past them stay
    pub here : {f g h : ℕ → ℕ} {v r : ℕ} → Laid T.first f g h v r → T.arm h v ≡ turned (T.arm f v) r
    pub others : {f g h : ℕ → ℕ} {v r : ℕ} → Laid T.first f g h v r → (u : ℕ) → u < v → v < 8 → T.arm h u ≡ T.arm g u
    pub none : (g : ℕ → ℕ) → ((u : ℕ) → u < 12 → g u ≡ 0) → T.Padded 0 g
    pub padded : {f g h : ℕ → ℕ} {v r : ℕ} → Laid T.first f g h v r → T.Padded v g → T.Padded (suc v) h
    -- a root word set turns its place and no other
    pub root : (w : List ℕ) (p r : ℕ) → p < T.places → 64 ≤ length w → T.root_at (set w (32 + p) r) p ≡ turned (T.root_at w p) r
    pub roots : (w : List ℕ) (p q r : ℕ) → p < T.places → q < T.places → (q ≡ p → ⊥) → T.root_at (set w (32 + p) r) q ≡ T.root_at w q
