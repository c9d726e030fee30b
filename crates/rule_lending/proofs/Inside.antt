-- Laws that look inside the words of this crate, for its own proofs alone: what the functions below may be asked, and what their answers are here. Assumes nothing.
use mathlib.Core.Path.{◌≡◌, refl, sym, ap, ◌∙◌}
use mathlib.Core.Logic.{⊎_elim}
use mathlib.Core.List.{List, ◌∷◌}
use Prim.Native.Nat.{ℕ, suc, ◌+◌, ◌-◌, ◌≤◌, ◌<◌}
use native.Mathlib.Numerals.{add-one}
use native.Mathlib.Omega.{arith}
use borrow.Author.Tests.{lt-ltb, le-ltb}
use lib.Dec.{ltb}
use Rattle.theory.specs.Diagrams.{next, value}
use Rattle.theory.specs.Rules.{Branch}
use Rattle.theory.proofs.Values.{value_next, value_wait}
use Rattle.table_words.proofs.Tab.{split}
use Rattle.table_records.specs.Laid.{Laid}
use Rattle.rule_nodes.specs.Nodes.{top}
use Rattle.rule_nodes.proofs.Reading.{good_small}
use Rattle.rule_nodes.proofs.Stepping.{top_phrase, top_node, good_top, top_good, place_next}
use Rattle.rule_sound.proofs.Sitting.{sits_ok}
use Rattle.settings.specs.Tells.{Tells}
use Rattle.rule_settling.proofs.Settling.{sound_holds}
use Rattle.rule_inside.specs.Branches.{Lent, lent_in, lent_out, lent, Number, number_in, number_out, key_of}
use Rattle.rule_lending.specs.Lending.{Lends, Roots, Goes, Tops}
use Rattle.promises.specs.Words.{features, count}
use Rattle.promises.specs.RuleWords.{decode, rule_node_list as nodes, rule_root as root}
use Rattle.promises.specs.RuleSound.{RuleSound as Sound}

-- ---- where a branch word may stand
pub lent_count : {w : List ℕ} {k b : ℕ} → Lent w k b → b < 65536 + count w
lent_count {w} {k} {b} p = good_small w k b (lent_out p).good

pub lent_laid : {w : List ℕ} {k b : ℕ} → Lent w k b → Laid w
lent_laid p = (lent_out p).holds.laid.laid

-- `top_of` may be asked
pub lends_asks : {w : List ℕ} {b : ℕ} → Lends w b → Laid w × (b < 65536 + count w)
lends_asks p = (lent_laid p.lends, lent_count p.lends)

pub lent_top : {w : List ℕ} {k b : ℕ} → Lent w k b → k ≤ top w b
lent_top {w} {k} {b} p = good_top w k b (lent_out p).good (lent_out p).up_to

pub top_tests : {w : List ℕ} {k b : ℕ} → Lent w k b → 65536 ≤ b → top w b < features w
top_tests {w} {k} {b} p h = omega (arith, top_node w b h, (lent_laid p).tests (b - 65536) (omega (arith, lent_count p)))

top_most : {w : List ℕ} {k b : ℕ} → Lent w k b → top w b ≤ features w
top_most {w} {k} {b} p = ⊎_elim (λ l. omega (arith, top_phrase w b l)) (λ l. omega (arith, top_tests p l)) (split b 65536)

lent_to : {w : List ℕ} {k b j : ℕ} → Lent w k b → j ≤ top w b → Lent w j b
lent_to {w} {k} {b} {j} p h = lent_in (record { holds = (lent_out p).holds; good = top_good w j b (lent_count p) h; up_to = omega (arith, top_most p) })

-- ---- what the functions answer of branches
pub lent_roots : {w : List ℕ} {p r : ℕ} → Sound w → p < 32 → r ≡ root w p → Roots w p r
unfolding lent
lent_roots {w} {p} {r} s h e = record {
  there = lent_in (record { holds = sound_holds s; good = rw e (sits_ok (s.roots_ok.rooted p h)); up_to = omega arith });
  means = λ x. ap (λ (b : ℕ). value (nodes w) 0 (decode b) x) e;
}

pub lent_goes : {w : List ℕ} {k b r : ℕ} (v : ℕ) → Lent w k b → k < features w → decode r ≡ next (nodes w) k (decode b) v → Goes w k b v r
unfolding lent
lent_goes {w} {k} {b} {r} v p h e = record {
  there = lent_in (place_next w k b v r (lent_out p) h e);
  means = λ s. value_next (nodes w) k (decode b) v s ∙ sym (ap (λ (c : Branch). value (nodes w) (suc k) c s) e) ∙ rw add-one refl;
}

lent_waits : {w : List ℕ} {b : ℕ} (k v : ℕ) (s : List ℕ) → Lent w (k + 1) b → lent w k b (v ∷ s) ≡ lent w (k + 1) b s
unfolding lent
lent_waits {w} {b} k v s p = value_wait (nodes w) k (decode b) v s (rw add-one at (lent_out p).good) ∙ rw add-one refl

pub lent_tops : {w : List ℕ} {k b r : ℕ} → r ≡ top w b → Lent w k b → Tops w k b r
lent_tops {w} {k} {b} {r} e p = record {
  from = omega (arith, e, lent_top p);
  most = omega (arith, e, top_most p);
  there = λ j a h. lent_to p (omega (arith, e));
  waits = λ j v s a h. lent_waits j v s (lent_to p (omega (arith, e)));
}

-- the test of a phrase number
pub tells_number : (b : ℕ) → Tells (ltb b 65536) (Number b)
tells_number b = ⊎_elim (λ l. rw (lt-ltb b 65536 l) (number_in l)) (λ l. rw (le-ltb b 65536 l) (λ n. omega (arith, number_out n))) (split b 65536)

pub key_is : (b : ℕ) → b ≡ key_of b
unfolding key_of
key_is b = refl
