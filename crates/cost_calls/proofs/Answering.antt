-- What the calls of the cost table write and answer: the constant, the copy, whether two places are one. Assumes nothing.
use mathlib.Core.Path.{◌≡◌, refl, sym, ap, subst, ◌∙◌}
use mathlib.Core.Bool.{Bool}
use mathlib.Core.List.{List}
use Prim.Native.Nat.{ℕ, ◌<◌}
use lib.Dec.{eqb}
use borrow.Author.Tests.{ne_eqb}
use lib.IntN.{ℤ}
use Rattle.theory.specs.Functions.{Agree}
use Rattle.theory.specs.Diagrams.{Branch, meaning}
use Rattle.theory.specs.Costs.{costs, Cost, amount, to_end}
use Rattle.theory.specs.WellFormed.{Ok}
use Rattle.theory.proofs.Canonical.{canonical_unique}
use Rattle.theory.proofs.Values.{value_ending}
use Rattle.theory_costs.proofs.Range as R
use Rattle.theory_costs.proofs.Words.{int_one}
use Rattle.settings.specs.Tells.{Tells}
use Rattle.settings.proofs.Answers.{tells_eqb}
pub use Rattle.table_calls.proofs.Theorems.{write_refused}
use Rattle.cost_words.specs.Picture.{Becomes}
use Rattle.cost_words.proofs.Packing.{target_end, target_one}
use Rattle.cost_words.proofs.Reading.{at_costs}
use Rattle.cost_calls.proofs.Sounding.{sound_pos, sound_wf, sound_root}
use Rattle.promises.specs.Integers.{Fit, int}
use Rattle.promises.specs.CostOperations.{constant}
use Rattle.promises.specs.Range.{Within, cost_most}
use Rattle.promises.specs.Words.{sizes}
use Rattle.promises.specs.CostWords.{cost_branch as branch, cost_node_list as nodes, cost_root as root, cost_base as base, root_at, cost_of}
use Rattle.promises.specs.CostSound.{CostSound as Sound}
use Rattle.promises.specs.State.{on}
use Rattle.promises.specs.Table.{state_of}
use Rattle.promises.specs.CostDeeds.{costed}

-- ---- calls that write
-- the branch to the end whose base is the word of z
module _ (a : ℕ) (z : ℤ) (e : int a ≡ z) where
  ends_here : branch 0 a ≡ to_end z
  ends_here = λ i. record { adds = e i; to = target_end 0 refl i }

  pub constant_ok : (w : List ℕ) → Ok (nodes w) 0 (branch 0 a)
  constant_ok w = subst (Ok (nodes w) 0) (sym ends_here) tt

  -- it means the constant
  constant_means : (w : List ℕ) → meaning (nodes w) (branch 0 a) ≡ constant z
  constant_means w = ap (meaning (nodes w)) ends_here ∙ (λ i s. value_ending (nodes w) 0 (amount z) s i)

  pub constant_within : (w : List ℕ) → Fit cost_most z → Within cost_most (sizes w) (meaning (nodes w) (branch 0 a))
  constant_within w f = subst (Within cost_most (sizes w)) (sym (constant_means w)) (R.constant_within z f)

  pub constant_becomes : {p : ℕ} {w w' : List ℕ} → Becomes p (meaning (nodes w) (branch 0 a)) w w' → Becomes p (constant z) w w'
  constant_becomes {p} {w} {w'} b = subst (λ (g : Cost). Becomes p g w w') (constant_means w) b

-- the branch of a place means its cost
module _ (w : List ℕ) (q x a : ℕ) (ex : x ≡ root w q) (ea : a ≡ base w q) where
  place_branch : root_at w q ≡ branch x a
  place_branch = ap (λ (y : ℕ). branch y (base w q)) (sym ex) ∙ ap (branch x) (sym ea)

  pub copy_ok : Sound w → q < 16 → Ok (nodes w) 0 (branch x a)
  copy_ok s h = subst (Ok (nodes w) 0) place_branch (sound_root s q h)

  pub copy_within : Sound w → q < 16 → Within cost_most (sizes w) (meaning (nodes w) (branch x a))
  copy_within s h = subst (λ (b : Branch costs). Within cost_most (sizes w) (meaning (nodes w) b)) place_branch (s.ranged.ranged q h)

  pub copy_becomes : {p : ℕ} {w' : List ℕ} → Becomes p (meaning (nodes w) (branch x a)) w w' → Becomes p (cost_of w q) w w'
  copy_becomes {p} {w'} b = subst (λ (c : Branch costs). Becomes p (meaning (nodes w) c) w w') (sym place_branch) b

-- SAME: two places have the same root word and the same base exactly if their costs agree at every setting
module _ {w : List ℕ} (s : Sound w) (p q : ℕ) (hp : p < 16) (hq : q < 16) where
  pub places_agree : root w p ≡ root w q → base w p ≡ base w q → Agree (sizes w) (cost_of w p) (cost_of w q)
  places_agree er eb t v = ap (λ (x : ℕ). meaning (nodes w) (branch x (base w p)) t) er ∙ ap (λ (x : ℕ). meaning (nodes w) (branch (root w q) x) t) eb

  one_branch : Agree (sizes w) (cost_of w p) (cost_of w q) → root_at w p ≡ root_at w q
  one_branch a =
      canonical_unique (sizes w) 0 (sizes w) refl (sound_pos s) (nodes w) (sound_wf s) (root_at w p) (root_at w q) (cost_of w q)
      (record { ok = sound_root s p hp; says = a })
      (record { ok = sound_root s q hq; says = λ t v. refl })

  pub agree_roots : Agree (sizes w) (cost_of w p) (cost_of w q) → root w p ≡ root w q
  agree_roots a = target_one (root w p) (root w q) (ap (λ (b : Branch costs). b.to) (one_branch a))

  pub agree_bases : Agree (sizes w) (cost_of w p) (cost_of w q) → base w p ≡ base w q
  agree_bases a = int_one (base w p) (base w q) (ap (λ (b : Branch costs). b.adds) (one_branch a))

  -- the same, said of the functions at the edge
  abbrev pub Same : Type 0
  Same = Agree (sizes w) (on (state_of costed w) p) (on (state_of costed w) q)

  to_edge : Agree (sizes w) (cost_of w p) (cost_of w q) → Same
  to_edge a t v = ap (λ (f : Cost). f t) (at_costs w p hp) ∙ a t v ∙ sym (ap (λ (f : Cost). f t) (at_costs w q hq))

  from_edge : Same → Agree (sizes w) (cost_of w p) (cost_of w q)
  from_edge a t v = sym (ap (λ (f : Cost). f t) (at_costs w p hp)) ∙ a t v ∙ ap (λ (f : Cost). f t) (at_costs w q hq)

  -- what the code reads
  pub same_other : (x y : ℕ) → x ≡ root w p → y ≡ root w q → (x ≡ y → ⊥) → Tells (eqb x y) Same
  same_other x y ex ey n = subst (λ (r : Bool). Tells r Same) (sym (ne_eqb x y n)) (λ a. n (ex ∙ agree_roots (from_edge a) ∙ sym ey))

  pub same_tells : (x y a b : ℕ) → x ≡ root w p → y ≡ root w q → x ≡ y → a ≡ base w p → b ≡ base w q → Tells (eqb a b) Same
  same_tells x y a b ex ey e ea eb = tells_eqb a b (λ f. to_edge (places_agree (sym ex ∙ e ∙ ey) (sym ea ∙ f ∙ eb))) (λ g. ea ∙ agree_bases (from_edge g) ∙ sym eb)
