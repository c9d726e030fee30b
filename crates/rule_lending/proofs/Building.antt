-- The laws of building a rule in a rule table: results, a result built branch by branch, and what is there stays there. Assumes nothing.
use Rattle.std.specs.Prelude.{Option, None, Some}
use mathlib.Core.Path.{◌≡◌, sym, ap, subst, ◌∙◌}
use mathlib.Core.List.{List, ◌∷◌}
use Prim.Native.Nat.{ℕ, ◌+◌, ◌<◌}
use native.Mathlib.Omega.{arith}
use lib.ListN.{length, set}
use Rattle.theory.specs.Functions.{held}
use Rattle.theory.specs.Rules.{Rule, says}
use Rattle.table_words.specs.Words.{listed}
use Rattle.table_words.proofs.Words.{kept_features, kept_sizes}
use Rattle.rule_nodes.proofs.Filling as F
use Rattle.rule_nodes.proofs.Staying as S
use Rattle.rule_settling.proofs.Settling.{sound_holds}
use Rattle.rule_inside.specs.Branches.{Says, says_out}
use Rattle.rule_inside.specs.Building.{Ready, ready_in, ready_out, built_in, built_out, Filling, filling_in, filling_out, Stopped, stopped_in, stopped_out, Listed, listed_in, made_out}
use Rattle.rule_lending.specs.Building.{Result, Makes}
use Rattle.promises.specs.Words.{features, size, sizes}
use Rattle.promises.specs.RuleSound.{RuleSound as Sound}

-- a sound table can be built onto
pub sound_ready : {w : List ℕ} → Sound w → Ready w
sound_ready s = ready_in (sound_holds s)

-- ---- answers
module _ {w t : List ℕ} {k : ℕ} {g : Rule} {a : Option ℕ} where
  pub result_is : {x : ℕ} → a ≡ Some x → Result w t k g a → Result w t k g (Some x)
  result_is e r = subst (λ (y : Option ℕ). Result w t k g y) e r

  pub result_none : a ≡ None → Result w t k g a → Result w t k g None
  result_none e r = subst (λ (y : Option ℕ). Result w t k g y) e r

-- rules that agree are built alike
pub result_agree : {w t : List ℕ} {k : ℕ} {g h : Rule} (a : Option ℕ) → ((s : List ℕ) → g s ≡ h s) → Result w t k h a → Result w t k g a
result_agree {w} {t} {k} {g} {h} a e r = built_in (F.result_agree w t k g h a e (built_out r))

-- ---- in a table that nodes may be added to
module _ {w : List ℕ} (ok : Ready w) where
  -- a rule that gives one number everywhere is that phrase number
  pub result_number : {b n k : ℕ} {g : Rule} → Says b n → ((s : List ℕ) → g s ≡ says n) → Result w w k g (Some b)
  result_number {b} {n} {k} {g} q e = let o = says_out q in built_in (S.result_phrase w k b g (ready_out ok) o.0 (λ s. e s ∙ ap says (sym o.1)))

  -- a rule that does not depend on feature k is built at the next
  pub result_skip : {t : List ℕ} {k : ℕ} {g h : Rule} (a : Option ℕ) → k < features w → ((v : ℕ) → v < size w k → (s : List ℕ) → g (v ∷ s) ≡ h s) → Result w t (k + 1) h a → Result w t k g a
  result_skip {t} {k} {g} {h} a hk e r = built_in (F.gives_eq (F.built_skip w k g h (ready_out ok) hk e) (built_out r))

  -- what a call told is there afterwards, ..
  pub result_again : {t : List ℕ} {k x : ℕ} {g : Rule} → Result w t k g (Some x) → Result t t k g (Some x)
  result_again {t} {k} {x} {g} r = built_in (S.result_again w t k g x (ready_out ok) (built_out r))

  -- .. and what is there stays there when a node is made
  pub makes_again : {t : List ℕ} {j y k x : ℕ} {l : List ℕ} {g : Rule} (a : Option ℕ) → Makes w t j l a → a ≡ Some y → Result w w k g (Some x) → Result t t k g (Some x)
  makes_again {t} {j} {y} {k} {x} {l} {g} a m e r = built_in (S.makes_again w t j l a y k g x (ready_out ok) (made_out m) e (built_out r))

-- ---- branch by branch
module _ {w t : List ℕ} {k v : ℕ} {g : Rule} {l : List ℕ} (f : Filling w t k g v l) where
  pub filling_ready : Ready t
  filling_ready = ready_in (filling_out f).filled.grown.well

  pub filling_sizes : Ready w → sizes t ≡ sizes w
  filling_sizes ok = kept_sizes w t (filling_out f).filled.grown.kept (ready_out ok).laid.laid.few

  pub filling_long : length l ≡ 12
  filling_long = (filling_out f).long

module _ {w : List ℕ} {k : ℕ} {g : Rule} (ok : Ready w) (hk : k < features w) where
  pub fill_start : (l : List ℕ) → length l ≡ 12 → ((u : ℕ) → u < 12 → listed l u ≡ 0) → Filling w w k g 0 l
  fill_start l e z = filling_in (F.fill_start w k g (ready_out ok) hk l e z)

  -- the call for branch v answered x
  pub fill_more : {t t' : List ℕ} {v x : ℕ} {l : List ℕ} {h : Rule} (a : Option ℕ) → Filling w t k g v l → v < size w k → ((s : List ℕ) → held v g s ≡ h s) → Result t t' (k + 1) h a → a ≡ Some x →
      Filling w t' k g (v + 1) (set l v x)
  fill_more {t} {t'} {v} {x} {l} {h} a f lt e r is =
      filling_in (F.fill_more w k g (ready_out ok) hk t t' v x l h a (filling_out f) lt e (built_out r) is)

  -- it found no room
  pub fill_stop : {t t' : List ℕ} {v : ℕ} {l : List ℕ} {h : Rule} (a : Option ℕ) → Filling w t k g v l → v < size w k → ((s : List ℕ) → held v g s ≡ h s) → Result t t' (k + 1) h a → a ≡ None →
      Stopped w t' k g
  fill_stop {t} {t'} {v} {l} {h} a f lt e r is =
      stopped_in (F.fill_stop w k g (ready_out ok) hk t t' v l h a (filling_out f) lt e (built_out r) is)

  pub stop_result : {t : List ℕ} → Stopped w t k g → Result w t k g None
  stop_result {t} s = built_in (F.stop_result w k g (ready_out ok) hk t (stopped_out s))

  -- `make` may be asked
  pub fill_listed : {t l : List ℕ} → Filling w t k g (size w k) l → Listed t k l
  fill_listed {t} {l} f =
      let r = (filling_out f).filled.grown in
      listed_in r.well (omega (arith, hk, kept_features w t r.kept)) (F.fill_listed w k g (ready_out ok) hk t l (filling_out f))

  -- and its answer is the result
  pub fill_make : {t t' l : List ℕ} (a : Option ℕ) → Filling w t k g (size w k) l → Makes t t' k l a → Result w t' k g a
  fill_make {t} {t'} {l} a f m = built_in (F.fill_make w k g (ready_out ok) hk t t' l a (filling_out f) (made_out m))
