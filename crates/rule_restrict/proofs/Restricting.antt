-- The laws of restrict on a table: features that the branch does not test are passed over, the held feature's branch is taken, any other feature is built branch by branch. Assumes nothing.
use Rattle.std.specs.Prelude.{Option, Some}
use mathlib.Core.Path.{◌≡◌, refl, sym, ap, ◌∙◌}
use mathlib.Core.List.{List}
use Prim.Native.Nat.{ℕ, suc, ◌+◌, ◌-◌, ◌≤◌, ◌<◌}
use native.Mathlib.Nat.{le_refl}
use native.Mathlib.Numerals.{add-one}
use native.Mathlib.Omega.{arith}
use lib.ListN.{length, set}
use Rattle.theory.specs.Build.{Ext}
use Rattle.theory.specs.Diagrams.{meaning, next, value}
use Rattle.theory.specs.Functions.{held}
use Rattle.theory.specs.Operations.{restricted}
use Rattle.theory.specs.WellFormed.{Ok}
use Rattle.theory.proofs.Values.{next_ok, value_next, value_wait, value_ext, next_ext}
use Rattle.theory.proofs.WellFormed.{under_weaken}
use Rattle.rule_nodes.specs.Nodes.{Holds, Result, built, Good, Place, top}
use Rattle.rule_nodes.proofs.Filling.{gives_eq, result_there, built_skip, built_jump, built_there}
use Rattle.rule_nodes.proofs.Reading.{good_small}
use Rattle.rule_nodes.proofs.Stepping.{top_good, good_next}
use Rattle.rule_restrict.specs.Restrict.{restr}
use Rattle.promises.specs.Words.{features, sizes}
use Rattle.promises.specs.RuleWords.{decode, rule_node_list as nodes}

-- from feature 0 on: the rule that the branch means, with feature f held at x
pub restr_whole : (w : List ℕ) (b f x : ℕ) → restr w 0 b f x ≡ restricted f x (meaning (nodes w) (decode b))
restr_whole w b f x = ap (λ (j : ℕ). restricted j x (meaning (nodes w) (decode b))) (let e : f - 0 ≡ f = omega arith in e)

-- a result from feature 0 on is one from any feature up to which the branch tests nothing
pub jump : (w : List ℕ) (b f x k : ℕ) → Holds w → f < features w → k ≤ f → Good w k b → built w 0 (restr w 0 b f x) ≡ built w k (restr w k b f x)
jump w b f x k ok hf h g =
    built_jump w k (λ j. restr w j b f x) ok (omega arith)
    (λ j l v s.
    let z : f - j ≡ suc (f - suc j) = omega arith in
    rw z
    (value_wait (nodes w) j (decode b) v (set s (f - suc j) x) (under_weaken (nodes w) (length (nodes w)) (length (nodes w)) k (suc j) (decode b).to (le_refl _) (omega arith) g)))

module _ (w : List ℕ) (b f x : ℕ) (p : Place w 0 b) (hf : f < features w) where
  good_at : (k : ℕ) → k ≤ top w b → Good w k b
  good_at k h = top_good w k b (good_small w 0 b p.good) h

  pub place_at : (k : ℕ) → k ≤ top w b → k ≤ f → Place w k b
  place_at k h l = record { holds = p.holds; good = good_at k h; up_to = omega arith }

  -- what tests nothing below f goes to its branch x of f
  pub restr_here : (c : ℕ) → f ≤ top w b → decode c ≡ next (nodes w) f (decode b) x → Result w w 0 (restr w 0 b f x) (Some c)
  restr_here c h d =
      let q : Place w f b = place_at f h (le_refl f) in
      let z : f - f ≡ 0 = omega arith in
      result_there w 0 c (restr w 0 b f x) p.holds
      (jump w b f x f p.holds hf (le_refl f) q.good
      ∙ built_skip w f (restr w f b f x) (λ s. value (nodes w) (suc f) (decode c) s) p.holds hf (λ v l s. rw (z, d) (value_next (nodes w) f (decode b) x s))
      ∙ built_there w (f + 1) c (λ s. value (nodes w) (suc f) (decode c) s) p.holds (rw add-one (good_next w f b x c q d)) (λ s. rw add-one refl))

  module _ (k : ℕ) (hk : k ≤ top w b) (lt : k < f) where
    -- branch v of the restricted rule is the restricted branch v, read in any later table
    pub restr_held : (t : List ℕ) (v c : ℕ) → Ext (nodes w) (nodes t) → decode c ≡ next (nodes t) k (decode b) v → (s : List ℕ) → held v (restr w k b f x) s ≡ restr t (k + 1) c f x s
    restr_held t v c e d s =
        let g : Ok (nodes w) k (decode b) = good_at k hk in
        let z : f - k ≡ suc (f - (k + 1)) = omega arith in
        let n : decode c ≡ next (nodes w) k (decode b) v = d ∙ next_ext (nodes w) (nodes t) k (decode b) v e g in
        rw (z, add-one, n)
        (value_next (nodes w) k (decode b) v (set s (f - suc k) x)
        ∙ sym (value_ext (sizes w) (nodes w) (nodes t) (suc k) (next (nodes w) k (decode b) v) (set s (f - suc k) x) p.holds.wf e (next_ok (sizes w) (nodes w) p.holds.wf k (decode b) v g)))

    -- the result at b's own feature is the result
    pub restr_from : (t : List ℕ) (a : Option ℕ) → Result w t k (restr w k b f x) a → Result w t 0 (restr w 0 b f x) a
    restr_from t a r = gives_eq (jump w b f x k p.holds hf (omega arith) (good_at k hk)) r

-- the result of a branch of feature k, from k + 1 on
pub restr_next : (w t : List ℕ) (k c f x : ℕ) (a : Option ℕ) → Place w (k + 1) c → f < features w → k < f → Result w t 0 (restr w 0 c f x) a → Result w t (k + 1) (restr w (k + 1) c f x) a
restr_next w t k c f x a p hf lt r = gives_eq (sym (jump w c f x (k + 1) p.holds hf (omega arith) p.good)) r
