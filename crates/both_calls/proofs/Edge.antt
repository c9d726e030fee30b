-- Both tables at the edge: a call that wrote one of them keeps the other. Assumes nothing.
use mathlib.Core.Path.{◌≡◌, refl, sym, subst, ◌∙◌}
use mathlib.Core.List.{List}
use Prim.Native.Nat.{ℕ}
use Rattle.theory.specs.Rules.{rules, Rule}
use Rattle.theory.specs.Costs.{costs, Cost}
use Rattle.settings.specs.Refusals.{Cases, Ends}
use Rattle.settings.specs.declared.refusals.Refusal.{Refusal}
use Rattle.settings.specs.Refusals.{Outcome}
use Rattle.settings.specs.Refusals.{Taken, Refused}
use Rattle.promises.specs.Deed.{Deed, refusals, Meets}
use Rattle.promises.specs.Table.{Effect, keeps, puts}
use Rattle.promises.specs.RuleDeeds.{looked}
use Rattle.promises.specs.CostDeeds.{cost_looked}
use Rattle.promises.specs.BothDeeds.{both}
use Rattle.table_calls.proofs.Drawn.{written}
use Rattle.rule_calls.specs.Writing as R
use Rattle.rule_calls.proofs.Edge.{drawn as rules-drawn}
use Rattle.cost_calls.specs.Writing as C
use Rattle.cost_calls.proofs.Edge.{drawn as costs-drawn}

module _ {d : Deed both} {m : Cases} {v w : List ℕ} {r : d.Result} {o : Outcome} (e : d.ending r ≡ o) (t : Ends (refusals d (v, w)) o)
    (g : o ≡ Taken → d.Gives (both.says (v, w)) r) (k : (x : Refusal) → o ≡ Refused x → r ≡ d.refusal x) where
  -- the cost table written
  pub wrote_cost : {w' : List ℕ} {p : ℕ} {h : Cost} → d.writes (both.says (v, w)) ≡ (keeps, puts p h) → C.Writes m p h w w' o → Meets d (v, w) (v, w') r
  wrote_cost {w'} f x =
      record {
        ends = subst (Ends (refusals d (v, w))) (sym e) t;
        leaves = λ q. subst (λ (y : Effect rules × Effect costs). both.Leaves y (v, w) (v, w')) (sym f) (refl, written cost_looked costs-drawn (λ s a. refl) (x.becomes (sym e ∙ q)));
        gives = λ q. g (sym e ∙ q);
        kept = λ y q i. (v, x.refused y (sym e ∙ q) i);
        refused = λ y q. k y (sym e ∙ q);
      }

  -- the rule table written
  pub wrote_rule : {v' : List ℕ} {p : ℕ} {h : Rule} → d.writes (both.says (v, w)) ≡ (puts p h, keeps) → R.Writes m p h v v' o → Meets d (v, w) (v', w) r
  wrote_rule {v'} f x =
      record {
        ends = subst (Ends (refusals d (v, w))) (sym e) t;
        leaves = λ q. subst (λ (y : Effect rules × Effect costs). both.Leaves y (v, w) (v', w)) (sym f) (written looked rules-drawn (λ s a. refl) (x.becomes (sym e ∙ q)), refl);
        gives = λ q. g (sym e ∙ q);
        kept = λ y q i. (x.refused y (sym e ∙ q) i, w);
        refused = λ y q. k y (sym e ∙ q);
      }
