-- What the calls hand to the engine, and that the cost which they put is the promised one. Assumes nothing.
use mathlib.Core.Path.{◌≡◌, sym, ap, ap₂, subst, ◌∙◌}
use mathlib.Core.Logic.{⊎_elim}
use mathlib.Core.List.{List}
use Prim.Native.Nat.{ℕ, ◌<◌}
use lib.IntN.{ℤ}
use Rattle.theory.specs.Functions.{Agree}
use Rattle.theory.specs.Costs.{Cost, costs}
use Rattle.theory.specs.Diagrams.{Branch, meaning}
use Rattle.theory_costs.proofs.Range.{within_stays, within_or_leaves}
use Rattle.theory_costs.proofs.Spreads.{within_agree}
use Rattle.theory_costs.proofs.Relative.{offs}
use Rattle.settings.proofs.Endings.{stop}
use Rattle.settings.specs.Refusals.{Ends}
use Rattle.settings.specs.declared.refusals.Refusal.TheVariants.{Range}
use Rattle.settings.specs.Refusals.{Outcome}
use Rattle.settings.specs.Refusals.{Refused}
use Rattle.cost_words.proofs.Reading.{at_costs}
use Rattle.cost_nodes.specs.Nodes.{Result}
use Rattle.std.specs.Prelude.{Option}
use Rattle.cost_words.specs.declared.Arm.{Arm}
use Rattle.cost_engine.specs.Joint.{op_of, together, Joinable}
use Rattle.cost_engine.specs.declared.operators.Operator.{Operator}
use Rattle.cost_engine.specs.declared.operators.Operator.TheVariants.{Scale}
use Rattle.cost_range.specs.Operable.{Operable, Factored}
use Rattle.cost_calls.proofs.Sounding.{sound_pos}
use Rattle.cost_calls.proofs.Answering.{write_refused}
use Rattle.table_calls.proofs.Drawn.{room_ends}
use Rattle.cost_calls.proofs.Edge.{drawn}
use Rattle.cost_settling.specs.Settling.{Puts}
use Rattle.cost_settling.proofs.Operands.{place_operand}
use Rattle.cost_settling.proofs.Settling.{write_pass, puts_one}
use Rattle.cost_operations.specs.Joining.{put_cases, Joins}
use Rattle.promises.specs.Integers.{Fit, int}
use Rattle.promises.specs.CostOperations.{joined, scaled}
use Rattle.promises.specs.Range.{LeavesRange, Within, cost_most}
use Rattle.promises.specs.Words.{sizes}
use Rattle.promises.specs.CostWords.{cost_node_list as nodes, root_at}
use Rattle.promises.specs.CostSound.{CostSound as Sound}
use Rattle.promises.specs.State.{on}
use Rattle.promises.specs.Table.{state_of}
use Rattle.promises.specs.CostDeeds.{cost_looked, costed, range_cases}

-- ---- the range
-- costs that agree leave their range together
leaves_agree : {S : List ℕ} {g h : Cost} → Agree S g h → LeavesRange S g → LeavesRange S h
leaves_agree e l = record { setting = l.setting; valid = l.valid; out = λ f. l.out (subst (Fit cost_most) (sym (offs (e l.setting l.valid))) f) }

module _ {w : List ℕ} (s : Sound w) {p : ℕ} {g : Cost} where
  range_refused : (Within cost_most (sizes w) g → ⊥) → Joins p g w w (Refused Range)
  range_refused n = record {
    joins = λ h e. write_refused (stop (leaves_agree e (⊎_elim (λ q. absurd (n q)) (λ l. l) (within_or_leaves (sizes w) (sound_pos s) g))));
  }

  -- RANGE: nothing was built
  pub joins_range : {u : List ℕ} → u ≡ w → (Within cost_most (sizes w) g → ⊥) → Joins p g w u (Refused Range)
  joins_range e n = subst (λ (z : List ℕ). Joins p g w z (Refused Range)) (sym e) (range_refused n)

  -- in range, and settled
  pub joins_put : {w' : List ℕ} {o : Outcome} → Within cost_most (sizes w) g → Puts p g w w' o → Joins p g w w' o
  joins_put q r = record { joins = λ h e. write_pass Range (within_stays (within_agree (λ t v. sym (e t v)) q)) (puts_one r h e) }

-- ---- words u that the test of the range left as they were, w
module _ {w u : List ℕ} (e : u ≡ w) (o : Operator) (b c : Branch costs) where
  pub joinable_again : Joinable w o b c → Joinable u o b c
  joinable_again j = rw e j

  pub result_again : (t : List ℕ) (a : Option Arm) → Result u t 0 (together o (meaning (nodes u) b) (meaning (nodes u) c)) a → Result w t 0 (together o (meaning (nodes w) b) (meaning (nodes w) c)) a
  result_again t a r = subst (λ (z : List ℕ). Result z t 0 (together o (meaning (nodes z) b) (meaning (nodes z) c)) a) e r

-- ---- the branches b and c of places p and q
module _ {w : List ℕ} (s : Sound w) (o : Operator) (b c : Branch costs) (p q : ℕ) (eb : b ≡ root_at w p) (ec : c ≡ root_at w q) where
  pub operable : p < 16 → q < 16 → Factored o → Operable w o b c
  operable hp hq f = record { first = place_operand s p eb hp; second = place_operand s q ec hq; factor_in = f }

  -- the joint cost is that of the two places
  pub places_agree : p < 16 → q < 16 → Agree (sizes w) (together o (meaning (nodes w) b) (meaning (nodes w) c)) (joined (op_of o) (on (state_of costed w) p) (on (state_of costed w) q))
  places_agree hp hq t v =
      ap₂ (λ (x y : Branch costs). together o (meaning (nodes w) x) (meaning (nodes w) y) t) eb ec
      ∙ ap₂ (λ (x y : Cost). together o x y t) (sym (at_costs w p hp)) (sym (at_costs w q hq))

-- scaled by the integer of a word
pub scale_agrees : (w : List ℕ) (b : Branch costs) (p a : ℕ) (z : ℤ) → b ≡ root_at w p → int a ≡ z → p < 16
    → Agree (sizes w) (together (Scale a) (meaning (nodes w) b) (meaning (nodes w) b)) (scaled z (on (state_of costed w) p))
scale_agrees w b p a z eb ea h t v = ap₂ (λ (x : Branch costs) (y : ℤ). scaled y (meaning (nodes w) x) t) eb ea ∙ ap (λ (x : Cost). scaled z x t) (sym (at_costs w p h))

-- ---- the refusals of a cost that is worked out: RANGE as it is, NO ROOM by the rests as they are counted
pub range_ends : (w : List ℕ) (g : Cost) (o : Outcome) → Ends (put_cases g w) o → Ends (range_cases g (state_of costed w)) o
range_ends w g o e = (e.0, λ n. room_ends cost_looked drawn w g o (e.1 n))
