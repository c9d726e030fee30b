-- What the calls hand to the engines, and that what these build is what is promised. Assumes nothing.
use mathlib.Core.Path.{◌≡◌, sym, ap, ap₂, subst, ◌∙◌}
use mathlib.Core.List.{List}
use Prim.Native.Nat.{ℕ, ◌<◌}
use Rattle.theory.specs.Costs.{Cost, costs}
use Rattle.theory.specs.Diagrams.{Branch, meaning}
use Rattle.theory.specs.Rules.{Rule}
use Rattle.theory_costs.proofs.Range.{chosen_within}
use Rattle.cost_nodes.specs.Nodes.{Result}
use Rattle.std.specs.Prelude.{Option}
use Rattle.cost_words.specs.declared.Arm.{Arm}
use Rattle.cost_settling.proofs.Settling.{sound_holds}
use Rattle.cost_settling.proofs.Operands.{place_operand}
use Rattle.rule_lending.specs.Lending.{lent, Roots}
use Rattle.rule_lending.specs.Building.{Result as RuleResult}
use Rattle.rule_lending.proofs.Building.{sound_ready}
use Rattle.both_choose.specs.Choice.{Choosable}
use Rattle.both_less.specs.Less.{Comparable}
use Rattle.rule_words.proofs.Reading.{at_rules}
use Rattle.cost_words.proofs.Reading.{at_costs}
use Rattle.promises.specs.State.{on}
use Rattle.promises.specs.Table.{state_of}
use Rattle.promises.specs.RuleDeeds.{ruled}
use Rattle.promises.specs.CostDeeds.{costed}
use Rattle.promises.specs.CostOperations.{chosen, is_below}
use Rattle.promises.specs.Range.{Within, cost_most}
use Rattle.promises.specs.Words.{sizes}
use Rattle.promises.specs.RuleWords.{rule_of}
use Rattle.promises.specs.CostWords.{cost_node_list as nodes, root_at, cost_of}
use Rattle.promises.specs.RuleSound.{RuleSound as SoundRules}
use Rattle.promises.specs.CostSound.{CostSound as Sound}

-- ---- LESS: the branches x and y of places a and b
module _ (v w : List ℕ) (a b : ℕ) {x y : Branch costs} (ex : x ≡ root_at w a) (ey : y ≡ root_at w b) where
  pub comparable : SoundRules v → Sound w → sizes v ≡ sizes w → a < 16 → b < 16 → Comparable w v x y
  comparable r s e ha hb = record {
    holds = sound_holds s;
    beside = record { ready = sound_ready r; same = e };
    first = (place_operand s a ex ha).ok;
    second = (place_operand s b ey hb).ok;
    first_in = (place_operand s a ex ha).within;
    second_in = (place_operand s b ey hb).within;
  }

  pub below_made : {t : List ℕ} (o : Option ℕ) → RuleResult v t 0 (is_below (meaning (nodes w) x) (meaning (nodes w) y)) o → RuleResult v t 0 (is_below (cost_of w a) (cost_of w b)) o
  below_made {t} o m = subst (λ (g : Rule). RuleResult v t 0 g o) (ap₂ (λ (c d : Branch costs). is_below (meaning (nodes w) c) (meaning (nodes w) d)) ex ey) m

-- ---- CHOOSE: the branch word c of rule place q, and the branches x and y of places a and b
module _ (v w : List ℕ) (q a b : ℕ) {c : ℕ} {x y : Branch costs} (ec : Roots v q c) (ex : x ≡ root_at w a) (ey : y ≡ root_at w b) where
  pub choosable : Sound w → sizes v ≡ sizes w → a < 16 → b < 16 → Choosable v w c x y
  choosable s e ha hb = record { alike = e; rule = ec.there; first = place_operand s a ex ha; second = place_operand s b ey hb }

  pub choice_made : {t : List ℕ} (o : Option Arm) → Result w t 0 (chosen (lent v 0 c) (meaning (nodes w) x) (meaning (nodes w) y)) o → Result w t 0 (chosen (rule_of v q) (cost_of w a) (cost_of w b)) o
  choice_made {t} o m =
      subst (λ (g : Cost). Result w t 0 g o)
      (ap (λ (g : Rule). chosen g (meaning (nodes w) x) (meaning (nodes w) y)) (λ i s. ec.means s i)
      ∙ ap₂ (λ (d e : Branch costs). chosen (rule_of v q) (meaning (nodes w) d) (meaning (nodes w) e)) ex ey) m

-- a choice of costs in range is in range
pub choice_in : {w : List ℕ} (v : List ℕ) (q a b : ℕ) → Sound w → a < 16 → b < 16 → Within cost_most (sizes w) (chosen (rule_of v q) (cost_of w a) (cost_of w b))
choice_in v q a b s ha hb = chosen_within (s.ranged.ranged a ha) (s.ranged.ranged b hb) (rule_of v q)

-- ---- what is built, said of the functions of both tables
module _ (w : List ℕ) (a b : ℕ) (ha : a < 16) (hb : b < 16) where
  pub below_said : is_below (cost_of w a) (cost_of w b) ≡ is_below (on (state_of costed w) a) (on (state_of costed w) b)
  below_said = sym (λ i. is_below (at_costs w a ha i) (at_costs w b hb i))

  module _ (v : List ℕ) (q : ℕ) (hq : q < 32) where
    pub choice_said : chosen (rule_of v q) (cost_of w a) (cost_of w b) ≡ chosen (on (state_of ruled v) q) (on (state_of costed w) a) (on (state_of costed w) b)
    choice_said = sym (λ i. chosen (at_rules v q hq i) (at_costs w a ha i) (at_costs w b hb i))

    pub choice_within : Sound w → Within cost_most (sizes w) (chosen (on (state_of ruled v) q) (on (state_of costed w) a) (on (state_of costed w) b))
    choice_within s = subst (Within cost_most (sizes w)) choice_said (choice_in v q a b s ha hb)
