-- `both_calls::call_choose::put_choice` meets its contract: what the engine built is settled. Assumes nothing.
use Rattle.cost_settling.proofs.Settling.{settle_asks, settles}
use Rattle.promises.specs.RuleWords.{rule_of}
use Rattle.promises.specs.CostWords.{cost_of}
use Rattle.promises.specs.CostOperations.{chosen}
use Rattle.both_calls.proofs.Operands.{choosable, choice_made, choice_in}
use Rattle.both_calls.proofs.call_choose.put_choice.Goals as goal

pub choose_costs-r-requires : goal.choose_costs-r-requires
choose_costs-r-requires c =
    choosable _ _ _ _ _ c.root_of.ensures c.arm_of-x.ensures c.arm_of-y.ensures c.requires.1 c.requires.2 c.requires.5 c.requires.6

pub settle-requires : goal.settle-requires
settle-requires c =
    settle_asks (chosen (rule_of c.args.rules.now c.args.rule) (cost_of c.args.t.now c.args.a) (cost_of c.args.t.now c.args.b))
    c.choose_costs-r.result c.requires.1
    (choice_made _ _ _ _ _ c.root_of.ensures c.arm_of-x.ensures c.arm_of-y.ensures c.choose_costs-r.result
    c.choose_costs-r.ensures) c.requires.3 c.count_word-used.ensures
    (choice_in c.args.rules.now c.args.rule c.args.a c.args.b c.requires.1 c.requires.5 c.requires.6)

pub returns : goal.returns
returns c =
    settles (chosen (rule_of c.args.rules.now c.args.rule) (cost_of c.args.t.now c.args.a) (cost_of c.args.t.now c.args.b)) c.choose_costs-r.result
    c.requires.1 (choice_made _ _ _ _ _ c.root_of.ensures c.arm_of-x.ensures c.arm_of-y.ensures c.choose_costs-r.result c.choose_costs-r.ensures)
    c.requires.3 c.count_word-used.ensures c.settle.ensures
