-- `rule_operations::call_restrict::put_restricted` meets its contract: what the walk built is settled. Assumes nothing.
use Rattle.rule_operations.proofs.Operands.{restrict_holding, restrict_agrees}
use Rattle.rule_settling.proofs.Settling.{settle_asks, settles, puts_agree}
use Rattle.rule_restrict.specs.Restrict.{restr}
use Rattle.rule_operations.proofs.call_restrict.put_restricted.Goals as goal

pub held-r-requires : goal.held-r-requires
held-r-requires c =
    restrict_holding c.requires.0 c.args.from c.args.feature c.args.value c.root_word-b.result c.root_word-b.ensures c.requires.2 c.requires.3 c.requires.4

pub settle-requires : goal.settle-requires
settle-requires c =
    settle_asks (restr c.args.t.now 0 c.root_word-b.result c.args.feature c.args.value) c.held-r.result c.requires.0 c.held-r.ensures c.requires.1 c.count_word-used.ensures

pub returns : goal.returns
returns c =
    puts_agree (restrict_agrees c.requires.0 c.args.from c.args.feature c.args.value c.root_word-b.result c.root_word-b.ensures)
    (settles (restr c.args.t.now 0 c.root_word-b.result c.args.feature c.args.value) c.held-r.result c.requires.0 c.held-r.ensures c.requires.1 c.count_word-used.ensures c.settle.ensures)
