-- `rule_operators::chosen` meets its contract: the number at the selector's index among the others, 0 past them. Assumes nothing.
use Rattle.std.proofs.Common.{arith, ◌≡◌, get_or, drop}
use Rattle.std.proofs.lemmas.Grind.{common_steps}
use Rattle.std.proofs.lemmas.Option.{gets}
use Rattle.promises.specs.Operators.{case_of}
use Rattle.rule_operators.proofs.chosen.Goals as goal

pub returns : goal.returns
unfolding case_of
returns c =
    let e : c.unwrap_or.result ≡ get_or (drop 1 c.args.vals.now) (get_or c.args.vals.now 0 0) 0 = grind (arith, common_steps, gets) in e
