-- `table_checks::sizes_ok` meets its contract: each size word is from 2 to 8. Assumes nothing.
use Rattle.std.proofs.Common.{arith, rules, ◌+◌, ◌-◌}
use Rattle.table_checks.proofs.Compared.{sizes_tell}
use Rattle.table_checks.proofs.sizes_ok.Goals as goal

pub returns : goal.returns
returns c = sizes_tell c.args.t.now (3 + c.features_word.result - 3) c.all.result (omega arith) (omega arith) (search rules)
