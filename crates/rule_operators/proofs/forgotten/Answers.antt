-- `rule_operators::forgotten` meets its contract: the rule holds of the numbers from the last to the first. Assumes nothing.
use Rattle.std.proofs.Common.{rules, ◌≡◌, ℕ}
use Rattle.std.specs.Prelude.{reverse}
use Rattle.std.specs.List.{fold}
use Rattle.rule_operators.proofs.Operating.{forgotten_fold}
use mathlib.Core.Path.{◌∙◌}
use Rattle.promises.specs.Operators.{merged_of}
use Rattle.rule_operators.proofs.forgotten.Goals as goal

pub returns : goal.returns
returns c =
    let e : c.fold.result ≡ fold (λ (a b : ℕ). merged_of b a) 0 (reverse c.args.vals.now) = search rules in
    e ∙ forgotten_fold c.args.vals.now
