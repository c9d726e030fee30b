-- `cost_operations::call_price::prices_ok` meets its contract: each price is tested. Assumes nothing.
use Rattle.std.proofs.Common.{rules, ℕ, ◌<◌, ◌↔◌, IsTrue, pos, length, get_or}
use Rattle.settings.proofs.Answers.{tells_iff}
use Rattle.promises.specs.Integers.{Fit}
use Rattle.promises.specs.Range.{cost_most}
use Rattle.cost_operations.proofs.call_price.prices_ok.Goals as goal

pub returns : goal.returns
returns c =
    let e : IsTrue c.all.result ↔ ((k : ℕ) → k < length c.args.prices.now → Fit cost_most (get_or c.args.prices.now k (pos 0))) = search rules in
    tells_iff c.all.result e (λ f. record { each = f }) (λ p. p.each)
