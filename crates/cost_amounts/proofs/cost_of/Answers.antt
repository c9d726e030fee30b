-- `cost_amounts::cost_of` meets its contract: a word less the bias is its integer. Assumes nothing.
use Rattle.std.proofs.Common.{ℕ, to_z-of_z, SFits, w64, pos, ◌-ℤ◌, ◌<◌, ◌^◌, arith}
use Rattle.theory_costs.proofs.Words.{fits_signed, signed_small, signed_word}
use Rattle.theory_costs.proofs.Integers.{minus_rise, minus_fall}
use mathlib.Core.Path.{◌∙◌}
use Rattle.promises.specs.Integers.{bias}
use Rattle.cost_amounts.proofs.cost_of.Goals as goal

fits : (w : ℕ) → w < 2 ^ 32 → SFits w64 (pos w -ℤ pos bias)
fits w h = fits_signed _ (omega (arith, minus_rise (pos w) (pos bias))) (omega (arith, minus_fall (pos w) (pos bias)))

pub returns : goal.returns
returns c = rw (c.from.ensures, signed_small c.args.w (omega arith)) (to_z-of_z (fits c.args.w (omega arith)) ∙ signed_word c.args.w)
