-- `cost_range::distance` meets its contract: on either side of 0. Assumes nothing.
use Rattle.std.proofs.Common.{sym}
use mathlib.Core.Path.{◌∙◌}
use Rattle.cost_range.proofs.Ranging.{far_word, far_most}
use Rattle.cost_range.proofs.distance.Goals as goal

pub returns : goal.returns
returns c = (c.abs_diff.ensures ∙ sym (far_word c.args.a), rw c.abs_diff.ensures (far_most c.args.a c.requires))
