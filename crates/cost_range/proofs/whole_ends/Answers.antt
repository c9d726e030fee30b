-- `cost_range::whole_ends` meets its contract: at the beginning nothing is remembered, and the notes are taken away. Assumes nothing.
use Rattle.std.proofs.Common.{arith, ◌-◌}
use Rattle.table_notes.proofs.Windows.{lent_cleared}
use Rattle.table_memory.proofs.Remembering.{noted_none}
use Rattle.cost_range.proofs.Noting.{rest_pair, rest_again, rest_reaches}
use Rattle.cost_range.proofs.whole_ends.Goals as goal

pub branch_ends-r-requires : goal.branch_ends-r-requires
branch_ends-r-requires c =
    let n = c.begin-lent.ensures in (
      rest_pair _ _ c.requires.1 n.same _ _ c.requires.0,
      noted_none _ _ _ _ _ n (lent_cleared c.args.s.now c.clear.new.s (c.begin-lent.result - 0) (omega (arith, n.fits)) c.clear.auto.s c.clear.ensures),
    )

pub returns : goal.returns
returns c =
    let z = c.branch_ends-r in let e = c.begin-lent.ensures.same in (
      rest_again _ _ c.requires.1 e _ _ z.ensures.1 c.clear_window.ensures,
      rest_reaches _ _ c.requires.1 e c.args.minus _ c.args.a.adds _ c.args.b.adds z.result z.ensures.0,
    )
