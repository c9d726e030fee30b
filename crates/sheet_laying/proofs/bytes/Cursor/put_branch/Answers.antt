-- `sheet_laying::bytes::Cursor::put_branch` meets its contract: 0 or 1, and a two-byte number (branch_bytes_lem). Assumes nothing.
use Rattle.sheet_laying.proofs.Putting.{puts_after, puts_same, branch_bytes_lem}
use Rattle.sheet_laying.proofs.bytes.Cursor.put_branch.Goals as goal

pub returns : goal.returns
returns c = puts_same (branch_bytes_lem c.args.x c.requires.1) (puts_after c.put_byte.ensures c.put_two.ensures)
