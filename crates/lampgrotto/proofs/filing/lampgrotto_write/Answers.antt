-- `lampgrotto::filing::lampgrotto_write` meets its contract: a sheet has a length of one word. Assumes nothing.
use Rattle.std.proofs.Common.{arith}
use Rattle.sheet_calls.proofs.Theorems.{written_small}
use Rattle.lampgrotto.proofs.filing.lampgrotto_write.Goals as goal

pub put_length-requires : goal.put_length-requires
put_length-requires c = omega (arith, written_small c.args.place c.args.t.now c.args.sheet.now _ c.in-Ok.length c.in-Ok.ensures)
