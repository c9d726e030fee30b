-- `sheet_calls::call_read::put_read` meets its contract: what was taken in is settled. Assumes nothing.
use Rattle.std.proofs.Common.{sym}
use Rattle.rule_settling.proofs.Settling.{sound_holds, settle_asks, settles}
use Rattle.promises.specs.Sheet.{sheet_rule}
use Rattle.sheet_calls.proofs.call_read.put_read.Goals as goal

pub take_in-r-requires : goal.take_in-r-requires
take_in-r-requires c = (sound_holds c.requires.0, sym c.requires.2)

pub settle-requires : goal.settle-requires
settle-requires c = settle_asks (sheet_rule c.args.sheet.laid.bytes.now) c.take_in-r.result c.requires.0 c.take_in-r.ensures c.requires.1 c.count_word-used.ensures

pub returns : goal.returns
returns c = settles (sheet_rule c.args.sheet.laid.bytes.now) c.take_in-r.result c.requires.0 c.take_in-r.ensures c.requires.1 c.count_word-used.ensures c.settle.ensures
