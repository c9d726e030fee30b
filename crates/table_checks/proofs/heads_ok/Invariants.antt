-- `table_checks::heads_ok` meets its contract: the bits by which the chain heads passed differ from the list, put together, are 0 exactly if none differs. Assumes nothing.
use Rattle.std.proofs.Common.{get_or}
use Rattle.table_checks.proofs.Gathering.{Gathered}
use lib.Bits.{bit_xor}
use Rattle.promises.specs.Words.{bucket}
use Rattle.table_checks.proofs.heads_ok.Given as goal

abbrev pub invariant-loop-h : goal.invariant-loop-h
invariant-loop-h l = Gathered (λ x. bit_xor (bucket l.t x) (get_or l.last x 0)) 0 l.h l.bits
