-- `sheet_bytes::hand::word_at` meets its contract: the flag byte above the two-byte number. Assumes nothing.
use Rattle.std.proofs.Common.{◌≡◌, ◌+◌, ap, arith}
use Rattle.promises.specs.Sheet.{triple as word, pair, byte}
use Rattle.sheet_bytes.proofs.hand.word_at.Goals as goal

pub returns : goal.returns
unfolding word pair
returns c =
    let s = c.args.s.now in let p = c.args.p in
    let h : p + 1 + 1 ≡ p + 2 = omega arith in
    let e : byte s (p + 1 + 1) ≡ byte s (p + 2) = ap (byte s) h in (
      omega (arith, c.from_be_bytes.ensures, e),
      omega (arith, c.from_be_bytes.ensures, c.type_inv.s p, c.type_inv.s (p + 1), c.type_inv.s (p + 2)),
    )
