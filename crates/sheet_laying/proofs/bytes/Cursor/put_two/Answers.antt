-- `sheet_laying::bytes::Cursor::put_two` meets its contract: the high byte and the low byte, one after the other. Assumes nothing.
use Rattle.std.proofs.Common.{List, ℕ, ◌≡◌, refl, sym, ◌+◌, ◌/◌, ◌%◌, ap, get_or, arith, ◌∙◌}
use Rattle.sheet_laying.proofs.Putting.{sets_two, length_two}
use Rattle.sheet_laying.proofs.bytes.Cursor.put_two.Goals as goal

pub returns : goal.returns
returns c =
    let h : c.args.x / 256 % 256 ≡ c.args.x / 256 = omega (arith, c.requires.1) in
    let high = ap (λ (l : List ℕ). get_or l 2 0) c.to_be_bytes.ensures ∙ h in
    let low = ap (λ (l : List ℕ). get_or l 3 0) c.to_be_bytes.ensures in
    record {
      same = refl;
      bytes = sets_two c.args.x c.args.self.now.out.now c.args.self.now.at high low;
      ends = ap (λ (n : ℕ). c.args.self.now.at + n) (sym (length_two c.args.x));
    }
