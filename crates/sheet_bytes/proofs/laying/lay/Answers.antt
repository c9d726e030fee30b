-- `sheet_bytes::laying::lay` meets its contract: the nodes passed lie where `place` says, and their places are noted. Assumes nothing.
use Rattle.std.proofs.Common.{◌<◌, ◌≡◌, sym, ap, arith, below_more}
use mathlib.Core.Path.{◌∙◌}
use Prim.Native.Nat.{ℕ, ◌+◌}
use Rattle.sheet_bytes.proofs.Places.{place_zero, place_next, place_le, holds_none, holds_more}
use Rattle.promises.specs.Sheet.{byte, sheet_features as features, sheet_size as size, sheet_count as count, sheet_feature as feature, sheet_width as width}
use Rattle.sheet_bytes.proofs.laying.lay.Goals as goal

pub loop-i-init : goal.loop-i-init
loop-i-init c = record {
  place = ap (λ (x : ℕ). 7 + x) c.features-n.ensures.0 ∙ sym (place_zero c.args.head.bytes.now);
  below = omega (arith, c.features-n.ensures.2);
  known = λ j l. absurd (omega arith);
  noted = holds_none _ _;
}

pub returns-then-s-p : goal.returns-then-s-p
returns-then-s-p c =
    let s = c.args.head.bytes.now in
    let l = c.loop-i in λ q. omega (arith, q.lays.ends, place_le s l.i (count s) (omega (arith, c.count-m.ensures.0)), l.invariant.place)

pub loop-i-preserved : goal.loop-i-preserved
loop-i-preserved c =
    let l = c.loop-i in let s = c.args.head.bytes.now in
    let f : c.from-f.result ≡ feature s l.i = c.from-f.ensures ∙ ap (byte s) l.invariant.place in
    let z : c.size.result ≡ width s l.i = c.size.ensures.0 ∙ ap (size s) f in
    let k : feature s l.i < features s = omega (arith, c.features-n.ensures.0) in record {
      place = omega (arith, l.invariant.place, place_next s l.i, c.spot-p.ensures);
      below = omega (arith, l.invariant.below, c.spot-p.ensures, c.size.ensures.2);
      known = below_more _ _ l.invariant.known k;
      noted = holds_more (omega (arith, c.told-places)) l.invariant.place l.invariant.noted;
    }
