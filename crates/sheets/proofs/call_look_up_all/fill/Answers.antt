-- `sheets::call_look_up_all::fill` meets its contract. The invariant: the row begins at `start`, and the words before its word are the numbers of their rows. Assumes nothing.
use Rattle.std.proofs.Common.{sym, ap, List, ℕ, arith, ◌≡◌, length, ◌∙◌}
use Rattle.promises.specs.Sheet.{sheet_features as features, sheet_sizes, sheet_rule}
use Rattle.sheet_bytes.proofs.Opening.{open_length}
use Rattle.sheets.proofs.Rows.{row_next, row_cut, row_room, row_valid, filled_more, filled_all}
use Rattle.sheets.proofs.call_look_up_all.fill.Goals as goal

pub slice_bounds-walk-end : goal.slice_bounds-walk-end
slice_bounds-walk-end c =
    let n : c.features-n.result ≡ length (sheet_sizes c.args.sheet.laid.bytes.now) = c.features-n.ensures.0 ∙ ap features c.head.ensures ∙ sym (open_length c.args.sheet.laid.placed.opens) in
    row_room c.requires (omega arith) c.loop-number.invariant.begins n

pub walk-requires : goal.walk-requires
walk-requires c =
    let n : c.features-n.result ≡ length (sheet_sizes c.args.sheet.laid.bytes.now) = c.features-n.ensures.0 ∙ ap features c.head.ensures ∙ sym (open_length c.args.sheet.laid.placed.opens) in
    row_valid c.requires (omega arith) c.loop-number.invariant.begins n

pub loop-number-preserved : goal.loop-number-preserved
loop-number-preserved c =
    let i = c.loop-number.invariant in
    let n : c.features-n.result ≡ length (sheet_sizes c.args.sheet.laid.bytes.now) = c.features-n.ensures.0 ∙ ap features c.head.ensures ∙ sym (open_length c.args.sheet.laid.placed.opens) in record {
      begins = row_next _ _ i.begins n;
      filled = filled_more i.filled (omega arith) _ (c.walk.ensures.0 ∙ ap (λ (u : List ℕ). (sheet_rule c.args.sheet.laid.bytes.now u).end) (row_cut _ _ i.begins n));
    }

pub returns : goal.returns
returns c = filled_all c.loop-number.invariant.filled c.loop-number.auto.numbers (omega (arith, c.loop-number.auto.number-index-end))
