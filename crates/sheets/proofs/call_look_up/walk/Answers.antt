-- `sheets::call_look_up::walk` meets its contract: the branch word stands on the way of the setting with the count, and falls. Assumes nothing.
use Rattle.std.proofs.Common.{arith}
use Rattle.sheet_bytes.proofs.Opening.{open_list}
use Rattle.sheets.proofs.Finding.{find_start, find_end, find_asked, find_node, find_room, find_feature, find_value, find_on, find_less}
use Rattle.sheets.proofs.call_look_up.walk.Goals as goal

pub loop-b-init : goal.loop-b-init
loop-b-init c = find_start c.args.sheet.good c.args.setting.now c.requires c.root-b.result c.root-b.ensures.0

pub feature-k-requires : goal.feature-k-requires
feature-k-requires c = let l = c.loop-b in find_node c.args.sheet.good c.args.setting.now c.requires l.asked l.b (omega arith) l.invariant

pub bounds-setting-k : goal.bounds-setting-k
bounds-setting-k c =
    let l = c.loop-b in find_feature c.args.sheet.good c.args.setting.now c.requires l.asked l.b (omega arith) l.invariant c.feature-k.result c.feature-k.ensures.0

pub branch-b-requires : goal.branch-b-requires
branch-b-requires c =
    let l = c.loop-b in (
      find_node c.args.sheet.good c.args.setting.now c.requires l.asked l.b (omega arith) l.invariant,
      find_value c.args.sheet.good c.args.setting.now c.requires l.asked l.b (omega arith) l.invariant c.feature-k.result c.feature-k.ensures.0 c.from.result
          c.from.ensures,
    )

pub overflow_add-asked : goal.overflow_add-asked
overflow_add-asked c =
    let l = c.loop-b in
    let n = find_room c.args.sheet.good c.args.setting.now c.requires l.asked l.b (omega arith) l.invariant in
    omega (arith, n, (open_list c.args.sheet.laid.placed.opens).few)

pub loop-b-smaller : goal.loop-b-smaller
loop-b-smaller c =
    let l = c.loop-b in
    find_less c.args.sheet.good c.args.setting.now c.requires l.asked l.b (omega arith) l.invariant c.feature-k.result
    c.feature-k.ensures.0 c.from.result c.from.ensures c.branch-b.result c.branch-b.ensures.0

pub loop-b-preserved : goal.loop-b-preserved
loop-b-preserved c =
    let l = c.loop-b in
    find_on c.args.sheet.good c.args.setting.now c.requires l.asked l.b (omega arith) l.invariant c.feature-k.result
    c.feature-k.ensures.0 c.from.result c.from.ensures c.branch-b.result c.branch-b.ensures.0

pub returns : goal.returns
returns c =
    let l = c.loop-b in (
      find_end c.args.sheet.good c.args.setting.now c.requires l.asked l.b (omega arith) l.invariant,
      find_asked c.args.sheet.good c.args.setting.now c.requires l.asked l.b (omega arith) l.invariant,
    )
