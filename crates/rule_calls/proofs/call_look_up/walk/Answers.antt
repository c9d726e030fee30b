-- `rule_calls::call_look_up::walk` meets its contract: the branch word stands on the way of the setting with the count, and falls. Assumes nothing.
use Rattle.std.proofs.Common.{arith, refl, ◌-◌}
use Rattle.rule_calls.proofs.Looking.{read_node, read_room, read_feature, read_value, read_on, read_less, way_start, way_end, way_asked}
use Rattle.rule_calls.proofs.call_look_up.walk.Goals as goal

pub loop-b-init : goal.loop-b-init
loop-b-init c =
    way_start c.args.t.now c.args.setting.now c.args.place c.requires.0 c.requires.1 c.requires.2 c.root_word-b.result c.root_word-b.ensures

pub bounds-setting-k : goal.bounds-setting-k
bounds-setting-k c =
    let l = c.loop-b in
    read_feature c.args.t.now c.args.setting.now c.args.place c.requires.0 c.requires.1 c.requires.2 l.asked l.b (c.loop-b.b - 65536)
    (omega arith) l.invariant refl c.record_word-k.result c.record_word-k.ensures

pub record_word-b-requires : goal.record_word-b-requires
record_word-b-requires c =
    let l = c.loop-b in
    let i = read_node c.args.t.now c.args.setting.now c.args.place c.requires.0 c.requires.1 c.requires.2 l.asked l.b
    (c.loop-b.b - 65536) (omega arith) l.invariant refl in
    let v = read_value c.args.t.now c.args.setting.now c.args.place c.requires.0 c.requires.1 c.requires.2 l.asked l.b
    (c.loop-b.b - 65536) (omega arith) l.invariant refl c.record_word-k.result
    c.record_word-k.ensures c.from.result c.from.ensures in
    omega (arith, i, v, c.requires.0.header.room, c.requires.0.header.most, c.requires.0.header.within)

pub overflow_add-asked : goal.overflow_add-asked
overflow_add-asked c =
    let l = c.loop-b in
    let n = read_room c.args.t.now c.args.setting.now c.args.place c.requires.0 c.requires.1 c.requires.2 l.asked l.b
    (c.loop-b.b - 65536) (omega arith) l.invariant refl in
    omega (arith, n, c.requires.0.header.few)

pub loop-b-smaller : goal.loop-b-smaller
loop-b-smaller c =
    let l = c.loop-b in
    read_less c.args.t.now c.args.setting.now c.args.place c.requires.0 c.requires.1 c.requires.2 l.asked l.b
    (c.loop-b.b - 65536) (omega arith) l.invariant refl
    c.record_word-k.result c.record_word-k.ensures
    c.from.result c.from.ensures c.record_word-b.result c.record_word-b.ensures

pub loop-b-preserved : goal.loop-b-preserved
loop-b-preserved c =
    let l = c.loop-b in
    read_on c.args.t.now c.args.setting.now c.args.place c.requires.0 c.requires.1 c.requires.2 l.asked l.b
    (c.loop-b.b - 65536) (omega arith) l.invariant refl
    c.record_word-k.result c.record_word-k.ensures
    c.from.result c.from.ensures c.record_word-b.result c.record_word-b.ensures

pub returns : goal.returns
returns c =
    let l = c.loop-b in (
      way_end c.args.t.now c.args.setting.now c.args.place c.requires.0 c.requires.1 c.requires.2 l.asked l.b (omega arith) l.invariant,
      way_asked c.args.t.now c.args.setting.now c.args.place c.requires.0 c.requires.1 c.requires.2 l.asked l.b (omega arith) l.invariant,
    )

pub record_word-k-requires : goal.record_word-k-requires
record_word-k-requires c =
    let l = c.loop-b in
    let i = read_node c.args.t.now c.args.setting.now c.args.place c.requires.0 c.requires.1 c.requires.2 l.asked l.b (c.loop-b.b - 65536) (omega arith) l.invariant refl in
    omega (arith, i, c.requires.0.header.room, c.requires.0.header.most, c.requires.0.header.within)
