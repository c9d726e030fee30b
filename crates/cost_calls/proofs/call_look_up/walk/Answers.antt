-- `cost_calls::call_look_up::walk` meets its contract: the branch and the sum stand on the way of the setting with the count, and the target word falls. Assumes nothing.
use Rattle.std.proofs.Common.{◌≡◌, refl, sym, ap, ℕ, arith, ◌+ℤ◌, ◌-◌}
use mathlib.Core.Path.{subst, ◌∙◌}
use Rattle.cost_amounts.proofs.Signed.{amount_back}
use Rattle.cost_calls.proofs.Looking.{way_start, way_end, way_asked, read_node, read_room, read_feature, read_value, read_less, read_fits, read_on}
use Rattle.promises.specs.CostWords.{cost_of}
use Rattle.promises.specs.Range.{add_most, cost_most}
use Rattle.promises.specs.Integers.{Fit, int}
use Rattle.cost_calls.proofs.call_look_up.walk.Goals as goal

pub loop-x-init : goal.loop-x-init
loop-x-init c =
    way_start c.args.t.now c.args.setting.now c.args.place c.requires.0 c.requires.1 c.requires.2 c.root_word-x.result c.base_word-a.result
    c.root_word-x.ensures c.base_word-a.ensures

pub bounds-setting-k : goal.bounds-setting-k
bounds-setting-k c =
    let l = c.loop-x in
    read_feature c.args.t.now c.args.setting.now c.args.place c.requires.0 c.requires.1 c.requires.2 l.asked l.x l.a
    (c.loop-x.x - 1) (omega arith) l.invariant refl c.record_word-k.result
    c.record_word-k.ensures

pub adds_at-requires : goal.adds_at-requires
adds_at-requires c =
    let l = c.loop-x in
    let i = read_node c.args.t.now c.args.setting.now c.args.place c.requires.0 c.requires.1 c.requires.2 l.asked l.x l.a
    (c.loop-x.x - 1) (omega arith) l.invariant refl in
    let v = read_value c.args.t.now c.args.setting.now c.args.place c.requires.0 c.requires.1 c.requires.2 l.asked l.x l.a
    (c.loop-x.x - 1) (omega arith) l.invariant refl c.record_word-k.result
    c.record_word-k.ensures c.from-v.result c.from-v.ensures in
    (omega (arith, i, c.requires.0.header.room, c.requires.0.header.most, c.requires.0.header.within), omega (arith, i, c.requires.0.header.room, c.requires.0.header.most, c.requires.0.header.within), v)

pub sum_word-a-requires : goal.sum_word-a-requires
sum_word-a-requires c =
    let l = c.loop-x in
    subst (λ (d : ℕ). Fit add_most (int l.a +ℤ int d)) (sym c.adds_at.ensures)
    (read_fits c.args.t.now c.args.setting.now c.args.place c.requires.0 c.requires.1 c.requires.2 l.asked l.x l.a
    (c.loop-x.x - 1) (omega arith) l.invariant refl
    c.record_word-k.result c.record_word-k.ensures
    c.from-v.result c.from-v.ensures)

pub goes_to-x-requires : goal.goes_to-x-requires
goes_to-x-requires c =
    let l = c.loop-x in
    let i = read_node c.args.t.now c.args.setting.now c.args.place c.requires.0 c.requires.1 c.requires.2 l.asked l.x l.a (c.loop-x.x - 1) (omega arith)
    l.invariant refl in
    let v = read_value c.args.t.now c.args.setting.now c.args.place c.requires.0 c.requires.1 c.requires.2 l.asked l.x l.a (c.loop-x.x - 1) (omega arith)
    l.invariant refl c.record_word-k.result
    c.record_word-k.ensures c.from-v.result
    c.from-v.ensures in
    (omega (arith, i, c.requires.0.header.room, c.requires.0.header.most, c.requires.0.header.within), omega (arith, i, c.requires.0.header.room, c.requires.0.header.most, c.requires.0.header.within), v)

pub overflow_add-asked : goal.overflow_add-asked
overflow_add-asked c =
    let l = c.loop-x in
    let n = read_room c.args.t.now c.args.setting.now c.args.place c.requires.0 c.requires.1 c.requires.2 l.asked l.x l.a (c.loop-x.x - 1) (omega arith)
    l.invariant refl in
    omega (arith, n, c.requires.0.header.few)

pub loop-x-smaller : goal.loop-x-smaller
loop-x-smaller c =
    let l = c.loop-x in
    omega (
      arith,
      read_less c.args.t.now c.args.setting.now c.args.place c.requires.0 c.requires.1 c.requires.2 l.asked l.x l.a (c.loop-x.x - 1)
          (omega arith) l.invariant refl c.record_word-k.result
          c.record_word-k.ensures c.from-v.result
          c.from-v.ensures,
      c.goes_to-x.ensures,
    )

pub loop-x-preserved : goal.loop-x-preserved
loop-x-preserved c =
    let l = c.loop-x in
    read_on c.args.t.now c.args.setting.now c.args.place c.requires.0 c.requires.1 c.requires.2 l.asked l.x l.a (c.loop-x.x - 1) (omega arith) l.invariant
    refl c.record_word-k.result
    c.record_word-k.ensures c.from-v.result
    c.from-v.ensures c.goes_to-x.result c.sum_word-a.result c.goes_to-x.ensures
    (c.sum_word-a.ensures ∙ ap (λ (d : ℕ). int l.a +ℤ int d) c.adds_at.ensures)

pub returns : goal.returns
returns c =
    let l = c.loop-x in
    let g : c.cost_of-cost.result ≡ (cost_of c.args.t.now c.args.place c.args.setting.now).off = c.cost_of-cost.ensures
    ∙ way_end c.args.t.now c.args.setting.now c.args.place c.requires.0 c.requires.1 c.requires.2 l.asked l.x l.a (omega arith) l.invariant in (
      amount_back c.cost_of-cost.result (subst (Fit cost_most) (sym g) ((c.requires.0.ranged.ranged c.args.place c.requires.1).fits c.args.setting.now c.requires.2)) ∙ g,
      way_asked c.args.t.now c.args.setting.now c.args.place c.requires.0 c.requires.1 c.requires.2 l.asked l.x l.a (omega arith) l.invariant,
    )

pub record_word-k-requires : goal.record_word-k-requires
record_word-k-requires c =
    let l = c.loop-x in
    let i = read_node c.args.t.now c.args.setting.now c.args.place c.requires.0 c.requires.1 c.requires.2 l.asked l.x l.a
    (l.x - 1) (omega arith) l.invariant refl in
    omega (arith, i, c.requires.0.header.room, c.requires.0.header.most, c.requires.0.header.within)
