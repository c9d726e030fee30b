-- `cost_nodes::make` meets its contract: what was found is there; what is missing becomes the last node with its pair, where there is room. Assumes nothing.
use Rattle.std.proofs.Common.{◌≡◌, ℕ, arith}
use mathlib.Core.Path.{subst}
use Rattle.cost_nodes.proofs.Making.{small_target, levelled, bodied, made_new, made_none, made_there, not_lost}
use Rattle.cost_nodes.specs.Nodes.{Lowered}
use Rattle.promises.specs.Words.{size}
use Rattle.cost_nodes.proofs.make.Goals as goal

pub packed_body-list-requires : goal.packed_body-list-requires
packed_body-list-requires c = λ u h.
    omega (arith, c.lowered.ensures.targets u h, small_target c.args.t.now c.args.k c.args.arms.now c.requires.0 c.requires.2 u h)

pub find-requires : goal.find-requires
find-requires c =
    let w = c.args.t.now in
    let k = c.args.k in
    let b = c.args.arms.now in
    let r = c.lowered.result in
    let l = c.packed_body-list.result in
    let em : c.size_word-m.result ≡ size w k = c.size_word-m.ensures in
    let lo : Lowered (size w k) b r = subst (λ (n : ℕ). Lowered n b r) em c.lowered.ensures in
    (c.requires.0, c.requires.1, levelled w k b r l c.requires.0 c.requires.1 c.requires.2 lo c.packed_body-list.ensures)

pub sides_of-requires : goal.sides_of-requires
sides_of-requires c =
    let w = c.args.t.now in
    let k = c.args.k in
    let b = c.args.arms.now in
    let r = c.lowered.result in
    let l = c.packed_body-list.result in
    let em : c.size_word-m.result ≡ size w k = c.size_word-m.ensures in
    let lo : Lowered (size w k) b r = subst (λ (n : ℕ). Lowered n b r) em c.lowered.ensures in
    bodied w k b r l c.requires.0 c.requires.1 c.requires.2 lo c.packed_body-list.ensures _ (omega (arith, c.requires.0.laid.laid.large k c.requires.1))
    (omega (arith, c.requires.0.laid.laid.large k c.requires.1))

pub returns-then-count_word-capacity_word : goal.returns-then-count_word-capacity_word
returns-then-count_word-capacity_word c =
    let w = c.args.t.now in
    let k = c.args.k in
    let b = c.args.arms.now in
    let r = c.lowered.result in
    let l = c.packed_body-list.result in
    let em : c.size_word-m.result ≡ size w k = c.size_word-m.ensures in
    let lo : Lowered (size w k) b r = subst (λ (n : ℕ). Lowered n b r) em c.lowered.ensures in
    let ab = c.in_default.ensures in
    made_new w k b r l c.requires.0 c.requires.1 c.requires.2 lo c.packed_body-list.ensures _ _ c.push-i.result _ _ ab
    (omega (arith, c.if-count_word-capacity_word.true, c.capacity_word.ensures, c.count_word.ensures)) c.target_word-to.ensures
    (c.push-i.ensures.0) (omega arith) c.in_ok-pair.ensures.1 c.push-i.ensures.1

pub returns-in_err-pair : goal.returns-in_err-pair
returns-in_err-pair c =
    let w = c.args.t.now in
    let k = c.args.k in
    let b = c.args.arms.now in
    let r = c.lowered.result in
    let l = c.packed_body-list.result in
    let em : c.size_word-m.result ≡ size w k = c.size_word-m.ensures in
    let lo : Lowered (size w k) b r = subst (λ (n : ℕ). Lowered n b r) em c.lowered.ensures in
    absurd (not_lost w k b r l c.requires.0 c.requires.1 c.requires.2 lo c.packed_body-list.ensures _ em c.in_err-pair.ensures)

pub returns-in_default : goal.returns-in_default
returns-in_default c =
    let w = c.args.t.now in
    let k = c.args.k in
    let b = c.args.arms.now in
    let r = c.lowered.result in
    let l = c.packed_body-list.result in
    let em : c.size_word-m.result ≡ size w k = c.size_word-m.ensures in
    let lo : Lowered (size w k) b r = subst (λ (n : ℕ). Lowered n b r) em c.lowered.ensures in
    let ab = c.in_default.ensures in
    made_none w k b r l c.requires.0 c.requires.1 c.requires.2 lo c.packed_body-list.ensures ab
    (omega (arith, c.if-count_word-capacity_word.false, c.capacity_word.ensures, c.count_word.ensures))

pub returns : goal.returns
returns c =
    let w = c.args.t.now in
    let k = c.args.k in
    let b = c.args.arms.now in
    let r = c.lowered.result in
    let l = c.packed_body-list.result in
    let em : c.size_word-m.result ≡ size w k = c.size_word-m.ensures in
    let lo : Lowered (size w k) b r = subst (λ (n : ℕ). Lowered n b r) em c.lowered.ensures in
    made_there w k b r l c.requires.0 c.requires.1 c.requires.2 lo c.packed_body-list.ensures _ c.in-Some.x c.target_word-to-2.ensures c.in-Some.ensures.0
