-- `cost_nodes::find` meets its contract: equal branches need no node; else the records tell whether the node is there. Assumes nothing.
use Rattle.std.proofs.Common.{ℕ, ◌≡◌, sym, ap}
use Rattle.settings.proofs.Answers.{sure, sure_not}
use Rattle.cost_nodes.specs.Nodes.{AllSame}
use Rattle.cost_nodes.proofs.Making.{found_same, found_node, found_none}
use mathlib.Core.Path.{subst, ◌∙◌}
use Rattle.promises.specs.Words.{size}
use Rattle.promises.specs.CostWords.{target}
use Rattle.cost_nodes.proofs.find.Goals as goal

pub returns-then-all_same : goal.returns-then-all_same
returns-then-all_same c =
    let w = c.args.t.now in
    let k = c.args.k in
    let l = c.args.list.now in
    let e : c.size_word.result ≡ size w k = c.size_word.ensures in
    found_same w k l c.requires.0 c.requires.1 c.requires.2 c.target_at.result (c.target_at.ensures ∙ ap target c.half_of.ensures)
    (subst (λ (n : ℕ). AllSame n l) e (sure c.if-all_same.true c.all_same.ensures))

pub returns-in_err-i : goal.returns-in_err-i
returns-in_err-i c =
    let w = c.args.t.now in
    let k = c.args.k in
    let l = c.args.list.now in
    let e : c.size_word.result ≡ size w k = c.size_word.ensures in
    rw c.from_residual.ensures
    (found_none w k l c.requires.0 c.requires.1 c.requires.2
    (λ s. sure_not c.if-all_same.false c.all_same.ensures (subst (λ (n : ℕ). AllSame n l) (sym e) s)) c.in_err-i.ensures)

pub returns : goal.returns
returns c =
    let w = c.args.t.now in
    let k = c.args.k in
    let l = c.args.list.now in
    let e : c.size_word.result ≡ size w k = c.size_word.ensures in
    found_node w k l c.requires.0 c.requires.1 c.requires.2 c.in_ok-i.i c.in_ok-i.ensures.0
    (λ s. sure_not c.if-all_same.false c.all_same.ensures (subst (λ (n : ℕ). AllSame n l) (sym e) s)) c.in_ok-i.ensures.1
