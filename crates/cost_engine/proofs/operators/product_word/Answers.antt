-- `cost_engine::operators::product_word` meets its contract: the product of the integers, with the bias on it. Assumes nothing.
use Rattle.std.proofs.Common.{arith}
use Rattle.cost_engine.proofs.Operating.{product_is, product_fits, product_says}
use Rattle.cost_engine.proofs.operators.product_word.Goals as goal

pub overflow_cast-result : goal.overflow_cast-result
overflow_cast-result c =
    let a = c.args.a in
    let b = c.args.c in
    let e = product_is a b (omega arith) (omega arith) c.requires c.from.result c.from-2.result c.from.ensures c.from-2.ensures in
    let h = product_fits a b (omega arith) (omega arith) c.requires in
    rw e (tt, omega arith)

pub returns : goal.returns
returns c =
    let a = c.args.a in
    let b = c.args.c in
    let e = product_is a b (omega arith) (omega arith) c.requires c.from.result c.from-2.result c.from.ensures c.from-2.ensures in
    rw e (product_says a b (omega arith) (omega arith) c.requires)
