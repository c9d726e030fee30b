-- Good bytes are a proposition, so that a type may say that its bytes are good. Assumes nothing.
use Rattle.std.specs.Prelude.{List, ℕ}
use Rattle.std.proofs.Props.{props}
use Rattle.promises.specs.Sheet.{GoodSheet, InOrder}

order_prop : (s : List ℕ) → IsProp (InOrder s)
unfolding InOrder
order_prop s = Prim.hlevel props

pub good_prop : (s : List ℕ) → IsProp (GoodSheet s)
good_prop s = Prim.hlevel (props, order_prop)
