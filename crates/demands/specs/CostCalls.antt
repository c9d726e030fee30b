-- The calls on a cost table, and their deeds. Assumes nothing.
use Rattle.std.specs.Prelude.{List, ℕ, ℤ}
use Rattle.theory.specs.Costs.{amount}
use Rattle.promises.specs.Deed.{Deed}
use Rattle.promises.specs.Table.{table}
use Rattle.promises.specs.TableDeeds as T
use Rattle.promises.specs.CostDeeds as D
use Rattle.promises.specs.CostDeeds.{costed}
use Rattle.demands.specs.TableGround.{table_ground}
use Rattle.demands.specs.Run.{Part}

-- each call with its arguments, in the order of the documents; those of opening end with the length of the slice
pub data Call : Type 0 where
  open_call : (features : List ℕ) → (capacity words : ℕ) → Call
  constant_call : (place : ℕ) → (amount : ℤ) → Call
  copy_call : (place from : ℕ) → Call
  price_call : (place feature : ℕ) → (prices : List ℤ) → Call
  add_call : (place a b : ℕ) → Call
  subtract_call : (place a b : ℕ) → Call
  smaller_call : (place a b : ℕ) → Call
  larger_call : (place a b : ℕ) → Call
  scale_call : (place a : ℕ) → (factor : ℤ) → Call
  look_up_call : (place : ℕ) → (setting : List ℕ) → Call
  same_call : (a b : ℕ) → Call
  tally_call : Call

abbrev pub deed : Call → Deed (table costed)
deed (open_call S cap n) = T.open_table costed S cap n
deed (constant_call p x) = T.constant costed p (amount x)
deed (copy_call p q) = T.copy costed p q
deed (price_call p f l) = D.price p f l
deed (add_call p a b) = D.add p a b
deed (subtract_call p a b) = D.subtract p a b
deed (smaller_call p a b) = D.smaller p a b
deed (larger_call p a b) = D.larger p a b
deed (scale_call p a c) = D.scale p a c
deed (look_up_call p s) = T.look_up costed p s
deed (same_call p q) = T.same costed p q
deed tally_call = T.tally_all costed

abbrev pub on_costs : Part
on_costs = record { loan = table costed; basis = table_ground costed; Call = Call; deed = deed }
