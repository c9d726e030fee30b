-- The calls on a rule table, and their deeds. Assumes nothing.
use Rattle.std.specs.Prelude.{List, ℕ}
use Rattle.theory.specs.Rules.{says}
use Rattle.promises.specs.Deed.{Deed}
use Rattle.promises.specs.Table.{table}
use Rattle.promises.specs.TableDeeds as T
use Rattle.promises.specs.RuleDeeds as D
use Rattle.promises.specs.RuleDeeds.{ruled}
use Rattle.promises.specs.SheetDeeds as S
use Rattle.demands.specs.TableGround.{table_ground}
use Rattle.demands.specs.Run.{Part}

-- each call with its arguments, in the order of the documents; those of opening end with the length of the slice
pub data Call : Type 0 where
  open_call : (features : List ℕ) → (capacity words : ℕ) → Call
  constant_call : (place number : ℕ) → Call
  copy_call : (place from : ℕ) → Call
  literal_call : (place feature bits : ℕ) → Call
  case_call : (place selector : ℕ) → (branches : List ℕ) → Call
  apply_call : (place operator a b : ℕ) → Call
  restrict_call : (place from feature value : ℕ) → Call
  forget_call : (place from feature : ℕ) → Call
  read_call : (place : ℕ) → (sheet : List ℕ) → Call
  look_up_call : (place : ℕ) → (setting : List ℕ) → Call
  same_call : (a b : ℕ) → Call
  tally_call : Call
  count_call : (place number : ℕ) → Call
  next_call : (place number : ℕ) → (setting : List ℕ) → Call
  write_call : (place : ℕ) → (out : List ℕ) → Call

abbrev pub deed : Call → Deed (table ruled)
deed (open_call S cap n) = T.open_table ruled S cap n
deed (constant_call p x) = T.constant ruled p (says x)
deed (copy_call p q) = T.copy ruled p q
deed (literal_call p f x) = D.literal p f x
deed (case_call p q l) = D.case p q l
deed (apply_call p x a b) = D.apply p x a b
deed (restrict_call p q f x) = D.restrict p q f x
deed (forget_call p q f) = D.forget p q f
deed (read_call p s) = S.read_sheet p s
deed (look_up_call p s) = T.look_up ruled p s
deed (same_call p q) = T.same ruled p q
deed tally_call = T.tally_all ruled
deed (count_call p x) = D.count_with p x
deed (next_call p x s) = D.next_with p x s
deed (write_call p out) = S.write_sheet p out

abbrev pub on_rules : Part
on_rules = record { loan = table ruled; basis = table_ground ruled; Call = Call; deed = deed }
