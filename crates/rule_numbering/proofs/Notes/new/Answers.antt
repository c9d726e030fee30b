-- `rule_numbering::Notes::new` meets its contract: no node has a number. Assumes nothing.
use Rattle.std.proofs.Common.{ℕ, refl}
use Rattle.std.specs.Prelude.{Option, None}
use lib.ListN.{length-replicate, get_or-replicate}
use Rattle.rule_numbering.proofs.Notes.new.Goals as goal

pub returns : goal.returns
returns c = record { long = length-replicate {A = Option ℕ} 4096 None; wide = length-replicate {A = ℕ} 4096 0; none = λ i h. get_or-replicate {A = Option ℕ} 4096 i None None h; empty = refl }
