-- `parts` meets its contract. The invariant: the parts so far are the front of the room. Assumes nothing.
use Rattle.std.proofs.Common.{◌≡◌, ◌≤◌, length, take}
use Rattle.shelf_lines.proofs.words.parts.Given as goal

abbrev pub invariant-loop-part : goal.invariant-loop-part
invariant-loop-part l = record { within : l.count ≤ length l.room; counted : l.count ≡ length l.yielded; kept : take l.count l.room ≡ l.yielded }
