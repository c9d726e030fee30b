-- Contract between layers: the hand and the frame of rule sheets, edition 1: three bytes a branch, one byte in the first section. Assumes nothing.
use Rattle.std.specs.Prelude.{ℕ, ◌+◌, ◌*◌, ◌≤◌, ◌<◌, List, length}
use Rattle.theory.specs.Diagrams as D
use Rattle.theory.specs.Diagrams.{Target}
use Rattle.theory.specs.Rules.{rules}
use Rattle.promises.specs.RuleWords.{decode}
use Rattle.promises.specs.Sheet.{triple, node_place}
use Rattle.sheet_bytes.specs.Sheet.{branch_bytes}
use Rattle.sheet_bytes.specs.Hand.{Hand}
use Rattle.sheet_bytes.specs.Frame.{Frame}

-- a phrase or an index of two bytes
abbrev pub SmallTarget : Target rules → Type 0
SmallTarget (D.leaf p) = p < 65536
SmallTarget (D.node i) = i < 65536

pub record FineWord (s : List ℕ) (p : ℕ) : Type 0 where
  pub long : p + 3 ≤ length s
  pub flag : triple s p < 131072

abbrev pub rule_hand : Hand rules
rule_hand = record { bytes = branch_bytes; Small = λ b. SmallTarget b.to; spot = λ s p v. p + 3 * v; says = λ s p. decode (triple s p); Fine = FineWord }

abbrev pub rule_frame : Frame rules
rule_frame = record { hand = rule_hand; first = 1; place = node_place }
