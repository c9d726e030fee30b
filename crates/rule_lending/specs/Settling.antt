-- Contract between layers: the end of a call that builds, as the part above knows it. Assumes nothing.
use Rattle.std.specs.Prelude.{Option, List, ℕ}
use Rattle.settings.specs.Refusals.{Outcome}
-- the rule g, built and settled into place p: written, or NO ROOM
pub use Rattle.rule_settling.specs.Settling.{Puts}
-- shut: the mark before a call builds; an answer that may be settled; the end
pub use Rattle.rule_inside.specs.Settling.{Marked, Asking, Ending}

-- what was built into w after the mark n may be settled into place p
abbrev pub Asks : ℕ → ℕ → List ℕ → Option ℕ → Type 0
Asks p n w a = Asking p n w a

-- it is settled, or taken back
abbrev pub Settled : ℕ → ℕ → List ℕ → List ℕ → Option ℕ → Outcome → Type 0
Settled p n w w' a o = Ending p n w w' a o
