-- The promise of a test. Assumes nothing.
use Rattle.std.specs.Prelude.{Bool, true, false}

-- the test's answer says whether P holds
abbrev pub Tells : Bool → Type 0 → Type 0
Tells true P = P
Tells false P = P → ⊥
