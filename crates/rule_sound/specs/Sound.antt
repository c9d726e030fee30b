-- Contract between layers: a sound rule table: what its words must be. Assumes nothing.
use Rattle.std.specs.Prelude.{List, ℕ}
use Rattle.promises.specs.Sound as S

-- the word b says a phrase, or a node below m of feature k or higher
abbrev pub Sits : List ℕ → ℕ → ℕ → ℕ → Type 0
Sits w m k b = S.Sits 65536 w m k b
