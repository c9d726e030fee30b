-- One table: what a call leaves of its functions, and which slices are the same up to the bound. Assumes nothing.
use Rattle.std.specs.Prelude.{◌≡◌, List, ℕ, ◌≤◌, ◌<◌, length, get_or}
use Rattle.theory.specs.Kind.{Kind}
use Rattle.promises.specs.Words.{capacity, bound}
use Rattle.promises.specs.State.{State, put}
use Rattle.promises.specs.Table.{Ask, any_words, sound_table, Effect, keeps, puts, opens, Tabled, table}
use Rattle.demands.specs.Agrees.{Agrees}
use Rattle.demands.specs.Ground.{Ground}

-- two slices that hold the same words up to the bound of the first, and are long enough
pub record Alike (w u : List ℕ) : Type 0 where
  pub long : bound (capacity w) ≤ length w
  pub long' : bound (capacity w) ≤ length u
  pub words : (j : ℕ) → j < bound (capacity w) → get_or u j 0 ≡ get_or w j 0

module _ {K : Kind} where
  abbrev pub left : Effect K → State K → State K
  left keeps z = z
  left (puts p g) z = put p g z
  left (opens y) z = y

  abbrev pub AgreesAs : Ask → State K → State K → Type 0
  AgreesAs any_words z y = Unit {0}
  AgreesAs sound_table z y = Agrees z y

  abbrev pub table_ground : (T : Tabled K) → Ground (table T)
  table_ground T = record { left = left; Agrees = AgreesAs; Alike = Alike }
