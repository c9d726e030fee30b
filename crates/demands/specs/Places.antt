-- WHAT STANDS ON THE PLACES of a kind of table, when it begins and ever after. Assumes nothing.
use Rattle.std.specs.Prelude.{◌≡◌, List, ℕ, ◌≤◌, length}
use Rattle.theory.specs.Kind.{Kind}
use Rattle.theory.specs.Functions.{Agree}
use Rattle.settings.specs.Refusals.{Outcome}
use Rattle.settings.specs.Refusals.{Taken}
use Rattle.promises.specs.Words.{bound}
use Rattle.promises.specs.Deed.{Meets}
use Rattle.promises.specs.State.{State, on}
use Rattle.promises.specs.Table.{Tabled, state_of}
use Rattle.promises.specs.TableDeeds.{fresh, open_table}
use Rattle.demands.specs.Ground.{Holds}
use Rattle.demands.specs.TableGround.{Alike, table_ground}

pub record Stands {K : Kind} (T : Tabled K) : Type 0 where
  -- an accepted opening leaves constants 0; any sound table holds what it says
  pub opened_holds : (S : List ℕ) (cap m : ℕ) (w w' : List ℕ) (o : Outcome) → Meets (open_table T S cap m) w w' o → o ≡ Taken → Holds (table_ground T) w' (fresh T S cap)
  pub sound_holds : (w : List ℕ) → T.Sound w → Holds (table_ground T) w (state_of T w)
  -- each place gives what its function gives
  pub place_gives : (w : List ℕ) (z : State K) → Holds (table_ground T) w z → (p : ℕ) → Agree z.list (on (state_of T w) p) (on z p)
  -- opening, of two slices that are long enough: whatever they held, it ends alike and leaves the same words up to the bound
  pub opening_alike : (S : List ℕ) (cap : ℕ) (w u w' u' : List ℕ) (o q : Outcome) → bound cap ≤ length w → bound cap ≤ length u →
      Meets (open_table T S cap (length w)) w w' o → Meets (open_table T S cap (length u)) u u' q → (o ≡ q) × (o ≡ Taken → Alike w' u')
