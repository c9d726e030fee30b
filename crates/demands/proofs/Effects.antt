-- Which effects of a loan do the same to functions that agree in what is asked for. Assumes nothing.
use mathlib.Core.Path.{◌≡◌}
use mathlib.Core.List.{List}
use Prim.Native.Nat.{ℕ}
use lib.ListN.{length}
use Rattle.theory.specs.Kind.{Kind}
use Rattle.theory.specs.Functions.{Agree, Fun}
use Rattle.promises.specs.State.{State}
use Rattle.promises.specs.Loan.{Loan}
use Rattle.promises.specs.Table.{Ask, sound_table, Effect, keeps, puts, opens, Tabled}
use Rattle.demands.specs.Ground.{Ground, no_ground, together}
use Rattle.demands.specs.TableGround.{table_ground}

module _ {L : Loan} (G : Ground L) where
  pub record Effects : Type 1 where
    pub Same : L.Need → L.Plain → L.Effect → L.Effect → Type 0

module _ {K : Kind} where
  -- of one table of m places, to functions over S: only a sound table has a function replaced, and a fresh one has a function for each place
  pub data Same (m : ℕ) : Ask → List ℕ → Effect K → Effect K → Type 0 where
    kept : {n : Ask} {S : List ℕ} → Same m n S keeps keeps
    replaced : {S : List ℕ} {g h : Fun K} (p : ℕ) → Agree S g h → Same m sound_table S (puts p g) (puts p h)
    opened : {n : Ask} {S : List ℕ} {y : State K} → length y.places ≡ m → Same m n S (opens y) (opens y)

  abbrev pub on_table : (T : Tabled K) → Effects (table_ground T)
  on_table T = record { Same = λ n z. Same T.places n z.list }

-- of none, and of two together
abbrev pub on_none : Effects no_ground
on_none = record { Same = λ n z x y. Unit {0} }

abbrev pub on_two : {A B : Loan} {G : Ground A} {H : Ground B} → Effects G → Effects H → Effects (together G H)
on_two D E = record { Same = λ n z x y. D.Same n.0 z.0 x.0 y.0 × E.Same n.1 z.1 x.1 y.1 }
