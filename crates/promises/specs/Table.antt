-- One lent table of any kind: the words of a slice, and the functions of its places. Assumes nothing.
use Rattle.std.specs.Prelude.{◌≡◌, List, ℕ, ◌≤◌, ◌<◌, length, get_or}
use Rattle.theory.specs.Kind.{Kind}
use Rattle.theory.specs.Functions.{Agree, Amount, Fun}
use Rattle.promises.specs.Words.{capacity, sizes, bound}
use Rattle.promises.specs.Loan.{Loan}
use Rattle.promises.specs.Deed.{Answer}
use Rattle.promises.specs.State.{State, state, on, put}

-- what a call asks of the slice
pub data Ask : Type 0 where
  any_words : Ask
  sound_table : Ask

module _ (K : Kind) where
  -- what a taken call leaves: every function kept, that of place p replaced by g, or a fresh table in their stead
  pub data Effect : Type 0 where
    keeps : Effect
    puts : ℕ → Fun K → Effect
    opens : State K → Effect

  -- a kind of table: how many places, what its words say, which are sound, what a place may give, and what a look up returns
  pub record Tabled : Type 1 where
    pub places : ℕ
    pub said : List ℕ → List (Fun K)
    pub Sound : List ℕ → Type 0
    pub InRange : Amount K → Type 0
    pub looked : Answer (Amount K × ℕ)

module _ {K : Kind} (T : Tabled K) where
  abbrev pub state_of : List ℕ → State K
  state_of w = state (capacity w) (sizes w) (T.said w)

  abbrev pub SoundAs : Ask → List ℕ → Type 0
  SoundAs any_words w = Unit {0}
  SoundAs sound_table w = T.Sound w

  -- the slice w, made into a sound table that holds the functions y: its length and its words past the bound stay
  pub record Made (y : State K) (w w' : List ℕ) : Type 0 where
    pub long : length w' ≡ length w
    pub sound : T.Sound w'
    pub room : capacity w' ≡ y.capacity
    pub list : sizes w' ≡ y.list
    pub gives : (p : ℕ) → p < T.places → Agree y.list (on (state_of w') p) (on y p)
    pub past : (j : ℕ) → bound y.capacity ≤ j → get_or w' j 0 ≡ get_or w j 0

  abbrev pub Leaves : Effect K → List ℕ → List ℕ → Type 0
  Leaves keeps w w' = w' ≡ w
  Leaves (puts p g) w w' = Made (put p g (state_of w)) w w'
  Leaves (opens y) w w' = Made y w w'

  abbrev pub table : Loan
  table =
      record {
        Words = List ℕ;
        Plain = State K;
        says = state_of;
        Need = Ask;
        nothing = any_words;
        whole = sound_table;
        Sound = SoundAs;
        Effect = Effect K;
        keeps = keeps;
        Leaves = Leaves;
      }
