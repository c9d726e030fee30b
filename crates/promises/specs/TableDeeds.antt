-- What the calls that every kind of table has do to its functions. Assumes nothing.
use Rattle.std.specs.Prelude.{◌≡◌, Bool, false, List, [], ◌∷◌, ℕ, ◌≤◌}
use Rattle.theory.specs.Kind.{Kind}
use Rattle.theory.specs.Settings.{FeatureList, Valid}
use Rattle.theory.specs.Functions.{Agree, Amount, zero_fun}
use Rattle.theory.specs.Rests.{Counts}
use Rattle.theory.specs.Asked.{Asked}
use Rattle.settings.specs.Tells.{Tells}
use Rattle.settings.specs.Refusals.{Outcome, Refused, ◌when◌else◌, taken}
use Rattle.settings.specs.declared.refusals.Refusal.TheVariants.{BadArgument, BadOpening}
use Rattle.promises.specs.Tab.{tab}
use Rattle.promises.specs.Words.{bound}
use Rattle.promises.specs.State.{State, state, on, front}
use Rattle.promises.specs.Table.{Tabled, table, any_words, puts, opens}
use Rattle.promises.specs.Deed.{Answer, Deed, carries, plain, reads}

-- a feature list, a capacity from 1 to 4,096, and n words are enough
pub record Openable (S : List ℕ) (cap n : ℕ) : Type 0 where
  pub list : FeatureList S
  pub some : 1 ≤ cap
  pub most : cap ≤ 4096
  pub room : bound cap ≤ n

-- ---- what the calls answer
abbrev pub compared : Answer Bool
compared = carries false

abbrev pub tallied : Answer ℕ
tallied = carries 0

module _ {K : Kind} (T : Tabled K) where
  -- the constant 0 on each place
  abbrev pub fresh : List ℕ → ℕ → State K
  fresh S cap = state cap S (tab (λ p. zero_fun) T.places)

  -- OPEN: a fresh table in a slice of m words; it asks nothing of what the words held
  abbrev pub open_table : List ℕ → ℕ → ℕ → Deed (table T)
  open_table S cap m =
      record {
        Result = Outcome;
        ending = λ o. o;
        needs = any_words;
        cases = λ z. BadOpening when (Openable S cap m → ⊥) else taken;
        writes = λ z. opens (fresh S cap);
        Gives = λ z r. Unit {0};
        refusal = Refused;
      }

  -- CONSTANT: the amount x on place p
  abbrev pub constant : ℕ → Amount K → Deed (table T)
  constant p x = plain (λ z. front T.places (p ∷ []) (BadArgument when (T.InRange x → ⊥) else taken)) (λ z. puts p (λ s. x))

  -- COPY: the function of place q on place p
  abbrev pub copy : ℕ → ℕ → Deed (table T)
  copy p q = plain (λ z. front T.places (p ∷ q ∷ []) taken) (λ z. puts p (on z q))

  -- LOOK UP: what place p gives the setting s, and how many features it asks there; refused, 0 and 0
  abbrev pub look_up : ℕ → List ℕ → Deed (table T)
  look_up p s =
      reads T.looked (zero_fun s, 0) (λ z. front T.places (p ∷ []) (BadArgument when (Valid z.list s → ⊥) else taken))
      (λ z a. (a.0 ≡ on z p s) × Asked z.list (on z p) s a.1)

  -- SAME: whether places p and q agree at every setting
  abbrev pub same : ℕ → ℕ → Deed (table T)
  same p q = reads compared false (λ z. front T.places (p ∷ q ∷ []) taken) (λ z a. Tells a (Agree z.list (on z p) (on z q)))

  -- TALLY: the number of distinct rests of all places
  abbrev pub tally_all : Deed (table T)
  tally_all = reads tallied 0 (λ z. taken) (λ z a. Counts z.list z.places a)
