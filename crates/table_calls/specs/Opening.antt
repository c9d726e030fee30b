-- Contract between layers: the promise of opening, and what its steps leave, for every kind. Assumes nothing.
use Rattle.std.specs.Prelude.{◌≡◌, List, ℕ, ◌+◌, ◌≤◌, ◌<◌, length, get_or, Ok, Err}
use Rattle.theory.specs.Kind.{Kind}
use Rattle.theory.specs.Functions.{Fun, zero_fun}
use Rattle.settings.specs.Refusals.{Ends, ◌when◌else◌, taken}
use Rattle.settings.specs.declared.refusals.Refusal.{Refusal}
use Rattle.settings.specs.declared.refusals.Refusal.TheVariants.{BadOpening}
use Rattle.settings.specs.Refusals.{Outcome}
use Rattle.settings.specs.Refusals.{Taken, Refused}
use Rattle.table_words.specs.Table.{Table}
use Rattle.table_words.specs.Picture.{Pictures, Proper}
use Rattle.promises.specs.Tab.{tab}
use Rattle.promises.specs.Words.{bound}
use Rattle.promises.specs.TableDeeds.{Openable}

-- n places, each with the constant 0
abbrev pub fresh : {K : Kind} → ℕ → List (Fun K)
fresh n = tab (λ p. zero_fun) n

-- opening with the list S and the capacity cap makes w into w' and ends as o
module _ {K : Kind} (T : Table K) where
  pub record Opens (S : List ℕ) (cap : ℕ) (w w' : List ℕ) (o : Outcome) : Type 0 where
    pub ends : Ends (BadOpening when (Openable S cap (length w) → ⊥) else taken) o
    pub long : length w' ≡ length w
    pub proper : o ≡ Taken → Proper T cap S (fresh T.places)
    pub pictures : o ≡ Taken → Pictures T cap S (fresh T.places) w'
    pub past : o ≡ Taken → (j : ℕ) → bound cap ≤ j → get_or w' j 0 ≡ get_or w j 0
    pub refused : (x : Refusal) → o ≡ Refused x → w' ≡ w

-- ---- the steps
-- the first n words are 0, the others kept
pub record Cleared (n : ℕ) (w w' : List ℕ) : Type 0 where
  pub long : length w' ≡ length w
  pub zero : (j : ℕ) → j < n → get_or w' j 0 ≡ 0
  pub past : (j : ℕ) → n ≤ j → get_or w' j 0 ≡ get_or w j 0

-- the words 48 to 63 are b, the others kept
pub record Based (b : ℕ) (w w' : List ℕ) : Type 0 where
  pub long : length w' ≡ length w
  pub bases : (j : ℕ) → 48 ≤ j → j < 64 → get_or w' j 0 ≡ b
  pub before : (j : ℕ) → j < 48 → get_or w' j 0 ≡ get_or w j 0
  pub past : (j : ℕ) → 64 ≤ j → get_or w' j 0 ≡ get_or w j 0

-- the sizes stand from word 3 on, the other words are kept
pub record Sized (S w w' : List ℕ) : Type 0 where
  pub long : length w' ≡ length w
  pub sizes : (k : ℕ) → k < length S → get_or w' (3 + k) 0 ≡ get_or S k 0
  pub before : (j : ℕ) → j < 3 → get_or w' j 0 ≡ get_or w j 0
  pub past : (j : ℕ) → 3 + length S ≤ j → get_or w' j 0 ≡ get_or w j 0

-- the words of a fresh table of kind k whose bases are the word b
pub record Named (k b : ℕ) (S : List ℕ) (cap : ℕ) (w w' : List ℕ) : Type 0 where
  pub long : length w' ≡ length w
  pub kind : get_or w' 0 0 ≡ k
  pub capacity : get_or w' 1 0 ≡ cap
  pub features : get_or w' 2 0 ≡ length S
  pub sizes : (i : ℕ) → i < length S → get_or w' (3 + i) 0 ≡ get_or S i 0
  pub zero : (j : ℕ) → 3 + length S ≤ j → j < 48 → get_or w' j 0 ≡ 0
  pub bases : (j : ℕ) → 48 ≤ j → j < 64 → get_or w' j 0 ≡ b
  pub clean : (j : ℕ) → 64 ≤ j → j < bound cap → get_or w' j 0 ≡ 0
  pub past : (j : ℕ) → bound cap ≤ j → get_or w' j 0 ≡ get_or w j 0

-- a table of kind k whose bases are the word b is opened, or it cannot be
abbrev pub Opened : ℕ → ℕ → List ℕ → ℕ → List ℕ → List ℕ → Outcome → Type 0
Opened k b S cap w w' (Ok u) = Openable S cap (length w) × Named k b S cap w w'
Opened k b S cap w w' (Err x) = (x ≡ BadOpening) × (Openable S cap (length w) → ⊥) × (w' ≡ w)
