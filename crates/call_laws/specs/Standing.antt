-- CALLS ONE AFTER ANOTHER ON ONE TABLE of any kind, and what stands on its places meanwhile. Assumes nothing.
use Rattle.std.specs.Prelude.{◌≡◌, List, [], ◌∷◌, ℕ}
use Rattle.theory.specs.Kind.{Kind}
use Rattle.theory.specs.Functions.{Agree, Fun}
use Rattle.settings.specs.Refusals.{Outcome}
use Rattle.settings.specs.Refusals.{Taken}
use Rattle.promises.specs.Words.{sizes}

-- p is one of the places l
pub data Among (p : ℕ) : List ℕ → Type 0 where
  first : {q : ℕ} {l : List ℕ} → p ≡ q → Among p (q ∷ l)
  later : {q : ℕ} {l : List ℕ} → Among p l → Among p (q ∷ l)

-- none of the places l is one of the places k
pub record Apart (l k : List ℕ) : Type 0 where
  pub apart : (p : ℕ) → Among p l → Among p k → ⊥

-- of a kind of table: the function of a place, and which words are sound
module _ {K : Kind} (own : List ℕ → ℕ → Fun K) (Sound : List ℕ → Type 0) where
  -- place p still holds in the words v what it held in the words w: the table is sound, and its list the same
  pub record Still (p : ℕ) (w v : List ℕ) : Type 0 where
    pub sound : Sound v
    pub list : sizes v ≡ sizes w
    pub same : Agree (sizes w) (own v p) (own w p)

  -- from the words w on: whatever was called first, the places l still hold what they held; then the call was taken, and left the words v
  pub record Next (l : List ℕ) (Call : List ℕ → List ℕ → Outcome → Type 0) (w v : List ℕ) : Type 0 where
    pub found : List ℕ
    pub still : (p : ℕ) → Among p l → Still p w found
    pub taken : Call found v Taken

  -- IN TURN: the calls were taken one after another, and before, between and after them the places l held what they held
  abbrev pub InTurn : List ℕ → List (List ℕ → List ℕ → Outcome → Type 0) → List ℕ → List ℕ → Type 0
  InTurn l [] w v = (p : ℕ) → Among p l → Still p w v
  InTurn l (Call ∷ calls) w v = (u : List ℕ) × Next l Call w u × InTurn l calls u v
