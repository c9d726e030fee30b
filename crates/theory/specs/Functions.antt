-- Rules and costs as functions of a setting, and when two of them agree. Assumes nothing.
use Rattle.std.specs.Prelude.{◌≡◌, List, [], ◌∷◌, ℕ, zero, suc}
use Rattle.theory.specs.Kind.{Kind}
use Rattle.theory.specs.Settings.{Valid}

module _ (K : Kind) where
  -- what a function gives a setting: rules a phrase, costs an integer
  pub record Amount : Type 0 where
    pub off : K.Off
    pub end : K.End

  -- a rule or a cost
  abbrev pub Fun : Type 0
  Fun = List ℕ → Amount

module _ {K : Kind} where
  -- an amount with a more on it
  abbrev pub lift : K.Off → Amount K → Amount K
  lift a x = record { off = K.plus a x.off; end = x.end }

  -- the function with its first feature held at v
  abbrev pub held : ℕ → Fun K → Fun K
  held v g = λ r. g (v ∷ r)

  -- the functions for the n values v, v + 1, .. of the first feature
  abbrev pub parts : ℕ → ℕ → Fun K → List (Fun K)
  parts v zero g = []
  parts v (suc n) g = held v g ∷ parts (suc v) n g

  -- equal at every valid setting
  abbrev pub Agree : List ℕ → Fun K → Fun K → Type 0
  Agree ns g h = (s : List ℕ) → Valid ns s → g s ≡ h s

  -- the constant 0: what each place of a fresh table holds
  abbrev pub zero_fun : Fun K
  zero_fun = λ s. record { off = K.nil; end = K.end0 }
