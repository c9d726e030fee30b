-- Rules under their short names: a phrase means itself. Assumes nothing.
use mathlib.Core.Path.{◌≡◌, ap}
use mathlib.Core.List.{List}
use Prim.Native.Nat.{ℕ}
use Rattle.theory.specs.Rules.{Node, Phrase, phrase, says}
use Rattle.theory.specs.Diagrams.{value}
use Rattle.theory.proofs.Values.{value_ending}

pub value_phrase : (N : List Node) (k p : ℕ) (s : List ℕ) → value N k (phrase p) s ≡ says p
value_phrase N k p s = value_ending N k (says p) s

pub numbers : {x y : Phrase} → x ≡ y → x.end ≡ y.end
numbers e = ap (λ (z : Phrase). z.end) e
