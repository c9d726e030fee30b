-- What a look up in a sheet found is what the edge asks of it. Assumes nothing.
use mathlib.Core.Path.{◌≡◌, sym, ap, subst}
use mathlib.Core.List.{List}
use Prim.Native.Nat.{ℕ}
use Rattle.theory.specs.Rules.{says}
use Rattle.theory.specs.Asked.{Asked}
use Rattle.theory.specs.Questions.{asked}
use Rattle.theory.proofs.Asked.{asked_counts}
use Rattle.promises.specs.Sheet.{sheet_sizes, sheet_rule}

pub looked_up : (s t : List ℕ) (n a : ℕ) → n ≡ (sheet_rule s t).end → a ≡ asked (sheet_sizes s) (sheet_rule s) t → (says n ≡ sheet_rule s t) × Asked (sheet_sizes s) (sheet_rule s) t a
looked_up s t n a e f = (ap says e, subst (Asked (sheet_sizes s) (sheet_rule s) t) (sym f) (asked_counts (sheet_sizes s) (sheet_rule s) t))
