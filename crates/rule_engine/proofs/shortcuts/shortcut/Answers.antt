-- `rule_engine::shortcuts::shortcut` meets its contract: equal words, then the operators that 0 settles, then CASE. Assumes nothing.
use Rattle.std.proofs.Common.{arith, ℕ, ◌≡◌, ◌≤◌, refl}
use Rattle.std.proofs.lemmas.Bool.Decides.{nat_tests}
use mathlib.Core.Logic.{◌⊎◌, ⊎_elim}
use borrow.Author.Tests.{eqb-true, ltb-true}
use Rattle.rule_operators.specs.declared.Operator.{Operator}
use Rattle.rule_operators.specs.declared.Operator.TheVariants.{Smaller, Larger, Equal, Differ}
use Rattle.rule_operators.specs.Operators.{number_of, forgotten_by}
use Rattle.promises.specs.Operators.{lesser_of as smaller_of}
use Rattle.rule_engine.proofs.Shortening.{short_pair, short_case, short_same, short_zero, short_less}
use Rattle.rule_engine.proofs.shortcuts.shortcut.Goals as goal

-- smaller and larger are apply's first two, equal and differ two others
abbrev Within : ℕ → Operator → Type 0
Within m o = (1 ≤ number_of o) × (number_of o ≤ m) × (16 ≤ forgotten_by o)

firsts : (o : Operator) → (o ≡ Smaller) ⊎ (o ≡ Larger) → Within 2 o
firsts o = ⊎_elim (λ e. rw e (omega arith, omega arith, omega arith)) (λ e. rw e (omega arith, omega arith, omega arith))

others : (o : Operator) → (o ≡ Equal) ⊎ (o ≡ Differ) → Within 5 o
others o = ⊎_elim (λ e. rw e (omega arith, omega arith, omega arith)) (λ e. rw e (omega arith, omega arith, omega arith))

pub returns-then-x-y : goal.returns-then-x-y
returns-then-x-y c e = rw c.in-Less.is (short_pair 4 16 _ _ (omega arith) (omega arith) (short_same _ _ _ c.if-x-y.true))

pub returns-else-x-y : goal.returns-else-x-y
returns-else-x-y c e = rw c.in-Less.is (short_pair 4 16 _ _ (omega arith) (omega arith) (short_less _ _ _ refl (eqb-true _ _ e)))

pub returns-in-Equal : goal.returns-in-Equal
returns-in-Equal c e = let o = others _ c.in-Equal.is in short_pair _ _ _ _ o.2 (omega (arith, o.1)) (short_same _ _ _ (eqb-true _ _ e))

pub returns-in-Case : goal.returns-in-Case
returns-in-Case c e = rw c.in-Case.is (short_case 6 16 _ _ (omega arith) refl (ltb-true _ _ e))

pub returns-then-x-y-2 : goal.returns-then-x-y-2
returns-then-x-y-2 c e = let o = firsts _ c.in-Smaller.is in short_pair _ _ _ _ o.2 (omega (arith, o.1)) (short_same _ _ _ c.if-x-y-2.true)

pub returns-else-x-y-2 : goal.returns-else-x-y-2
returns-else-x-y-2 c e =
    let o = firsts _ c.in-Smaller.is in
    let z : smaller_of c.args.x c.args.y ≡ 0 = grind (arith, nat_tests, c.min.ensures, eqb-true _ _ e) in
    short_pair _ _ _ _ o.2 (omega (arith, o.1)) (short_zero _ _ _ o.0 o.1 z)
