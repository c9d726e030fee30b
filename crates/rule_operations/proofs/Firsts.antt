-- What next answers, said of the functions of the places: the setting that was found, or NONE. Assumes nothing.
use Rattle.std.specs.Prelude.{Option, Some, None}
use Rattle.std.specs.Option.{ok_or}
use mathlib.Core.Path.{◌≡◌, refl, sym, subst}
use mathlib.Core.Logic.{⊎_elim}
use mathlib.Core.List.{List, [], ◌∷◌}
use Prim.Native.Nat.{ℕ, ◌<◌}
use native.Mathlib.Omega.{arith}
use Rattle.theory.specs.Rules.{Rule}
use Rattle.theory.specs.Settings.{Valid}
use Rattle.theory.proofs.First.{first_or_none}
use Rattle.settings.specs.Refusals.{Outcome, Taken}
use Rattle.settings.specs.declared.refusals.Refusal.TheVariants.{None as NoneSuch}
use Rattle.settings.specs.declared.steps.Setting.{Setting}
use Rattle.settings.proofs.Endings.{stop, pass}
use Rattle.promises.specs.Words.{sizes}
use Rattle.promises.specs.RuleWords.{rule_of}
use Rattle.promises.specs.RuleSound.{RuleSound}
use Rattle.promises.specs.State.{on}
use Rattle.promises.specs.Deed.{Meets}
use Rattle.promises.specs.Table.{state_of}
use Rattle.promises.specs.RuleDeeds.{ruled, next_with}
use Rattle.table_calls.specs.Door.{Enters}
use Rattle.table_calls.proofs.Meeting.{let_in, refuses, takes}
use Rattle.rule_words.proofs.Reading.{at_rules}
use Rattle.rule_next.specs.Next.{Answers}

-- what was found of the rule of a place
pub found_on : (w : List ℕ) (p x : ℕ) (s : List ℕ) (r : Option Setting) → p < 32 → Answers (sizes w) (rule_of w p) x s r → Answers (sizes w) (on (state_of ruled w) p) x s r
found_on w p x s r h a = subst (λ (g : Rule). Answers (sizes w) g x s r) (sym (at_rules w p h)) a

-- past the door, with a phrase number and a setting, it is the answer
pub next_meets : {w : List ℕ} {p x : ℕ} {s : List ℕ} {o : Outcome} (r : Option Setting) → Enters RuleSound 32 (p ∷ []) w o → o ≡ Taken → x < 65536 → Valid (sizes w) s
    → Answers (sizes w) (rule_of w p) x s r → Meets (next_with p x s) w w (ok_or r NoneSuch)
next_meets {w} {p} {x} {s} (Some t) e k h v a =
    let f = found_on w p x s (Some t) ((e.there k).each 0 (omega arith)) a in
    takes refl (let_in e k (pass (⊎_elim (λ l. omega arith) (λ n. n v)) (pass (first_or_none f.2) refl))) refl f
next_meets {w} {p} {x} {s} None e k h v a =
    let f = found_on w p x s None ((e.there k).each 0 (omega arith)) a in
    refuses refl refl (let_in e k (pass (⊎_elim (λ l. omega arith) (λ n. n v)) (stop f)))
