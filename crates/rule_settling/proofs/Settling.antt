-- The end of every call that builds a rule (the laws of every kind): what was built and settled is a written rule, or the table is as it was. Assumes nothing.
use Rattle.std.specs.Prelude.{Option, None, Some}
use mathlib.Core.Path.{◌≡◌, refl, sym, subst}
use mathlib.Core.List.{List}
use Prim.Native.Nat.{ℕ, ◌<◌}
use native.Mathlib.Omega.{arith}
use Rattle.theory.specs.Diagrams.{meaning}
use Rattle.theory.specs.Functions.{Agree}
use Rattle.theory.specs.Rules.{Rule, Built}
use Rattle.settings.specs.declared.refusals.Refusal.TheVariants.{NoRoom}
use Rattle.settings.specs.Refusals.{Outcome, Taken, Refused}
use Rattle.table_words.specs.Holding as H
use Rattle.table_words.proofs.Filling.{built_ext}
use Rattle.table_records.specs.Changes.{Rolled}
use Rattle.table_calls.proofs.Settling as C
use Rattle.table_calls.proofs.Sounding.{tested_holds}
pub use Rattle.table_calls.proofs.Theorems.{puts_agree, puts_one, write_pass}
use Rattle.rule_words.specs.Picture.{Becomes}
use Rattle.rule_nodes.specs.Nodes.{layout, Holds, Gives, Result, told}
use Rattle.rule_nodes.proofs.Filling.{result_mean}
use Rattle.rule_nodes.proofs.Reading.{lawful}
use Rattle.rule_words.proofs.Regular.{regular}
use Rattle.rule_sound.proofs.Pictures.{sound_tested}
use Rattle.rule_settling.specs.Settling.{Exceeds, Puts, Asks, Settled}
use Rattle.promises.specs.Words.{count, sizes}
use Rattle.promises.specs.RuleWords.{decode, rule_node_list as nodes}
use Rattle.promises.specs.RuleSound.{RuleSound as Sound}

-- a sound table can be built onto
pub sound_holds : {w : List ℕ} → Sound w → Holds w
sound_holds s = tested_holds regular (sound_tested s)

-- rules that agree exceed a table's room together
pub exceeds_agree : {w : List ℕ} {g h : Rule} → Sound w → Agree (sizes w) g h → Exceeds w g → Exceeds w h
exceeds_agree s e x = C.exceeds_agree regular (sound_tested s) e x

-- the contract as that of every kind
gives : {w t : List ℕ} {q : Built} {a : Option ℕ} → Gives w t q a → H.Gives layout w t q (told a)
gives r = record { grown = r.grown; answers = r.answers }

-- `settle` may be asked
pub settle_asks : {w t : List ℕ} {p n : ℕ} (g : Rule) (a : Option ℕ) → Sound w → Result w t 0 g a → p < 32 → n ≡ count w → Asks p n t a
settle_asks {w} {t} {p} g (Some b) s r hp e =
    (C.grown_untidy regular (sound_tested s) r.grown (built_ext lawful w 0 g) p (omega arith), hp, (result_mean w t 0 g b (sound_holds s) r).ok)
settle_asks {w} g None s r hp e = C.none_asks regular (sound_tested s) r.grown (built_ext lawful w 0 g) e

-- THE LAW of every call that builds: NO ROOM exactly where the rests exceed the capacity, and then nothing is changed; else the rule is written
pub settles : {w t t' : List ℕ} {p n : ℕ} {o : Outcome} (g : Rule) (a : Option ℕ) → Sound w → Result w t 0 g a → p < 32 → n ≡ count w → Settled p n t t' a o → Puts p g w t' o
settles g a s r hp e d = C.settles regular g (told a) (sound_tested s) (gives r) hp e d

-- ---- what `settle` learns of the answer
pub settled_none : {w w' : List ℕ} {n : ℕ} (p : ℕ) (a : Option ℕ) → a ≡ None → Rolled w w' n → Settled p n w w' a (Refused NoRoom)
settled_none {w} {w'} {n} p a e d = subst (λ (y : Option ℕ). Settled p n w w' y (Refused NoRoom)) (sym e) (refl, d)

pub settled_is : {w w' : List ℕ} (p n b : ℕ) (a : Option ℕ) → a ≡ Some b → Becomes p (meaning (nodes w) (decode b)) w w' → Settled p n w w' a Taken
settled_is {w} {w'} p n b a e d = subst (λ (y : Option ℕ). Settled p n w w' y Taken) (sym e) (refl, d)
