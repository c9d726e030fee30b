-- The end of every call that builds a cost (the laws of every kind): what was built and settled is a written cost, or the table is as it was. Assumes nothing.
use Rattle.std.specs.Prelude.{Option, Some, None}
use mathlib.Core.Path.{◌≡◌, refl, sym, subst}
use mathlib.Core.List.{List}
use Prim.Native.Nat.{ℕ, ◌<◌}
use native.Mathlib.Omega.{arith}
use Rattle.theory.specs.Costs.{Cost}
use Rattle.theory.specs.Diagrams.{meaning}
use Rattle.theory.specs.Functions.{Agree}
use Rattle.settings.specs.declared.refusals.Refusal.TheVariants.{NoRoom}
use Rattle.settings.specs.Refusals.{Outcome}
use Rattle.settings.specs.Refusals.{Taken, Refused}
use Rattle.table_words.proofs.Filling.{built_ext}
use Rattle.table_records.specs.Changes.{Rolled}
use Rattle.table_calls.proofs.Settling as C
use Rattle.table_calls.proofs.Sounding.{tested_holds}
pub use Rattle.table_calls.proofs.Theorems.{puts_agree, puts_one, write_pass}
use Rattle.theory_costs.proofs.Spreads.{within_agree}
use Rattle.cost_words.specs.Picture.{Becomes}
use Rattle.cost_nodes.specs.Nodes.{Holds, Result, told}
use Rattle.cost_words.specs.declared.Arm.{Arm}
use Rattle.cost_nodes.proofs.Filling.{result_mean}
use Rattle.cost_nodes.proofs.Reading.{lawful}
use Rattle.cost_words.proofs.Regular.{regular}
use Rattle.cost_sound.proofs.Pictures.{sound_tested}
use Rattle.cost_settling.specs.Settling.{Exceeds, Puts, Asks, Settled}
use Rattle.promises.specs.Words.{count, sizes}
use Rattle.promises.specs.Range.{Within, cost_most}
use Rattle.promises.specs.CostWords.{cost_branch as branch, cost_node_list as nodes}
use Rattle.promises.specs.CostSound.{CostSound as Sound}

-- a sound table can be built onto
pub sound_holds : {w : List ℕ} → Sound w → Holds w
sound_holds s = tested_holds regular (sound_tested s)

-- costs that agree exceed a table's room together
pub exceeds_agree : {w : List ℕ} {g h : Cost} → Sound w → Agree (sizes w) g h → Exceeds w g → Exceeds w h
exceeds_agree s e x = C.exceeds_agree regular (sound_tested s) e x

-- `settle` may be asked, if the cost lies in its range
pub settle_asks : {w t : List ℕ} {p n : ℕ} (g : Cost) (a : Option Arm) → Sound w → Result w t 0 g a → p < 16 → n ≡ count w → Within cost_most (sizes w) g → Asks p n t a
settle_asks {w} {t} {p} g (Some b) s r hp e f =
    let z : sizes t ≡ sizes w = C.sizes_same regular (sound_tested s) r.grown (built_ext lawful w 0 g) in
    let m = result_mean w t 0 g b (sound_holds s) r in (
      record {
        untidy = C.grown_untidy regular (sound_tested s) r.grown (built_ext lawful w 0 g) p (omega arith);
        range = λ q h. rw z (within_agree (C.places_kept regular (sound_tested s) r.grown (built_ext lawful w 0 g) q h) (s.ranged.ranged q h));
      },
      hp,
      m.ok,
      rw z (within_agree m.says f),
    )
settle_asks {w} g None s r hp e f = C.none_asks regular (sound_tested s) r.grown (built_ext lawful w 0 g) e

-- THE LAW of every call that builds: NO ROOM exactly where the rests exceed the capacity, and then nothing is changed; else the cost is written
pub settles : {w t t' : List ℕ} {p n : ℕ} {o : Outcome} (g : Cost) (a : Option Arm) → Sound w → Result w t 0 g a → p < 16 → n ≡ count w → Settled p n t t' a o → Puts p g w t' o
settles g a s r hp e d = C.settles regular g (told a) (sound_tested s) r hp e d

-- ---- what `settle` learns of the answer
pub settled_none : {w w' : List ℕ} {n : ℕ} (p : ℕ) (a : Option Arm) → a ≡ None → Rolled w w' n → Settled p n w w' a (Refused NoRoom)
settled_none {w} {w'} {n} p a e d = subst (λ (y : Option Arm). Settled p n w w' y (Refused NoRoom)) (sym e) (refl, d)

pub settled_is : {w w' : List ℕ} (p n : ℕ) (b : Arm) (a : Option Arm) → a ≡ Some b → Becomes p (meaning (nodes w) (branch b.to b.adds)) w w' → Settled p n w w' a Taken
settled_is {w} {w'} p n b a e d = subst (λ (y : Option Arm). Settled p n w w' y Taken) (sym e) (refl, d)
