-- Settings by value, the next setting in dictionary order, and the stepper's promise. Assumes nothing.
use Rattle.std.specs.Prelude.{◌≡◌, Bool, true, false, List, [], ◌∷◌, ◌++◌, ℕ, ◌+◌, ◌-◌, ltb, length, take, replicate, Result, IfOk}
use Rattle.std.proofs.Math.Option.{Option, some, none}
use Rattle.theory.specs.Settings.{FeatureList, Valid, zeros}
use Rattle.settings.specs.Refusals.{Ends, ending_of, ◌when◌else◌, taken}
use Rattle.settings.specs.declared.refusals.Refusal.{Refusal}
use Rattle.settings.specs.declared.refusals.Refusal.TheVariants.{BadArgument}
use Rattle.settings.specs.declared.steps.Setting.{Setting}
use Rattle.settings.specs.declared.steps.Stepped.{Stepped}
use Rattle.settings.specs.declared.steps.Stepped.TheVariants.{Next, Last}

-- the values of a setting, feature 0 first
abbrev pub values_of : Setting → List ℕ
values_of s = take s.count s.values

-- the setting by value that holds a list: as many of it as there are places, and 0 after them
abbrev pub setting_of : List ℕ → Setting
setting_of l = record { count = length l; values = take 16 l ++ replicate (16 - length l) 0 }

-- the setting by value of n values, all 0
abbrev pub zero_setting : ℕ → Setting
zero_setting n = record { count = n; values = replicate 16 0 }

-- inside the scope's numbers: a feature list, and a setting of it
pub record Inside (S : List ℕ) (s : Setting) : Type 0 where
  pub features : FeatureList S
  pub counted : s.count ≡ length S
  pub valid : Valid S (values_of s)

-- w if the test passes, else none
abbrev pub kept_if : Bool → Option (List ℕ) → Option (List ℕ)
kept_if true w = w
kept_if false w = none

-- after v and m more values, given what comes next after those m: v stays while they have a next; else v grows by one, if it can, and they are 0 again
abbrev pub grow : ℕ → ℕ → ℕ → Option (List ℕ) → Option (List ℕ)
grow n v m (some t) = some (v ∷ t)
grow n v m none = kept_if (ltb (v + 1) n) (some ((v + 1) ∷ replicate m 0))

-- the next setting in dictionary order, or none after the last
unfoldable pub next_of : List ℕ → List ℕ → Option (List ℕ)
next_of (n ∷ ns) (v ∷ s) = grow n v (length s) (next_of ns s)
next_of [] s = none
next_of (n ∷ ns) [] = none

-- what a taken step gives: the next setting; or, where there is none, that it was the last, and all zeros
abbrev pub Gives : List ℕ → Option (List ℕ) → Stepped → Type 0
Gives S (some t) r = r ≡ Next (setting_of t)
Gives S none r = r ≡ Last (setting_of (zeros S))

-- the stepper's promise, over the feature list S, at the setting s
pub record Steps (S : List ℕ) (s : Setting) (r : Result Stepped Refusal) : Type 0 where
  pub ends : Ends (BadArgument when (Inside S s → ⊥) else taken) (ending_of r)
  pub gives : IfOk r (Gives S (next_of S (values_of s)))
