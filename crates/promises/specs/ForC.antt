-- WHAT C HEARS of a call: the number that it returns, results laid into words that C lends, and the bytes that it may write. Assumes nothing.
use Rattle.std.specs.Prelude.{◌≡◌, Bool, true, false, List, [], ◌∷◌, ℕ, suc, ◌+◌, ◌-◌, ◌/◌, ◌%◌, ℤ, pos, negsuc, replicate, Result, Ok, Err}
use Rattle.settings.specs.Refusals.{number_of, Outcome, ending_of, outcome_number}
use Rattle.settings.specs.declared.refusals.Refusal.{Refusal}
use Rattle.settings.specs.declared.steps.Setting.{Setting}
use Rattle.settings.specs.declared.steps.Stepped.{Stepped}
use Rattle.settings.specs.declared.steps.Stepped.TheVariants.{Next, Last}
use Rattle.promises.specs.declared.Looked.{Looked}
use Rattle.promises.specs.declared.CostLooked.{CostLooked}
use Rattle.promises.specs.declared.Found.{Found}

-- what C has after a call: the number, the words that it lent for results, the bytes that it lent for a sheet
pub record Heard : Type 0 where
  pub number : ℕ
  pub out : List ℕ
  pub bytes : List ℕ

abbrev pub heard : ℕ → List ℕ → List ℕ → Heard
heard n out s = record { number = n; out = out; bytes = s }

-- THE PROMISE of every call for C: some answer keeps the promise P of the call itself, and what C hears is what `tell` tells of it
pub record Hears {A : Type 0} (P : A → Type 0) (tell : A → Heard) (h : Heard) : Type 0 where
  pub answer : A
  pub keeps : P answer
  pub number : h.number ≡ (tell answer).number
  pub out : h.out ≡ (tell answer).out
  pub bytes : h.bytes ≡ (tell answer).bytes

-- ---- results as words
-- results laid over the front of the lent words, as many as fit
abbrev pub placed : List ℕ → List ℕ → List ℕ
placed [] o = o
placed (x ∷ l) [] = []
placed (x ∷ l) (y ∷ o) = x ∷ placed l o

-- yes is 1
abbrev pub bit : Bool → ℕ
bit true = 1
bit false = 0

-- a 64-bit number as two words, the low one first
abbrev pub halves : ℕ → List ℕ
halves x = x % 4294967296 ∷ x / 4294967296 ∷ []

-- a cost as C reads signed numbers: itself from 0 on, and 4,294,967,296 less its distance below 0
abbrev pub signed : ℤ → ℕ
signed (pos n) = n
signed (negsuc n) = 4294967296 - suc n

-- ---- what is told of each answer, where C lent the words out
-- the number of the ending, and the results l
abbrev pub told : Outcome → List ℕ → List ℕ → Heard
told o l out = heard (outcome_number o) (placed l out) []

-- the results of a call that says its value v in words: of n words, all 0 where it was refused
abbrev pub spoken : {V : Type 0} → (V → List ℕ) → ℕ → Result V Refusal → List ℕ
spoken words n (Ok v) = words v
spoken words n (Err x) = replicate n 0

abbrev pub tell : {V : Type 0} → (V → List ℕ) → ℕ → List ℕ → Result V Refusal → Heard
tell words n out r = told (ending_of r) (spoken words n r) out

abbrev pub tell_ending : List ℕ → Outcome → Heard
tell_ending out o = told o [] out

-- the number, then how many features were asked
abbrev pub tell_looked : List ℕ → Result Looked Refusal → Heard
tell_looked = tell (λ v. v.number ∷ v.asked ∷ []) 2

abbrev pub tell_cost_looked : List ℕ → Result CostLooked Refusal → Heard
tell_cost_looked = tell (λ v. signed v.cost ∷ v.asked ∷ []) 2

abbrev pub tell_compared : List ℕ → Result Bool Refusal → Heard
tell_compared = tell (λ b. bit b ∷ []) 1

abbrev pub tell_tallied : List ℕ → Result ℕ Refusal → Heard
tell_tallied = tell (λ n. n ∷ []) 1

abbrev pub tell_spelled : List ℕ → Result ℕ Refusal → Heard
tell_spelled = tell (λ n. n ∷ []) 1

abbrev pub tell_counted : List ℕ → Result ℕ Refusal → Heard
tell_counted = tell halves 2

-- a setting is 16 words: its values, and 0 for each place past them
abbrev pub tell_met : List ℕ → Result Setting Refusal → Heard
tell_met = tell (λ s. s.values) 16

-- the cost, then the setting
abbrev pub tell_found : List ℕ → Result Found Refusal → Heard
tell_found = tell (λ v. signed v.cost ∷ v.setting.values) 17

-- whether it was the last, then the setting
abbrev pub step_words : Stepped → List ℕ
step_words (Next s) = 0 ∷ s.values
step_words (Last s) = 1 ∷ s.values

abbrev pub tell_stepped : List ℕ → Result Stepped Refusal → Heard
tell_stepped = tell step_words 17

-- how many bytes the sheet has, and the lent bytes afterwards
abbrev pub tell_filed : List ℕ → (Result ℕ Refusal × List ℕ) → Heard
tell_filed out r = heard (outcome_number (ending_of r.0)) (placed (spoken (λ n. n ∷ []) 1 r.0) out) r.1

-- the phone's look up returns the phrase number itself, or 65,536 plus the refusal's number
abbrev pub returned : Result Looked Refusal → ℕ
returned (Ok v) = v.number
returned (Err x) = 65536 + number_of x

abbrev pub tell_returned : List ℕ → Result Looked Refusal → Heard
tell_returned out r = heard (returned r) out []

-- the look up of many: the number of the ending, and the lent words afterwards
abbrev pub tell_filled : (Outcome × List ℕ) → Heard
tell_filled r = heard (outcome_number r.0) r.1 []
