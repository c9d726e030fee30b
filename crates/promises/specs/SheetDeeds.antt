-- What the calls on sheets do: read and write, and the phone's look up straight in the bytes, of one setting and of many. Assumes nothing.
use Rattle.std.specs.Prelude.{◌≡◌, refl, List, [], ◌∷◌, ◌++◌, ℕ, ◌*◌, ◌≤◌, ◌<◌, length, take, drop}
use Rattle.theory.specs.Settings.{Valid}
use Rattle.theory.specs.Functions.{Agree}
use Rattle.theory.specs.Rules.{Rule}
use Rattle.theory.specs.Asked.{Asked}
use Rattle.settings.specs.Refusals.{Cases, Outcome, ◌when◌else◌, taken}
use Rattle.settings.specs.declared.refusals.Refusal.TheVariants.{Newer, BadSheet, OtherFeatures, BadArgument, NoSpace}
use Rattle.promises.specs.Sheet.{NewerSheet, sheet_sizes, row, sheet_rule, GoodSheet}
use Rattle.promises.specs.State.{on, front, room_cases}
use Rattle.promises.specs.Loan.{no_table}
use Rattle.promises.specs.Table.{table, puts}
use Rattle.promises.specs.Deed.{Answer, Deed, beside, carries, plain, reads}
use Rattle.promises.specs.RuleDeeds.{ruled, looked}

-- NEWER before any other reading, then BAD SHEET, then the rest
abbrev pub sheet_cases : List ℕ → Cases → Cases
sheet_cases s rest = Newer when (NewerSheet s) else BadSheet when (GoodSheet s → ⊥) else rest

-- READ: the rule that the bytes s say, where they are a sheet over the list
abbrev pub read_sheet : ℕ → List ℕ → Deed (table ruled)
read_sheet p s =
    plain
    (λ z. front 32 (p ∷ []) (sheet_cases s (OtherFeatures when (sheet_sizes s ≡ z.list → ⊥) else room_cases (sheet_rule s) z)))
    (λ z. puts p (sheet_rule s))

-- s is the sheet of the rule g over the feature list S, and has room in n bytes
pub record SheetFor (S : List ℕ) (g : Rule) (n : ℕ) (s : List ℕ) : Type 0 where
  pub good : GoodSheet s
  pub list : sheet_sizes s ≡ S
  pub rule : Agree S (sheet_rule s) g
  pub room : length s ≤ n

-- the length of the sheet, and the lent bytes afterwards
abbrev pub filed : Answer (ℕ × List ℕ)
filed = beside (carries 0)

-- WRITE: the sheet of place p to the front of the lent bytes out, the bytes after it kept
abbrev pub write_sheet : ℕ → List ℕ → Deed (table ruled)
write_sheet p out =
    reads filed (0, out)
    (λ z. front 32 (p ∷ []) (NoSpace when (((s : List ℕ) × SheetFor z.list (on z p) (length out) s) → ⊥) else taken))
    (λ z a. (s : List ℕ) × SheetFor z.list (on z p) (length out) s × (a.0 ≡ length s) × (a.1 ≡ s ++ drop (length s) out))

-- LOOK UP in the sheet s: the number that its rule gives the setting t, and how many features it asks there
abbrev pub look_up_in : List ℕ → List ℕ → Deed no_table
look_up_in s t =
    reads looked (record { off = tt; end = 0 }, 0) (λ z. sheet_cases s (BadArgument when (Valid (sheet_sizes s) t → ⊥) else taken))
    (λ z a. (a.0 ≡ sheet_rule s t) × Asked (sheet_sizes s) (sheet_rule s) t a.1)

-- row i of the bytes t, where a row has n bytes
abbrev pub row_of : ℕ → List ℕ → ℕ → List ℕ
row_of n t i = take n (drop (i * n) t)

-- t is m settings of the list S, one after the other
pub record SettingRows (S : List ℕ) (m : ℕ) (t : List ℕ) : Type 0 where
  pub long : length t ≡ m * length S
  pub each : (i : ℕ) → i < m → Valid S (row_of (length S) t i)

-- the number that the rule of the sheet s gives row i of t
abbrev pub number_in : List ℕ → List ℕ → ℕ → ℕ
number_in s t i = (sheet_rule s (row_of (length (sheet_sizes s)) t i)).end

-- the lent words afterwards
abbrev pub filled : Answer (List ℕ)
filled = record { Result = Outcome × List ℕ; ending = λ r. r.0; value = λ r. r.1; made = λ o a. (o, a); nothing_else = λ r. refl }

-- LOOK UP ALL in the sheet s: t is as many settings as there are lent words out, and each word gets the number of its row
abbrev pub look_up_all_in : List ℕ → List ℕ → List ℕ → Deed no_table
look_up_all_in s t out =
    reads filled out (λ z. sheet_cases s (BadArgument when (SettingRows (sheet_sizes s) (length out) t → ⊥) else taken)) (λ z a. a ≡ row 0 (length out) (number_in s t))
