-- Contract between layers: docs/SCOPE.md, Sheets: the bytes of a rule's sheet, and which bytes are a sheet. Assumes nothing.
use Rattle.std.specs.Prelude.{◌≡◌, refl, List, [], ◌∷◌, ℕ, zero, suc, ◌≤◌, ◌<◌, length}
use Rattle.std.proofs.Math.Decide.{ℕ_discrete}
use Rattle.theory.specs.Settings.{FeatureList, Valid}
use Rattle.theory.specs.Diagrams as D
use Rattle.theory.specs.Deciding.{alike_decided, are_decided, find, list_discrete}
use Rattle.theory.specs.Comparing.{branch_discrete, node_discrete, target_discrete}
use Rattle.theory.specs.Build.{build, decide, make}
use Rattle.theory.specs.Tally.{tally}
use Rattle.theory.specs.Rules.{rules, Branch, Rule, says, unit_discrete}
use Rattle.sheet_bytes.specs.Sections.{two, sheet_byte_list}

-- three bytes: 0 and a phrase number, or 1 and a node's index
unfoldable pub target_bytes : D.Target rules → List ℕ
unfolding two
target_bytes (D.leaf p) = 0 ∷ two p
target_bytes (D.node i) = 1 ∷ two i

abbrev pub branch_bytes : Branch → List ℕ
branch_bytes b = target_bytes b.to

-- the sheet of the rule g over the features S: edition 1; the nodes stand as `build` from the empty list finishes them; one root
unfoldable pub sheet_of : List ℕ → Rule → List ℕ
unfolding sheet_byte_list target_bytes
sheet_of S g = sheet_byte_list branch_bytes (1 ∷ []) S (build 0 S g []).1 ((build 0 S g []).0 ∷ [])

-- a feature list and a rule that have a sheet: the scope's numbers, and at most 4,096 rests
pub record Writable (S : List ℕ) (g : Rule) : Type 0 where
  pub list : FeatureList S
  pub numbers : (t : List ℕ) → Valid S t → (g t).end < 65536
  pub rests : tally S (g ∷ []) ≤ 4096

-- s is the sheet of the rule g over the features S
pub record IsSheet (S : List ℕ) (g : Rule) (s : List ℕ) : Type 0 where
  pub writable : Writable S g
  pub bytes : sheet_of S g ≡ s

-- s is the sheet of some rule over some feature list
pub record Written (s : List ℕ) : Type 0 where
  pub list : List ℕ
  pub rule : Rule
  pub is : IsSheet list rule s

-- the scope's example: one feature of size 2, phrases 7 and 9
seven_nine : Rule
seven_nine [] = says 0
seven_nine (zero ∷ t) = says 7
seven_nine (suc v ∷ t) = says 9

example : sheet_of (2 ∷ []) seven_nine ≡ 0 ∷ 1 ∷ 1 ∷ 0 ∷ 1 ∷ 2 ∷ 0 ∷ 1 ∷ 0 ∷ 0 ∷ 0 ∷ 7 ∷ 0 ∷ 0 ∷ 9 ∷ 0 ∷ 1 ∷ 1 ∷ 0 ∷ 0 ∷ []
unfolding sheet_of build make decide alike_decided are_decided find branch_discrete target_discrete node_discrete list_discrete unit_discrete ℕ_discrete seven_nine
example = refl

-- a constant's sheet over one feature of size 2 has 13 bytes
thirteen : length (sheet_of (2 ∷ []) (λ t. says 5)) ≡ 13
unfolding sheet_of build make decide alike_decided are_decided branch_discrete target_discrete unit_discrete ℕ_discrete
thirteen = refl
