-- Where things stand in a rule sheet's bytes: the sizes, the nodes one after the other, the array of their places. Assumes nothing.
use mathlib.Core.Path.{◌≡◌, refl, ap}
use mathlib.Core.List.{List}
use Prim.Native.Nat.{ℕ, zero, suc, ◌+◌, ◌*◌, ◌-◌, ◌≤◌, ◌<◌}
use native.Mathlib.Numerals.{add-one}
use native.Mathlib.Omega.{arith}
use lib.ListN.{length, set, take, drop}
use Rattle.theory.specs.Diagrams as D
use Rattle.theory.specs.Diagrams.{Target}
use Rattle.theory.specs.Rules.{rules}
use Rattle.theory.proofs.Lists.{put_more}
use Rattle.sheet_bytes.specs.Sections.{two}
use Rattle.sheet_bytes.specs.Sheet.{target_bytes}
use Rattle.sheet_bytes.specs.Bytes.{Holds}
use Rattle.sheet_bytes.specs.Frame as F
use Rattle.sheet_bytes.specs.Frame.{Opens}
use Rattle.sheet_bytes.specs.RuleFrame.{rule_frame}
use Rattle.sheet_bytes.proofs.Framing as G
use Rattle.sheet_bytes.proofs.RuleHand.{rule_regular}
use Rattle.promises.specs.Sheet.{pair, sheet_features as features, sheet_sizes as sizes_of, node_place as place, sheet_feature as feature, sheet_width as width}
use Rattle.promises.specs.Sheet.{Begins as Head}

-- ---- the feature list
pub opens : {s : List ℕ} → Head s → Opens rule_frame s
unfolding F.sizes_of sizes_of pair
opens h = record { start = omega (arith, h.zero, h.one); long = h.long; list = h.list }

-- what the code takes for the feature list
pub part_sizes : (s : List ℕ) (n : ℕ) → n ≡ features s → take (5 + n - 5) (drop 5 s) ≡ sizes_of s
unfolding sizes_of
part_sizes s n e = ap (λ (m : ℕ). take m (drop 5 s)) (let q : 5 + n - 5 ≡ features s = omega arith in q)

-- ---- the nodes
pub place_zero : (s : List ℕ) → place s 0 ≡ 7 + features s
place_zero = rule_regular.front

pub place_suc : (s : List ℕ) (i : ℕ) → place s (suc i) ≡ place s i + 1 + 3 * width s i
place_suc = rule_regular.next

pub place_next : (s : List ℕ) (i : ℕ) → place s (i + 1) ≡ place s i + 1 + 3 * width s i
place_next s i = rw add-one (place_suc s i)

pub place_le : (s : List ℕ) (i j : ℕ) → i ≤ j → place s i ≤ place s j
place_le = G.place_le rule_regular

-- the nodes before node i take at most 25 bytes each
pub place_most : {s : List ℕ} → Head s → (i : ℕ) → ((j : ℕ) → j < i → feature s j < features s) → place s i ≤ 23 + 25 * i
place_most {s} h zero k = omega (arith, place_zero s, G.few (opens h))
place_most {s} h (suc i) k =
    omega (arith, place_suc s i, place_most h i (λ j l. k j (omega arith)), G.size_most (opens h) (feature s i) (k i (omega arith)))

-- a branch has three bytes
pub three : (t : Target rules) → length (target_bytes t) ≡ 3
unfolding target_bytes two
three (D.leaf p) = refl
three (D.node i) = refl

-- ---- the array of places
pub holds_none : (s at : List ℕ) → Holds s at 0
holds_none s at = record { holds = λ i h. absurd (omega arith) }

pub holds_more : {s at : List ℕ} {i p : ℕ} → i < length at → p ≡ place s i → Holds s at i → Holds s (set at i p) (i + 1)
holds_more {s} {at} {i} {p} l e h = record { holds = put_more 0 (λ j x. x ≡ place s j) at i p l h.holds e }
