-- What the code reads of a rule sheet: the sections before the nodes, the nodes where the array places them, the roots that end the bytes. Assumes nothing.
use mathlib.Core.Path.{◌≡◌, sym, ap, subst, ◌∙◌}
use mathlib.Core.List.{List}
use Prim.Native.Nat.{ℕ, ◌+◌, ◌*◌, ◌-◌, ◌≤◌, ◌<◌}
use native.Mathlib.Omega.{arith}
use lib.ListN.{length, get_or, take, drop}
use Rattle.theory.specs.Settings.{FeatureList}
use Rattle.sheet_bytes.specs.Frame as F
use Rattle.sheet_bytes.specs.Frame.{Opens, Lays, root_spot}
use Rattle.sheet_bytes.specs.RuleFrame.{rule_frame}
use Rattle.sheet_bytes.specs.Bytes.{Placed}
use Rattle.sheet_bytes.proofs.Framing as G
use Rattle.sheet_bytes.proofs.Places.{part_sizes, place_next, place_le}
use Rattle.promises.specs.Sheet.{byte, pair, triple as word, sheet_features as features, sheet_size as size, sheet_sizes as sizes_of, sheet_count as count, node_place as place}
use Rattle.promises.specs.Sheet.{sheet_feature as feature, sheet_width as width, sheet_branch as branch, nodes_end as end}

-- ---- the feature list, as the promise names it
module _ {s : List ℕ} (o : Opens rule_frame s) where
  pub open_list : FeatureList (sizes_of s)
  unfolding F.sizes_of sizes_of
  open_list = o.list

  pub open_length : length (sizes_of s) ≡ features s
  unfolding F.sizes_of sizes_of
  open_length = G.sizes_length o

  pub open_at : (k : ℕ) → k < features s → get_or (sizes_of s) k 0 ≡ size s k
  unfolding F.sizes_of sizes_of
  open_at = G.sizes_at o

-- the last test of the first two sections
module _ (s : List ℕ) (n : ℕ) (e : n ≡ features s) where
  pub open_part : Opens rule_frame s → FeatureList (take (5 + n - 5) (drop 5 s))
  unfolding F.sizes_of sizes_of
  open_part o = subst FeatureList (sym (part_sizes s n e)) o.list

  pub opened : pair s 0 ≡ 1 → 7 + n ≤ length s → FeatureList (take (5 + n - 5) (drop 5 s)) → Opens rule_frame s
  unfolding F.sizes_of sizes_of
  opened z l f = record { start = z; long = omega arith; list = subst FeatureList (part_sizes s n e) f }

-- ---- the nodes
-- node i ends before the count of the roots does
pub node_ends : (s : List ℕ) → end s + 2 ≤ length s → (i : ℕ) → i < count s → place s i + 1 + 3 * width s i + 2 ≤ length s
node_ends s l i h = omega (arith, place_next s i, place_le s (i + 1) (count s) (omega arith))

module _ {s at : List ℕ} (d : Placed s at) {i : ℕ} (h : i < count s) where
  placed_at : (p : ℕ) → p ≡ get_or at i 0 → p ≡ place s i
  placed_at p e = e ∙ d.places.holds i h

  pub placed_feature : (p f : ℕ) → p ≡ get_or at i 0 → f ≡ byte s p → f ≡ feature s i
  placed_feature p f e q = q ∙ ap (byte s) (placed_at p e)

  pub placed_inside : (p : ℕ) → p ≡ get_or at i 0 → p + 1 + 3 * width s i + 2 ≤ length s
  placed_inside p e = omega (arith, placed_at p e, node_ends s d.inside i h)

  pub placed_few : feature s i < 16
  placed_few = omega (arith, d.known i h, G.few d.opens)

  pub placed_branch : (p q v b : ℕ) → p ≡ get_or at i 0 → q ≡ p + 1 + 3 * v → b ≡ word s q → b ≡ branch s i v
  placed_branch p q v b e f g = g ∙ ap (word s) (f ∙ ap (λ (x : ℕ). x + 1 + 3 * v) (placed_at p e))

-- ---- the roots
module _ {s : List ℕ} {n : ℕ} (l : Lays rule_frame s n 0) where
  pub root_inside : (r : ℕ) → r < n → end s + 2 + 3 * r + 3 ≤ length s
  root_inside r h = omega (arith, l.tops, l.ends)
