-- Which bytes are a sheet, and whether a rule has one, can be decided. Assumes nothing.
use mathlib.Core.List.{List, [], ◌∷◌}
use mathlib.Core.Option.{some, discrete}
use Prim.Native.Nat.{ℕ, ◌+◌, ◌-◌, ◌≤◌, ◌<◌}
use native.Mathlib.Decide.{ℕ_discrete, dec_lt, dec_le}
use native.Mathlib.Omega.{arith}
use lib.ListN.{length, get_or, get_or-eq_default}
use Rattle.theory.specs.Settings.{Valid}
use Rattle.theory.specs.Deciding.{all_decided}
use Rattle.theory.specs.Rules.{Rule}
use Rattle.theory.specs.Tally.{tally}
use Rattle.theory.specs.Walk.{scan}
use Rattle.theory.proofs.Ranges.{features_decided}
use Rattle.promises.specs.RuleWords.{decode}
use Rattle.promises.specs.Sheet.{NewerSheet, byte, sheet_features, sheet_sizes, sheet_count, sheet_feature, sheet_width, sheet_branch, sheet_root, sheet_nodes, Begins, Lies, SheetSits}
use Rattle.promises.specs.Sheet.{SheetLower, SheetAlike, SheetNodeOk, SheetNodesOk, SheetSame, SheetAlone, Once, SheetOrdered, InOrder, GoodSheet}
use Rattle.promises.specs.SheetDeeds.{SheetFor}
use Rattle.sheet_bytes.specs.Sheet.{sheet_of, Writable}
use Rattle.sheets.proofs.Edge.{room_for}
use Rattle.demands.proofs.Firm.{sure, not_decided, some_decided}
use Rattle.demands.proofs.Searching.{via, and_decided}

pub newer_decided : (s : List ℕ) → Dec (NewerSheet s)
newer_decided s =
    via (λ h. record { three = h.0; zero = h.1.0; one = h.1.1.0; more = h.1.1.1 }) (λ r. (r.three, (r.zero, (r.one, r.more))))
    (and_decided (dec_le 3 (length s)) (and_decided (ℕ_discrete (get_or s 0 0) 0) (and_decided (ℕ_discrete (get_or s 1 0) 1) (dec_le 2 (get_or s 2 0)))))

-- ---- good bytes, section after section
if_decided : {P Q : Type 0} → Dec P → Dec Q → Dec (P → Q)
if_decided d (yes q) = yes (λ p. q)
if_decided (yes p) (no n) = no (λ f. n (f p))
if_decided (no m) (no n) = yes (λ p. absurd (m p))

module _ (s : List ℕ) where
  begins_decided : Dec (Begins s)
  begins_decided =
      via (λ h. record { zero = h.0; one = h.1.0; edition = h.1.1.0; long = h.1.1.1.0; list = h.1.1.1.1 }) (λ r. (r.zero, (r.one, (r.edition, (r.long, r.list)))))
      (and_decided (ℕ_discrete _ _) (and_decided (ℕ_discrete _ _) (and_decided (ℕ_discrete _ _) (and_decided (dec_le _ _) (features_decided (sheet_sizes s))))))

  lies_decided : Dec (Lies s)
  lies_decided =
      via (λ h. record { room = h.0; known = h.1.0; ends = h.1.1.0; zero = h.1.1.1.0; one = h.1.1.1.1 }) (λ r. (r.room, (r.known, (r.ends, (r.zero, r.one)))))
      (and_decided (dec_le _ _) (and_decided (all_decided (λ i. dec_lt (sheet_feature s i) (sheet_features s)) (sheet_count s)) (and_decided (ℕ_discrete _ _) (and_decided (ℕ_discrete _ _) (ℕ_discrete _ _)))))

  sits_decided : (i k w : ℕ) → Dec (SheetSits s i k w)
  sits_decided i k w =
      via (λ h. record { flag = h.0; earlier = h.1.0; higher = h.1.1 }) (λ r. (r.flag, (r.earlier, r.higher)))
      (and_decided (dec_lt _ _) (and_decided (if_decided (dec_le 65536 w) (dec_lt (w - 65536) i)) (if_decided (dec_le 65536 w) (dec_le k (sheet_feature s (w - 65536))))))

  lower_decided : (i : ℕ) → Dec (SheetLower s i)
  lower_decided i = via (λ a. record { lower = a }) (λ r. r.lower) (all_decided (λ v. sits_decided i (sheet_feature s i + 1) (sheet_branch s i v)) (sheet_width s i))

  alike_decided : (i : ℕ) → Dec (SheetAlike s i)
  alike_decided i = via (λ a. record { alike = a }) (λ r. r.alike) (all_decided (λ v. ℕ_discrete (sheet_branch s i v) (sheet_branch s i 0)) (sheet_width s i))

  nodes_decided : Dec (SheetNodesOk s)
  nodes_decided =
      via (λ a. record { each = a }) (λ r. r.each)
      (all_decided (λ i. via (λ h. record { lower = h.0; differ = h.1 }) (λ (r : SheetNodeOk s i). (r.lower, r.differ)) (and_decided (lower_decided i) (not_decided (alike_decided i)))) (sheet_count s))

  same_decided : (i j : ℕ) → Dec (SheetSame s i j)
  same_decided i j =
      via (λ h. record { feature = h.0; each = h.1 }) (λ r. (r.feature, r.each))
      (and_decided (ℕ_discrete _ _) (all_decided (λ v. ℕ_discrete (sheet_branch s i v) (sheet_branch s j v)) (sheet_width s i)))

  once_decided : Dec (Once s)
  once_decided = via (λ a. record { once = a }) (λ r. r.once) (all_decided (λ i. via (λ a. record { new = a }) (λ (r : SheetAlone s i). r.new) (all_decided (λ j. not_decided (same_decided j i)) i)) (sheet_count s))

  order_decided : Dec (InOrder s)
  unfolding InOrder
  order_decided = discrete ℕ_discrete (scan (sheet_nodes s) 0 (sheet_sizes s) (decode (sheet_root s)).to 0) (some (sheet_count s))

  ordered_decided : Dec (SheetOrdered s)
  ordered_decided =
      via (λ h. record { head = h.0; lie = h.1.0; nodes = h.1.1.0; once = h.1.1.1 }) (λ r. (r.head, (r.lie, (r.nodes, r.once))))
      (and_decided begins_decided (and_decided lies_decided (and_decided nodes_decided once_decided)))

  bytes_decided : Dec ((p : ℕ) → byte s p < 256)
  bytes_decided = via (λ a p. inside a p (dec_lt p (length s))) (λ a p h. a p) (all_decided (λ p. dec_lt (byte s p) 256) (length s))
    where
      inside : ((p : ℕ) → p < length s → byte s p < 256) → (p : ℕ) → Dec (p < length s) → byte s p < 256
      inside a p (yes h) = a p h
      inside a p (no h) = omega (arith, get_or-eq_default s 0 (let k : length s ≤ p = omega (arith, h) in k))

  pub good_decided : Dec (GoodSheet s)
  good_decided =
      via (λ h. record { bytes = h.0; ordered = h.1.0; top = h.1.1.0; order = h.1.1.1 }) (λ r. (r.bytes, (r.ordered, (r.top, r.order))))
      (and_decided bytes_decided (and_decided ordered_decided (and_decided (sits_decided (sheet_count s) 0 (sheet_root s)) order_decided)))

-- ---- whether there is a sheet for a rule, with room for it
numbers_decided : (S : List ℕ) (g : Rule) → Dec ((t : List ℕ) → Valid S t → (g t).end < 65536)
numbers_decided S g =
    via (λ n t v. sure (dec_lt (g t).end 65536) (λ m. n (t, v, omega (arith, m)))) (λ f h. let l = f h.0 h.1 in omega (arith, l, h.2))
    (not_decided (some_decided {P = λ t. 65536 ≤ (g t).end} S (λ t. dec_le 65536 (g t).end)))

writable_decided : (S : List ℕ) (g : Rule) → Dec (Writable S g)
writable_decided S g =
    via (λ h. record { list = h.0; numbers = h.1.0; rests = h.1.1 }) (λ r. (r.list, (r.numbers, r.rests)))
    (and_decided (features_decided S) (and_decided (numbers_decided S g) (dec_le (tally S (g ∷ [])) 4096)))

pub sheet_for_decided : (S : List ℕ) (g : Rule) (n : ℕ) → Dec ((s : List ℕ) × SheetFor S g n s)
sheet_for_decided S g n = via room_for.1 room_for.0 (and_decided (writable_decided S g) (dec_le (length (sheet_of S g)) n))
