-- The walk over the nodes in a sheet's bytes, as the code goes: a branch, the branches of a node, the roots in turn. Assumes nothing.
use mathlib.Core.Path.{◌≡◌, sym, ap, subst, ◌∙◌}
use mathlib.Core.List.{List}
use mathlib.Core.Option.{Option, none, some}
use Prim.Native.Nat.{ℕ, suc, ◌+◌, ◌-◌, ◌≤◌, ◌<◌}
use native.Mathlib.Numerals.{add-one}
use native.Mathlib.Decide.{dec_lt}
use native.Mathlib.Omega.{arith}
use lib.ListN.{length, get_or, drop}
use Rattle.theory.specs.Diagrams.{Target, at, blank}
use Rattle.theory.specs.WellFormed.{Ok}
use Rattle.theory.specs.Walk.{scan, scans, close}
use Rattle.theory.specs.Rules.{rules, Branch, Node, node}
use Rattle.theory.proofs.Ordering.{close_same}
use Rattle.theory.proofs.Scanning.{scan_leaf, scan_known, scan_done, scan_close, close_none, close_other, scans_end, scans_met, scans_none}
use Rattle.sheet_bytes.specs.Frame.{Lays, root_spot, roots_of}
use Rattle.sheet_bytes.specs.RuleFrame.{rule_frame}
use Rattle.sheet_bytes.specs.Bytes.{Placed}
use Rattle.sheet_bytes.proofs.Framing.{roots_length, roots_at}
use Rattle.sheet_bytes.proofs.Opening.{open_length}
use Rattle.std.specs.Prelude as rattle
use Rattle.std.specs.Prelude.{Some, None}
use Rattle.sheet_check.specs.Diagram.{told, Downward, Rooted, Visits, VisitsAll, VisitsRoots, further}
use Rattle.sheet_check.proofs.Diagrams.{nodes_at, feature_at, branches_length, branches_at, branch_phrase, branch_node, below_ok}
use Rattle.promises.specs.Sheet.{triple as word, sheet_sizes as sizes_of, sheet_count as count, sheet_feature as feature, sheet_width as width, sheet_branch as branch}
use Rattle.promises.specs.Sheet.{SheetSits as Below, sheet_node as node_of, sheet_nodes as nodes_of}
use Rattle.promises.specs.RuleWords.{decode as branch_of}

-- ---- after the branches of node i

close_met : (i d : ℕ) → d ≡ i → close i (some d) ≡ some (i + 1)
close_met i d e = close_same i d e ∙ ap (λ (x : ℕ). let o : Option ℕ = some x in o) (sym (add-one i))

-- ---- a branch
pub visits_phrase : {s : List ℕ} {w c : ℕ} → w < 65536 → c < 65536 → Visits s w c (Some c)
visits_phrase {s} {w} {c} h l =
    record {
      visits = λ k o. ap (λ (b : Branch). scan (nodes_of s) k (drop k (sizes_of s)) b.to c) (branch_phrase w h) ∙ scan_leaf (nodes_of s) k (drop k (sizes_of s)) w c;
      small = l;
    }

module _ {s ps : List ℕ} (w c : ℕ) (d : Placed s ps) (b : Below s (count s) 0 w) (hw : 65536 ≤ w) where
  abbrev i : ℕ
  i = w - 65536

  inside : w - 65536 < count s
  inside = b.earlier hw

  known : (at (nodes_of s) i).feature < length (sizes_of s)
  known = omega (arith, feature_at s i inside, d.known i inside, open_length d.opens)

  -- from whatever feature, the walk is that from the node's own
  from_own : (k : ℕ) → Ok (nodes_of s) k (branch_of w) →
      scan (nodes_of s) k (drop k (sizes_of s)) (branch_of w).to c ≡ scan (nodes_of s) (at (nodes_of s) i).feature (drop (at (nodes_of s) i).feature (sizes_of s)) (node i).to c
  from_own k ok =
      let e : branch_of w ≡ node i = branch_node w hw in
      ap (λ (x : Branch). scan (nodes_of s) k (drop k (sizes_of s)) x.to c) e
      ∙ scan_known (sizes_of s) (nodes_of s) i c k known (subst (Ok (nodes_of s) k) e ok)

  pub visits_done : w - 65536 < c → c < 65536 → Visits s w c (Some c)
  visits_done l h = record { visits = λ k ok. from_own k ok ∙ scan_done (sizes_of s) (nodes_of s) i c known l; small = h }

  -- its branches first
  opened : (w - 65536 < c → ⊥) → {e : rattle.Option ℕ} → VisitsAll s (w - 65536) c e →
      scan (nodes_of s) (at (nodes_of s) i).feature (drop (at (nodes_of s) i).feature (sizes_of s)) (node i).to c ≡ close i (told e)
  opened l v =
      scan_close (sizes_of s) (nodes_of s) i c known l
      ∙ ap (λ (f : ℕ). close i (scans (scan (nodes_of s) (suc f) (drop (suc f) (sizes_of s))) (at (nodes_of s) i).branches c)) (feature_at s i inside)
      ∙ ap (λ (x : Node). close i (scans (further s i) x.branches c)) (nodes_at s i inside)
      ∙ ap (close i) v.visits

  pub visits_met : (w - 65536 < c → ⊥) → {e : ℕ} → VisitsAll s (w - 65536) c (Some e) → e ≡ w - 65536 → Visits s w c (Some (w - 65536 + 1))
  visits_met l {e} v q = record { visits = λ k ok. from_own k ok ∙ opened l v ∙ close_met i e q; small = omega (arith, inside, d.room) }

  pub visits_other : (w - 65536 < c → ⊥) → {e : ℕ} → VisitsAll s (w - 65536) c (Some e) → (e ≡ w - 65536 → ⊥) → Visits s w c None
  visits_other l {e} v n = record { visits = λ k ok. from_own k ok ∙ opened l v ∙ close_other i e n; small = tt }

  pub visits_lost : (w - 65536 < c → ⊥) → VisitsAll s (w - 65536) c None → Visits s w c None
  visits_lost l v = record { visits = λ k ok. from_own k ok ∙ opened l v ∙ close_none i; small = tt }

-- ---- branches in turn: d nodes are done before branch v, and what is left is the whole walk
pub record Walked (f : Target rules → ℕ → Option ℕ) (bs : List Branch) (c v d : ℕ) : Type 0 where
  pub left : scans f bs c ≡ scans f (drop v bs) d
  pub small : d < 65536

module _ {f : Target rules → ℕ → Option ℕ} {bs : List Branch} {c v d : ℕ} (w : Walked f bs c v d) where
  walked_end : length bs ≤ v → scans f bs c ≡ some d
  walked_end h = w.left ∙ scans_end f bs v d h

  module _ (h : v < length bs) where
    walked_on : {r : ℕ} → f (get_or bs v blank).to d ≡ some r → r < 65536 → Walked f bs c (v + 1) r
    walked_on {r} e l = record { left = w.left ∙ scans_met f bs v d r h e; small = l }

    walked_off : f (get_or bs v blank).to d ≡ none → scans f bs c ≡ none
    walked_off e = w.left ∙ scans_none f bs v d h e

-- ---- the branches of node i
pub walked_all : {s : List ℕ} {i c v d : ℕ} → Walked (further s i) (node_of s i).branches c v d → width s i ≤ v → VisitsAll s i c (Some d)
walked_all {s} {i} w h = record { visits = walked_end w (omega (arith, branches_length s i)) }

module _ {s : List ℕ} (o : Downward s) (i v : ℕ) (h : i < count s) (hv : v < width s i) where
  lower : Below s i (feature s i + 1) (branch s i v)
  lower = (o.lower i h).lower v hv

  -- a branch lies below the nodes, and before the node that has it
  pub branch_below : {w : ℕ} → w ≡ branch s i v → (Below s (count s) 0 w) × (w < 65536 + i)
  branch_below {w} e = (
    subst (Below s (count s) 0) (sym e) (record { flag = lower.flag; earlier = λ q. omega (arith, lower.earlier q); higher = λ q. omega arith }),
    rw e (go (dec_lt (branch s i v) 65536)),
  )
    where
      go : Dec (branch s i v < 65536) → branch s i v < 65536 + i
      go (yes l) = omega arith
      go (no l) = omega (arith, lower.earlier (omega arith))

  module _ {c d w : ℕ} (k : Walked (further s i) (node_of s i).branches c v d) (e : w ≡ branch s i v) where
    next : {r : rattle.Option ℕ} → Visits s w d r → further s i (get_or (node_of s i).branches v blank).to d ≡ told r
    next x =
        ap (λ (b : Branch). further s i b.to d) (branches_at s i v hv)
        ∙ ap (λ (y : ℕ). further s i (branch_of y).to d) (sym e)
        ∙ x.visits (suc (feature s i))
        (subst (λ (y : ℕ). Ok (nodes_of s) (suc (feature s i)) (branch_of y)) (sym e)
        (subst (λ (f : ℕ). Ok (nodes_of s) f (branch_of (branch s i v))) (add-one (feature s i)) (below_ok s i (feature s i + 1) (branch s i v) (omega arith) lower)))

    pub walked_more : {r : ℕ} → Visits s w d (Some r) → Walked (further s i) (node_of s i).branches c (v + 1) r
    walked_more x = walked_on k (omega (arith, branches_length s i)) (next x) x.small

    pub walked_lost : Visits s w d None → VisitsAll s i c None
    walked_lost x = record { visits = walked_off k (omega (arith, branches_length s i)) (next x) }

-- ---- the roots
-- the walk from the roots in turn, d nodes done before root r
abbrev pub Rounds : List ℕ → ℕ → ℕ → Type 0
Rounds s r d = Walked (scan (nodes_of s) 0 (sizes_of s)) (roots_of rule_frame s) 0 r d

module _ {s : List ℕ} {n : ℕ} (l : Lays rule_frame s n 0) where
  module _ (q : Rooted s n) (r : ℕ) (h : r < n) {w : ℕ} (e : w ≡ word s (root_spot rule_frame s r)) where
    pub root_below : Below s (count s) 0 w
    root_below = subst (Below s (count s) 0) (sym e) (q.rooted r h)

    module _ {d : ℕ} (k : Rounds s r d) where
      round : {x : rattle.Option ℕ} → Visits s w d x → scan (nodes_of s) 0 (sizes_of s) (get_or (roots_of rule_frame s) r blank).to d ≡ told x
      round y =
          ap (λ (b : Branch). scan (nodes_of s) 0 (sizes_of s) b.to d) (roots_at rule_frame s r (omega (arith, l.tops)) ∙ ap branch_of (sym e))
          ∙ y.visits 0 (below_ok s (count s) 0 w (omega arith) root_below)

      pub rounds_more : {x : ℕ} → Visits s w d (Some x) → Rounds s (r + 1) x
      rounds_more y = walked_on k (omega (arith, roots_length rule_frame s, l.tops)) (round y) y.small

      pub rounds_lost : Visits s w d None → VisitsRoots s None
      rounds_lost y = record { visits = walked_off k (omega (arith, roots_length rule_frame s, l.tops)) (round y) }

  -- after the last root
  pub rounds_all : {r d : ℕ} → Rounds s r d → n ≤ r → VisitsRoots s (Some d)
  rounds_all k h = record { visits = walked_end k (omega (arith, roots_length rule_frame s, l.tops)) }
