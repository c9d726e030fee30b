-- The diagram that stands in a rule sheet's bytes: its nodes by index, its words and branches. Assumes nothing.
use mathlib.Core.Path.{◌≡◌, sym, ap, subst, ◌∙◌}
use mathlib.Core.List.{List}
use Prim.Native.Nat.{ℕ, ◌+◌, ◌-◌, ◌≤◌, ◌<◌}
use native.Mathlib.Nat.{le_refl}
use native.Mathlib.Decide.{dec_lt}
use native.Mathlib.Omega.{arith}
use lib.ListN.{length, get_or}
use Rattle.theory.specs.Diagrams as D
use Rattle.theory.specs.Diagrams.{Target, at, blank}
use Rattle.theory.specs.WellFormed.{Ok, Under}
use Rattle.theory.specs.Rules.{rules, Branch, node}
use Rattle.theory.proofs.Bounded.{Bounded, Bounds}
use Rattle.theory.proofs.WellFormed.{under_weaken}
use Rattle.sheet_bytes.specs.Frame as F
use Rattle.sheet_bytes.specs.Frame.{Stands}
use Rattle.sheet_bytes.specs.RuleFrame.{rule_frame}
use Rattle.sheet_bytes.proofs.Framing as G
pub use Rattle.sheet_bytes.proofs.RuleHand.{branch_phrase, branch_node}
use Rattle.promises.specs.Sheet.{triple as word, sheet_count as count, sheet_feature as feature, sheet_width as width, sheet_branch as branch}
use Rattle.promises.specs.Sheet.{SheetSits as Below, sheet_node as node_of, sheet_nodes as nodes_of}
use Rattle.promises.specs.RuleWords.{decode as branch_of}

-- ---- the nodes by index
module _ (s : List ℕ) where
  pub nodes_length : length (nodes_of s) ≡ count s
  unfolding F.nodes_of nodes_of F.node_of node_of
  nodes_length = G.nodes_length rule_frame s

  pub nodes_at : (i : ℕ) → i < count s → at (nodes_of s) i ≡ node_of s i
  unfolding F.nodes_of nodes_of F.node_of node_of
  nodes_at = G.nodes_at rule_frame s

  pub feature_at : (i : ℕ) → i < count s → (at (nodes_of s) i).feature ≡ feature s i
  unfolding F.nodes_of nodes_of F.node_of node_of
  feature_at = G.feature_at rule_frame s

  pub branches_length : (i : ℕ) → length (node_of s i).branches ≡ width s i
  unfolding F.node_of node_of
  branches_length = G.branches_length rule_frame s

  pub branches_at : (i v : ℕ) → v < width s i → get_or (node_of s i).branches v blank ≡ branch_of (branch s i v)
  unfolding F.node_of node_of
  branches_at = G.branches_at rule_frame s

-- ---- a branch as a word
unfoldable code : Target rules → ℕ
code (D.leaf p) = p
code (D.node i) = 65536 + i

code_of : (w : ℕ) → code (branch_of w).to ≡ w
unfolding code
code_of w = go (dec_lt w 65536)
  where
    go : Dec (w < 65536) → code (branch_of w).to ≡ w
    go (yes h) = ap (λ (b : Branch). code b.to) (branch_phrase w h)
    go (no h) = ap (λ (b : Branch). code b.to) (branch_node w (omega arith)) ∙ (let e : 65536 + (w - 65536) ≡ w = omega arith in e)

pub word_same : (w x : ℕ) → branch_of w ≡ branch_of x → w ≡ x
word_same w x e = sym (code_of w) ∙ ap (λ (b : Branch). code b.to) e ∙ code_of x

-- every word is a small phrase or a node
pub word_bounded : (w : ℕ) → Bounded 65536 (branch_of w).to
word_bounded w = go (dec_lt w 65536)
  where
    go : Dec (w < 65536) → Bounded 65536 (branch_of w).to
    go (yes h) = rw (branch_phrase w h) h
    go (no h) = let e : branch_of w ≡ node (w - 65536) = branch_node w (omega arith) in rw e tt

pub nodes_bounded : (s : List ℕ) → Bounds 65536 (nodes_of s)
unfolding F.nodes_of nodes_of F.node_of node_of
nodes_bounded s =
    record { node = λ i. record { branch = λ v. G.branches_all rule_frame s (λ i b. Bounded 65536 b.to) (λ i. omega arith) (λ i v h l. word_bounded (branch s i v)) i v } }

-- ---- a word that lies below a node says a branch that may stand there, and the other way round
module _ (s : List ℕ) (m k w : ℕ) (h : m ≤ count s) where
  below_under : Below s m k w → Under (nodes_of s) m k (branch_of w).to
  below_under b = go (dec_lt w 65536)
    where
      go : Dec (w < 65536) → Under (nodes_of s) m k (branch_of w).to
      go (yes l) = rw (branch_phrase w l) tt
      go (no l) =
          let e : branch_of w ≡ node (w - 65536) = branch_node w (omega arith) in
          let j = b.earlier (omega arith) in
          let u : Under (nodes_of s) m k (node (w - 65536)).to = (j, omega (arith, feature_at s (w - 65536) (omega arith), b.higher (omega arith))) in
          rw e u

  pub below_ok : Below s m k w → Ok (nodes_of s) k (branch_of w)
  below_ok b = under_weaken (nodes_of s) m (length (nodes_of s)) k k (branch_of w).to (omega (arith, nodes_length s)) (le_refl _) (below_under b)

module _ (s : List ℕ) (m k p : ℕ) (h : m ≤ count s) where
  pub below_stands : p + 3 ≤ length s → Below s m k (word s p) → Stands rule_frame s m k p
  unfolding F.nodes_of nodes_of F.node_of node_of
  below_stands l b = record { fine = record { long = l; flag = b.flag }; under = below_under s m k (word s p) h b }

  pub stands_below : Stands rule_frame s m k p → Below s m k (word s p)
  unfolding F.nodes_of nodes_of F.node_of node_of
  stands_below x = record { flag = x.fine.flag; earlier = λ l. (to l).0; higher = λ l. omega (arith, to l, feature_at s (word s p - 65536) (omega (arith, to l))) }
    where
      to : 65536 ≤ word s p → (word s p - 65536 < m) × (k ≤ (at (nodes_of s) (word s p - 65536)).feature)
      to l = subst (λ (b : Branch). Under (nodes_of s) m k b.to) (branch_node (word s p) l) x.under

-- a word that lies below, under other names
pub same_below : {s : List ℕ} {i j k l w x : ℕ} → i ≡ j → k ≡ l → w ≡ x → Below s i k w → Below s j l x
same_below {s} {i} {j} {k} {l} {w} {x} e f q b = subst (λ (n : ℕ). Below s n l x) e (subst (λ (n : ℕ). Below s i n x) f (subst (Below s i k) q b))
