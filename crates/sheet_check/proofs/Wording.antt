-- Lawful and canonical form, words compared, are those of the frame of rule sheets. Assumes nothing.
use mathlib.Core.Path.{◌≡◌, refl, sym, ap, subst}
use mathlib.Core.List.{List}
use Prim.Native.Nat.{ℕ, suc, ◌+◌, ◌≤◌}
use native.Mathlib.Nat.{add-zero}
use native.Mathlib.Numerals.{add-one}
use native.Mathlib.Omega.{arith}
use lib.ListN.{length}
use Rattle.sheet_bytes.specs.Frame as F
use Rattle.sheet_bytes.specs.Frame.{Opens, Lays, Lawful, Canonical, root_spot, spot_of}
use Rattle.sheet_bytes.specs.RuleFrame.{rule_frame}
use Rattle.sheet_bytes.proofs.Framing.{node_same, same_node}
use Rattle.sheet_bytes.proofs.Opening.{node_ends, root_inside}
use Rattle.sheet_check.specs.Diagram.{Downward, Rooted, Reduced, InTurn}
use Rattle.sheet_check.proofs.Diagrams.{word_same, below_stands, stands_below}
use Rattle.promises.specs.Sheet.{triple as word, sheet_sizes as sizes_of, sheet_count as count, sheet_feature as feature, sheet_branch as branch, nodes_end as end, sheet_root as root}
use Rattle.promises.specs.Sheet.{SheetSits as Below, sheet_node as node_of, sheet_nodes as nodes_of}
use Rattle.promises.specs.RuleWords.{decode as branch_of}

-- ---- lawful form
pub words_lawful : {s : List ℕ} {n : ℕ} → Opens rule_frame s → Lays rule_frame s n 0 → Downward s → Rooted s n → Lawful rule_frame s n 0
words_lawful {s} {n} o l d q =
    record {
      opens = o;
      lays = l;
      nodes = λ i h. record {
        lower = λ v w. below_stands s i (suc (feature s i)) (spot_of rule_frame s i v) (omega arith) (omega (arith, node_ends s long i h))
            (subst (λ (k : ℕ). Below s i k (branch s i v)) (add-one (feature s i)) ((d.lower i h).lower v w));
      };
      roots = λ r h. below_stands s (count s) 0 (root_spot rule_frame s r) (omega arith) (root_inside l r h) (q.rooted r h);
    }
  where
    long : end s + 2 ≤ length s
    long = omega (arith, l.ends)

module _ {s : List ℕ} {n : ℕ} (w : Lawful rule_frame s n 0) where
  pub lawful_downward : Downward s
  lawful_downward = record {
    lower = λ i h. record {
      lower = λ v l. subst (λ (k : ℕ). Below s i k (branch s i v)) (sym (add-one (feature s i)))
          (stands_below s i (suc (feature s i)) (spot_of rule_frame s i v) (omega arith) ((w.nodes i h).lower v l));
    };
  }

  pub lawful_rooted : Rooted s n
  lawful_rooted = record { rooted = λ r h. stands_below s (count s) 0 (root_spot rule_frame s r) (omega arith) (w.roots r h) }

-- ---- canonical form
pub words_canonical : {s : List ℕ} → Reduced s → InTurn s → Canonical rule_frame s
unfolding F.sizes_of sizes_of F.nodes_of nodes_of F.node_of node_of
words_canonical {s} d t =
    record {
      differ = λ i h a. d.differ i h (record { alike = λ v l. word_same (branch s i v) (branch s i 0) (a.alike v l) });
      zeroed = λ i h. refl;
      once = λ i j l h e.
          let q = node_same rule_frame s i j e in
          (d.once.once j h).new i l (record { feature = q.0; each = λ v x. word_same (branch s i v) (branch s j v) (q.1 v x) });
      order = t.turn;
    }

module _ {s : List ℕ} (c : Canonical rule_frame s) where
  pub canonical_reduced : Reduced s
  canonical_reduced =
      record {
        differ = λ i h a. c.differ i h (record { alike = λ v l. ap branch_of (a.alike v l) });
        once = record { once = λ j h. record { new = λ i l e. c.once i j l h (same_node rule_frame s i j e.feature (λ v x. ap branch_of (e.each v x))) } };
      }

  pub canonical_turn : InTurn s
  unfolding F.sizes_of sizes_of F.nodes_of nodes_of F.node_of node_of
  canonical_turn = record { turn = c.order }

-- the first root is the root
pub one_word : (s : List ℕ) → word s (root_spot rule_frame s 0) ≡ root s
one_word s = ap (word s) (add-zero (end s + 2))
