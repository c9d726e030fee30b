-- The numbers of a rule's sheet are bytes and good, and say that rule. Assumes nothing.
use mathlib.Core.Path.{◌≡◌, refl, sym, ap, ◌∙◌}
use mathlib.Core.List.{List, [], ◌∷◌, append-nil, head-eq_of_cons-eq}
use Prim.Native.Nat.{ℕ, zero, suc, ◌≤◌, ◌<◌}
use native.Mathlib.Omega.{arith}
use lib.ListN.{length, get_or, drop}
use lib.Seq.{get_or-take, get_or-drop}
use Rattle.theory.specs.Settings.{Pos, Valid}
use Rattle.theory.specs.Diagrams as D
use Rattle.theory.specs.Diagrams.{Target, at, blank, value}
use Rattle.theory.specs.WellFormed.{Under}
use Rattle.theory.specs.Build.{build}
use Rattle.theory.specs.Walk.{Tidy}
use Rattle.theory.specs.Rules.{rules, Branch, Node, Rule}
use Rattle.theory.proofs.Ranges.{features_pos}
use Rattle.theory.proofs.WellFormed.{wf_empty}
use Rattle.theory.proofs.Meaning.{build_right}
use Rattle.theory.proofs.Rests.{nodes_tally}
use Rattle.theory.proofs.Ordering.{table_is_tidy}
use Rattle.theory.proofs.Bounded.{Bounded, Result, build_bounded, empty_bounded}
use Rattle.sheet_bytes.specs.Sheet.{sheet_of, IsSheet}
use Rattle.sheet_bytes.specs.Frame as F
use Rattle.sheet_bytes.specs.RuleFrame.{SmallTarget, rule_frame}
use Rattle.sheet_bytes.proofs.Sections.{Bytes, bytes_none, bytes_more}
use Rattle.sheet_bytes.proofs.Drawing.{Drawn, first_read, sizes_read, nodes_read, roots_read, drawn_lawful, drawn_canonical, drawn_bytes}
use Rattle.sheet_bytes.proofs.RuleHand.{rule_fair, rule_regular}
use Rattle.sheet_check.proofs.Diagrams.{nodes_length}
use Rattle.sheet_check.proofs.Goods.{roots_one, form_good}
use Rattle.promises.specs.Sheet.{byte, sheet_sizes as sizes_of, sheet_root as root, sheet_node as node_of, sheet_nodes as nodes_of, sheet_rule as rule_of, GoodSheet as Good}
use Rattle.promises.specs.RuleWords.{decode as branch_of}

-- a branch that may stand among at most 4,096 nodes has three bytes
small : (N : List Node) (m k : ℕ) (t : Target rules) → m ≤ 4096 → Bounded 65536 t → Under N m k t → SmallTarget t
small N m k (D.leaf p) l h u = h
small N m k (D.node j) l h u = omega (arith, u.0)

module _ {S : List ℕ} {g : Rule} {s : List ℕ} (x : IsSheet S g s) where
  pos : Pos S
  pos = features_pos S x.writable.list

  abbrev N : List Node
  N = (build 0 S g []).1

  abbrev b : Branch
  b = (build 0 S g []).0

  bounded : Result 65536 (build 0 S g [])
  bounded = build_bounded 65536 (omega arith) 0 S g x.writable.numbers [] (empty_bounded 65536 (omega arith))

  tidy : Tidy S (b ∷ []) N
  tidy = table_is_tidy S pos (g ∷ [])

  room : length N ≤ 4096
  room = omega (arith, nodes_tally S pos (g ∷ []), x.writable.rests)

  drawn : Drawn rule_frame (1 ∷ []) S N (b ∷ []) [] s
  unfolding sheet_of
  drawn =
      record {
        bytes = append-nil _ ∙ x.bytes;
        first = refl;
        list = x.writable.list;
        tidy = tidy;
        small = λ i h v l. small N i (suc (at N i).feature) (get_or (at N i).branches v blank).to (omega (arith, room)) ((bounded.list.node i).branch v) ((tidy.well.fits i h).lower v);
        roots_small = one;
      }
    where
      one : (v : ℕ) → v < 1 → SmallTarget (get_or (b ∷ []) v blank).to
      one zero l = small N (length N) 0 b.to room bounded.root tidy.roots_ok.0
      one (suc v) l = absurd (omega arith)

  bytes : Bytes s
  bytes = drawn_bytes rule_fair drawn (omega arith) (omega (arith, room)) (omega arith) (bytes_more 1 [] (omega arith) bytes_none) bytes_none

  pub sheet_sizes_lem : sizes_of s ≡ S
  unfolding F.sizes_of sizes_of
  sheet_sizes_lem = sizes_read rule_regular drawn

  pub sheet_nodes_lem : nodes_of s ≡ (build 0 S g []).1
  unfolding F.nodes_of nodes_of F.node_of node_of
  sheet_nodes_lem = nodes_read rule_regular drawn

  edition : byte s 2 ≡ 1
  edition = sym (get_or-drop 2 s 0 0) ∙ sym (get_or-take 1 (drop 2 s) 0 0 (omega arith)) ∙ ap (λ (l : List ℕ). get_or l 0 0) (first_read rule_regular drawn)

  pub sheet_good : Good s
  sheet_good = form_good bytes (drawn_lawful rule_regular drawn bytes) (drawn_canonical rule_regular drawn) edition (omega (arith, nodes_length s, ap length sheet_nodes_lem, room))

  pub sheet_root_lem : branch_of (root s) ≡ (build 0 S g []).0
  sheet_root_lem = head-eq_of_cons-eq (sym (roots_one s (drawn_lawful rule_regular drawn bytes).lays.tops) ∙ roots_read rule_regular drawn)

  -- what the bytes say at a setting is the rule
  pub sheet_says : (t : List ℕ) → Valid S t → rule_of s t ≡ g t
  sheet_says t v =
      ap (λ (M : List Node). value M 0 (branch_of (root s)) t) sheet_nodes_lem
      ∙ ap (λ (d : Branch). value (build 0 S g []).1 0 d t) sheet_root_lem
      ∙ (build_right S 0 S refl g [] (wf_empty S)).mean.says t v
