-- Good bytes are the sheet of the rule that they say. Assumes nothing.
use mathlib.Core.Path.{◌≡◌, sym, ap, subst, ◌∙◌}
use mathlib.Core.List.{List, [], ◌∷◌, ◌++◌, append-nil, head-eq_of_cons-eq}
use Prim.Native.Nat.{ℕ}
use native.Mathlib.Omega.{arith}
use lib.ListN.{length, take, drop, drop_of_length-le}
use Rattle.theory.specs.Settings.{Pos}
use Rattle.theory.specs.Build.{build, table}
use Rattle.theory.specs.Walk.{Tidy}
use Rattle.theory.specs.Rules.{Branch, Node}
use Rattle.theory.proofs.Ranges.{features_pos}
use Rattle.theory.proofs.Rests.{nodes_tally}
use Rattle.theory.proofs.Ordering.{tidy_is_table}
use Rattle.theory.proofs.Bounded.{value_bounded}
use Rattle.sheet_bytes.specs.Sections.{sheet_byte_list}
use Rattle.sheet_bytes.specs.Sheet.{branch_bytes, sheet_of, Writable, IsSheet}
use Rattle.sheet_bytes.specs.Frame as F
use Rattle.sheet_bytes.specs.Frame.{Lawful, roots_of, after}
use Rattle.sheet_bytes.specs.RuleFrame.{rule_frame}
use Rattle.sheet_bytes.proofs.Sections.{cut}
use Rattle.sheet_bytes.proofs.Forms.{lawful_tidy}
use Rattle.sheet_bytes.proofs.Framed.{lawful_back}
use Rattle.sheet_bytes.proofs.RuleHand.{rule_regular}
use Rattle.sheet_check.proofs.Diagrams.{nodes_length, word_bounded, nodes_bounded}
use Rattle.sheet_check.proofs.Goods.{roots_one, good_form}
use Rattle.promises.specs.Sheet.{sheet_sizes as sizes_of, sheet_root as root, sheet_node as node_of, sheet_nodes as nodes_of, sheet_rule as rule_of, GoodSheet as Good}
use Rattle.promises.specs.RuleWords.{decode as branch_of}

module _ {s : List ℕ} (g : Good s) where
  L : Lawful rule_frame s 1 0
  L = (good_form g).0

  one : roots_of rule_frame s ≡ branch_of (root s) ∷ []
  one = roots_one s L.lays.tops

  -- ---- bytes written again
  edition : take 1 (drop 2 s) ≡ 1 ∷ []
  edition = ap (take 1) (cut s 2 (omega (arith, g.ordered.head.long))) ∙ ap (λ (x : ℕ). let l : List ℕ = x ∷ [] in l) g.ordered.head.edition

  sheet_back : sheet_byte_list branch_bytes (1 ∷ []) (sizes_of s) (nodes_of s) (branch_of (root s) ∷ []) ≡ s
  unfolding F.sizes_of sizes_of F.nodes_of nodes_of F.node_of node_of
  sheet_back = sym
      (lawful_back rule_regular g.bytes L
      ∙ (λ i. sheet_byte_list branch_bytes (edition i) (sizes_of s) (nodes_of s) (one i) ++ drop_of_length-le s {i = after rule_frame s} (omega (arith, L.lays.ends)) i)
      ∙ append-nil _)

  -- ---- a tidy diagram
  pos : Pos (sizes_of s)
  pos = features_pos (sizes_of s) g.ordered.head.list

  tidy : Tidy (sizes_of s) (branch_of (root s) ∷ []) (nodes_of s)
  unfolding F.sizes_of sizes_of F.nodes_of nodes_of F.node_of node_of
  tidy = subst (λ (bs : List Branch). Tidy (sizes_of s) bs (nodes_of s)) one (lawful_tidy L (good_form g).1)

  builds : table (sizes_of s) (rule_of s ∷ []) ≡ (branch_of (root s) ∷ [], nodes_of s)
  builds = tidy_is_table (sizes_of s) pos (branch_of (root s) ∷ []) (nodes_of s) tidy

  build_root : (build 0 (sizes_of s) (rule_of s) []).0 ≡ branch_of (root s)
  build_root = head-eq_of_cons-eq (ap (λ (q : List Branch × List Node). q.0) builds)

  pub build_nodes : (build 0 (sizes_of s) (rule_of s) []).1 ≡ nodes_of s
  build_nodes = ap (λ (q : List Branch × List Node). q.1) builds

  -- the rule that they say has a sheet
  pub good_writable : Writable (sizes_of s) (rule_of s)
  good_writable =
      record {
        list = g.ordered.head.list;
        numbers = λ t v. value_bounded 65536 (omega arith) (nodes_of s) (nodes_bounded s) 0 (branch_of (root s)) t (word_bounded (root s));
        rests = omega (arith, nodes_tally (sizes_of s) pos (rule_of s ∷ []), ap length build_nodes, nodes_length s, g.ordered.lie.room);
      }

  -- THEOREM: good bytes are the sheet of the rule that they say
  pub good_sheet : IsSheet (sizes_of s) (rule_of s) s
  unfolding sheet_of
  good_sheet =
      record {
        writable = good_writable;
        bytes = (λ i. sheet_byte_list branch_bytes (1 ∷ []) (sizes_of s) (build_nodes i) (build_root i ∷ [])) ∙ sheet_back;
      }
