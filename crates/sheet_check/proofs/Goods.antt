-- Good bytes are the lawful and canonical bytes of the rule frame, of edition 1, with one root, nothing after it and at most 4,096 nodes. Assumes nothing.
use mathlib.Core.Path.{◌≡◌, sym, ap, subst, ◌∙◌}
use mathlib.Core.List.{List, [], ◌∷◌}
use Prim.Native.Nat.{ℕ, ◌+◌, ◌*◌, ◌≤◌, ◌<◌}
use native.Mathlib.Nat.{add-zero}
use native.Mathlib.Omega.{arith}
use Rattle.theory.specs.WellFormed.{WellFormed}
use Rattle.theory.specs.Walk.{scan, scans}
use Rattle.theory.specs.Rules.{Branch}
use Rattle.theory.proofs.Scanning.{scans_one}
use Rattle.sheet_bytes.specs.Frame as F
use Rattle.sheet_bytes.specs.Frame.{Lays, Lawful, Canonical, heads, root, roots_of}
use Rattle.sheet_bytes.specs.RuleFrame.{rule_frame}
use Rattle.sheet_bytes.specs.Bytes.{Placed, Spans}
use Rattle.sheet_bytes.proofs.Sections.{Bytes}
use Rattle.sheet_bytes.proofs.Forms.{lawful_tidy}
use Rattle.sheet_bytes.proofs.Places.{opens}
use Rattle.sheet_check.specs.Diagram.{Downward, Rooted}
use Rattle.sheet_check.proofs.Wording.{words_lawful, lawful_downward, lawful_rooted, words_canonical, canonical_reduced, canonical_turn, one_word}
use Rattle.promises.specs.Sheet.{byte, pair, triple as word, row, sheet_sizes as sizes_of, sheet_count as count, nodes_end as end, sheet_root as top}
use Rattle.promises.specs.Sheet.{Begins as Head, Lies as Lie, SheetSits as Below, sheet_node as node_of, sheet_nodes as nodes_of, InOrder, GoodSheet as Good}
use Rattle.promises.specs.RuleWords.{decode as branch_of}

-- a pair that is 1
one_back : (s : List ℕ) (p : ℕ) → byte s p ≡ 0 → byte s (p + 1) ≡ 1 → pair s p ≡ 1
unfolding pair
one_back s p a b = omega arith

one_at : (s : List ℕ) (p : ℕ) → pair s p ≡ 1 → (byte s p ≡ 0) × (byte s (p + 1) ≡ 1)
unfolding pair
one_at s p e = (omega arith, omega arith)

-- the one root
pub roots_one : (s : List ℕ) → heads rule_frame s ≡ 1 → roots_of rule_frame s ≡ branch_of (top s) ∷ []
unfolding roots_of
roots_one s e =
    ap (λ (n : ℕ). row 0 n (root rule_frame s)) e
    ∙ ap (λ (p : ℕ). let l : List Branch = branch_of (word s p) ∷ [] in l) (add-zero (end s + 2))

order_one : (s : List ℕ) → heads rule_frame s ≡ 1 → scans (scan (nodes_of s) 0 (sizes_of s)) (roots_of rule_frame s) 0 ≡ scan (nodes_of s) 0 (sizes_of s) (branch_of (top s)).to 0
order_one s e = ap (λ (bs : List Branch). scans (scan (nodes_of s) 0 (sizes_of s)) bs 0) (roots_one s e) ∙ scans_one (scan (nodes_of s) 0 (sizes_of s)) (branch_of (top s)) 0

-- THEOREM: good bytes have both forms
module _ {s : List ℕ} (g : Good s) where
  tops : heads rule_frame s ≡ 1
  tops = one_back s (end s) g.ordered.lie.zero g.ordered.lie.one

  pub good_spans : Spans s 1
  good_spans = record { room = g.ordered.lie.room; lays = record { known = g.ordered.lie.known; tops = tops; ends = omega (arith, tops, g.ordered.lie.ends) } }

  pub good_downward : Downward s
  good_downward = record { lower = λ i h. (g.ordered.nodes.each i h).lower }

  sits_top : (r : ℕ) → r < 1 → Below s (count s) 0 (word s (end s + 2 + 3 * r))
  sits_top r h = let e : end s + 2 ≡ end s + 2 + 3 * r = omega arith in subst (λ (p : ℕ). Below s (count s) 0 (word s p)) e g.top

  pub good_form : Lawful rule_frame s 1 0 × Canonical rule_frame s
  unfolding InOrder
  good_form = (
    words_lawful (opens g.ordered.head) good_spans.lays good_downward (record { rooted = sits_top }),
    words_canonical (record { differ = λ i h. (g.ordered.nodes.each i h).differ; once = g.ordered.once }) (record { turn = order_one s tops ∙ g.order }),
  )

  -- their nodes are a diagram
  pub good_wf : WellFormed (sizes_of s) (nodes_of s)
  unfolding F.sizes_of sizes_of F.nodes_of nodes_of F.node_of node_of
  good_wf = (lawful_tidy good_form.0 good_form.1).well

-- THEOREM: and bytes that have them are good
module _ {s : List ℕ} (B : Bytes s) (L : Lawful rule_frame s 1 0) (C : Canonical rule_frame s) (e : byte s 2 ≡ 1) (r : count s ≤ 4096) where
  head : Head s
  unfolding F.sizes_of sizes_of
  head = let z = one_at s 0 L.opens.start in record { zero = z.0; one = z.1; edition = e; long = L.opens.long; list = L.opens.list }

  lie : Lie s
  lie =
      let z = one_at s (end s) L.lays.tops in
      record { room = r; known = L.lays.known; ends = omega (arith, L.lays.tops, L.lays.ends); zero = z.0; one = z.1 }

  pub form_good : Good s
  unfolding InOrder
  form_good =
      let q = canonical_reduced C in
      record {
        bytes = B;
        ordered = record { head = head; lie = lie; nodes = record { each = λ i h. record { lower = (lawful_downward L).lower i h; differ = q.differ i h } }; once = q.once };
        top = subst (Below s (count s) 0) (one_word s) ((lawful_rooted L).rooted 0 (omega arith));
        order = sym (order_one s L.lays.tops) ∙ (canonical_turn C).turn;
      }

-- laid bytes of one root, of both forms and of edition 1 are good
pub good_found : {s at : List ℕ} {n : ℕ} → Placed s at → Lays rule_frame s n 0 → n ≡ 1 → Downward s → Rooted s n → Bytes s → byte s 2 ≡ 1 → Canonical rule_frame s → Good s
good_found {s} d l e w r B i C =
    form_good B (subst (λ (n : ℕ). Lawful rule_frame s n 0) e (words_lawful d.opens l w r)) C i d.room
