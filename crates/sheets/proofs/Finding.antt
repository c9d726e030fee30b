-- The way of a setting through a good sheet's bytes, for what the code reads: a branch word, its node's feature, the value there, the next word. Assumes nothing.
use mathlib.Core.Path.{◌≡◌, sym, ap, subst, ◌∙◌}
use mathlib.Core.List.{List}
use Prim.Native.Nat.{ℕ, ◌+◌, ◌-◌, ◌≤◌, ◌<◌}
use native.Mathlib.Decide.{dec_lt}
use native.Mathlib.Omega.{arith}
use lib.ListN.{length, get_or}
use Rattle.theory.specs.Settings.{Valid}
use Rattle.theory.specs.Diagrams.{at, blank}
use Rattle.theory.specs.Rules.{Node, Phrase, node, phrase, says}
use Rattle.theory.specs.WellFormed.{WellFormed}
use Rattle.theory.specs.Questions.{asked}
use Rattle.theory.proofs.Ways.{OnWay, way_start, way_end, way_asked, way_node, way_feature, way_value, way_room, way_on}
use Rattle.sheet_check.proofs.Diagrams.{nodes_length, nodes_at, feature_at, branches_length, branches_at, branch_phrase, branch_node, below_ok}
use Rattle.sheet_check.proofs.Goods.{good_wf}
use Rattle.promises.specs.Sheet.{byte, sheet_sizes as sizes_of, sheet_count as count, sheet_feature as feature, sheet_width as width, sheet_branch as branch, sheet_root as root}
use Rattle.promises.specs.Sheet.{sheet_nodes as nodes_of, sheet_rule as rule_of, GoodSheet as Good}
use Rattle.promises.specs.RuleWords.{decode as branch_of}

-- the branch word b stands on the way of the setting t, where n features were asked
abbrev pub Way : List ℕ → List ℕ → ℕ → ℕ → Type 0
Way s t n b = OnWay (sizes_of s) (nodes_of s) (rule_of s) t n (branch_of b)

module _ {s : List ℕ} (g : Good s) (t : List ℕ) (valid : Valid (sizes_of s) t) where
  pub find_start : (b : ℕ) → b ≡ root s → Way s t 0 b
  find_start b e = rw e (way_start (sizes_of s) (nodes_of s) t (branch_of (root s)) (below_ok s (count s) 0 (root s) (omega arith) g.top))

  -- a phrase is the end of the way
  module _ (n b : ℕ) (h : b < 65536) (o : Way s t n b) where
    ending : OnWay (sizes_of s) (nodes_of s) (rule_of s) t n (phrase b)
    ending = subst (OnWay (sizes_of s) (nodes_of s) (rule_of s) t n) (branch_phrase b h) o

    pub find_end : b ≡ (rule_of s t).end
    find_end = ap (λ (x : Phrase). x.end) (way_end (sizes_of s) (nodes_of s) (rule_of s) t valid n (says b) ending)

    pub find_asked : n ≡ asked (sizes_of s) (rule_of s) t
    find_asked = way_asked (sizes_of s) (nodes_of s) (rule_of s) t valid n (says b) ending

  wf : WellFormed (sizes_of s) (nodes_of s)
  wf = good_wf g

  -- a node goes on
  module _ (n b : ℕ) (h : 65536 ≤ b) (o : Way s t n b) where
    abbrev i : ℕ
    i = b - 65536

    here : OnWay (sizes_of s) (nodes_of s) (rule_of s) t n (node i)
    here = subst (OnWay (sizes_of s) (nodes_of s) (rule_of s) t n) (branch_node b h) o

    pub find_node : b - 65536 < count s
    find_node = omega (arith, way_node (sizes_of s) (nodes_of s) (rule_of s) t valid wf n tt i here, nodes_length s)

    pub find_room : n < length (sizes_of s)
    find_room = way_room (sizes_of s) (nodes_of s) (rule_of s) t valid wf n tt i here

    module _ (k : ℕ) (ek : k ≡ feature s (b - 65536)) where
      same_feature : (at (nodes_of s) i).feature ≡ k
      same_feature = feature_at s i find_node ∙ sym ek

      pub find_feature : k < length t
      find_feature = omega (arith, way_feature (sizes_of s) (nodes_of s) (rule_of s) t valid wf n tt i here, same_feature)

      module _ (v : ℕ) (ev : v ≡ byte t k) where
        pub find_value : v < width s (b - 65536)
        find_value =
            omega (
              arith,
              way_value (sizes_of s) (nodes_of s) (rule_of s) t valid wf n tt i here,
              ap (byte t) same_feature,
              ev,
              ap (λ (x : Node). length x.branches) (nodes_at s i find_node),
              branches_length s i,
            )

        module _ (c : ℕ) (ec : c ≡ branch s (b - 65536) v) where
          next_branch : get_or (at (nodes_of s) i).branches v blank ≡ branch_of c
          next_branch = ap (λ (x : Node). get_or x.branches v blank) (nodes_at s i find_node) ∙ branches_at s i v find_value ∙ ap branch_of (sym ec)

          pub find_on : Way s t (n + 1) c
          find_on = way_on (sizes_of s) (nodes_of s) (rule_of s) t valid wf n tt i here k v (branch_of c) same_feature ev next_branch

          pub find_less : c < b
          find_less = go (dec_lt c 65536)
            where
              go : Dec (c < 65536) → c < b
              go (yes l) = omega arith
              go (no l) =
                  let e = ((g.ordered.nodes.each i find_node).lower.lower v find_value).earlier (omega arith) in
                  omega arith
