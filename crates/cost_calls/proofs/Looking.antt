-- The way from a root to the end, by the words that the code reads, with what its branches add. Assumes nothing.
use mathlib.Core.Path.{◌≡◌, sym, ap, subst}
use mathlib.Core.List.{List, ◌++◌}
use Prim.Native.Nat.{ℕ, suc, ◌+◌, ◌-◌, ◌<◌}
use native.Mathlib.Omega.{arith}
use lib.IntN.{◌+ℤ◌}
use lib.ListN.{length, get_or, drop, take}
use Rattle.theory.specs.Settings.{Valid}
use Rattle.theory.specs.Functions.{Amount}
use Rattle.theory.specs.Costs.{costs, amount, to_end, to_node}
use Rattle.theory.specs.Diagrams.{Branch, up, value}
use Rattle.theory.specs.Questions.{asked}
use Rattle.theory.proofs.Lists.{pos_drop}
use Rattle.theory.proofs.Ranges.{valid_fixed}
use Rattle.theory.proofs.Ways as W
use Rattle.theory_costs.proofs.Integers.{fit_more}
use Rattle.theory_costs.proofs.Placing.{adds_fits}
use Rattle.table_calls.proofs.Ways as C
use Rattle.cost_words.specs.Table.{cost_table}
use Rattle.cost_words.proofs.Packing.{target_end, target_node}
use Rattle.table_words.proofs.Reading.{goal_below}
use Rattle.cost_words.proofs.Regular.{regular}
use Rattle.cost_calls.proofs.Sounding.{sound_pos, sound_wf, sound_root}
use Rattle.promises.specs.Integers.{Fit, int}
use Rattle.promises.specs.Range.{Within, add_most, cost_most}
use Rattle.promises.specs.Words.{features, count, sizes, feature, body}
use Rattle.promises.specs.CostWords.{target, cost_branch as branch, goes, added, cost_node_list as nodes, cost_root as root, cost_base as base, cost_of}
use Rattle.promises.specs.CostSound.{CostSound as Sound}

-- the branch b, with what was added before it, stands on the way of the setting s from the root of place p, where n features were asked
abbrev pub OnWay : List ℕ → ℕ → List ℕ → ℕ → Branch costs → Type 0
OnWay w p s n b = W.OnWay (sizes w) (nodes w) (cost_of w p) s n b

module _ (w s : List ℕ) (p : ℕ) (ok : Sound w) (hp : p < 16) (valid : Valid (sizes w) s) where
  pub way_start : (x a : ℕ) → x ≡ root w p → a ≡ base w p → OnWay w p s 0 (branch x a)
  way_start x a ex ea = rw (ex, ea) (W.way_start (sizes w) (nodes w) s (branch (root w p) (base w p)) (sound_root ok p hp))

  -- at the end all is added up
  module _ (n x a : ℕ) (e : x ≡ 0) (o : OnWay w p s n (branch x a)) where
    ending : OnWay w p s n (to_end (int a))
    ending = subst (OnWay w p s n) (let ends : branch x a ≡ to_end (int a) = λ i. record { adds = int a; to = target_end x e i } in ends) o

    pub way_end : int a ≡ (cost_of w p s).off
    way_end = ap (λ (y : Amount costs). y.off) (W.way_end (sizes w) (nodes w) (cost_of w p) s valid n (amount (int a)) ending)

    pub way_asked : n ≡ asked (sizes w) (cost_of w p) s
    way_asked = W.way_asked (sizes w) (nodes w) (cost_of w p) s valid n (amount (int a)) ending

  -- what is added up so far is a cost of the place
  sum_fits : (n : ℕ) (b : Branch costs) → OnWay w p s n b → Fit cost_most b.adds
  sum_fits n b (k, o) = adds_fits (sizes w) (nodes w) (sound_wf ok) k (drop k (sizes w)) (pos_drop k (sizes w) (sound_pos ok)) b o.means.ok within
    where
      within : Within cost_most (drop k (sizes w)) (value (nodes w) k b)
      within =
          record {
            fits = λ r x. subst (λ (y : Amount costs). Fit cost_most y.off) (sym (o.means.says r x)) ((ok.ranged.ranged p hp).fits (take k s ++ r) (valid_fixed k (sizes w) s r valid x));
          }

  -- what the code reads: node i of the target word x, its feature k, the setting's value v there
  module _ (n x a i : ℕ) (h : 0 < x) (o : OnWay w p s n (branch x a)) (ei : i ≡ x - 1) where
    here : OnWay w p s n (to_node (int a) i)
    here =
        let there : branch x a ≡ to_node (int a) i = λ j. record { adds = int a; to = target_node x i (let e : x ≡ suc i = omega arith in e) j } in
        subst (OnWay w p s n) there o

    pub read_node : i < count w
    read_node = C.read_node cost_table w (sound_wf ok) (cost_of w p) s valid n (int a) i here

    pub read_room : n < features w
    read_room = C.read_room cost_table w (sound_wf ok) (cost_of w p) s valid n (int a) i here

    module _ (k : ℕ) (ek : k ≡ feature w i) where
      pub read_feature : k < length s
      read_feature = C.read_feature cost_table w (sound_wf ok) (cost_of w p) s valid n (int a) i here k ek

      module _ (v : ℕ) (ev : v ≡ get_or s k 0) where
        pub read_value : v < 8
        read_value =
            omega (
              arith,
              C.read_value cost_table w (sound_wf ok) (cost_of w p) s valid n (int a) i here k ek v ev,
              (ok.header.fit.large k (C.read_known cost_table w (sound_wf ok) (cost_of w p) s valid n (int a) i here k ek)).1,
            )

        abbrev g : ℕ
        g = goes (body w i) v

        abbrev d : ℕ
        d = added (body w i) v

        pub read_less : g < x
        read_less = omega (arith, goal_below regular (nodes w) i (suc k) g (C.read_under cost_table w (sound_wf ok) (cost_of w p) s valid n (int a) i here k ek v ev))

        way_step : OnWay w p s (n + 1) (up (int a) (branch g d))
        way_step = C.read_on cost_table w (sound_wf ok) (cost_of w p) s valid n (int a) i here k ek v ev

        -- the sum so far lies in range
        pub read_fits : Fit add_most (int a +ℤ int d)
        read_fits = fit_more cost_most add_most (int a +ℤ int d) (omega arith) (sum_fits (n + 1) (up (int a) (branch g d)) way_step)

        -- the next target word, and the word of the sum
        pub read_on : (y c : ℕ) → y ≡ g → int c ≡ int a +ℤ int d → OnWay w p s (n + 1) (branch y c)
        read_on y c ey ec = subst (OnWay w p s (n + 1)) (λ j. record { adds = sym ec j; to = target (sym ey j) }) way_step
