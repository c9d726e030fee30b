-- The steps of the walk, in turn: what each asks and what it leaves. Assumes nothing.
use mathlib.Core.Path.{◌≡◌, refl, sym, ap, subst, ◌∙◌}
use mathlib.Core.List.{List}
use Prim.Native.Nat.{ℕ, suc, ◌+◌, ◌-◌, ◌≤◌, ◌<◌}
use native.Mathlib.Nat.{le_refl}
use native.Mathlib.Numerals.{add-one}
use native.Mathlib.Omega.{arith}
use lib.ListN.{length, get_or, set}
use Rattle.theory.specs.Diagrams.{at, blank, next}
use Rattle.theory.specs.Functions.{held}
use Rattle.theory.specs.Rules.{Branch, Node, Rule, node, says}
use Rattle.theory.specs.WellFormed.{Mean, Ok}
use Rattle.theory.proofs.Growing.{make_grows}
use Rattle.theory.proofs.Values.{next_here, value_ending, value_next, value_wait}
use Rattle.theory.proofs.WellFormed.{under_weaken}
use Rattle.table_words.specs.Words.{listed, Kept}
use Rattle.table_words.proofs.Filling.{grown_ext}
use Rattle.table_words.proofs.Words.{length_sizes, at_sizes, kept_features, kept_sizes}
use Rattle.rule_words.proofs.Reading.{decode_phrase}
use Rattle.rule_nodes.specs.Nodes.{Holds, Result, Makes, Listed, Filling, built, Good}
use Rattle.std.specs.Prelude.{Option, Some, None}
use Rattle.rule_nodes.proofs.Filling.{gives_eq, result_there, built_there, built_jump, fill_start, fill_more, fill_stop, stop_result, fill_listed, fill_make, result_mean, mean_result}
use Rattle.rule_nodes.proofs.Reading.{lawful, good_small}
use Rattle.sheet_bytes.proofs.Opening.{open_length, open_at}
use Rattle.sheet_bytes.specs.Bytes.{Placed}
use Rattle.sheet_check.proofs.Diagrams.{nodes_length, nodes_at, feature_at, branches_at, branch_node, below_ok}
use Rattle.sheet_check.proofs.Goods.{good_downward}
use Rattle.sheet_check.proofs.Walks.{branch_below}
use Rattle.sheet_reader.specs.Reader.{given, Noted, Asks, Takes}
use Rattle.sheet_reader.proofs.Noting.{noted_none, noted_grown, noted_put}
use Rattle.promises.specs.Words.{features, size, sizes}
use Rattle.promises.specs.RuleWords.{decode, rule_node_list as nodes}
use Rattle.promises.specs.Sheet.{sheet_sizes as sizes_of, sheet_count as count, sheet_feature as feature, sheet_width as width, sheet_branch as branch, sheet_root as root}
use Rattle.promises.specs.Sheet.{sheet_features as sheet-features, SheetSits as Below, sheet_nodes as nodes_of, GoodSheet}

-- what is built from feature 0 on is built from any feature up to which the sheet's branch tests nothing
jump : (w s : List ℕ) (b k : ℕ) → Holds w → k ≤ features w → Ok (nodes_of s) k (decode b) → built w 0 (given s 0 b) ≡ built w k (given s k b)
jump w s b k ok h o =
    built_jump w k (λ j. given s j b) ok h
    (λ j l v y. value_wait (nodes_of s) j (decode b) v y (under_weaken (nodes_of s) (length (nodes_of s)) (length (nodes_of s)) k (suc j) (decode b).to (le_refl _) (omega arith) o))

module _ {w s ps n : List ℕ} {b : ℕ} (gs : GoodSheet s) (d : Placed s ps) (q : Asks w s n b) where
  -- ---- a phrase is the same in the table
  pub takes_phrase : (c : ℕ) → b < 65536 → c ≡ b → Takes w w s n b (Some c)
  takes_phrase c h e =
      let g : Good w 0 b = rw (decode_phrase b h) tt in
      let r : Result w w 0 (given s 0 b) (Some b) =
      result_there w 0 b (given s 0 b) q.holds
      (built_there w 0 b (given s 0 b) q.holds g
      (λ y. rw (decode_phrase b h) (value_ending (nodes w) 0 (says b) y ∙ sym (value_ending (nodes_of s) 0 (says b) y)))) in
      record { result = subst (λ (x : ℕ). Result w w 0 (given s 0 b) (Some x)) (sym e) r; noted = q.noted }

  -- ---- a node
  module _ {i : ℕ} (h : 65536 ≤ b) (ei : i ≡ b - 65536) where
    pub inside : i < count s
    inside = omega (arith, q.below.earlier h)

    pub in_notes : i < 4096
    in_notes = omega (arith, inside, d.room)

    whose : 65536 + i ≡ b
    whose = omega arith

    -- it is known already
    pub takes_known : (c : ℕ) → c ≡ get_or n i 0 → 0 < c → Takes w w s n b (Some (c - 1))
    takes_known c e l =
        let m = q.noted.right i inside (omega arith) in
        let m' : Mean (nodes w) 0 (sizes w) (decode (c - 1)) (given s 0 (65536 + i)) = rw e m in
        record { result = mean_result w 0 (given s 0 b) (c - 1) q.holds (rw whose at m'); noted = q.noted }

    module _ {k : ℕ} (ek : k ≡ feature s i) where
      abbrev g : Rule
      g = given s k b

      same_features : features w ≡ sheet-features s
      same_features = sym (length_sizes w) ∙ ap length q.same ∙ open_length d.opens

      hk : k < features w
      hk = omega (arith, same_features, d.known i inside)

      pub size_here : size w k ≡ width s i
      size_here =
          sym (at_sizes w k hk) ∙ ap (λ (S : List ℕ). get_or S k 0) q.same ∙ ap (λ (j : ℕ). get_or (sizes_of s) j 0) ek
          ∙ open_at d.opens (feature s i) (d.known i inside)

      is : decode b ≡ node i
      is = branch_node b h ∙ ap node (sym ei)

      own : (at (nodes_of s) i).feature ≡ k
      own = feature_at s i inside ∙ sym ek

      ok_here : Ok (nodes_of s) k (decode b)
      ok_here = let o : Ok (nodes_of s) k (node i) = (omega (arith, inside, nodes_length s), omega (arith, own)) in rw is o

      pub loop_start : (l : List ℕ) → length l ≡ 12 → ((u : ℕ) → u < 12 → listed l u ≡ 0) → Filling w w k g 0 l
      loop_start = fill_start w k g q.holds hk

      -- ---- its branches in turn
      module _ {t l n' : List ℕ} {v : ℕ} (fl : Filling w t k g v l) (nt : Noted t s n') where
        ok_t_lem : Holds t
        ok_t_lem = fl.filled.grown.well

        kept : Kept w t
        kept = fl.filled.grown.kept

        features_t : features t ≡ features w
        features_t = kept_features w t kept

        -- the call for branch v
        module _ {c : ℕ} (hv : v < width s i) (ec : c ≡ branch s i v) where
          lower : (Below s (count s) 0 c) × (c < 65536 + i)
          lower = branch_below (good_downward gs) i v inside hv ec

          pub asks_branch : Asks t s n' c
          asks_branch =
              record {
                holds = ok_t_lem;
                same = kept_sizes w t kept q.holds.laid.laid.few ∙ q.same;
                below = lower.0;
                noted = nt;
              }

          -- a branch word lies below that of its node
          pub branch_falls : c < b
          branch_falls = omega (arith, lower.1)

          ok_branch : Ok (nodes_of s) (k + 1) (decode c)
          ok_branch = rw (ec, ek) (below_ok s i (feature s i + 1) (branch s i v) (omega (arith, inside)) ((gs.ordered.nodes.each i inside).lower.lower v hv))

          -- branch v of what the node means is what c means
          same_part : (y : List ℕ) → held v g y ≡ given s (k + 1) c y
          same_part y =
              let e : next (nodes_of s) k (decode b) v ≡ decode c =
              ap (λ (x : Branch). next (nodes_of s) k x v) is ∙ next_here (nodes_of s) k i v tt own ∙ ap (λ (x : Node). get_or x.branches v blank) (nodes_at s i inside)
              ∙ branches_at s i v hv ∙ ap decode (sym ec) in
              value_next (nodes_of s) k (decode b) v y ∙ rw (e, add-one) refl

          module _ {t' n'' : List ℕ} {a : Option ℕ} (y : Takes t t' s n'' c a) where
            part : Result t t' (k + 1) (given s (k + 1) c) a
            part = gives_eq (sym (jump t s c (k + 1) ok_t_lem (omega (arith, features_t, hk)) ok_branch)) y.result

            pub loop_more : {r : ℕ} → a ≡ Some r → Filling w t' k g (v + 1) (set l v r)
            loop_more {r} e = fill_more w k g q.holds hk t t' v r l (given s (k + 1) c) a fl (omega (arith, size_here)) same_part part e

            pub loop_stop : a ≡ None → Takes w t' s n'' b None
            loop_stop e =
                record {
                  result = gives_eq (jump w s b k q.holds (omega (arith, hk)) ok_here)
                      (stop_result w k g q.holds hk t' (fill_stop w k g q.holds hk t t' v l (given s (k + 1) c) a fl (omega (arith, size_here)) same_part part e));
                  noted = y.noted;
                }

        -- ---- the node
        module _ (all : v ≡ width s i) where
          full : Filling w t k g (size w k) l
          full = let z : v ≡ size w k = all ∙ sym size_here in rw z at fl

          pub asks_make : (Holds t) × (k < features t) × (Listed t k l)
          asks_make = (ok_t_lem, omega (arith, features_t, hk), fill_listed w k g q.holds hk t l full)

          pub made : {t' : List ℕ} {z a : Option ℕ} → z ≡ a → Makes t t' k l z → Takes w t' s n' b a
          made {t'} {z} {a} e o =
              let m : Makes t t' k l a = subst (λ (y : Option ℕ). Makes t t' k l y) e o in
              record {
                result = gives_eq (jump w s b k q.holds (omega (arith, hk)) ok_here) (fill_make w k g q.holds hk t t' l a full m);
                noted = noted_grown t t' s n' ok_t_lem (kept_sizes t t' m.grown.kept ok_t_lem.laid.laid.few) (grown_ext lawful t t' _ ok_t_lem m.grown (make_grows k _ _)) nt;
              }

    -- ---- its result is noted
    module _ {t n' : List ℕ} {r : ℕ} (y : Takes w t s n' b (Some r)) where
      meant : Mean (nodes t) 0 (sizes t) (decode r) (given s 0 b)
      meant =
          let e = kept_sizes w t y.result.grown.kept q.holds.laid.laid.few in
          rw e (result_mean w t 0 (given s 0 b) r q.holds y.result)

      pub takes_small : r < 131072
      takes_small = omega (arith, good_small t 0 r meant.ok, y.result.grown.well.laid.laid.within, y.result.grown.well.laid.laid.most)

      pub takes_put : Takes w t s (set n' i (r + 1)) b (Some r)
      takes_put = record { result = y.result; noted = noted_put t s n' i r in_notes y.noted (rw whose meant) }

-- ---- the whole: nothing is noted at first
pub asks_root : (w s ps n : List ℕ) (b : ℕ) → Holds w → GoodSheet s → Placed s ps → sizes w ≡ sizes_of s → b ≡ root s → length n ≡ 4096 → ((i : ℕ) → i < 4096 → get_or n i 0 ≡ 0) → Asks w s n b
asks_root w s ps n b ok gs d e eb l z =
    record { holds = ok; same = e; below = rw eb gs.top; noted = noted_none w s n d.room l z }
