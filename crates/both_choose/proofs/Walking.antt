-- The walk over the two tables: what is chosen from one feature on, one value on, in a later table; its results. Assumes nothing.
use mathlib.Core.Path.{◌≡◌, refl, sym, ap, ap₂, subst, ◌∙◌}
use mathlib.Core.List.{List, ◌∷◌}
use Prim.Native.Nat.{ℕ, zero, suc, ◌+◌, ◌≤◌, ◌<◌}
use native.Mathlib.Numerals.{add-one}
use native.Mathlib.Omega.{arith}
use lib.IntN.{ℤ, pos, ◌+ℤ◌, ◌-ℤ◌, +ℤ_idl}
use lib.ListN.{drop}
use Rattle.theory.specs.Build.{Built, Ext}
use Rattle.theory.specs.Costs.{Cost, costs}
use Rattle.theory.specs.Diagrams.{Branch, Node, meaning, up}
use Rattle.theory.specs.Functions.{held, lift}
use Rattle.theory.specs.Rules.{says}
use Rattle.theory.specs.Settings.{Pos, zeros}
use Rattle.theory.specs.WellFormed.{Ok}
use Rattle.theory.proofs.Canonical.{build_agree}
use Rattle.theory.proofs.Lifting.{build_adds, build_lift}
use Rattle.theory.proofs.Ranges.{zeros_valid}
use Rattle.theory.proofs.WellFormed.{ok_ext}
use Rattle.theory_costs.specs.Narrow.{Placed, Spread}
use Rattle.theory_costs.specs.Relative.{branch_at, onward}
use Rattle.theory_costs.proofs.Choosing.{apart_split}
use Rattle.theory_costs.proofs.Integers.{fit_more}
use Rattle.theory_costs.proofs.Placing.{adds_fits, placed_start, placed_wait, placed_step, placed_fits, placed_ahead, placed_ext}
use Rattle.theory_costs.proofs.Range.{chosen_within}
use Rattle.theory_costs.proofs.Relative.{branch_under}
use Rattle.theory_costs.proofs.Walks.{raised}
use Rattle.table_words.specs.Holding.{built as builtOf}
use Rattle.table_words.proofs.Filling as F
use Rattle.table_words.proofs.Words.{length_sizes, kept_features, kept_sizes}
use Rattle.table_calls.proofs.Lists.{as_long, as_large}
use Rattle.table_notes.specs.Plain.{Resting, plain}
use Rattle.table_notes.proofs.Plain.{plain_of}
use Rattle.rule_lending.specs.Lending.{Lent, lent, Goes, Tops, Number, Says}
use Rattle.rule_lending.proofs.Lending.{number_left, says_means}
use Rattle.cost_words.proofs.Packing.{int_zero}
use Rattle.cost_notes.proofs.Reading.{plain_head}
use Rattle.cost_nodes.specs.Nodes.{Good, Holds, top, Place, built, Result, Filling}
use Rattle.std.specs.Prelude.{Option, None, Some}
use Rattle.cost_words.specs.declared.Arm.{Arm}
use Rattle.cost_nodes.proofs.Reading.{lawful, pos_from, sizes_from}
use Rattle.cost_nodes.proofs.Stepping.{good_small, top_good, top_most, skipped}
use Rattle.cost_nodes.proofs.Filling.{filling_ext, filling_narrow}
use Rattle.both_choose.specs.Choice.{by, Choosable, choice, choice_of, end_of, Choices, Branches, Lowest}
use Rattle.both_choose.proofs.Choices.{by_moves, choice_step, choice_wait, choice_ext, choice_first, choice_second, choice_spread, choice_adds}
use Rattle.promises.specs.Integers.{Fit, int}
use Rattle.promises.specs.CostOperations.{chosen}
use Rattle.promises.specs.Range.{add_most, cost_most}
use Rattle.promises.specs.CostSound.{bare}
use Rattle.promises.specs.Words.{features, size, sizes}
use Rattle.promises.specs.CostWords.{target, cost_branch as branch, cost_node_list as nodes}

-- ---- features that none of the three tests
pub lowest_is : (v w : List ℕ) (b x y m n : ℕ) → ((k : ℕ) → Lent v k b → Tops v k b n) → m ≤ n → m ≤ top w x → m ≤ top w y → Lowest v w b x y m
lowest_is v w b x y m n f h hx hy =
    record {
      rule = λ k p l. record { there = (f k p).there (k + 1) (omega arith) (omega arith); means = λ u s. (f k p).waits k u s (omega arith) (omega arith) };
      first = hx;
      second = hy;
    }

module _ (v w : List ℕ) (b x y m : ℕ) (d : ℤ) (l : Lowest v w b x y m) where
  abbrev C : ℕ → Cost
  C k = choice (lent v k b) (nodes w) k (target x) (target y) d

  module _ (k : ℕ) (h : k < m) (p : Choices v w k b x y d) where
    left : k < features w
    left = omega (arith, top_most w k x p.holds p.first, l.first)

    good_on : (z : ℕ) → Good w k z → m ≤ top w z → Good w (suc k) z
    good_on z g a = top_good w (suc k) z (good_small w k z g) (omega arith)

    one_skip : Choices v w (suc k) b x y d
    one_skip =
        record {
          holds = p.holds;
          alike = p.alike;
          up_to = omega (arith, left);
          rule = rw add-one at (l.rule k p.rule h).there;
          first = good_on x p.first l.first;
          second = good_on y p.second l.second;
          placed =
              placed_wait (nodes w) k (size w k) (drop (suc k) (sizes w)) (omega (arith, p.holds.laid.laid.large k left)) (target x) (target y) d
              (good_on x p.first l.first) (good_on y p.second l.second)
              (subst (λ (ns : List ℕ). Placed cost_most ns (nodes w) k (target x) (target y) d) (sizes_from w k left) p.placed);
          narrow = p.narrow;
        }

    one_built : built w k (C k) ≡ built w (suc k) (C (suc k))
    one_built =
        F.built_skip lawful w k (C k) (C (suc k)) p.holds (omega (arith, length_sizes w, left))
        (λ u a s. choice_wait (lent v k b) (nodes w) k (target x) (target y) d (lent v (suc k) b) u s (good_on x p.first l.first) (good_on y p.second l.second)
        ((l.rule k p.rule h).means u s ∙ rw add-one refl))
        ∙ ap (λ (j : ℕ). built w j (C (suc k))) (add-one k)

  module _ (k : ℕ) (p : Choices v w k b x y d) (h : k < m) where
    pub skip_most : m ≤ features w
    skip_most = omega (arith, top_most w k x p.holds p.first, l.first)

    -- all below m
    passed : Choices v w m b x y d × (built w k (C k) ≡ built w m (C m))
    passed = skipped (λ (j : ℕ). Choices v w j b x y d) (λ (j : ℕ). built w j (C j)) m one_skip one_built k h p

    pub choices_skip : Choices v w m b x y d
    choices_skip = passed.0

    pub choice_skip : (t : List ℕ) (a : Option Arm) → Result w t m (C m) a → Result w t k (C k) a
    choice_skip t a r = F.gives_eq lawful passed.1 r

-- ---- two targets
-- the size of a feature is read off the table with its notes
pub size_is : (w : List ℕ) (k : ℕ) → Holds (plain w) → k < features (plain w) → size (plain w) k ≡ size w k
size_is w k h l = plain_head w (3 + k) (omega (arith, h.laid.laid.few))

module _ (v w : List ℕ) (k b x y : ℕ) (d : ℤ) (p : Choices v w k b x y d) where
  abbrev R : Cost
  R = choice (lent v k b) (nodes w) k (target x) (target y) d

  pub first_place : Place w k x
  first_place = record { holds = p.holds; good = p.first; up_to = p.up_to }

  pub second_place : Place w k y
  second_place = record { holds = p.holds; good = p.second; up_to = p.up_to }

  -- the rule has ended
  pub choice_ends : (m e : ℕ) → Says b m → int e ≡ d → (a : Arm) → a ≡ end_of m x y e → Result w w k R (Some a)
  unfolding builtOf
  choice_ends m e h q a r = subst (λ (o : Arm). Result w w k R (Some o)) (sym r) (go m (says_means h v k))
    where
      go : (n : ℕ) → ((s : List ℕ) → lent v k b s ≡ says n) → Result w w k R (Some (end_of n x y e))
      go zero f =
          F.result_there lawful w k (branch y e) R p.holds
          (choice_second (lent v k b) (nodes w) k (target x) (target y) d (sizes w) (drop k (sizes w)) refl (pos_from w k p.holds) p.holds.wf f p.second
          ∙ ap (λ (z : ℤ). let o : Built costs = (record { adds = z; to = target y }, nodes w) in o) (sym q))
      go (suc n) f =
          F.result_there lawful w k (branch x 2147483648) R p.holds
          (choice_first (lent v k b) (nodes w) k (target x) (target y) d (sizes w) (drop k (sizes w)) refl (pos_from w k p.holds) p.holds.wf n f p.first
          ∙ ap (λ (z : ℤ). let o : Built costs = (record { adds = z; to = target x }, nodes w) in o) (sym int_zero))

  -- it has not: there is a feature left
  pub still_left : (Number b → ⊥) → k < features w
  still_left n = omega (arith, number_left p.rule n, as_long v w p.alike)

  pub choice_near : Spread add_most (drop k (sizes w)) R
  choice_near = choice_spread (lent v k b) (nodes w) k (target x) (target y) d (drop k (sizes w)) p.placed

  listed : k < features w → Placed cost_most (size w k ∷ drop (suc k) (sizes w)) (nodes w) k (target x) (target y) d
  listed h = subst (λ (ns : List ℕ). Placed cost_most ns (nodes w) k (target x) (target y) d) (sizes_from w k h) p.placed

  -- `branch_at` may be asked
  pub rule_step : (u : ℕ) → k < features w → u < size w k → (k < features v) × (u < size v k)
  rule_step u h l = let f : k < features v = omega (arith, as_long v w p.alike) in (f, omega (arith, as_large v w p.alike k f h))

  -- the branch of the choice at u is the choice of the branches at u, ..
  held_at : (N : List (Node costs)) (u c xa a yb e : ℕ) → Goes v k b u c → branch xa a ≡ branch_at N k (target x) u → branch yb e ≡ branch_at N k (target y) u → (s : List ℕ) →
      choice (lent v k b) N k (target x) (target y) d (u ∷ s) ≡ choice_of (lent v (suc k) c) N (suc k) (branch xa a) (branch yb e) d s
  held_at N u c xa a yb e g ea eb s =
      choice_step (lent v k b) N k (target x) (target y) d (lent v (suc k) c) u (λ r. g.means r ∙ rw add-one refl) s
      ∙ ap₂ (λ (f h : Branch costs). choice_of (lent v (suc k) c) N (suc k) f h d s) (sym ea) (sym eb)

  -- .. read in any later table
  pub choice_held : (t : List ℕ) (u c xa a yb e : ℕ) → Ext (nodes w) (nodes t) → Goes v k b u c → branch xa a ≡ branch_at (nodes t) k (target x) u → branch yb e ≡ branch_at (nodes t) k (target y) u →
      (s : List ℕ) → held u R s ≡ choice_of (lent v (k + 1) c) (nodes t) (k + 1) (branch xa a) (branch yb e) d s
  choice_held t u c xa a yb e m g ea eb s =
      rw add-one
      (sym (choice_ext (lent v k b) (nodes w) k (target x) (target y) d (sizes w) (nodes t) p.holds.wf m p.first p.second (u ∷ s))
      ∙ held_at (nodes t) u c xa a yb e g ea eb s)

  -- one value on
  pub choices_step : (u c xa a yb e : ℕ) → k < features w → u < size w k → Goes v k b u c → branch xa a ≡ branch_at (nodes w) k (target x) u → branch yb e ≡ branch_at (nodes w) k (target y) u →
      Branches v w (k + 1) c xa a yb e d
  unfolding builtOf
  choices_step u c xa a yb e hk hu g ea eb =
      let ns : List ℕ = drop (suc k) (sizes w) in
      let ps : Pos (size w k ∷ ns) = subst Pos (sizes_from w k hk) (pos_from w k p.holds) in
      let pl = listed hk in
      rw add-one
      (record {
        rest = record {
          holds = p.holds;
          alike = p.alike;
          up_to = omega arith;
          rule = rw add-one at g.there;
          first = subst (Ok (nodes w) (suc k)) (sym ea) (branch_under (nodes w) k (sizes w) p.holds.wf (target x) u p.first);
          second = subst (Ok (nodes w) (suc k)) (sym eb) (branch_under (nodes w) k (sizes w) p.holds.wf (target y) u p.second);
          placed =
              subst (λ (f : Branch costs). Placed cost_most ns (nodes w) (suc k) f.to (target yb) (onward d f.adds (int e))) (sym ea)
              (subst (λ (h : Branch costs). Placed cost_most ns (nodes w) (suc k) (branch_at (nodes w) k (target x) u).to h.to
              (onward d (branch_at (nodes w) k (target x) u).adds h.adds)) (sym eb)
              (placed_step (nodes w) k (size w k) ns (target x) (target y) d pl u hu));
          narrow = p.narrow;
        };
        ahead =
            subst (λ (h : Branch costs). Fit add_most (d +ℤ h.adds)) (sym eb)
            (placed_ahead (nodes w) k (sizes w) p.holds.wf (size w k) ns ps (target x) (target y) d p.first p.second pl u hu);
        whole =
            subst (λ (r : Built costs). Fit add_most r.0.adds) (build_agree (suc k) ns (held u R)
            (choice_of (lent v (suc k) c) (nodes w) (suc k) (branch xa a) (branch yb e) d) (λ s h. held_at (nodes w) u c xa a yb e g ea eb s) (nodes w))
            (choice_adds (lent v k b) (nodes w) k (target x) (target y) d (sizes w) p.holds.wf (size w k) ns (sizes_from w k hk) ps p.first pl u hu);
      })

  -- in a table that holds more
  pub choices_ext : (t : List ℕ) (u : ℕ) (bs : List Arm) → Filling w t k (choice (lent v k b) (nodes w) k (target x) (target y) d) u bs → k < features w → u ≤ size w k → Choices v t k b x y d
  choices_ext t u bs f hk l =
      let g : Cost = choice (lent v k b) (nodes w) k (target x) (target y) d in
      let kp = f.filled.grown.kept in
      let e : Ext (nodes w) (nodes t) = filling_ext w k g p.holds hk t u bs f in
      let z : sizes t ≡ sizes w = kept_sizes w t kp p.holds.laid.laid.few in
      record {
        holds = f.filled.grown.well;
        alike = p.alike ∙ sym z;
        up_to = omega (arith, p.up_to, kept_features w t kp);
        rule = p.rule;
        first = ok_ext (nodes w) (nodes t) k (bare (target x)) e p.first;
        second = ok_ext (nodes w) (nodes t) k (bare (target y)) e p.second;
        placed = rw z (placed_ext (nodes w) k (sizes w) p.holds.wf (nodes t) e (drop k (sizes w)) (target x) (target y) d p.first p.second p.placed);
        narrow = filling_narrow w k g p.holds hk t u bs f l choice_near p.narrow;
      }

-- ---- two branches
module _ (v w : List ℕ) (k b x a y c : ℕ) (d : ℤ) (p : Branches v w k b x a y c d) where
  abbrev T : Cost
  T = choice (lent v k b) (nodes w) k (target x) (target y) (onward d (int a) (int c))

  abbrev B : Cost
  B = choice_of (lent v k b) (nodes w) k (branch x a) (branch y c) d

  -- the difference of the targets, and its word
  pub more_fits : (h : ℕ) → int h ≡ d +ℤ int c → Fit add_most (int h -ℤ int a)
  more_fits h e =
      let q = p.rest in
      subst (λ (z : ℤ). Fit add_most (z -ℤ int a)) (sym e)
      (placed_fits (nodes w) k (sizes w) q.holds.wf (drop k (sizes w)) (pos_from w k q.holds) (target x) (target y) (onward d (int a) (int c)) q.first q.second q.placed)

  pub more_is : (h g : ℕ) → int h ≡ d +ℤ int c → int g ≡ int h -ℤ int a → int g ≡ onward d (int a) (int c)
  more_is h g e q = q ∙ ap (λ (z : ℤ). z -ℤ int a) e

  pub targets : (g : ℕ) → int g ≡ onward d (int a) (int c) → Choices v w k b x y (int g)
  targets g e = subst (Choices v w k b x y) (sym e) p.rest

  built_raised : built w k B ≡ raised (int a) (built w k T)
  unfolding builtOf choice_of
  built_raised = build_lift (sizes w) k (drop k (sizes w)) refl (pos_from w k p.rest.holds) (int a) T (nodes w) p.rest.holds.wf

  -- what the targets' choice answered
  module _ (t : List ℕ) (g : ℕ) (e : int g ≡ onward d (int a) (int c)) where
    answered : (o : Option Arm) → Result w t k (choice (lent v k b) (nodes w) k (target x) (target y) (int g)) o → Result w t k T o
    answered o r = subst (λ (z : ℤ). Result w t k (choice (lent v k b) (nodes w) k (target x) (target y) z) o) e r

    -- the sum has a word
    pub sum_fits : (h : Arm) → Result w t k (choice (lent v k b) (nodes w) k (target x) (target y) (int g)) (Some h) → Fit add_most (int a +ℤ int h.adds)
    sum_fits h r =
        subst (Fit add_most) (ap (λ (u : Built costs). u.0.adds) built_raised ∙ ap (λ (u : Branch costs). int a +ℤ u.adds) (sym (answered (Some h) r).answers.0)) p.whole

    pub choice_raised : (h : Arm) (f : ℕ) → Result w t k (choice (lent v k b) (nodes w) k (target x) (target y) (int g)) (Some h) → int f ≡ int a +ℤ int h.adds →
        Result w t k B (Some (record { to = h.to; adds = f }))
    choice_raised h f r l =
        let u = answered (Some h) r in
        F.gives_eq lawful built_raised (record { grown = u.grown; answers = ((λ i. record { adds = l i; to = target h.to }) ∙ ap (up (int a)) u.answers.0, u.answers.1) })

    pub choice_stopped : Result w t k (choice (lent v k b) (nodes w) k (target x) (target y) (int g)) None → Result w t k B None
    choice_stopped r = let u = answered None r in F.gives_eq lawful built_raised (record { grown = u.grown; answers = u.answers })

-- ---- at the start
no_more : (d c : ℤ) → d ≡ pos 0 → d +ℤ c ≡ c
no_more d c e = ap (λ (z : ℤ). z +ℤ c) e ∙ +ℤ_idl c

module _ (v w : List ℕ) (b x a y c : ℕ) (p : Choosable v w b (branch x a) (branch y c)) where
  abbrev X : Cost
  X = chosen (lent v 0 b) (meaning (nodes w) (branch x a)) (meaning (nodes w) (branch y c))

  built_start : (d : ℤ) → d ≡ pos 0 → built w 0 X ≡ built w 0 (choice_of (lent v 0 b) (nodes w) 0 (branch x a) (branch y c) d)
  unfolding builtOf choice choice_of
  built_start d e =
      build_agree 0 (sizes w) X (choice_of (lent v 0 b) (nodes w) 0 (branch x a) (branch y c) d)
      (λ s h. apart_split (by (lent v 0 b)) (by_moves (lent v 0 b)) (nodes w) 0 (branch x a) (branch y c) s
      ∙ ap (λ (z : ℤ). lift (int a) (choice (lent v 0 b) (nodes w) 0 (target x) (target y) (z -ℤ int a) s)) (sym (no_more d (int c) e))) (nodes w)

  pub start : (d : ℤ) → d ≡ pos 0 → Branches v w 0 b x a y c d
  unfolding builtOf
  start d e =
      let ok = p.first.holds in
      let ps : Pos (sizes w) = pos_from w 0 ok in
      let none : d +ℤ int c ≡ int c = no_more d (int c) e in
      let wide : (z : ℤ) → Fit cost_most z → Fit add_most z = λ z f. fit_more cost_most add_most z (omega arith) f in
      record {
        rest = record {
          holds = ok;
          alike = p.alike;
          up_to = omega arith;
          rule = p.rule;
          first = p.first.ok;
          second = p.second.ok;
          placed = subst (λ (z : ℤ). Placed cost_most (sizes w) (nodes w) 0 (target x) (target y) (z -ℤ int a)) (sym none)
              (placed_start (nodes w) 0 (sizes w) (branch x a) (branch y c) p.first.within p.second.within);
          narrow = p.first.narrow;
        };
        ahead = subst (Fit add_most) (sym none) (wide (int c) (adds_fits (sizes w) (nodes w) ok.wf 0 (sizes w) ps (branch y c) p.second.ok p.second.within));
        whole =
            subst (λ (r : Built costs). Fit add_most r.0.adds) (built_start d e)
            (subst (Fit add_most) (sym (build_adds (sizes w) 0 (sizes w) refl ps X (nodes w) ok.wf))
            (wide (X (zeros (sizes w))).off ((chosen_within p.first.within p.second.within (lent v 0 b)).fits (zeros (sizes w)) (zeros_valid (sizes w) ps))));
      }

  pub choice_start : (d : ℤ) → d ≡ pos 0 → (t : List ℕ) (r : Option Arm) → Result w t 0 (choice_of (lent v 0 b) (nodes w) 0 (branch x a) (branch y c) d) r → Result w t 0 X r
  choice_start d e t r q = F.gives_eq lawful (built_start d e) q

-- from rest the walk starts with the words without notes, which are those of the table ..
pub choosable_plain : (v w t : List ℕ) (b : ℕ) (x y : Branch costs) → Choosable v w b x y → plain t ≡ plain w → Choosable v (plain t) b x y
choosable_plain v w t b x y p e = subst (λ (u : List ℕ). Choosable v u b x y) (sym (e ∙ plain_of w p.first.rest.empty)) p

-- .. and its result, with the far records 0 again, is that of the table
pub choice_cleared : (v w t' t u : List ℕ) (b : ℕ) (x y : Branch costs) (r : Option Arm) → Resting w → plain t' ≡ plain w → u ≡ plain t
    → Result (plain t') (plain t) 0 (chosen (lent v 0 b) (meaning (nodes (plain t')) x) (meaning (nodes (plain t')) y)) r →
    Result w u 0 (chosen (lent v 0 b) (meaning (nodes w) x) (meaning (nodes w) y)) r
choice_cleared v w t' t u b x y r z q e g =
    subst (λ (o : List ℕ). Result w o 0 (chosen (lent v 0 b) (meaning (nodes w) x) (meaning (nodes w) y)) r) (sym e)
    (subst (λ (o : List ℕ). Result o (plain t) 0 (chosen (lent v 0 b) (meaning (nodes o) x) (meaning (nodes o) y)) r) (q ∙ plain_of w z.empty) g)
