-- The walk over a table: operands one feature on, one value on, in a later table; its results. Assumes nothing.
use Rattle.std.specs.Prelude.{Option, Some, None}
use mathlib.Core.Path.{◌≡◌, refl, sym, ap, ap₂, subst, ◌∙◌}
use mathlib.Core.List.{List, ◌∷◌}
use Prim.Native.Nat.{ℕ, zero, suc, ◌+◌, ◌≤◌, ◌<◌}
use native.Mathlib.Numerals.{add-one}
use native.Mathlib.Omega.{arith}
use lib.IntN.{ℤ, pos, ◌+ℤ◌}
use lib.ListN.{drop}
use Rattle.theory.specs.Build.{Ext}
use Rattle.theory.specs.Costs.{Cost, amount, costs}
use Rattle.theory.specs.Diagrams.{Branch, ending, leaf, meaning, up, value}
use Rattle.theory.specs.Functions.{held, lift}
use Rattle.theory.specs.Settings.{Pos, zeros}
use Rattle.theory.specs.WellFormed.{Ok}
use Rattle.theory.proofs.Canonical.{build_agree}
use Rattle.theory.proofs.Lifting.{build_adds, build_lift}
use Rattle.theory.proofs.Values.{value_ending}
use Rattle.theory.proofs.WellFormed.{ok_ext}
use Rattle.theory_costs.specs.Relative.{branch_at}
use Rattle.theory_costs.proofs.Relative.{offs, branch_under}
use Rattle.theory_costs.proofs.Walks.{raised}
use Rattle.table_words.specs.Holding.{built as builtOf}
use Rattle.table_words.proofs.Filling as F
use Rattle.table_words.proofs.Words.{length_sizes, kept_features, kept_sizes}
use Rattle.table_notes.specs.Plain.{Resting, plain}
use Rattle.table_notes.proofs.Plain.{plain_of}
use Rattle.cost_words.proofs.Packing.{target_end}
use Rattle.cost_nodes.specs.Nodes.{Holds, Good, top, Place, built, Result, Filling}
use Rattle.cost_words.specs.declared.Arm.{Arm}
use Rattle.cost_nodes.proofs.Reading.{lawful, pos_from, sizes_from}
use Rattle.cost_nodes.proofs.Stepping.{good_small, good_top, top_good, top_most, top_below, skipped}
use Rattle.cost_nodes.proofs.Filling.{filling_ext, filling_narrow}
use Rattle.theory_costs.specs.Narrow.{Narrow}
use Rattle.cost_engine.specs.Joint.{op_of, together, joint, joint_from, ahead, gap, Bounded, Joinable, Operands, Branches}
use Rattle.cost_engine.specs.declared.operators.Operator.{Operator}
use Rattle.cost_engine.proofs.Joining.{joint_none, joint_split, joint_step, joint_wait, joint_ext, joint_end}
use Rattle.cost_engine.proofs.Bounding.{more_fits, end_fits, bounded_wait, bounded_step, bounded_ext, whole_fits, lead_fits, bounded_start, whole_start, lead_start}
use Rattle.promises.specs.Integers.{Fit, int}
use Rattle.promises.specs.Range.{add_most}
use Rattle.promises.specs.CostSound.{bare}
use Rattle.promises.specs.Words.{features, size, sizes}
use Rattle.promises.specs.CostWords.{target, cost_branch as branch, cost_node_list as nodes}

-- ---- operands
module _ (w : List ℕ) (o : Operator) (k x y : ℕ) (d : ℤ) (p : Operands w o k x y d) where
  pub first_place : Place w k x
  first_place = record { holds = p.holds; good = p.first; up_to = p.up_to }

  pub second_place : Place w k y
  second_place = record { holds = p.holds; good = p.second; up_to = p.up_to }

  -- the difference, and the result where both have ended, have a word
  pub operands_more : Fit add_most d
  operands_more = more_fits (sizes w) (nodes w) p.holds.wf k (target x) (target y) d p.first p.second o (drop k (sizes w)) (pos_from w k p.holds) p.bounded

  pub operands_end : Fit add_most (op_of o (pos 0) d)
  operands_end = end_fits (sizes w) (nodes w) p.holds.wf k (target x) (target y) d p.first p.second o (drop k (sizes w)) (pos_from w k p.holds) p.bounded

  -- one of the two is a node: it tests a feature, and none below k
  pub still_left : (x + y ≡ 0 → ⊥) → k < features w
  still_left n = go x y p.first p.second n
    where
      go : (x y : ℕ) → Good w k x → Good w k y → (x + y ≡ 0 → ⊥) → k < features w
      go zero y g h n = omega (arith, good_top w k y h p.up_to, top_below w k y p.holds h (omega (arith, n)))
      go (suc x) y g h n = omega (arith, good_top w k (suc x) g p.up_to, top_below w k (suc x) p.holds g (omega arith))

  listed_bounded : (hk : k < features w) → Bounded o (size w k ∷ drop (suc k) (sizes w)) (nodes w) k (target x) (target y) d
  listed_bounded hk = subst (λ (ns : List ℕ). Bounded o ns (nodes w) k (target x) (target y) d) (sizes_from w k hk) p.bounded

  -- one value on
  pub operands_step : (v xa a yb b : ℕ) → k < features w → v < size w k → branch xa a ≡ branch_at (nodes w) k (target x) v → branch yb b ≡ branch_at (nodes w) k (target y) v
      → Branches w o (k + 1) xa a yb b d
  operands_step v xa a yb b hk hv ea eb =
      let ns : List ℕ = drop (suc k) (sizes w) in
      let c = listed_bounded hk in
      let ps : Pos (size w k ∷ ns) = subst Pos (sizes_from w k hk) (pos_from w k p.holds) in
      rw add-one
      (record {
        rest = record {
          holds = p.holds;
          up_to = omega arith;
          first = subst (Ok (nodes w) (suc k)) (sym ea) (branch_under (nodes w) k (sizes w) p.holds.wf (target x) v p.first);
          second = subst (Ok (nodes w) (suc k)) (sym eb) (branch_under (nodes w) k (sizes w) p.holds.wf (target y) v p.second);
          bounded =
              subst (λ (f : Branch costs). Bounded o ns (nodes w) (suc k) f.to (target yb) (gap o d f.adds (int b))) (sym ea)
              (subst (λ (g : Branch costs). Bounded o ns (nodes w) (suc k) (branch_at (nodes w) k (target x) v).to g.to (gap o d (branch_at (nodes w) k (target x) v).adds g.adds)) (sym eb)
              (bounded_step (nodes w) k (size w k) ns (target x) (target y) d o v hv c));
          narrow = p.narrow;
        };
        lead =
            subst (λ (f : Branch costs). Fit add_most (ahead o f.adds (int b))) (sym ea)
            (subst (λ (g : Branch costs). Fit add_most (ahead o (branch_at (nodes w) k (target x) v).adds g.adds)) (sym eb)
            (lead_fits (nodes w) k (size w k) ns (target x) (target y) d (sizes w) p.holds.wf ps p.first p.second v hv o c));
        whole =
            subst (λ (f : Branch costs). Fit add_most (joint o (nodes w) (suc k) f (branch yb b) d (zeros ns)).off) (sym ea)
            (subst (λ (g : Branch costs). Fit add_most (joint o (nodes w) (suc k) (branch_at (nodes w) k (target x) v) g d (zeros ns)).off) (sym eb)
            (whole_fits (nodes w) k (size w k) ns (target x) (target y) d (sizes w) p.holds.wf ps p.first p.second v hv o c));
      })

  -- the branch of the result at v is the result of the branches at v, read in any later table
  pub joint_held : (t : List ℕ) (v xa a yb b : ℕ) → Ext (nodes w) (nodes t) → branch xa a ≡ branch_at (nodes t) k (target x) v → branch yb b ≡ branch_at (nodes t) k (target y) v → (s : List ℕ) →
      held v (joint_from o (nodes w) k (target x) (target y) d) s ≡ joint o (nodes t) (k + 1) (branch xa a) (branch yb b) d s
  joint_held t v xa a yb b e ea eb s =
      rw add-one
      (sym (joint_ext o (nodes w) k (bare (target x)) (bare (target y)) d (sizes w) (nodes t) p.holds.wf e p.first p.second (v ∷ s))
      ∙ joint_step o (nodes t) k (bare (target x)) (bare (target y)) d v s
      ∙ ap₂ (λ (f g : Branch costs). joint o (nodes t) (suc k) f g d s) (sym ea) (sym eb))

  -- in a table that holds more
  pub operands_grown : (t : List ℕ) → Holds t → features t ≡ features w → sizes t ≡ sizes w → Ext (nodes w) (nodes t) → Narrow add_most (sizes t) (nodes t) → Operands t o k x y d
  operands_grown t ok f z e nr =
      record {
        holds = ok;
        up_to = omega (arith, p.up_to);
        first = ok_ext (nodes w) (nodes t) k (bare (target x)) e p.first;
        second = ok_ext (nodes w) (nodes t) k (bare (target y)) e p.second;
        bounded = rw z (bounded_ext (sizes w) (nodes w) (nodes t) p.holds.wf e (drop k (sizes w)) k (target x) (target y) d p.first p.second o p.bounded);
        narrow = nr;
      }

  pub operands_ext : (t : List ℕ) (v : ℕ) (bs : List Arm) → Filling w t k (joint_from o (nodes w) k (target x) (target y) d) v bs → k < features w → v ≤ size w k → Operands t o k x y d
  operands_ext t v bs f hk l =
      let g : Cost = joint_from o (nodes w) k (target x) (target y) d in
      let kp = f.filled.grown.kept in
      operands_grown t f.filled.grown.well (kept_features w t kp) (kept_sizes w t kp p.holds.laid.laid.few) (filling_ext w k g p.holds hk t v bs f)
      (filling_narrow w k g p.holds hk t v bs f l p.bounded.spread p.narrow)

  -- both have ended
  pub joint_ends : (e : ℕ) → x + y ≡ 0 → int e ≡ op_of o (pos 0) d → Result w w k (joint_from o (nodes w) k (target x) (target y) d) (Some (record { to = 0; adds = e }))
  joint_ends e z q =
      let ex : target x ≡ leaf tt = target_end x (omega arith) in
      let ey : target y ≡ leaf tt = target_end y (omega arith) in
      let b : branch 0 e ≡ ending (amount (op_of o (pos 0) d)) = λ i. record { adds = q i; to = target_end 0 refl i } in
      F.result_there lawful w k (branch 0 e) (joint_from o (nodes w) k (target x) (target y) d) p.holds
      (F.built_there lawful w k (branch 0 e) (joint_from o (nodes w) k (target x) (target y) d) p.holds (subst (Ok (nodes w) k) (sym b) tt)
      (λ s. ap (λ (c : Branch costs). value (nodes w) k c s) b ∙ value_ending (nodes w) k (amount (op_of o (pos 0) d)) s
      ∙ sym (ap₂ (λ t u. joint_from o (nodes w) k t u d s) ex ey ∙ joint_end o (nodes w) k d s)))

-- ---- features that neither of two targets tests
module _ (w : List ℕ) (o : Operator) (x y : ℕ) (d : ℤ) (m : ℕ) (hx : m ≤ top w x) (hy : m ≤ top w y) where
  abbrev J : ℕ → Cost
  J k = joint_from o (nodes w) k (target x) (target y) d

  module _ (k : ℕ) (h : k < m) (p : Operands w o k x y d) where
    left : k < features w
    left = omega (arith, top_most w k x p.holds p.first)

    good_on : (z : ℕ) → Good w k z → m ≤ top w z → Good w (suc k) z
    good_on z g l = top_good w (suc k) z (good_small w k z g) (omega arith)

    one_skip : Operands w o (suc k) x y d
    one_skip =
        record {
          holds = p.holds;
          up_to = omega (arith, left);
          first = good_on x p.first hx;
          second = good_on y p.second hy;
          bounded = bounded_wait (nodes w) k (size w k) (drop (suc k) (sizes w)) (target x) (target y) d o (omega (arith, p.holds.laid.laid.large k left))
              (good_on x p.first hx) (good_on y p.second hy) (listed_bounded w o k x y d p left);
          narrow = p.narrow;
        }

    one_built : built w k (J k) ≡ built w (suc k) (J (suc k))
    one_built =
        F.built_skip lawful w k (J k) (J (suc k)) p.holds (omega (arith, length_sizes w, left))
        (λ v l s. joint_wait o (nodes w) k (bare (target x)) (bare (target y)) d v s (good_on x p.first hx) (good_on y p.second hy))
        ∙ ap (λ (j : ℕ). built w j (J (suc k))) (add-one k)

  module _ (k : ℕ) (p : Operands w o k x y d) (h : k < m) where
    pub skip_most : m ≤ features w
    skip_most = omega (arith, top_most w k x p.holds p.first)

    -- all below m
    passed : Operands w o m x y d × (built w k (J k) ≡ built w m (J m))
    passed = skipped (λ (j : ℕ). Operands w o j x y d) (λ (j : ℕ). built w j (J j)) m one_skip one_built k h p

    pub operands_skip : Operands w o m x y d
    operands_skip = passed.0

    pub joint_skip : (t : List ℕ) (a : Option Arm) → Result w t m (J m) a → Result w t k (J k) a
    joint_skip t a r = F.gives_eq lawful passed.1 r

-- ---- two branches
-- the difference by its word
pub at_gap : (w t : List ℕ) (o : Operator) (k x y h : ℕ) (d : ℤ) (r : Option Arm) → int h ≡ d → Result w t k (joint_from o (nodes w) k (target x) (target y) (int h)) r
    → Result w t k (joint_from o (nodes w) k (target x) (target y) d) r
at_gap w t o k x y h d r e g = subst (λ (z : ℤ). Result w t k (joint_from o (nodes w) k (target x) (target y) z) r) e g

module _ (w : List ℕ) (o : Operator) (k x a y b : ℕ) (d : ℤ) (p : Branches w o k x a y b d) where
  abbrev G : ℤ
  G = gap o d (int a) (int b)

  abbrev L : ℤ
  L = ahead o (int a) (int b)

  abbrev R : Cost
  R = joint_from o (nodes w) k (target x) (target y) G

  built_raised : built w k (joint o (nodes w) k (branch x a) (branch y b) d) ≡ raised L (built w k R)
  unfolding builtOf
  built_raised =
      build_agree k (drop k (sizes w)) (joint o (nodes w) k (branch x a) (branch y b) d) (λ s. lift L (R s)) (λ s v. joint_split o (nodes w) k (branch x a) (branch y b) d s) (nodes w)
      ∙ build_lift (sizes w) k (drop k (sizes w)) refl (pos_from w k p.rest.holds) L R (nodes w) p.rest.holds.wf

  built_adds : (built w k R).0.adds ≡ (R (zeros (drop k (sizes w)))).off
  unfolding builtOf
  built_adds = build_adds (sizes w) k (drop k (sizes w)) refl (pos_from w k p.rest.holds) R (nodes w) p.rest.holds.wf

  -- the sum has a word
  pub sum_fits : (t : List ℕ) (g : ℕ) (u : Arm) → int g ≡ L → Result w t k R (Some u) → Fit add_most (int g +ℤ int u.adds)
  sum_fits t g u q r =
      let i : int u.adds ≡ (R (zeros (drop k (sizes w)))).off = ap (λ (c : Branch costs). c.adds) r.answers.0 ∙ built_adds in
      subst (Fit add_most) (offs (joint_split o (nodes w) k (branch x a) (branch y b) d (zeros (drop k (sizes w)))) ∙ sym (λ j. q j +ℤ i j)) p.whole

  pub joint_raised : (t : List ℕ) (g f : ℕ) (u : Arm) → int g ≡ L → int f ≡ int g +ℤ int u.adds → Result w t k R (Some u) →
      Result w t k (joint o (nodes w) k (branch x a) (branch y b) d) (Some (record { to = u.to; adds = f }))
  joint_raised t g f u q h r =
      F.gives_eq lawful built_raised
      (record {
        grown = r.grown;
        answers = ((λ i. record { adds = (h ∙ ap (λ (c : ℤ). c +ℤ int u.adds) q) i; to = target u.to }) ∙ ap (up L) r.answers.0, r.answers.1);
      })

  pub joint_stopped : (t : List ℕ) → Result w t k R None → Result w t k (joint o (nodes w) k (branch x a) (branch y b) d) None
  joint_stopped t r = F.gives_eq lawful built_raised (record { grown = r.grown; answers = r.answers })

-- ---- at the start
module _ (w : List ℕ) (o : Operator) (x a y b : ℕ) (p : Joinable w o (branch x a) (branch y b)) where
  pub start : (d : ℤ) → d ≡ pos 0 → Branches w o 0 x a y b d
  start d e =
      let ok = p.first.holds in
      rw e
      (record {
        rest = record {
          holds = ok;
          up_to = omega arith;
          first = p.first.ok;
          second = p.second.ok;
          bounded = bounded_start (sizes w) (nodes w) ok.wf 0 (sizes w) (pos_from w 0 ok) (branch x a) (branch y b) p.first.ok p.second.ok p.first.within
              p.second.within o p.result_in;
          narrow = p.first.narrow;
        };
        lead = lead_start (sizes w) (nodes w) ok.wf 0 (sizes w) (pos_from w 0 ok) (branch x a) (branch y b) p.first.ok p.second.ok p.first.within p.second.within o p.result_in;
        whole = whole_start (sizes w) (nodes w) ok.wf 0 (sizes w) (pos_from w 0 ok) (branch x a) (branch y b) p.first.ok p.second.ok p.first.within p.second.within o p.result_in;
      })

  pub joint_start : (d : ℤ) → d ≡ pos 0 → (t : List ℕ) (r : Option Arm) → Result w t 0 (joint o (nodes w) 0 (branch x a) (branch y b) d) r →
      Result w t 0 (together o (meaning (nodes w) (branch x a)) (meaning (nodes w) (branch y b))) r
  unfolding builtOf
  joint_start d e t r g =
      F.gives_eq lawful
      (build_agree 0 (sizes w) (together o (meaning (nodes w) (branch x a)) (meaning (nodes w) (branch y b))) (joint o (nodes w) 0 (branch x a) (branch y b) d)
      (λ s v. sym (ap (λ (z : ℤ). joint o (nodes w) 0 (branch x a) (branch y b) z s) e ∙ joint_none o (nodes w) 0 (branch x a) (branch y b) d s)) (nodes w)) g

-- from rest the walk starts with the words without notes, which are those of the table ..
pub joinable_plain : (w v : List ℕ) (o : Operator) (b c : Branch costs) → Joinable w o b c → plain v ≡ plain w → Joinable (plain v) o b c
joinable_plain w v o b c p e = subst (λ (u : List ℕ). Joinable u o b c) (sym (e ∙ plain_of w p.first.rest.empty)) p

-- .. and its result, with the far records 0 again, is that of the table
pub joint_cleared : (w v t u : List ℕ) (o : Operator) (b c : Branch costs) (r : Option Arm) → Resting w → plain v ≡ plain w → u ≡ plain t
    → Result (plain v) (plain t) 0 (together o (meaning (nodes (plain v)) b) (meaning (nodes (plain v)) c)) r →
    Result w u 0 (together o (meaning (nodes w) b) (meaning (nodes w) c)) r
joint_cleared w v t u o b c r z q e g =
    subst (λ (x : List ℕ). Result w x 0 (together o (meaning (nodes w) b) (meaning (nodes w) c)) r) (sym e)
    (subst (λ (x : List ℕ). Result x (plain t) 0 (together o (meaning (nodes x) b) (meaning (nodes x) c)) r) (q ∙ plain_of w z.empty) g)
