-- The lowest (highest) sum below every node by one pass over the nodes in order: branches go to earlier nodes. Assumes nothing.
use mathlib.Core.Path.{◌≡◌, refl, sym, ap, ◌∙◌, subst}
use mathlib.Core.Logic.{◌↔◌}
use mathlib.Core.List.{List, [], ◌∷◌}
use Prim.Native.Nat.{ℕ, suc, ◌≤◌, ◌<◌}
use native.Mathlib.Nat.{not-suc-le-zero, le_refl}
use native.Mathlib.Decide.{dec_lt, ℕ_discrete}
use native.Mathlib.Omega.{arith}
use lib.IntN.{ℤ, pos, ◌+ℤ◌}
use lib.ListN.{length, get_or, drop, length-drop}
use Rattle.theory.specs.Settings.{Pos}
use Rattle.theory.specs.Functions.{lift}
use Rattle.theory.specs.Diagrams.{Branch, Node, Target, at, blank, leaf, node, value}
use Rattle.theory.specs.WellFormed.{Ok, Under, WellFormed}
use Rattle.theory.specs.Costs.{costs}
use Rattle.theory.proofs.Lists.{drop_head}
use Rattle.theory.proofs.WellFormed.{under_weaken}
use Rattle.theory.proofs.Values.{value_split}
use Rattle.theory_costs.specs.Extremes.{Passed, along, kept_at, own}
use Rattle.theory_costs.specs.Narrow.{Narrow}
use Rattle.theory_costs.proofs.Extremes.{Taken, Way, across_ext, extreme_agree, extreme_lift, extreme_nil, extreme_taken, high, low}
use Rattle.theory_costs.proofs.Walks.{walk_extreme, walk_extreme_wait}
use Rattle.theory_costs.proofs.Relative.{offs, from_end, from_step, from_wait, branch_here, single}
use Rattle.theory_costs.proofs.Bounds.{from_within}
use Rattle.theory_costs.proofs.Range.{extreme_fits, within_exactly}
use Rattle.promises.specs.Integers.{Fit, rise, fall}
use Rattle.promises.specs.CostOperations.{larger_of, smaller_of}
use Rattle.promises.specs.Range.{Within}
use Rattle.promises.specs.CostSound.{across, extreme, from}

-- ---- the pass
pub passed_none : (op : ℤ → ℤ → ℤ) (N : List (Node costs)) (f : ℕ → ℤ) → Passed op N 0 f
passed_none op N f = record { each = λ i h. absurd (not-suc-le-zero h) }

kept_ext : (N : List (Node costs)) (f g : ℕ → ℤ) (i k : ℕ) → ((j : ℕ) → j < i → g j ≡ f j) → (t : Target costs) → Under N i k t → kept_at g t ≡ kept_at f t
kept_ext N f g i k e (leaf x) o = refl
kept_ext N f g i k e (node j) o = e j o.0

-- a node's own rests on earlier nodes only
pub own_ext : (op : ℤ → ℤ → ℤ) (S : List ℕ) (N : List (Node costs)) → WellFormed S N → (f g : ℕ → ℤ) (i : ℕ) → i < length N → ((j : ℕ) → j < i → g j ≡ f j) → own op g (at N i) ≡ own op f (at N i)
unfolding own
own_ext op S N w f g i h e =
    across_ext op _ _ (length (at N i).branches)
    (λ v l. ap (λ (z : ℤ). (get_or (at N i).branches v blank).adds +ℤ z) (kept_ext N f g i (suc (at N i).feature) e (get_or (at N i).branches v blank).to ((w.fits i h).lower v)))

-- one node more: what is kept for earlier nodes stays
pub passed_more : (op : ℤ → ℤ → ℤ) (S : List ℕ) (N : List (Node costs)) → WellFormed S N → (m : ℕ) (f g : ℕ → ℤ) → m < length N → Passed op N m f →
    ((j : ℕ) → j < m → g j ≡ f j) → g m ≡ own op f (at N m) → Passed op N (suc m) g
passed_more op S N w m f g h q e new = record { each = λ i l. go i l (dec_lt i m) }
  where
    go : (i : ℕ) → i < suc m → Dec (i < m) → g i ≡ own op g (at N i)
    go i l (yes y) = e i y ∙ q.each i y ∙ sym (own_ext op S N w f g i (omega arith) (λ j z. e j (omega arith)))
    go i l (no y) =
        let c : i ≡ m = omega arith in
        subst (λ (j : ℕ). g j ≡ own op g (at N j)) (sym c) (new ∙ sym (own_ext op S N w f g m h e))

-- ---- what it finds
module _ {op : ℤ → ℤ → ℤ} {R : ℤ → ℤ → Type 0} (W : Way op R) (S : List ℕ) (N : List (Node costs)) (w : WellFormed S N) (m : ℕ) (up_to : m ≤ length N) (f : ℕ → ℤ) (q : Passed op N m f) where
  end_extreme : (k : ℕ) (ns : List ℕ) → Pos ns → extreme op ns (from N k (leaf tt)) ≡ pos 0
  end_extreme k [] p = extreme_nil op (from N k (leaf tt)) ∙ offs (from_end N k [])
  end_extreme k (n ∷ ns) p = walk_extreme_wait (single N) W k n ns p.0 (leaf tt) (λ v s. from_wait N k (leaf tt) v s tt) ∙ end_extreme (suc k) ns p.1

  -- a node of feature k, from what is known one level below
  here : (k n : ℕ) (ns : List ℕ) → drop k S ≡ n ∷ ns → Pos (n ∷ ns) → (i : ℕ) → i < m → (at N i).feature ≡ k →
      ((t : Target costs) → Under N m (suc k) t → extreme op ns (from N (suc k) t) ≡ kept_at f t) → extreme op (n ∷ ns) (from N k (node i)) ≡ own op f (at N i)
  unfolding own
  here k n ns rest p i h e ih =
      let l : i < length N = omega arith in
      let size : length (at N i).branches ≡ n = (w.fits i l).full ∙ ap (λ (j : ℕ). get_or S j 0) e ∙ (drop_head S k n ns rest).1 in
      walk_extreme (single N) W k n ns p.1 (node i)
      ∙ across_ext op _ (λ v. along f (get_or (at N i).branches v blank)) n
      (λ v y. let b : Branch costs = get_or (at N i).branches v blank in
      ap (λ (c : Branch costs). c.adds +ℤ extreme op ns (from N (suc k) c.to)) (branch_here N k i v e)
      ∙ ap (λ (z : ℤ). b.adds +ℤ z) (ih b.to (under_weaken N i m (suc (at N i).feature) (suc k) b.to (omega arith) (omega arith) ((w.fits i l).lower v))))
      ∙ ap (across op (λ v. along f (get_or (at N i).branches v blank))) (sym size)

  -- below every target of the first m nodes the extreme is what is kept
  pub passed_right : (k : ℕ) (ns : List ℕ) → drop k S ≡ ns → Pos ns → (t : Target costs) → Under N m k t → extreme op ns (from N k t) ≡ kept_at f t
  passed_right k [] rest p (leaf e) o = end_extreme k [] p
  passed_right k [] rest p (node i) o =
      let known : (at N i).feature < length S = (w.fits i (omega (arith, o.0))).known in
      let z : length (drop k S) ≡ 0 = ap length rest in
      absurd (omega (arith, length-drop k S, o.1))
  passed_right k (n ∷ ns) rest p t o = by t o (passed_right (suc k) ns (drop_head S k n ns rest).2 p.1)
    where
      by : (t : Target costs) → Under N m k t → ((u : Target costs) → Under N m (suc k) u → extreme op ns (from N (suc k) u) ≡ kept_at f u) → extreme op (n ∷ ns) (from N k t) ≡ kept_at f t
      by (leaf e) o ih = end_extreme k (n ∷ ns) p
      by (node i) o ih = go (ℕ_discrete (at N i).feature k)
        where
          go : Dec ((at N i).feature ≡ k) → extreme op (n ∷ ns) (from N k (node i)) ≡ f i
          go (yes e) = here k n ns rest p i o.0 e ih ∙ sym (q.each i o.0)
          go (no e) =
              walk_extreme_wait (single N) W k n ns p.0 (node i) (λ v s. from_wait N k (node i) v s (omega (arith, o.0), omega arith))
              ∙ ih (node i) (o.0, omega arith)

  -- what is added up for it fits
  pub kept_fits : {D : ℕ} → Narrow D S N → (k : ℕ) (ns : List ℕ) → drop k S ≡ ns → Pos ns → (t : Target costs) → Under N m k t → Fit D (kept_at f t)
  kept_fits {D} nr k ns rest p t o =
      subst (Fit D) (passed_right k ns rest p t o)
      (extreme_fits W ns p (from N k t) (from_within S N w nr k ns rest p t (under_weaken N m (length N) k k t up_to (le_refl k) o)))

  -- for each branch of the next node too
  pub along_fits : {D : ℕ} → Narrow D S N → (i n : ℕ) (ns : List ℕ) → i ≤ m → i < length N → drop (at N i).feature S ≡ n ∷ ns → Pos (n ∷ ns) → (v : ℕ) → v < n →
      Fit D (along f (get_or (at N i).branches v blank))
  along_fits {D} nr i n ns h l rest p v y =
      subst (Fit D) (offs (from_step N k (node i) v b.setting) ∙ ap (λ (x : Branch costs). x.adds +ℤ (from N (suc k) x.to b.setting).off) (branch_here N k i v refl)
      ∙ ap (λ (z : ℤ). c.adds +ℤ z) (sym b.takes ∙ passed_right (suc k) ns d p.1 c.to o))
      ((from_within S N w nr k (n ∷ ns) rest p (node i) (l, le_refl _)).fits (v ∷ b.setting) (y, b.valid))
    where
      k : ℕ
      k = (at N i).feature

      c : Branch costs
      c = get_or (at N i).branches v blank

      o : Under N m (suc k) c.to
      o = under_weaken N i m (suc k) (suc k) c.to h (le_refl _) ((w.fits i l).lower v)

      d : drop (suc k) S ≡ ns
      d = (drop_head S k n ns rest).2

      b : Taken ns (from N (suc k) c.to) (extreme op ns (from N (suc k) c.to))
      b = extreme_taken W ns p.1 (from N (suc k) c.to)

-- ---- a place: its base and what is kept for its root
module _ (S : List ℕ) (p : Pos S) (N : List (Node costs)) (w : WellFormed S N) (b : Branch costs) (o : Ok N 0 b) where
  pub place_extreme : {op : ℤ → ℤ → ℤ} {R : ℤ → ℤ → Type 0} → Way op R → (f : ℕ → ℤ) → Passed op N (length N) f → extreme op S (value N 0 b) ≡ along f b
  place_extreme {op} W f q =
      extreme_agree op S (value N 0 b) (λ s. lift b.adds (from N 0 b.to s)) (λ s x. value_split N 0 b s)
      ∙ extreme_lift W S p b.adds (from N 0 b.to)
      ∙ ap (λ (z : ℤ). b.adds +ℤ z) (passed_right W S N w (length N) (le_refl _) f q 0 S refl p b.to o)

  pub place_within : (B : ℕ) (l h : ℕ → ℤ) → Passed smaller_of N (length N) l → Passed larger_of N (length N) h → Within B S (value N 0 b) ↔ ((fall (along l b) ≤ B) × (rise (along h b) ≤ B))
  place_within B l h ql qh =
      subst (λ (z : ℤ). Within B S (value N 0 b) ↔ ((fall z ≤ B) × (rise (along h b) ≤ B))) (place_extreme low l ql)
      (subst (λ (z : ℤ). Within B S (value N 0 b) ↔ ((fall (extreme smaller_of S (value N 0 b)) ≤ B) × (rise z ≤ B))) (place_extreme high h qh)
      (within_exactly B S p (value N 0 b)))
