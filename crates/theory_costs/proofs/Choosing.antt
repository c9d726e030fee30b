-- Smaller, larger and choose work on two nodes and the difference of their bases. Assumes nothing.
use mathlib.Core.Path.{◌≡◌, sym, ap, ◌∙◌}
use mathlib.Core.Bool.{Bool, true, false, cond}
use mathlib.Core.List.{List, ◌∷◌}
use Prim.Native.Nat.{ℕ, zero, suc}
use native.Mathlib.Omega.{arith}
use lib.IntN.{ℤ, pos, ◌+ℤ◌, ◌-ℤ◌, +ℤ_idr}
use lib.ListN.{length, drop}
use lib.Signed.{lt_z}
use Rattle.theory.specs.Settings.{Pos, Valid, zeros}
use Rattle.theory.specs.Functions.{lift}
use Rattle.theory.specs.Diagrams.{Branch, Node, Target, ending, leaf, value}
use Rattle.theory.specs.WellFormed.{Under, WellFormed}
use Rattle.theory.specs.Build.{Ext, build}
use Rattle.theory.specs.Costs.{amount, costs}
use Rattle.theory.proofs.Values.{value_ending}
use Rattle.theory.proofs.Canonical.{build_agree, canonical}
use Rattle.theory.proofs.Lifting.{build_adds, build_lift}
use Rattle.theory_costs.specs.Relative.{branch_at, apart_from, joined_at, onward}
use Rattle.theory_costs.proofs.Integers.{ℕ-eq, sum_ℕ, minus_ℕ, test_both}
use Rattle.theory_costs.proofs.Walks.{Walk, raised}
use Rattle.theory_costs.proofs.Relative.{value_from, from_step, from_wait, from_end, from_zeros, from_ext}
use Rattle.promises.specs.CostOperations.{smaller_of, larger_of, chosen_of}
use Rattle.promises.specs.CostSound.{bare, from}

-- an operation on integers that moves with a common summand
pub record Moves (F : ℤ → ℤ → ℤ) : Type 0 where
  pub moves : (a x y : ℤ) → F (a +ℤ x) (a +ℤ y) ≡ a +ℤ F x y

cond_moves : (t : Bool) (a x y : ℤ) → cond t (a +ℤ x) (a +ℤ y) ≡ a +ℤ cond t x y
cond_moves true a x y = λ i. a +ℤ x
cond_moves false a x y = λ i. a +ℤ y

pub smaller_moves : Moves smaller_of
unfolding smaller_of
smaller_moves = record { moves = λ a x y. ap (λ (t : Bool). cond t (a +ℤ y) (a +ℤ x)) (test_both a y x) ∙ cond_moves (lt_z y x) a y x }

pub larger_moves : Moves larger_of
unfolding larger_of
larger_moves = record { moves = λ a x y. ap (λ (t : Bool). cond t (a +ℤ y) (a +ℤ x)) (test_both a x y) ∙ cond_moves (lt_z x y) a y x }

pub chosen_moves : (n : ℕ) → Moves (chosen_of n)
chosen_moves n = record { moves = go n }
  where
    go : (n : ℕ) (a x y : ℤ) → chosen_of n (a +ℤ x) (a +ℤ y) ≡ a +ℤ chosen_of n x y
    go zero a x y = λ i. a +ℤ y
    go (suc n) a x y = λ i. a +ℤ x

pub onward_sum : (d a b y : ℤ) → d +ℤ (b +ℤ y) ≡ a +ℤ (onward d a b +ℤ y)
onward_sum d a b y =
    ℕ-eq (d +ℤ (b +ℤ y)) (a +ℤ (((d +ℤ b) -ℤ a) +ℤ y))
    (omega (arith, sum_ℕ b y, sum_ℕ d (b +ℤ y), sum_ℕ d b, minus_ℕ (d +ℤ b) a, sum_ℕ ((d +ℤ b) -ℤ a) y, sum_ℕ a (((d +ℤ b) -ℤ a) +ℤ y)))

pub base_sum : (a b y : ℤ) → b +ℤ y ≡ a +ℤ ((b -ℤ a) +ℤ y)
base_sum a b y = ℕ-eq (b +ℤ y) (a +ℤ ((b -ℤ a) +ℤ y)) (omega (arith, sum_ℕ b y, minus_ℕ b a, sum_ℕ (b -ℤ a) y, sum_ℕ a ((b -ℤ a) +ℤ y)))

-- two targets, how much more the second has on it, and the operation, which may look at the setting
pub record Apart : Type 0 where
  pub first : Target costs
  pub second : Target costs
  pub more : ℤ
  pub F : List ℕ → ℤ → ℤ → ℤ
  pub good : (s : List ℕ) → Moves (F s)

module _ (F : List ℕ → ℤ → ℤ → ℤ) (q : (s : List ℕ) → Moves (F s)) where
  -- THE BRANCH at v of the result: what the first's branch adds, and the result of where both go, with the difference there
  pub apart_step : (N : List (Node costs)) (k : ℕ) (t u : Target costs) (d : ℤ) (v : ℕ) (s : List ℕ) →
      apart_from F N k t u d (v ∷ s)
      ≡ lift (branch_at N k t v).adds
      (apart_from (λ r. F (v ∷ r)) N (suc k) (branch_at N k t v).to (branch_at N k u v).to (onward d (branch_at N k t v).adds (branch_at N k u v).adds) s)
  apart_step N k t u d v s =
      ap amount ((λ i. F (v ∷ s) (from_step N k t v s i).off (d +ℤ (from_step N k u v s i).off))
      ∙ ap (F (v ∷ s) (a +ℤ x)) (onward_sum d a b y)
      ∙ (q (v ∷ s)).moves a x (onward d a b +ℤ y))
    where
      a : ℤ
      a = (branch_at N k t v).adds

      b : ℤ
      b = (branch_at N k u v).adds

      x : ℤ
      x = (from N (suc k) (branch_at N k t v).to s).off

      y : ℤ
      y = (from N (suc k) (branch_at N k u v).to s).off

  -- neither tests feature k, and the operation does not look at it
  pub apart_wait : (N : List (Node costs)) (k : ℕ) (t u : Target costs) (d : ℤ) → Under N (length N) (suc k) t → Under N (length N) (suc k) u →
      (G : List ℕ → ℤ → ℤ → ℤ) (v : ℕ) (s : List ℕ) → ((x y : ℤ) → F (v ∷ s) x y ≡ G s x y) → apart_from F N k t u d (v ∷ s) ≡ apart_from G N (suc k) t u d s
  apart_wait N k t u d o1 o2 G v s e =
      ap amount ((λ i. F (v ∷ s) (from_wait N k t v s o1 i).off (d +ℤ (from_wait N k u v s o2 i).off)) ∙ e (from N (suc k) t s).off (d +ℤ (from N (suc k) u s).off))

  pub apart_ext : (S : List ℕ) (N M : List (Node costs)) → WellFormed S N → Ext N M → (k : ℕ) (t u : Target costs) (d : ℤ) → Under N (length N) k t → Under N (length N) k u → (s : List ℕ) →
      apart_from F M k t u d s ≡ apart_from F N k t u d s
  apart_ext S N M w e k t u d o1 o2 s = λ i. amount (F s (from_ext N k S w M e t s o1 i).off (d +ℤ (from_ext N k S w M e u s o2 i).off))

  -- ---- with bases: the first's is added once, and their difference is what counts
  pub apart_split : (N : List (Node costs)) (k : ℕ) (b c : Branch costs) (s : List ℕ)
      → joined_at F (value N k b) (value N k c) s ≡ lift b.adds (apart_from F N k b.to c.to (c.adds -ℤ b.adds) s)
  apart_split N k b c s =
      ap amount ((λ i. F s (value_from N k b s i) (value_from N k c s i))
      ∙ ap (F s (b.adds +ℤ (from N k b.to s).off)) (base_sum b.adds c.adds (from N k c.to s).off)
      ∙ (q s).moves b.adds (from N k b.to s).off ((c.adds -ℤ b.adds) +ℤ (from N k c.to s).off))

  module _ (S : List ℕ) (k : ℕ) (ns : List ℕ) (rest : drop k S ≡ ns) (p : Pos ns) (O N : List (Node costs)) (w : WellFormed S N) where
    pub build_apart : (b c : Branch costs) → build k ns (joined_at F (value O k b) (value O k c)) N ≡ raised b.adds (build k ns (apart_from F O k b.to c.to (c.adds -ℤ b.adds)) N)
    build_apart b c =
        build_agree k ns _ (λ s. lift b.adds (apart_from F O k b.to c.to (c.adds -ℤ b.adds) s)) (λ s x. apart_split O k b c s) N
        ∙ build_lift S k ns rest p b.adds (apart_from F O k b.to c.to (c.adds -ℤ b.adds)) N w

-- the walk of two targets with a difference
abbrev pub apart : List (Node costs) → Walk
apart N =
    record {
      State = Apart;
      run = λ k x. apart_from x.F N k x.first x.second x.more;
      gives = λ k x v. (branch_at N k x.first v).adds;
      goes =
          λ k x v. record {
            first = (branch_at N k x.first v).to;
            second = (branch_at N k x.second v).to;
            more = onward x.more (branch_at N k x.first v).adds (branch_at N k x.second v).adds;
            F = λ s. x.F (v ∷ s);
            good = λ s. x.good (v ∷ s);
          };
      steps = λ k x v s. apart_step x.F x.good N k x.first x.second x.more v s;
    }

-- ---- what a result adds, and where the work stops
module _ (S : List ℕ) (k : ℕ) (ns : List ℕ) (rest : drop k S ≡ ns) (p : Pos ns) (O N : List (Node costs)) (w : WellFormed S N) (F : List ℕ → ℤ → ℤ → ℤ) (d : ℤ) where
  -- the operation's value of 0 and the difference, where all features that are left are 0
  pub apart_adds : WellFormed S O → (t u : Target costs) → Under O (length O) k t → Under O (length O) k u → (build k ns (apart_from F O k t u d) N).0.adds ≡ F (zeros ns) (pos 0) d
  apart_adds wo t u o1 o2 =
      build_adds S k ns rest p (apart_from F O k t u d) N w
      ∙ (λ i. F (zeros ns) (from_zeros O k S wo ns t o1 i) (d +ℤ from_zeros O k S wo ns u o2 i))
      ∙ ap (F (zeros ns) (pos 0)) (+ℤ_idr d)

  -- both have ended, and the operation is the same at every setting
  pub apart_ends : (a : ℤ) → ((s : List ℕ) → Valid ns s → F s (pos 0) d ≡ a) → build k ns (apart_from F O k (leaf tt) (leaf tt) d) N ≡ (ending (amount a), N)
  apart_ends a e =
      canonical S k ns rest p N w (ending (amount a)) (apart_from F O k (leaf tt) (leaf tt) d)
      (record {
        ok = tt;
        says =
            λ s x. value_ending N k (amount a) s
            ∙ ap amount (sym ((λ i. F s (from_end O k s i).off (d +ℤ (from_end O k s i).off)) ∙ ap (F s (pos 0)) (+ℤ_idr d) ∙ e s x));
      })

module _ (S : List ℕ) (k : ℕ) (ns : List ℕ) (rest : drop k S ≡ ns) (p : Pos ns) (N : List (Node costs)) (w : WellFormed S N) (F : List ℕ → ℤ → ℤ → ℤ) (t u : Target costs) (d : ℤ) where
  -- the first, or the second, is taken everywhere
  pub apart_first : Under N (length N) k t → ((s : List ℕ) → Valid ns s → (x y : ℤ) → F s x y ≡ x) → build k ns (apart_from F N k t u d) N ≡ (bare t, N)
  apart_first o e =
      canonical S k ns rest p N w (bare t) (apart_from F N k t u d)
      (record { ok = o; says = λ s x. ap amount (sym (e s x (from N k t s).off (d +ℤ (from N k u s).off))) })

  pub apart_second : Under N (length N) k u → ((s : List ℕ) → Valid ns s → (x y : ℤ) → F s x y ≡ y) → build k ns (apart_from F N k t u d) N ≡ (record { adds = d; to = u }, N)
  apart_second o e =
      canonical S k ns rest p N w (record { adds = d; to = u }) (apart_from F N k t u d)
      (record {
        ok = o;
        says = λ s x. ap amount (value_from N k (record { adds = d; to = u }) s ∙ sym (e s x (from N k t s).off (d +ℤ (from N k u s).off)));
      })

  -- both are one target
  pub apart_same : Under N (length N) k t → t ≡ u → (a : ℤ) → ((s : List ℕ) → Moves (F s)) → ((s : List ℕ) → Valid ns s → F s (pos 0) d ≡ a) →
      build k ns (apart_from F N k t u d) N ≡ (record { adds = a; to = t }, N)
  apart_same o same a q e =
      canonical S k ns rest p N w (record { adds = a; to = t }) (apart_from F N k t u d)
      (record {
        ok = o;
        says = λ s x. ap amount (value_from N k (record { adds = a; to = t }) s ∙
            sym (ap (λ (z : Target costs). F s (from N k t s).off (d +ℤ (from N k z s).off)) (sym same) ∙ one s x (from N k t s).off));
      })
    where
      one : (s : List ℕ) → Valid ns s → (y : ℤ) → F s y (d +ℤ y) ≡ a +ℤ y
      one s x y =
          let e1 : y ≡ y +ℤ pos 0 = sym (+ℤ_idr y) in
          let e2 : d +ℤ y ≡ y +ℤ d = ℕ-eq _ _ (omega (arith, sum_ℕ d y, sum_ℕ y d)) in
          let e3 : y +ℤ a ≡ a +ℤ y = ℕ-eq _ _ (omega (arith, sum_ℕ a y, sum_ℕ y a)) in
          (λ i. F s (e1 i) (e2 i)) ∙ (q s).moves y (pos 0) d ∙ ap (λ (z : ℤ). y +ℤ z) (e s x) ∙ e3
