-- Add, subtract and scale work on nodes alone: the bases are joined once, and the result of two nodes serves at every base. Assumes nothing.
use mathlib.Core.Path.{◌≡◌, sym, ap, ◌∙◌}
use mathlib.Core.List.{List, ◌∷◌}
use Prim.Native.Nat.{ℕ, suc}
use native.Mathlib.Omega.{arith}
use lib.IntN.{ℤ, pos, ◌+ℤ◌, ◌-ℤ◌, ◌*ℤ◌}
use lib.ListN.{length, drop}
use Rattle.theory.specs.Settings.{Pos}
use Rattle.theory.specs.Functions.{lift}
use Rattle.theory.specs.Diagrams.{Branch, Node, Target, leaf, value}
use Rattle.theory.specs.WellFormed.{Under, WellFormed}
use Rattle.theory.specs.Build.{Ext, build}
use Rattle.theory.specs.Costs.{amount, costs}
use Rattle.theory.proofs.Canonical.{build_agree, canonical}
use Rattle.theory.proofs.Lifting.{build_adds, build_lift}
use Rattle.theory_costs.specs.Relative.{branch_at, pair_from}
use Rattle.theory_costs.proofs.Integers.{ℕ-eq, sum_ℕ, minus_ℕ, double_zero}
use Rattle.theory_costs.proofs.Products.{mul_sum}
use Rattle.theory_costs.proofs.Extremes.{Way, extreme_agree, extreme_lift}
use Rattle.theory_costs.proofs.Walks.{Walk, Waits, raised}
use Rattle.theory_costs.proofs.Relative.{offs, value_from, from_step, from_wait, from_end, from_zeros, from_ext}
use Rattle.promises.specs.CostOperations.{joined}
use Rattle.promises.specs.CostSound.{bare, from, extreme}

-- an operation on integers that goes through sums
pub record Splits (F : ℤ → ℤ → ℤ) : Type 0 where
  pub splits : (a x b y : ℤ) → F (a +ℤ x) (b +ℤ y) ≡ F a b +ℤ F x y

pub add_splits : Splits ◌+ℤ◌
add_splits =
    record { splits = λ a x b y. ℕ-eq _ _ (omega (arith, sum_ℕ a x, sum_ℕ b y, sum_ℕ (a +ℤ x) (b +ℤ y), sum_ℕ a b, sum_ℕ x y, sum_ℕ (a +ℤ b) (x +ℤ y))) }

pub subtract_splits : Splits ◌-ℤ◌
subtract_splits =
    record { splits = λ a x b y. ℕ-eq _ _ (omega (arith, sum_ℕ a x, sum_ℕ b y, minus_ℕ (a +ℤ x) (b +ℤ y), minus_ℕ a b, minus_ℕ x y, sum_ℕ (a -ℤ b) (x -ℤ y))) }

-- scale has one operand: the second is not looked at
abbrev pub scale_by : ℤ → ℤ → ℤ → ℤ
scale_by c x y = x *ℤ c

pub scale_splits : (c : ℤ) → Splits (scale_by c)
scale_splits c = record { splits = λ a x b y. mul_sum a x c }

pub splits_zero : (F : ℤ → ℤ → ℤ) → Splits F → F (pos 0) (pos 0) ≡ pos 0
splits_zero F q = double_zero (F (pos 0) (pos 0)) (q.splits (pos 0) (pos 0) (pos 0) (pos 0))

pub record Two : Type 0 where
  pub first : Target costs
  pub second : Target costs

module _ (F : ℤ → ℤ → ℤ) (q : Splits F) where
  -- THE BRANCH at v of two targets' result: what both branches add, joined, and the result of where they go
  pub pair_step : (N : List (Node costs)) (k : ℕ) (t u : Target costs) (v : ℕ) (s : List ℕ) →
      pair_from F N k t u (v ∷ s) ≡ lift (F (branch_at N k t v).adds (branch_at N k u v).adds) (pair_from F N (suc k) (branch_at N k t v).to (branch_at N k u v).to s)
  pair_step N k t u v s =
      ap amount ((λ i. F (from_step N k t v s i).off (from_step N k u v s i).off)
      ∙ q.splits (branch_at N k t v).adds (from N (suc k) (branch_at N k t v).to s).off (branch_at N k u v).adds (from N (suc k) (branch_at N k u v).to s).off)

  -- the walk of two targets
  abbrev pub pair : List (Node costs) → Walk
  pair N =
      record {
        State = Two;
        run = λ k x. pair_from F N k x.first x.second;
        gives = λ k x v. F (branch_at N k x.first v).adds (branch_at N k x.second v).adds;
        goes = λ k x v. record { first = (branch_at N k x.first v).to; second = (branch_at N k x.second v).to };
        steps = λ k x v s. pair_step N k x.first x.second v s;
      }

  -- neither tests feature k
  pub pair_wait : (N : List (Node costs)) (k : ℕ) (t u : Target costs) → Under N (length N) (suc k) t → Under N (length N) (suc k) u → Waits (pair N) (record { first = t; second = u }) k
  pair_wait N k t u o1 o2 v s = λ i. amount (F (from_wait N k t v s o1 i).off (from_wait N k u v s o2 i).off)

  -- the operands may be read in a longer list
  pub pair_ext : (S : List ℕ) (N M : List (Node costs)) → WellFormed S N → Ext N M → (k : ℕ) (t u : Target costs) → Under N (length N) k t → Under N (length N) k u → (s : List ℕ) →
      pair_from F M k t u s ≡ pair_from F N k t u s
  pair_ext S N M w e k t u o1 o2 s = λ i. amount (F (from_ext N k S w M e t s o1 i).off (from_ext N k S w M e u s o2 i).off)

  -- ---- with bases: what both branches add is joined, and the rest is work on targets
  pub joined_split : (N : List (Node costs)) (k : ℕ) (b c : Branch costs) (s : List ℕ) → joined F (value N k b) (value N k c) s ≡ lift (F b.adds c.adds) (pair_from F N k b.to c.to s)
  joined_split N k b c s =
      ap amount ((λ i. F (value_from N k b s i) (value_from N k c s i)) ∙ q.splits b.adds (from N k b.to s).off c.adds (from N k c.to s).off)

  pub extreme_joined : {op : ℤ → ℤ → ℤ} {R : ℤ → ℤ → Type 0} → Way op R → (ns : List ℕ) → Pos ns → (N : List (Node costs)) (k : ℕ) (b c : Branch costs) →
      extreme op ns (joined F (value N k b) (value N k c)) ≡ F b.adds c.adds +ℤ extreme op ns (pair_from F N k b.to c.to)
  extreme_joined {op} W ns p N k b c =
      extreme_agree op ns _ (λ s. lift (F b.adds c.adds) (pair_from F N k b.to c.to s)) (λ s x. joined_split N k b c s)
      ∙ extreme_lift W ns p (F b.adds c.adds) (pair_from F N k b.to c.to)

  -- of the nodes O, built onto N
  module _ (S : List ℕ) (k : ℕ) (ns : List ℕ) (rest : drop k S ≡ ns) (p : Pos ns) (O N : List (Node costs)) (w : WellFormed S N) where
    pub build_joined : (b c : Branch costs) → build k ns (joined F (value O k b) (value O k c)) N ≡ raised (F b.adds c.adds) (build k ns (pair_from F O k b.to c.to) N)
    build_joined b c =
        build_agree k ns _ (λ s. lift (F b.adds c.adds) (pair_from F O k b.to c.to s)) (λ s x. joined_split O k b c s) N
        ∙ build_lift S k ns rest p (F b.adds c.adds) (pair_from F O k b.to c.to) N w

    -- the result of two targets adds nothing: its target alone is remembered
    pub pair_adds : WellFormed S O → (t u : Target costs) → Under O (length O) k t → Under O (length O) k u → (build k ns (pair_from F O k t u) N).0.adds ≡ pos 0
    pair_adds wo t u o1 o2 =
        build_adds S k ns rest p (pair_from F O k t u) N w
        ∙ (λ i. F (from_zeros O k S wo ns t o1 i) (from_zeros O k S wo ns u o2 i))
        ∙ splits_zero F q

    -- both have ended
    pub pair_ends : build k ns (pair_from F O k (leaf tt) (leaf tt)) N ≡ (bare (leaf tt), N)
    pair_ends =
        canonical S k ns rest p N w (bare (leaf tt)) (pair_from F O k (leaf tt) (leaf tt))
        (record {
          ok = tt;
          says = λ s x. from_end N k s ∙ ap amount (sym ((λ i. F (from_end O k s i).off (from_end O k s i).off) ∙ splits_zero F q));
        })

-- ---- one operand has ended, and the other is the result: add both ways, subtract the end
module _ (S : List ℕ) (k : ℕ) (ns : List ℕ) (rest : drop k S ≡ ns) (p : Pos ns) (N : List (Node costs)) (w : WellFormed S N) (t : Target costs) (o : Under N (length N) k t) where
  pub pair_first : (F : ℤ → ℤ → ℤ) → ((x : ℤ) → F x (pos 0) ≡ x) → build k ns (pair_from F N k t (leaf tt)) N ≡ (bare t, N)
  pair_first F e =
      canonical S k ns rest p N w (bare t) (pair_from F N k t (leaf tt))
      (record { ok = o; says = λ s x. ap amount (sym (ap (F (from N k t s).off) (offs (from_end N k s)) ∙ e (from N k t s).off)) })

  pub pair_second : (F : ℤ → ℤ → ℤ) → ((x : ℤ) → F (pos 0) x ≡ x) → build k ns (pair_from F N k (leaf tt) t) N ≡ (bare t, N)
  pair_second F e =
      canonical S k ns rest p N w (bare t) (pair_from F N k (leaf tt) t)
      (record { ok = o; says = λ s x. ap amount (sym (ap (λ (z : ℤ). F z (from N k t s).off) (offs (from_end N k s)) ∙ e (from N k t s).off)) })
