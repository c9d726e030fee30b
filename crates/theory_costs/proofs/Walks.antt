-- A walk down the features: a state means a cost, and at each value it adds an integer and goes on in another state. Assumes nothing.
use mathlib.Core.Path.{◌≡◌, refl, sym, ap, ◌∙◌, subst}
use mathlib.Core.List.{List, ◌∷◌}
use Prim.Native.Nat.{ℕ, zero, suc, ◌+◌, ◌≤◌, ◌<◌}
use native.Mathlib.Nat.{add-zero, le_refl}
use native.Mathlib.Omega.{arith}
use lib.IntN.{ℤ, ◌+ℤ◌}
use lib.ListN.{length, get_or, drop}
use lib.Seq.{drop-cons}
use Rattle.theory.specs.Settings.{Pos}
use Rattle.theory.specs.Functions.{held, lift}
use Rattle.theory.specs.Diagrams.{Node, up}
use Rattle.theory.specs.Rests.{Free}
use Rattle.theory.specs.WellFormed.{WellFormed}
use Rattle.theory.specs.Build.{Built, build}
use Rattle.theory.specs.Costs.{Cost, costs}
use Rattle.theory.proofs.Lists.{drop_head, pos_drop}
use Rattle.theory.proofs.Canonical.{build_agree, build_skips}
use Rattle.theory.proofs.Lifting.{build_lift}
use Rattle.theory_costs.proofs.Extremes.{Way, extreme_step, extreme_wait}
use Rattle.promises.specs.CostSound.{across, extreme}

pub record Walk : Type 1 where
  pub State : Type 0
  pub run : ℕ → State → Cost
  pub gives : ℕ → State → ℕ → ℤ
  pub goes : ℕ → State → ℕ → State
  pub steps : (k : ℕ) (x : State) (v : ℕ) (s : List ℕ) → run k x (v ∷ s) ≡ lift (gives k x v) (run (suc k) (goes k x v) s)

-- a result with a more on its branch
abbrev pub raised : ℤ → Built costs → Built costs
raised a r = (up a r.0, r.1)

module _ (W : Walk) where
  -- the state does not look at feature k
  abbrev pub Waits : W.State → ℕ → Type 0
  Waits x k = (v : ℕ) (s : List ℕ) → W.run k x (v ∷ s) ≡ W.run (suc k) x s

  module _ (S : List ℕ) (k n : ℕ) (ns : List ℕ) (rest : drop k S ≡ n ∷ ns) (p : Pos (n ∷ ns)) (N : List (Node costs)) (w : WellFormed S N) (x : W.State) where
    -- THE BRANCH of the result at v: the next state's result, raised by what v gives
    pub walk_branch : (v : ℕ) → build (suc k) ns (held v (W.run k x)) N ≡ raised (W.gives k x v) (build (suc k) ns (W.run (suc k) (W.goes k x v)) N)
    walk_branch v =
        build_agree (suc k) ns (held v (W.run k x)) (λ s. lift (W.gives k x v) (W.run (suc k) (W.goes k x v) s)) (λ s y. W.steps k x v s) N
        ∙ build_lift S (suc k) ns (drop_head S k n ns rest).2 p.1 (W.gives k x v) (W.run (suc k) (W.goes k x v)) N w

    -- a feature that the state does not look at is passed over
    pub walk_wait : Waits x k → build k (n ∷ ns) (W.run k x) N ≡ build (suc k) ns (W.run (suc k) x) N
    unfolding Free
    walk_wait e =
        build_skips S k n ns rest p N w (W.run k x) (λ v h s y. e v s ∙ sym (e 0 s))
        ∙ build_agree (suc k) ns (held 0 (W.run k x)) (W.run (suc k) x) (λ s y. e 0 s) N

  -- features up to k + d
  pub walk_jump : (S : List ℕ) → Pos S → (N : List (Node costs)) → WellFormed S N → (x : W.State) (k d : ℕ) → k + d ≤ length S → ((j : ℕ) → k ≤ j → j < k + d → Waits x j) →
      build k (drop k S) (W.run k x) N ≡ build (k + d) (drop (k + d) S) (W.run (k + d) x) N
  walk_jump S p N w x k zero h e = rw add-zero refl
  walk_jump S p N w x k (suc d) h e =
      let q : k + suc d ≡ suc k + d = omega arith in
      let c : drop k S ≡ get_or S k 0 ∷ drop (suc k) S = drop-cons S k 0 (omega arith) in
      ap (λ (ns : List ℕ). build k ns (W.run k x) N) c
      ∙ walk_wait S k (get_or S k 0) (drop (suc k) S) c (subst Pos c (pos_drop k S p)) N w x (e k (le_refl k) (omega arith))
      ∙ rw q (walk_jump S p N w x (suc k) d (omega arith) (λ j a b. e j (omega arith) (omega arith)))

  -- ---- the lowest and the highest by the same walk, reading only
  module _ {op : ℤ → ℤ → ℤ} {R : ℤ → ℤ → Type 0} (A : Way op R) where
    pub walk_extreme : (k n : ℕ) (ns : List ℕ) → Pos ns → (x : W.State) →
        extreme op (n ∷ ns) (W.run k x) ≡ across op (λ v. W.gives k x v +ℤ extreme op ns (W.run (suc k) (W.goes k x v))) n
    walk_extreme k n ns p x = extreme_step A n ns p (W.run k x) (W.gives k x) (λ v. W.run (suc k) (W.goes k x v)) (λ v l s y. W.steps k x v s)

    pub walk_extreme_wait : (k n : ℕ) (ns : List ℕ) → 0 < n → (x : W.State) → Waits x k → extreme op (n ∷ ns) (W.run k x) ≡ extreme op ns (W.run (suc k) x)
    walk_extreme_wait k n ns p x e = extreme_wait A n ns p (W.run k x) (W.run (suc k) x) (λ v l s y. e v s)

    pub walk_extreme_jump : (S : List ℕ) → Pos S → (x : W.State) (k d : ℕ) → k + d ≤ length S → ((j : ℕ) → k ≤ j → j < k + d → Waits x j) →
        extreme op (drop k S) (W.run k x) ≡ extreme op (drop (k + d) S) (W.run (k + d) x)
    walk_extreme_jump S p x k zero h e = rw add-zero refl
    walk_extreme_jump S p x k (suc d) h e =
        let q : k + suc d ≡ suc k + d = omega arith in
        let c : drop k S ≡ get_or S k 0 ∷ drop (suc k) S = drop-cons S k 0 (omega arith) in
        ap (λ (ns : List ℕ). extreme op ns (W.run k x)) c
        ∙ walk_extreme_wait k (get_or S k 0) (drop (suc k) S) (subst Pos c (pos_drop k S p)).0 x (e k (le_refl k) (omega arith))
        ∙ rw q (walk_extreme_jump S p x (suc k) d (omega arith) (λ j a b. e j (omega arith) (omega arith)))
