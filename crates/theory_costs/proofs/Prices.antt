-- A price list: nothing above its feature, and the node of its prices there. Assumes nothing.
use mathlib.Core.Path.{◌≡◌, refl, sym, ap, ◌∙◌, subst}
use mathlib.Core.List.{List, ◌∷◌, map}
use Prim.Native.Nat.{ℕ, zero, suc, ◌+◌, ◌<◌}
use native.Mathlib.Nat.{add-zero, zero-add}
use native.Mathlib.Omega.{arith}
use lib.IntN.{ℤ, pos}
use lib.ListN.{length, get_or, drop, length-map}
use lib.Seq.{drop-cons}
use Rattle.theory.specs.Settings.{Pos}
use Rattle.theory.specs.Functions.{held}
use Rattle.theory.specs.Diagrams.{Branch, Node, blank}
use Rattle.theory.specs.Rests.{Free}
use Rattle.theory.specs.WellFormed.{WellFormed}
use Rattle.theory.specs.Build.{Built, build, make}
use Rattle.theory.specs.Costs.{amount, costs, to_end}
use Rattle.theory.proofs.Lists.{drop_head, get_or_map_in, pos_drop}
use Rattle.theory.proofs.Growing.{build_cons}
use Rattle.theory.proofs.Values.{value_ending}
use Rattle.theory.proofs.Canonical.{build_skips, canonical, each_stays}
use Rattle.promises.specs.CostOperations.{constant, priced}

module _ (S : List ℕ) (N : List (Node costs)) (w : WellFormed S N) where
  -- a constant is the end with the constant on it
  pub build_constant : (k : ℕ) (ns : List ℕ) → drop k S ≡ ns → Pos ns → (a : ℤ) → build k ns (constant a) N ≡ (to_end a, N)
  build_constant k ns rest p a = canonical S k ns rest p N w (to_end a) (constant a) (record { ok = tt; says = λ s x. value_ending N k (amount a) s })

  module _ (prices : List ℤ) where
    -- above its feature a price list is passed over
    priced_above : (k n : ℕ) (ns : List ℕ) → drop k S ≡ n ∷ ns → Pos (n ∷ ns) → (j : ℕ) → build k (n ∷ ns) (priced (suc j) prices) N ≡ build (suc k) ns (priced j prices) N
    unfolding Free
    priced_above k n ns rest p j = build_skips S k n ns rest p N w (priced (suc j) prices) (λ v h s x. refl)

    priced_here : (k n : ℕ) (ns : List ℕ) → drop k S ≡ n ∷ ns → Pos (n ∷ ns) → length prices ≡ n → build k (n ∷ ns) (priced 0 prices) N ≡ make k (map to_end prices) N
    priced_here k n ns rest p l =
        build_cons k n ns (priced 0 prices) N
        ∙ ap (λ (q : List (Branch costs) × List (Node costs)). make k q.0 q.1)
        (each_stays (build (suc k) ns) (priced 0 prices) N (map to_end prices) 0 n (length-map prices to_end ∙ l)
        (λ v h. ap (λ (u : ℕ). build (suc k) ns (held u (priced 0 prices)) N) (zero-add v)
        ∙ build_constant (suc k) ns (drop_head S k n ns rest).2 p.1 (get_or prices v (pos 0))
        ∙ ap (λ (b : Branch costs). let t : Built costs = (b, N) in t) (sym (get_or_map_in to_end (pos 0) blank prices v (omega arith)))))

    priced_jump : Pos S → (k j : ℕ) → k + j < length S → length prices ≡ get_or S (k + j) 0 → build k (drop k S) (priced j prices) N ≡ make (k + j) (map to_end prices) N
    priced_jump p k zero h l =
        let c : drop k S ≡ get_or S k 0 ∷ drop (suc k) S = drop-cons S k 0 (omega arith) in
        let e : k + zero ≡ k = add-zero k in
        ap (λ (ns : List ℕ). build k ns (priced 0 prices) N) c
        ∙ priced_here k (get_or S k 0) (drop (suc k) S) c (subst Pos c (pos_drop k S p)) (l ∙ ap (λ (i : ℕ). get_or S i 0) e)
        ∙ rw e refl
    priced_jump p k (suc j) h l =
        let q : k + suc j ≡ suc k + j = omega arith in
        let c : drop k S ≡ get_or S k 0 ∷ drop (suc k) S = drop-cons S k 0 (omega arith) in
        ap (λ (ns : List ℕ). build k ns (priced (suc j) prices) N) c
        ∙ priced_above k (get_or S k 0) (drop (suc k) S) c (subst Pos c (pos_drop k S p)) j
        ∙ rw q (priced_jump p (suc k) j (omega arith) (l ∙ ap (λ (i : ℕ). get_or S i 0) q))

    -- THE PRICE LIST of feature j is made of its prices
    pub build_priced : Pos S → (j : ℕ) → j < length S → length prices ≡ get_or S j 0 → build 0 S (priced j prices) N ≡ make j (map to_end prices) N
    build_priced p j h l =
        let z : 0 + j ≡ j = zero-add j in
        priced_jump p 0 j (omega arith) (l ∙ sym (ap (λ (i : ℕ). get_or S i 0) z)) ∙ ap (λ (i : ℕ). make i (map to_end prices) N) z
