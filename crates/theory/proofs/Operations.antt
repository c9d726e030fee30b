-- What an operation may do in place of `build`: all operands ended, a remembered result, a jump to the lowest tested feature, a held feature. Assumes nothing.
use mathlib.Core.Path.{◌≡◌, refl, sym, ap, ◌∙◌, subst}
use mathlib.Core.List.{List, [], ◌∷◌, ◌++◌, map}
use Prim.Native.Nat.{ℕ, zero, suc, ◌+◌, ◌≤◌, ◌<◌}
use native.Mathlib.Nat.{add-zero, le_refl}
use native.Mathlib.Omega.{arith}
use lib.ListN.{length, get_or, drop}
use lib.Seq.{drop-cons}
use Rattle.theory.specs.Kind.{Kind}
use Rattle.theory.specs.Settings.{Pos, Valid}
use Rattle.theory.specs.Functions.{Amount, Fun, held}
use Rattle.theory.specs.Diagrams.{Branch, Node, ending, next, value}
use Rattle.theory.specs.Rests.{Free}
use Rattle.theory.specs.WellFormed.{Ok, WellFormed}
use Rattle.theory.specs.Build.{build}
use Rattle.theory.specs.Operations.{Oks, restricted, result}
use Rattle.theory.proofs.Lists.{pos_drop}
use Rattle.theory.proofs.WellFormed.{under_weaken}
use Rattle.theory.proofs.Values.{go_on_ok, value_ending, value_more, value_next, value_wait}
use Rattle.theory.proofs.Canonical.{build_agree, build_skips, canonical}

module _ {K : Kind} where
  map_endings : (N : List (Node K)) (k : ℕ) (ps : List (Amount K)) (s : List ℕ) → map (λ (b : Branch K). value N k b s) (map ending ps) ≡ ps
  map_endings N k [] s = refl
  map_endings N k (p ∷ ps) s = λ i. value_ending N k p s i ∷ map_endings N k ps s i

  map_next : (N : List (Node K)) (k v : ℕ) (s : List ℕ) (bs : List (Branch K)) →
      map (λ (b : Branch K). value N k b (v ∷ s)) bs ≡ map (λ (b : Branch K). value N (suc k) b s) (map (λ (b : Branch K). next N k b v) bs)
  map_next N k v s [] = refl
  map_next N k v s (b ∷ bs) = λ i. value_next N k b v s i ∷ map_next N k v s bs i

  map_wait : (N : List (Node K)) (k v : ℕ) (s : List ℕ) (bs : List (Branch K)) → Oks N (suc k) bs → map (λ (b : Branch K). value N k b (v ∷ s)) bs ≡ map (λ (b : Branch K). value N (suc k) b s) bs
  map_wait N k v s [] o = refl
  map_wait N k v s (b ∷ bs) o = λ i. value_wait N k b v s o.0 i ∷ map_wait N k v s bs o.1 i

  map_more : (S : List ℕ) (N M : List (Node K)) → WellFormed S N → (k : ℕ) (s : List ℕ) (bs : List (Branch K)) → Oks N k bs
      → map (λ (b : Branch K). value (N ++ M) k b s) bs ≡ map (λ (b : Branch K). value N k b s) bs
  map_more S N M w k s [] o = refl
  map_more S N M w k s (b ∷ bs) o = λ i. value_more S N M w k b s o.0 i ∷ map_more S N M w k s bs o.1 i

  -- the operands may be read in any later list
  pub result_more : (S : List ℕ) (F : List (Amount K) → Amount K) (N M : List (Node K)) → WellFormed S N → (k : ℕ) (bs : List (Branch K)) → Oks N k bs → (s : List ℕ)
      → result F (N ++ M) k bs s ≡ result F N k bs s
  result_more S F N M w k bs o s = ap F (map_more S N M w k s bs o)

  -- the result's branch at v is the result of the operands' branches at v
  pub result_held : (F : List (Amount K) → Amount K) (N : List (Node K)) (k v : ℕ) (bs : List (Branch K)) (s : List ℕ)
      → held v (result F N k bs) s ≡ result F N (suc k) (map (λ (b : Branch K). next N k b v) bs) s
  result_held F N k v bs s = ap F (map_next N k v s bs)

  pub oks_next : (S : List ℕ) (N : List (Node K)) → WellFormed S N → (k v : ℕ) (bs : List (Branch K)) → Oks N k bs → Oks N (suc k) (map (λ (b : Branch K). next N k b v) bs)
  oks_next S N w k v [] o = tt
  oks_next S N w k v (b ∷ bs) o = (go_on_ok S N w k b.adds b.to v o.0, oks_next S N w k v bs o.1)

  oks_lower : (N : List (Node K)) (k k' : ℕ) (bs : List (Branch K)) → k' ≤ k → Oks N k bs → Oks N k' bs
  oks_lower N k k' [] h o = tt
  oks_lower N k k' (b ∷ bs) h o = (under_weaken N (length N) (length N) k k' b.to (le_refl _) h o.0, oks_lower N k k' bs h o.1)

  -- all operands are amounts: an amount, and no node
  pub build_endings : (S : List ℕ) (k : ℕ) (ns : List ℕ) → drop k S ≡ ns → Pos ns → (F : List (Amount K) → Amount K) (O N : List (Node K)) → WellFormed S N → (ps : List (Amount K)) →
      build k ns (result F O k (map ending ps)) N ≡ (ending (F ps), N)
  build_endings S k ns rest pos F O N w ps =
      canonical S k ns rest pos N w (ending (F ps)) (result F O k (map ending ps))
      (record { ok = tt; says = λ s x. value_ending N k (F ps) s ∙ sym (ap F (map_endings O k ps s)) })

  -- a remembered result is used: the list stays as it is
  pub build_remembered : (S : List ℕ) (k : ℕ) (ns : List ℕ) → drop k S ≡ ns → Pos ns → (F : List (Amount K) → Amount K) (O N : List (Node K)) → WellFormed S N
      → (bs : List (Branch K)) (c : Branch K) → Ok N k c →
      ((s : List ℕ) → Valid ns s → value N k c s ≡ result F O k bs s) → build k ns (result F O k bs) N ≡ (c, N)
  build_remembered S k ns rest pos F O N w bs c o e = canonical S k ns rest pos N w c (result F O k bs) (record { ok = o; says = e })

  -- no operand tests feature k: it is passed over
  pub build_wait : (S : List ℕ) (k n : ℕ) (ns : List ℕ) → drop k S ≡ n ∷ ns → Pos (n ∷ ns) → (F : List (Amount K) → Amount K) (O N : List (Node K)) → WellFormed S N
      → (bs : List (Branch K)) → Oks O (suc k) bs →
      build k (n ∷ ns) (result F O k bs) N ≡ build (suc k) ns (result F O (suc k) bs) N
  unfolding Free
  build_wait S k n ns rest pos F O N w bs o =
      build_skips S k n ns rest pos N w (result F O k bs) (λ v h s x. ap F (map_wait O k v s bs o) ∙ sym (ap F (map_wait O k 0 s bs o)))
      ∙ build_agree (suc k) ns (held 0 (result F O k bs)) (result F O (suc k) bs) (λ s x. ap F (map_wait O k 0 s bs o)) N

  -- no operand tests a feature below k + d: jump there
  pub build_jump : (S : List ℕ) → Pos S → (F : List (Amount K) → Amount K) (O N : List (Node K)) → WellFormed S N → (bs : List (Branch K)) (k d : ℕ) → k + d ≤ length S → Oks O (k + d) bs →
      build k (drop k S) (result F O k bs) N ≡ build (k + d) (drop (k + d) S) (result F O (k + d) bs) N
  build_jump S pos F O N w bs k zero h o = rw add-zero refl
  build_jump S pos F O N w bs k (suc d) h o =
      let e : k + suc d ≡ suc k + d = omega arith in
      let l : k < length S = omega arith in
      let c : drop k S ≡ get_or S k 0 ∷ drop (suc k) S = drop-cons S k 0 l in
      ap (λ (ns : List ℕ). build k ns (result F O k bs) N) c
      ∙ build_wait S k (get_or S k 0) (drop (suc k) S) c (subst Pos c (pos_drop k S pos)) F O N w bs (oks_lower O (k + suc d) (suc k) bs (omega arith) o)
      ∙ rw e (build_jump S pos F O N w bs (suc k) d (omega arith) (subst (λ (j : ℕ). Oks O j bs) e o))

  pub restricted_held : (j v u : ℕ) (g : Fun K) → held u (restricted (suc j) v g) ≡ restricted j v (held u g)
  restricted_held j v u g = refl

  -- at the held feature: the branch at v, and no node
  pub build_restricted : (S : List ℕ) (k n : ℕ) (ns : List ℕ) → drop k S ≡ n ∷ ns → Pos (n ∷ ns) → (v : ℕ) (g : Fun K) (N : List (Node K)) → WellFormed S N →
      build k (n ∷ ns) (restricted 0 v g) N ≡ build (suc k) ns (held v g) N
  unfolding Free
  build_restricted S k n ns rest pos v g N w = build_skips S k n ns rest pos N w (restricted 0 v g) (λ u h s x. refl)
