-- The number of features asked: of functions that agree, and of the scope's rests; what a branch on the way asks. Assumes nothing.
use mathlib.Core.Path.{◌≡◌, refl, sym, ap, subst, ◌∙◌}
use mathlib.Core.Logic.{◌↔◌, inl, inr}
use mathlib.Core.List.{List, [], ◌∷◌, ◌++◌}
use Prim.Native.Nat.{ℕ, zero, suc, ◌+◌, ◌≤◌, ◌<◌}
use native.Mathlib.Omega.{arith}
use lib.ListN.{length, get_or, drop, take}
use Rattle.theory.specs.Kind.{Kind}
use Rattle.theory.specs.Deciding.{Alike}
use Rattle.theory.specs.Settings.{Pos, Valid, zeros}
use Rattle.theory.specs.Functions.{Agree, Fun, held, lift}
use Rattle.theory.specs.Diagrams.{Branch, Node, at, blank, less, node, up}
use Rattle.theory.specs.Rests.{Depends, Free, after, norm}
use Rattle.theory.specs.WellFormed.{Mean, Ok, WellFormed}
use Rattle.theory.specs.Counted.{one_if}
use Rattle.theory.specs.Asked.{NumberOf, Asks, Asked}
use Rattle.theory.specs.Questions.{asked, asks_decided, depends_decided, number_of}
use Rattle.theory.proofs.Lists.{drop_head}
use Rattle.theory.proofs.Ranges.{valid_fixed}
use Rattle.theory.proofs.Offsets.{less_up, lift_undo}
use Rattle.theory.proofs.Values.{mean_here, mean_wait}
use Rattle.theory.proofs.Canonical.{canonical_unique}

-- ---- numbers below n
one_yes : {P : Type 0} (d : Dec P) → P → one_if d ≡ 1
unfolding one_if
one_yes (yes q) p = refl
one_yes (no q) p = absurd (q p)

one_no : {P : Type 0} (d : Dec P) → ¬ P → one_if d ≡ 0
unfolding one_if
one_no (yes q) p = absurd (p q)
one_no (no q) p = refl

one_same : {P Q : Type 0} (d : Dec P) (e : Dec Q) → P ↔ Q → one_if d ≡ one_if e
one_same d (yes q) f = one_yes d (f.1 q) ∙ sym (one_yes (yes q) q)
one_same d (no q) f = one_no d (λ p. q (f.0 p)) ∙ sym (one_no (no q) q)

one_most : {P : Type 0} (d : Dec P) → one_if d ≤ 1
one_most (yes p) = omega (arith, one_yes (yes p) p)
one_most (no p) = omega (arith, one_no (no p) p)

module _ {P : ℕ → Type 0} (d : (k : ℕ) → Dec (P k)) where
  pub number_zero : number_of d 0 ≡ 0
  unfolding number_of
  number_zero = refl

  -- one more, or none
  pub number_one : (n : ℕ) → P n → number_of d (suc n) ≡ number_of d n + 1
  unfolding number_of
  number_one n p = omega (arith, one_yes (d n) p)

  pub number_none : (n : ℕ) → ¬ P n → number_of d (suc n) ≡ number_of d n
  unfolding number_of
  number_none n p = omega (arith, one_no (d n) p)

  pub number_most : (n : ℕ) → number_of d n ≤ n
  unfolding number_of
  number_most zero = omega arith
  number_most (suc n) = omega (arith, number_most n, one_most (d n))

  -- that is the number of those that have the property
  pub number_is : (n : ℕ) → NumberOf P n (number_of d n)
  number_is zero = number_zero
  number_is (suc n) = go (d n) (number_is n)
    where
      go : Dec (P n) → NumberOf P n (number_of d n) → NumberOf P (suc n) (number_of d (suc n))
      go (yes p) r = inl (p, (number_of d n, omega (arith, number_one n p), r))
      go (no p) r = inr (p, subst (NumberOf P n) (sym (number_none n p)) r)

number_unique : (P : ℕ → Type 0) (n a b : ℕ) → NumberOf P n a → NumberOf P n b → a ≡ b
number_unique P zero a b x y = x ∙ sym y
number_unique P (suc n) a b (inl x) (inl y) = x.1.1 ∙ ap suc (number_unique P n x.1.0 y.1.0 x.1.2 y.1.2) ∙ sym y.1.1
number_unique P (suc n) a b (inr x) (inr y) = number_unique P n a b x.1 y.1
number_unique P (suc n) a b (inl x) (inr y) = absurd (y.0 x.0)
number_unique P (suc n) a b (inr x) (inl y) = absurd (x.0 y.0)

number_same : {P Q : ℕ → Type 0} (d : (k : ℕ) → Dec (P k)) (e : (k : ℕ) → Dec (Q k)) → ((k : ℕ) → P k ↔ Q k) → (n : ℕ) → number_of d n ≡ number_of e n
unfolding number_of
number_same d e f zero = refl
number_same d e f (suc n) = omega (arith, number_same d e f n, one_same (d n) (e n) (f n))

module _ {K : Kind} where
  -- ---- of functions
  -- functions that agree depend on the same
  depends_agree : (ns : List ℕ) (g h : Fun K) → Agree ns g h → Depends ns g → Depends ns h
  unfolding Free
  depends_agree [] g h a d = d
  depends_agree (n ∷ ns) g h a d = λ f. d (λ v l s x. a (v ∷ s) (l, x) ∙ f v l s x ∙ sym (a (0 ∷ s) (omega arith, x)))

  -- functions that agree at every valid setting ask the same features
  asks_agree : (S : List ℕ) (g h : Fun K) → Agree S g h → (s : List ℕ) → Valid S s → (k : ℕ) → Asks S g s k → Asks S h s k
  asks_agree S g h a s valid k = depends_agree (drop k S) (after (take k s) g) (after (take k s) h) (λ r x. a (take k s ++ r) (valid_fixed k S s r valid x))

  -- so they ask the same number
  pub asked_agree : (S : List ℕ) (g h : Fun K) → Agree S g h → (s : List ℕ) → Valid S s → asked S g s ≡ asked S h s
  unfolding asked
  asked_agree S g h a s valid =
      number_same (asks_decided S g s) (asks_decided S h s) (λ k. (asks_agree S g h a s valid k, asks_agree S h g (λ r x. sym (a r x)) s valid k)) (length S)

  -- ASKED: the number that is computed, and no other
  pub asked_counts : (S : List ℕ) (g : Fun K) (s : List ℕ) → Asked S g s (asked S g s)
  unfolding asked
  asked_counts S g s = record { number = number_is (asks_decided S g s) (length S) }

  pub asked_one : (S : List ℕ) (g : Fun K) (s : List ℕ) (a b : ℕ) → Asked S g s a → Asked S g s b → a ≡ b
  asked_one S g s a b x y = number_unique (Asks S g s) (length S) a b x.number y.number

  pub asked_like : (S : List ℕ) (g h : Fun K) → Agree S g h → (s : List ℕ) → Valid S s → (a : ℕ) → Asked S g s a → Asked S h s a
  asked_like S g h e s valid a x =
      subst (Asked S h s) (sym (asked_one S g s a (asked S g s) x (asked_counts S g s) ∙ asked_agree S g h e s valid)) (asked_counts S h s)

  -- taking the amount off where all remaining features are 0, as the scope's rest does, changes no dependence
  depends_norm : (ns : List ℕ) (g : Fun K) → Depends ns g ↔ Depends ns (norm ns g)
  unfolding Free
  depends_norm [] g = (λ d. d, λ d. d)
  depends_norm (n ∷ ns) g =
      let a : K.Off = K.neg (g (zeros (n ∷ ns))).off in (
        λ d f. d (λ v l s x. sym (lift_undo a (g (v ∷ s))) ∙ ap (lift (K.neg a)) (f v l s x) ∙ lift_undo a (g (0 ∷ s))),
        λ d f. d (λ v l s x. ap (lift a) (f v l s x)),
      )

  -- so the features asked are those on which the scope's rests along the setting depend
  pub asked_rests : (S : List ℕ) (g : Fun K) (s : List ℕ) → asked S g s ≡ number_of (λ k. depends_decided (drop k S) (norm (drop k S) (after (take k s) g))) (length S)
  unfolding asked
  asked_rests S g s =
      number_same (asks_decided S g s) (λ k. depends_decided (drop k S) (norm (drop k S) (after (take k s) g))) (λ k. depends_norm (drop k S) (after (take k s) g)) (length S)

  -- ---- of branches
  -- what a branch that waits means does not depend on the feature
  pub mean_free : {N : List (Node K)} {k n : ℕ} {ns : List ℕ} {b : Branch K} {g : Fun K} → Mean N k (n ∷ ns) b g → Ok N (suc k) b → ¬ Depends (n ∷ ns) g
  unfolding Free
  mean_free m o d = d (λ v l s x. sym ((mean_wait m o v l).says s x) ∙ (mean_wait m o 0 (omega arith)).says s x)

  -- what a node means depends on its feature: else its branches would be alike
  pub mean_depends : (S : List ℕ) {N : List (Node K)} {k n i : ℕ} {a : K.Off} {ns : List ℕ} {g : Fun K} → WellFormed S N → drop k S ≡ n ∷ ns → Pos (n ∷ ns) →
      Mean N k (n ∷ ns) (record { adds = a; to = node i }) g → (at N i).feature ≡ k → Depends (n ∷ ns) g
  unfolding Free
  mean_depends S {N} {k} {n} {i} {a} {ns} {g} w rest pos m e free = (w.fits i m.ok.0).differ alike
    where
      b : ℕ → Branch K
      b v = get_or (at N i).branches v blank

      long : length (at N i).branches ≡ n
      long = (w.fits i m.ok.0).full ∙ ap (λ (j : ℕ). get_or S j 0) e ∙ (drop_head S k n ns rest).1

      means : (v : ℕ) → v < n → Mean N (suc k) ns (up a (b v)) (held v g)
      means v l = mean_here S w m e v l

      same : (v : ℕ) → v < n → up a (b v) ≡ up a (b 0)
      same v l =
          canonical_unique S (suc k) ns (drop_head S k n ns rest).2 pos.1 N w (up a (b v)) (up a (b 0)) (held 0 g)
          (record { ok = (means v l).ok; says = λ s x. (means v l).says s x ∙ free v l s x })
          (means 0 pos.0)

      alike : Alike blank (at N i).branches
      alike v l = sym (less_up a (b v)) ∙ ap (less a) (same v (omega (arith, long))) ∙ less_up a (b 0)
