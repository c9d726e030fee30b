-- The lowest and the highest of a cost: nowhere beaten and somewhere taken, found feature by feature. Assumes nothing.
use mathlib.Core.Path.{◌≡◌, refl, sym, ap, ◌∙◌, subst}
use mathlib.Core.Logic.{◌⊎◌, inl, inr}
use mathlib.Core.List.{List, [], ◌∷◌}
use Prim.Native.Nat.{ℕ, zero, suc, ◌<◌}
use native.Mathlib.Nat.{not-suc-le-zero}
use native.Mathlib.Decide.{dec_lt}
use native.Mathlib.Omega.{arith}
use lib.IntN.{ℤ, ◌+ℤ◌}
use lib.Signed.{◌≤ℤ◌}
use Rattle.theory.specs.Settings.{Valid, Pos}
use Rattle.theory.specs.Functions.{Agree, held, lift}
use Rattle.theory.specs.Costs.{Cost, amount}
use Rattle.theory_costs.proofs.Integers.{le_refl, le_trans, le_antisym, add_le, smaller_le, smaller_either, larger_ge, larger_either}
use Rattle.promises.specs.CostOperations.{smaller_of, larger_of}
use Rattle.promises.specs.CostSound.{across, extreme}

-- what the lowest and the highest share: op gives one of two, and that one is R to both
pub record Way (op : ℤ → ℤ → ℤ) (R : ℤ → ℤ → Type 0) : Type 0 where
  pub same : (a : ℤ) → R a a
  pub trans : (a b c : ℤ) → R a b → R b c → R a c
  pub anti : (a b : ℤ) → R a b → R b a → a ≡ b
  pub moves : (c a b : ℤ) → R a b → R (c +ℤ a) (c +ℤ b)
  pub both : (a b : ℤ) → R (op a b) a × R (op a b) b
  pub one : (a b : ℤ) → (op a b ≡ a) ⊎ (op a b ≡ b)

-- the order, turned
abbrev pub Above : ℤ → ℤ → Type 0
Above a b = b ≤ℤ a

pub low : Way smaller_of ◌≤ℤ◌
low = record { same = le_refl; trans = le_trans; anti = le_antisym; moves = add_le; both = smaller_le; one = smaller_either }

pub high : Way larger_of Above
high =
    record {
      same = le_refl;
      trans = λ a b c h k. le_trans c b a k h;
      anti = λ a b h k. le_antisym a b k h;
      moves = λ c a b h. add_le c b a h;
      both = larger_ge;
      one = larger_either;
    }

-- ---- of values, one after the other
module _ (op : ℤ → ℤ → ℤ) where
  pub across_one : (h : ℕ → ℤ) → across op h 1 ≡ h 0
  unfolding across
  across_one h = refl

  pub across_more : (h : ℕ → ℤ) (n : ℕ) → across op h (suc (suc n)) ≡ op (across op h (suc n)) (h (suc n))
  unfolding across
  across_more h n = refl

  pub across_ext : (h g : ℕ → ℤ) (n : ℕ) → ((v : ℕ) → v < n → h v ≡ g v) → across op h n ≡ across op g n
  unfolding across
  across_ext h g zero e = refl
  across_ext h g (suc zero) e = e 0 (omega arith)
  across_ext h g (suc (suc n)) e = λ i. op (across_ext h g (suc n) (λ v l. e v (omega arith)) i) (e (suc n) (omega arith) i)

  pub extreme_nil : (f : Cost) → extreme op [] f ≡ (f []).off
  unfolding extreme
  extreme_nil f = refl

  pub extreme_cons : (n : ℕ) (ns : List ℕ) (f : Cost) → extreme op (n ∷ ns) f ≡ across op (λ v. extreme op ns (held v f)) n
  unfolding extreme
  extreme_cons n ns f = refl

  pub extreme_agree : (ns : List ℕ) (f g : Cost) → Agree ns f g → extreme op ns f ≡ extreme op ns g
  extreme_agree [] f g a = extreme_nil f ∙ ap (λ x. x.off) (a [] tt) ∙ sym (extreme_nil g)
  extreme_agree (n ∷ ns) f g a =
      extreme_cons n ns f
      ∙ across_ext _ _ n (λ v l. extreme_agree ns (held v f) (held v g) (λ s x. a (v ∷ s) (l, x)))
      ∙ sym (extreme_cons n ns g)

-- a value, a setting that takes m
pub record Hit (h : ℕ → ℤ) (n : ℕ) (m : ℤ) : Type 0 where
  pub value : ℕ
  pub small : value < n
  pub hits : m ≡ h value

pub record Taken (ns : List ℕ) (f : Cost) (m : ℤ) : Type 0 where
  pub setting : List ℕ
  pub valid : Valid ns setting
  pub takes : m ≡ (f setting).off

module _ {op : ℤ → ℤ → ℤ} {R : ℤ → ℤ → Type 0} (W : Way op R) where
  across_beats : (h : ℕ → ℤ) (n v : ℕ) → v < n → R (across op h n) (h v)
  unfolding across
  across_beats h zero v l = absurd (not-suc-le-zero l)
  across_beats h (suc zero) v l = let e : v ≡ 0 = omega arith in rw e (W.same (h 0))
  across_beats h (suc (suc n)) v l = go (dec_lt v (suc n)) (across_beats h (suc n) v)
    where
      go : Dec (v < suc n) → (v < suc n → R (across op h (suc n)) (h v)) → R (op (across op h (suc n)) (h (suc n))) (h v)
      go (yes p) ih = W.trans _ (across op h (suc n)) _ (W.both _ _).0 (ih p)
      go (no p) ih = let e : v ≡ suc n = omega arith in rw e (W.both _ _).1

  across_hit : (h : ℕ → ℤ) (n : ℕ) → 0 < n → Hit h n (across op h n)
  unfolding across
  across_hit h zero l = absurd (not-suc-le-zero l)
  across_hit h (suc zero) l = record { value = 0; small = omega arith; hits = refl }
  across_hit h (suc (suc n)) l = go (W.one (across op h (suc n)) (h (suc n))) (across_hit h (suc n) (omega arith))
    where
      go : (op (across op h (suc n)) (h (suc n)) ≡ across op h (suc n)) ⊎ (op (across op h (suc n)) (h (suc n)) ≡ h (suc n)) → Hit h (suc n) (across op h (suc n)) →
          Hit h (suc (suc n)) (op (across op h (suc n)) (h (suc n)))
      go (inl e) q = record { value = q.value; small = omega (arith, q.small); hits = e ∙ q.hits }
      go (inr e) q = record { value = suc n; small = omega arith; hits = e }

  -- ---- over all settings
  -- nowhere beaten, ..
  pub extreme_beats : (ns : List ℕ) (f : Cost) (s : List ℕ) → Valid ns s → R (extreme op ns f) (f s).off
  extreme_beats [] f [] x = rw extreme_nil (W.same (f []).off)
  extreme_beats [] f (v ∷ s) x = absurd x
  extreme_beats (n ∷ ns) f [] x = absurd x
  extreme_beats (n ∷ ns) f (v ∷ s) x =
      rw extreme_cons
      (W.trans _ (extreme op ns (held v f)) _ (across_beats (λ u. extreme op ns (held u f)) n v x.0) (extreme_beats ns (held v f) s x.1))

  -- .. somewhere taken, ..
  pub extreme_taken : (ns : List ℕ) → Pos ns → (f : Cost) → Taken ns f (extreme op ns f)
  extreme_taken [] p f = record { setting = []; valid = tt; takes = extreme_nil op f }
  extreme_taken (n ∷ ns) p f =
      let h : Hit (λ u. extreme op ns (held u f)) n (across op (λ u. extreme op ns (held u f)) n) = across_hit (λ u. extreme op ns (held u f)) n p.0 in
      let t : Taken ns (held h.value f) (extreme op ns (held h.value f)) = extreme_taken ns p.1 (held h.value f) in
      record { setting = h.value ∷ t.setting; valid = (h.small, t.valid); takes = extreme_cons op n ns f ∙ h.hits ∙ t.takes }

  -- .. and it is the one integer of this kind
  pub extreme_is : (ns : List ℕ) → Pos ns → (f : Cost) (m : ℤ) → ((s : List ℕ) → Valid ns s → R m (f s).off) → Taken ns f m → m ≡ extreme op ns f
  extreme_is ns p f m l t =
      let b : Taken ns f (extreme op ns f) = extreme_taken ns p f in
      W.anti m (extreme op ns f)
      (subst (R m) (sym b.takes) (l b.setting b.valid))
      (subst (R (extreme op ns f)) (sym t.takes) (extreme_beats ns f t.setting t.valid))

  -- what is added to a cost is added to its extreme
  pub extreme_lift : (ns : List ℕ) → Pos ns → (c : ℤ) (f : Cost) → extreme op ns (λ s. lift c (f s)) ≡ c +ℤ extreme op ns f
  extreme_lift ns p c f =
      let b : Taken ns f (extreme op ns f) = extreme_taken ns p f in
      sym (extreme_is ns p (λ s. lift c (f s)) (c +ℤ extreme op ns f)
      (λ s x. W.moves c _ _ (extreme_beats ns f s x))
      (record { setting = b.setting; valid = b.valid; takes = ap (λ (z : ℤ). c +ℤ z) b.takes }))

  -- one feature: at v the cost adds a v and goes on with g v
  pub extreme_step : (n : ℕ) (ns : List ℕ) → Pos ns → (f : Cost) (a : ℕ → ℤ) (g : ℕ → Cost) → ((v : ℕ) → v < n → Agree ns (held v f) (λ s. lift (a v) (g v s))) →
      extreme op (n ∷ ns) f ≡ across op (λ v. a v +ℤ extreme op ns (g v)) n
  extreme_step n ns p f a g e =
      extreme_cons op n ns f
      ∙ across_ext op _ _ n (λ v l. extreme_agree op ns (held v f) (λ s. lift (a v) (g v s)) (e v l) ∙ extreme_lift ns p (a v) (g v))

  -- a feature that the cost does not depend on
  pub extreme_wait : (n : ℕ) (ns : List ℕ) → 0 < n → (f g : Cost) → ((v : ℕ) → v < n → Agree ns (held v f) g) → extreme op (n ∷ ns) f ≡ extreme op ns g
  extreme_wait n ns p f g e =
      let h : Hit (λ v. extreme op ns (held v f)) n (across op (λ v. extreme op ns (held v f)) n) = across_hit (λ v. extreme op ns (held v f)) n p in
      extreme_cons op n ns f ∙ h.hits ∙ extreme_agree op ns (held h.value f) g (e h.value h.small)

-- a map that keeps or turns the order takes one extreme to the other
pub extreme_map : {o q : ℤ → ℤ → ℤ} {R Q : ℤ → ℤ → Type 0} (A : Way o R) (B : Way q Q) (h : ℤ → ℤ) → ((a b : ℤ) → R a b → Q (h a) (h b)) →
    (ns : List ℕ) → Pos ns → (f : Cost) → extreme q ns (λ s. amount (h (f s).off)) ≡ h (extreme o ns f)
extreme_map {o} A B h m ns p f =
    let t : Taken ns f (extreme o ns f) = extreme_taken A ns p f in
    sym (extreme_is B ns p (λ s. amount (h (f s).off)) (h (extreme o ns f))
    (λ s x. m (extreme o ns f) (f s).off (extreme_beats A ns f s x))
    (record { setting = t.setting; valid = t.valid; takes = ap h t.takes }))
