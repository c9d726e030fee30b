-- The laws of `tab`, and numbers compared. Assumes nothing.
use mathlib.Core.Path.{◌≡◌, refl, sym, ap, ap₂, ◌∙◌, subst}
use mathlib.Core.Logic.{◌⊎◌, inl, inr, ⊎_elim}
use mathlib.Core.List.Memᴰ
use mathlib.Core.List.{List, [], ◌∷◌, ◌++◌, Memᴰ}
use Prim.Native.Nat.{ℕ, zero, suc, ◌≤◌, ◌<◌}
use native.Mathlib.Nat.{not-suc-le-zero}
use native.Mathlib.Decide.{dec_lt, ℕ_discrete}
use native.Mathlib.Omega.{arith}
use lib.ListN.{length, get_or, take, length-append, get_or-append}
use lib.Seq.{get_or-append_seam, ext_get_or, get_or-take, length-take-le}
use Rattle.promises.specs.Tab.{tab}

pub split : (a b : ℕ) → (a < b) ⊎ (b ≤ a)
split a b = elim (dec_lt a b) [ yes h ↦ inl h | no h ↦ inr (omega arith) ]

pub same : (a b : ℕ) → (a ≡ b) ⊎ (a ≡ b → ⊥)
same a b = elim (ℕ_discrete a b) [ yes h ↦ inl h | no h ↦ inr h ]

module _ {A : Type 0} where
  pub tab_none : (f : ℕ → A) → tab f 0 ≡ []
  unfolding tab
  tab_none f = refl

  pub tab_snoc : (f : ℕ → A) (n : ℕ) → tab f (suc n) ≡ tab f n ++ (f n ∷ [])
  unfolding tab
  tab_snoc f n = refl

  pub length_tab : (f : ℕ → A) (n : ℕ) → length (tab f n) ≡ n
  unfolding tab
  length_tab f zero = refl
  length_tab f (suc n) = omega (arith, length-append (tab f n) (f n ∷ []), length_tab f n)

  pub get_or_tab : (f : ℕ → A) (n i : ℕ) (d : A) → i < n → get_or (tab f n) i d ≡ f i
  unfolding tab
  get_or_tab f zero i d h = absurd (not-suc-le-zero h)
  get_or_tab f (suc n) i d h = ⊎_elim
      (λ l. get_or-append (tab f n) (f n ∷ []) d i (omega (arith, length_tab f n)) ∙ get_or_tab f n i d l)
      (λ l.
      let e : i ≡ n = omega arith in
      rw e (subst (λ (m : ℕ). get_or (tab f n ++ (f n ∷ [])) m d ≡ f n) (length_tab f n) (get_or-append_seam (tab f n) (f n) [] d)))
      (split i n)

  pub tab_ext : (f g : ℕ → A) (n : ℕ) → ((i : ℕ) → i < n → f i ≡ g i) → tab f n ≡ tab g n
  unfolding tab
  tab_ext f g zero h = refl
  tab_ext f g (suc n) h = ap₂ (λ (l : List A) (x : A). l ++ (x ∷ [])) (tab_ext f g n (λ i l. h i (omega arith))) (h n (omega arith))

  pub tab_of : (d : A) (l : List A) (n : ℕ) → length l ≡ n → tab (λ i. get_or l i d) n ≡ l
  tab_of d l n e =
      ext_get_or d (tab (λ i. get_or l i d) n) l (length_tab (λ i. get_or l i d) n ∙ sym e)
      (λ i h. get_or_tab (λ j. get_or l j d) n i d (omega (arith, length_tab (λ i. get_or l i d) n)))

  pub take_tab : (f : ℕ → A) (m n : ℕ) → m ≤ n → (d : A) → take m (tab f n) ≡ tab f m
  take_tab f m n h d =
      let e : length (take m (tab f n)) ≡ m = length-take-le m (tab f n) (omega (arith, length_tab f n)) in
      ext_get_or d (take m (tab f n)) (tab f m) (e ∙ sym (length_tab f m))
      (λ i l. get_or-take m (tab f n) i d (omega arith) ∙ get_or_tab f n i d (omega arith) ∙ sym (get_or_tab f m i d (omega arith)))

  -- what occurs in it
  pub tab_occurs : (f : ℕ → A) (n i : ℕ) → i < n → Memᴰ (f i) (tab f n)
  unfolding tab
  tab_occurs f zero i h = absurd (not-suc-le-zero h)
  tab_occurs f (suc n) i h = ⊎_elim
      (λ l. Memᴰ.append_left (f n ∷ []) (tab_occurs f n i l))
      (λ l. let e : i ≡ n = omega arith in Memᴰ.append_right (tab f n) (Memᴰ.head (ap f e)))
      (split i n)

  pub occurs_tab : (f : ℕ → A) (n : ℕ) {x : A} → Memᴰ x (tab f n) → (i : ℕ) × (i < n) × (x ≡ f i)
  unfolding tab
  occurs_tab f zero m = absurd (Memᴰ.not-nil m)
  occurs_tab f (suc n) m = ⊎_elim
      (λ k. let r = occurs_tab f n k in (r.0, omega (arith, r.1), r.2))
      (λ k. (n, omega arith, Memᴰ.eq_of_singleton k))
      (Memᴰ.append_cases (tab f n) m)
