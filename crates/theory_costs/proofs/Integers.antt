-- Linear facts on integers, turned into facts on `rise` and `fall` that omega reads: sums, differences, order, bounds. Assumes nothing.
use mathlib.Core.Path.{◌≡◌, refl, sym, ap, subst}
use mathlib.Core.Bool.{Bool, true, false, not, cond}
use mathlib.Core.Logic.{◌⊎◌, inl, inr}
use Prim.Native.Nat.{ℕ, zero, suc, ◌+◌, ◌-◌, ◌≤◌, ◌<◌}
use native.Mathlib.Decide.{dec_le}
use native.Mathlib.Omega.{arith}
use lib.IntN.{ℤ, pos, negsuc, neg_ℤ, sub_ℕ, ◌+ℤ◌, ◌-ℤ◌}
use lib.Signed.{lt_z, lt_z_no, ◌≤ℤ◌, ◌<ℤ◌}
use lib.Dec.{T, ltb, leb→le, le→leb, ltb→lt, lt→ltb, nltb→le}
use borrow.Author.Tests.{le-ltb}
use Rattle.promises.specs.Integers.{rise, fall, Fit}
use Rattle.promises.specs.CostOperations.{smaller_of, larger_of, chosen_of}

-- ---- sums and differences
cond_ind : (c : Bool) (x y : ℤ) (P : ℤ → Type 0) → (T c → P x) → (T (not c) → P y) → P (cond c x y)
cond_ind true x y P f g = f tt
cond_ind false x y P f g = g tt

pub sub_ℕ_lem : (a b : ℕ) → rise (sub_ℕ a b) + b ≡ fall (sub_ℕ a b) + a
sub_ℕ_lem a b =
    cond_ind (ltb a b) (negsuc (b - suc a)) (pos (a - b)) (λ z. rise z + b ≡ fall z + a)
    (λ t. let h = ltb→lt a b t in omega arith)
    (λ t. let h = nltb→le a b t in omega arith)

sub_fall : (a b : ℕ) → fall (sub_ℕ a b) ≤ b
sub_fall a b =
    cond_ind (ltb a b) (negsuc (b - suc a)) (pos (a - b)) (λ z. fall z ≤ b)
    (λ t. let h = ltb→lt a b t in omega arith)
    (λ t. omega arith)

pub sum_ℕ : (a b : ℤ) → rise (a +ℤ b) + (fall a + fall b) ≡ fall (a +ℤ b) + (rise a + rise b)
sum_ℕ (pos a) (pos b) = omega arith
sum_ℕ (pos a) (negsuc b) = omega (arith, sub_ℕ_lem a (suc b))
sum_ℕ (negsuc a) (pos b) = omega (arith, sub_ℕ_lem b (suc a))
sum_ℕ (negsuc a) (negsuc b) = omega arith

pub sum_fall : (a b : ℤ) → fall (a +ℤ b) ≤ fall a + fall b
sum_fall (pos a) (pos b) = omega arith
sum_fall (pos a) (negsuc b) = omega (arith, sub_fall a (suc b))
sum_fall (negsuc a) (pos b) = omega (arith, sub_fall b (suc a))
sum_fall (negsuc a) (negsuc b) = omega arith

pub sum_rise : (a b : ℤ) → rise (a +ℤ b) ≤ rise a + rise b
sum_rise a b = omega (arith, sum_ℕ a b, sum_fall a b)

pub neg_rise : (a : ℤ) → rise (neg_ℤ a) ≡ fall a
neg_rise (pos zero) = refl
neg_rise (pos (suc n)) = refl
neg_rise (negsuc n) = refl

pub neg_fall : (a : ℤ) → fall (neg_ℤ a) ≡ rise a
neg_fall (pos zero) = refl
neg_fall (pos (suc n)) = refl
neg_fall (negsuc n) = refl

pub minus_ℕ : (a b : ℤ) → rise (a -ℤ b) + (fall a + rise b) ≡ fall (a -ℤ b) + (rise a + fall b)
minus_ℕ a b = omega (arith, sum_ℕ a (neg_ℤ b), neg_rise b, neg_fall b)

pub minus_rise : (a b : ℤ) → rise (a -ℤ b) ≤ rise a + fall b
minus_rise a b = omega (arith, sum_rise a (neg_ℤ b), neg_rise b)

pub minus_fall : (a b : ℤ) → fall (a -ℤ b) ≤ fall a + rise b
minus_fall a b = omega (arith, sum_fall a (neg_ℤ b), neg_fall b)

-- ---- order and equality
pub le_ℕ : {a b : ℤ} → a ≤ℤ b → rise a + fall b ≤ rise b + fall a
le_ℕ {a = pos a} {b = pos b} h = omega (arith, leb→le a b h.le)
le_ℕ {a = pos a} {b = negsuc b} h = absurd h.le
le_ℕ {a = negsuc a} {b = pos b} h = omega arith
le_ℕ {a = negsuc a} {b = negsuc b} h = omega (arith, leb→le b a h.le)

pub ℕ-le : (a b : ℤ) → rise a + fall b ≤ rise b + fall a → a ≤ℤ b
ℕ-le (pos a) (pos b) h = record { le = le→leb a b (omega arith) }
ℕ-le (pos a) (negsuc b) h = absurd (omega arith)
ℕ-le (negsuc a) (pos b) h = record { le = tt }
ℕ-le (negsuc a) (negsuc b) h = record { le = le→leb b a (omega arith) }

pub lt_ℕ : {a b : ℤ} → a <ℤ b → rise a + fall b < rise b + fall a
lt_ℕ {a = pos a} {b = pos b} h = omega (arith, ltb→lt a b h.lt)
lt_ℕ {a = pos a} {b = negsuc b} h = absurd h.lt
lt_ℕ {a = negsuc a} {b = pos b} h = omega arith
lt_ℕ {a = negsuc a} {b = negsuc b} h = omega (arith, ltb→lt b a h.lt)

pub ℕ-lt : (a b : ℤ) → rise a + fall b < rise b + fall a → a <ℤ b
ℕ-lt (pos a) (pos b) h = record { lt = lt→ltb a b (omega arith) }
ℕ-lt (pos a) (negsuc b) h = absurd (omega arith)
ℕ-lt (negsuc a) (pos b) h = record { lt = tt }
ℕ-lt (negsuc a) (negsuc b) h = record { lt = lt→ltb b a (omega arith) }

pub ℕ-eq : (a b : ℤ) → rise a + fall b ≡ rise b + fall a → a ≡ b
ℕ-eq (pos a) (pos b) h = ap pos (omega arith)
ℕ-eq (pos a) (negsuc b) h = absurd (omega arith)
ℕ-eq (negsuc a) (pos b) h = absurd (omega arith)
ℕ-eq (negsuc a) (negsuc b) h = ap negsuc (omega arith)

pub le_refl : (a : ℤ) → a ≤ℤ a
le_refl a = ℕ-le a a (omega arith)

pub le_trans : (a b c : ℤ) → a ≤ℤ b → b ≤ℤ c → a ≤ℤ c
le_trans a b c h k = ℕ-le a c (omega (arith, le_ℕ h, le_ℕ k))

pub le_antisym : (a b : ℤ) → a ≤ℤ b → b ≤ℤ a → a ≡ b
le_antisym a b h k = ℕ-eq a b (omega (arith, le_ℕ h, le_ℕ k))

pub add_le : (c a b : ℤ) → a ≤ℤ b → (c +ℤ a) ≤ℤ (c +ℤ b)
add_le c a b h = ℕ-le (c +ℤ a) (c +ℤ b) (omega (arith, le_ℕ h, sum_ℕ c a, sum_ℕ c b))

-- ---- the test that decides the order
is_true : (b : Bool) → T b → b ≡ true
is_true true t = refl
is_true false t = absurd t

pub lt_test : (a b : ℤ) → a <ℤ b → lt_z a b ≡ true
lt_test a b h = is_true (lt_z a b) h.lt

pub le_test : (a b : ℤ) → b ≤ℤ a → lt_z a b ≡ false
le_test (pos a) (pos b) h = le-ltb a b (leb→le b a h.le)
le_test (pos a) (negsuc b) h = refl
le_test (negsuc a) (pos b) h = absurd h.le
le_test (negsuc a) (negsuc b) h = le-ltb b a (leb→le a b h.le)

pub test_lt : (a b : ℤ) → lt_z a b ≡ true → rise a + fall b < rise b + fall a
test_lt a b e = lt_ℕ {a = a} {b = b} (record { lt = subst T (sym e) tt })

pub test_le : (a b : ℤ) → lt_z a b ≡ false → rise b + fall a ≤ rise a + fall b
test_le a b e = le_ℕ {a = b} {b = a} (lt_z_no {a = a} {b = b} (subst (λ (t : Bool). T (not t)) (sym e) tt))

-- a common summand changes no order
pub test_both : (c a b : ℤ) → lt_z (c +ℤ a) (c +ℤ b) ≡ lt_z a b
test_both c a b = go (lt_z a b) refl
  where
    go : (t : Bool) → lt_z a b ≡ t → lt_z (c +ℤ a) (c +ℤ b) ≡ t
    go true e = lt_test (c +ℤ a) (c +ℤ b) (ℕ-lt (c +ℤ a) (c +ℤ b) (omega (arith, test_lt a b e, sum_ℕ c a, sum_ℕ c b)))
    go false e = le_test (c +ℤ a) (c +ℤ b) (ℕ-le (c +ℤ b) (c +ℤ a) (omega (arith, test_le a b e, sum_ℕ c a, sum_ℕ c b)))

-- ---- the smaller, the larger, the chosen of two
cond_either : (t : Bool) (x y : ℤ) → (cond t y x ≡ x) ⊎ (cond t y x ≡ y)
cond_either true x y = inr refl
cond_either false x y = inl refl

pub smaller_either : (x y : ℤ) → (smaller_of x y ≡ x) ⊎ (smaller_of x y ≡ y)
unfolding smaller_of
smaller_either x y = cond_either (lt_z y x) x y

pub larger_either : (x y : ℤ) → (larger_of x y ≡ x) ⊎ (larger_of x y ≡ y)
unfolding larger_of
larger_either x y = cond_either (lt_z x y) x y

pub chosen_either : (n : ℕ) (x y : ℤ) → (chosen_of n x y ≡ x) ⊎ (chosen_of n x y ≡ y)
chosen_either zero x y = inr refl
chosen_either (suc n) x y = inl refl

pub smaller_le : (x y : ℤ) → (smaller_of x y ≤ℤ x) × (smaller_of x y ≤ℤ y)
unfolding smaller_of
smaller_le x y = go (lt_z y x) refl
  where
    go : (t : Bool) → lt_z y x ≡ t → (cond t y x ≤ℤ x) × (cond t y x ≤ℤ y)
    go true e = (ℕ-le y x (omega (arith, test_lt y x e)), le_refl y)
    go false e = (le_refl x, ℕ-le x y (omega (arith, test_le y x e)))

pub larger_ge : (x y : ℤ) → (x ≤ℤ larger_of x y) × (y ≤ℤ larger_of x y)
unfolding larger_of
larger_ge x y = go (lt_z x y) refl
  where
    go : (t : Bool) → lt_z x y ≡ t → (x ≤ℤ cond t y x) × (y ≤ℤ cond t y x)
    go true e = (ℕ-le x y (omega (arith, test_lt x y e)), le_refl y)
    go false e = (le_refl x, ℕ-le y x (omega (arith, test_le x y e)))

-- ---- within ±B
pub fit_between : (B : ℕ) (z : ℤ) → Fit B z → (neg_ℤ (pos B) ≤ℤ z) × (z ≤ℤ pos B)
fit_between B z f = (
  ℕ-le (neg_ℤ (pos B)) z (omega (arith, f.bottom, neg_rise (pos B), neg_fall (pos B))),
  ℕ-le z (pos B) (omega (arith, f.top)),
)

-- one of `rise` and `fall` is 0
pub rise_near : {B : ℕ} (z : ℤ) → rise z ≤ B + fall z → rise z ≤ B
rise_near (pos a) h = omega arith
rise_near (negsuc a) h = omega arith

pub fall_near : {B : ℕ} (z : ℤ) → fall z ≤ B + rise z → fall z ≤ B
fall_near (pos a) h = omega arith
fall_near (negsuc a) h = omega arith

pub between_fit : (B : ℕ) (z : ℤ) → neg_ℤ (pos B) ≤ℤ z → z ≤ℤ pos B → Fit B z
between_fit B z l h =
    record { top = rise_near z (omega (arith, le_ℕ h)); bottom = fall_near z (omega (arith, le_ℕ l, neg_rise (pos B), neg_fall (pos B))) }

pub fit_decided : (B : ℕ) (z : ℤ) → Dec (Fit B z)
fit_decided B z = go (dec_le (rise z) B) (dec_le (fall z) B)
  where
    go : Dec (rise z ≤ B) → Dec (fall z ≤ B) → Dec (Fit B z)
    go (yes a) (yes b) = yes (record { top = a; bottom = b })
    go (yes a) (no b) = no (λ f. b f.bottom)
    go (no a) d = no (λ f. a f.top)

pub fit_zero : (B : ℕ) → Fit B (pos 0)
fit_zero B = record { top = omega arith; bottom = omega arith }

pub fit_more : (B C : ℕ) (z : ℤ) → B ≤ C → Fit B z → Fit C z
fit_more B C z h f = record { top = omega (arith, f.top); bottom = omega (arith, f.bottom) }

pub fit_sum : (B C : ℕ) (x y : ℤ) → Fit B x → Fit C y → Fit (B + C) (x +ℤ y)
fit_sum B C x y f g = record { top = omega (arith, f.top, g.top, sum_rise x y); bottom = omega (arith, f.bottom, g.bottom, sum_fall x y) }

pub fit_minus : (B C : ℕ) (x y : ℤ) → Fit B x → Fit C y → Fit (B + C) (x -ℤ y)
fit_minus B C x y f g = record { top = omega (arith, f.top, g.bottom, minus_rise x y); bottom = omega (arith, f.bottom, g.top, minus_fall x y) }

-- ---- sums taken apart
pub minus_zero : (x : ℤ) → x -ℤ pos 0 ≡ x
minus_zero x = ℕ-eq _ _ (omega (arith, minus_ℕ x (pos 0)))

pub minus_self : (x : ℤ) → x -ℤ x ≡ pos 0
minus_self x = ℕ-eq (x -ℤ x) (pos 0) (omega (arith, minus_ℕ x x))

pub minus_both : (a x y : ℤ) → (a +ℤ x) -ℤ (a +ℤ y) ≡ x -ℤ y
minus_both a x y = ℕ-eq _ _ (omega (arith, sum_ℕ a x, sum_ℕ a y, minus_ℕ (a +ℤ x) (a +ℤ y), minus_ℕ x y))

pub double_zero : (y : ℤ) → y ≡ y +ℤ y → y ≡ pos 0
double_zero y e = ℕ-eq y (pos 0) (omega (arith, sum_ℕ y y, ap rise e, ap fall e))
