-- Laws of a setting by value: how its places are filled, and what it holds. Assumes nothing.
use mathlib.Core.Path.{◌≡◌, refl, sym, ap, ◌∙◌}
use mathlib.Core.List.{List, ◌++◌}
use Prim.Native.Nat.{ℕ, suc, ◌+◌, ◌-◌, ◌≤◌, ◌<◌}
use native.Mathlib.Omega.{arith}
use native.Mathlib.Numerals.{add-one}
use lib.ListN.{length, take, drop, set, get_or, replicate, length-replicate, replicate-append-replicate}
use lib.Seq.{length-take-le, take-suc, take_all, take_at, drop_at, append_snoc, set_at}
use Rattle.settings.specs.Step.{values_of, setting_of, zero_setting}
use Rattle.settings.specs.declared.steps.Setting.{Setting}

-- 16 places of which the first k hold those of b, and the others 0
abbrev pub filled : List ℕ → ℕ → List ℕ
filled b k = take k b ++ replicate (16 - k) 0

pub filled_more : (b : List ℕ) (k : ℕ) → k < 16 → k < length b → set (filled b k) k (get_or b k 0) ≡ filled b (k + 1)
filled_more b k h l =
    rw (add-one k, more)
    (set_at (take k b) 0 (replicate (16 - suc k) 0) (get_or b k 0) k (length-take-le k b (omega arith))
    ∙ sym (append_snoc (take k b) (get_or b k 0) (replicate (16 - suc k) 0))
    ∙ rw (take-suc b k 0 l))
  where
    more : 16 - k ≡ suc (16 - suc k)
    more = omega arith

made : (b l : List ℕ) → l ≡ take 16 b ++ replicate (16 - length b) 0 → record { count = length b; values = l } ≡ setting_of b
made b l e = ap (λ (v : List ℕ). let s : Setting = record { count = length b; values = v } in s) e

-- all bytes are in
pub filled_short : (b l : List ℕ) (k : ℕ) → k ≤ 16 → k ≤ length b → length b ≤ k → l ≡ filled b k → record { count = length b; values = l } ≡ setting_of b
filled_short b l k h i j e = made b l (e ∙ rw (same, take_all (length b) b (omega arith), take_all 16 b (omega arith)))
  where
    same : k ≡ length b
    same = omega arith

-- all places are filled
pub filled_long : (b l : List ℕ) (k : ℕ) → k ≤ 16 → 16 ≤ k → k ≤ length b → l ≡ filled b k → record { count = length b; values = l } ≡ setting_of b
filled_long b l k h i j e = made b l (e ∙ rw (same, none_left))
  where
    same : k ≡ 16
    same = omega arith

    none_left : 16 - length b ≡ 0
    none_left = omega arith

module _ (l : List ℕ) (short : length l ≤ 16) where
  -- a list of at most 16 is held whole
  pub places_short : (setting_of l).values ≡ l ++ replicate (16 - length l) 0
  places_short = rw (take_all 16 l short)

  -- and can be read again
  pub values_held : values_of (setting_of l) ≡ l
  values_held = rw (take_all 16 l short) (take_at l (replicate (16 - length l) 0) (length l) refl)

  pub rest_held : drop (length l) (setting_of l).values ≡ replicate (16 - length l) 0
  rest_held = rw (take_all 16 l short) (drop_at l (replicate (16 - length l) 0) (length l) refl)

-- the setting of n zeros holds n zeros
pub zero_held : (n : ℕ) → n ≤ 16 → zero_setting n ≡ setting_of (replicate n 0)
zero_held n h = ap (λ (v : List ℕ). let s : Setting = record { count = n; values = v } in s) places ∙ rw (length-replicate {A = ℕ} n 0)
  where
    long : length (replicate {A = ℕ} n 0) ≡ n
    long = length-replicate {A = ℕ} n 0

    all : n + (16 - n) ≡ 16
    all = omega arith

    places : replicate {A = ℕ} 16 0 ≡ take 16 (replicate n 0) ++ replicate (16 - n) 0
    places = rw (take_all 16 (replicate {A = ℕ} n 0) (omega (arith, long))) (sym (replicate-append-replicate n (16 - n) 0 ∙ rw all))
