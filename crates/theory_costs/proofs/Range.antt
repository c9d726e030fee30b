-- RANGE, decided by the lowest and the highest of the result; operations that never leave the range; scaled costs. Assumes nothing.
use mathlib.Core.Path.{◌≡◌, sym, subst}
use mathlib.Core.Logic.{◌⊎◌, inl, inr, ◌↔◌}
use mathlib.Core.List.{List}
use Prim.Native.Nat.{ℕ, ◌≤◌, ◌<◌}
use native.Mathlib.Decide.{dec_le, dec_lt}
use native.Mathlib.Omega.{arith}
use lib.IntN.{ℤ, pos, negsuc, ◌*ℤ◌}
use lib.ListN.{length, get_or, get_or-eq_default}
use lib.Signed.{◌≤ℤ◌}
use Rattle.theory.specs.Settings.{Pos}
use Rattle.theory.specs.Rules.{Rule}
use Rattle.theory.specs.Costs.{Cost}
use Rattle.theory_costs.specs.Extremes.{highest_of, lowest_of}
use Rattle.theory_costs.proofs.Integers.{chosen_either, fit_zero, larger_either, le_ℕ, smaller_either}
use Rattle.theory_costs.proofs.Products.{scale_ge, scale_le}
use Rattle.theory_costs.proofs.Extremes.{Taken, Way, extreme_beats, extreme_map, extreme_taken, high, low}
use Rattle.theory_costs.proofs.Placing.{Takes}
use Rattle.promises.specs.Integers.{Fit, rise, fall}
use Rattle.promises.specs.CostOperations.{chosen, constant, larger, priced, scaled, smaller, smaller_of, larger_of, chosen_of}
use Rattle.promises.specs.Range.{LeavesRange, Within, cost_most}
use Rattle.promises.specs.CostSound.{extreme}

-- ---- by the lowest and the highest
higher_rise : (y z : ℤ) → y ≤ℤ z → rise y ≤ rise z
higher_rise (pos a) (pos b) h = omega (arith, le_ℕ h)
higher_rise (pos a) (negsuc b) h = omega (arith, le_ℕ h)
higher_rise (negsuc a) z h = omega arith

lower_fall : (y z : ℤ) → z ≤ℤ y → fall y ≤ fall z
lower_fall (pos a) z h = omega arith
lower_fall (negsuc a) (pos b) h = omega (arith, le_ℕ h)
lower_fall (negsuc a) (negsuc b) h = omega (arith, le_ℕ h)

-- an extreme lies where the cost does
pub extreme_fits : {op : ℤ → ℤ → ℤ} {R : ℤ → ℤ → Type 0} → Way op R → {B : ℕ} (ns : List ℕ) → Pos ns → (f : Cost) → Within B ns f → Fit B (extreme op ns f)
extreme_fits {op} W {B} ns p f h =
    let b : Taken ns f (extreme op ns f) = extreme_taken W ns p f in
    subst (Fit B) (sym b.takes) (h.fits b.setting b.valid)

-- a cost lies within ±B exactly if its lowest and its highest do
pub within_exactly : (B : ℕ) (ns : List ℕ) → Pos ns → (f : Cost) → Within B ns f ↔ ((fall (lowest_of ns f) ≤ B) × (rise (highest_of ns f) ≤ B))
within_exactly B ns p f = (
  λ h. ((extreme_fits low ns p f h).bottom, (extreme_fits high ns p f h).top),
  λ q. record {
    fits =
        λ s x. record {
          top = omega (arith, q.1, higher_rise (f s).off (highest_of ns f) (extreme_beats high ns f s x));
          bottom = omega (arith, q.0, lower_fall (f s).off (lowest_of ns f) (extreme_beats low ns f s x));
        };
  },
)

pub within_stays : {S : List ℕ} {f : Cost} → Within cost_most S f → LeavesRange S f → ⊥
within_stays h l = l.out (h.fits l.setting l.valid)

-- RANGE EXACTLY: one of the two, and which one the lowest and the highest tell
pub within_or_leaves : (S : List ℕ) → Pos S → (f : Cost) → Within cost_most S f ⊎ LeavesRange S f
within_or_leaves S p f = go (dec_le (fall (lowest_of S f)) cost_most) (dec_le (rise (highest_of S f)) cost_most)
  where
    go : Dec (fall (lowest_of S f) ≤ cost_most) → Dec (rise (highest_of S f) ≤ cost_most) → Within cost_most S f ⊎ LeavesRange S f
    go (yes a) (yes b) = inl ((within_exactly cost_most S p f).1 (a, b))
    go (yes a) (no b) =
        let t : Taken S f (highest_of S f) = extreme_taken high S p f in
        inr (record { setting = t.setting; valid = t.valid; out = λ q. b (subst (Fit cost_most) (sym t.takes) q).top })
    go (no a) d =
        let t : Taken S f (lowest_of S f) = extreme_taken low S p f in
        inr (record { setting = t.setting; valid = t.valid; out = λ q. a (subst (Fit cost_most) (sym t.takes) q).bottom })

-- ---- constants and price lists lie where their integers do
pub constant_within : {B : ℕ} {S : List ℕ} (a : ℤ) → Fit B a → Within B S (constant a)
constant_within a h = record { fits = λ s x. h }

pub priced_within : {B : ℕ} {S : List ℕ} (k : ℕ) (prices : List ℤ) → ((v : ℕ) → v < length prices → Fit B (get_or prices v (pos 0))) → Within B S (priced k prices)
priced_within {B} k prices h = record { fits = λ s x. go (get_or s k 0) (dec_lt (get_or s k 0) (length prices)) }
  where
    go : (v : ℕ) → Dec (v < length prices) → Fit B (get_or prices v (pos 0))
    go v (yes l) = h v l
    go v (no l) = subst (Fit B) (sym (get_or-eq_default prices (pos 0) (omega arith))) (fit_zero B)

-- ---- smaller, larger and choose never leave the range
pub smaller_takes : Takes smaller_of
smaller_takes = record { either = smaller_either }

pub larger_takes : Takes larger_of
larger_takes = record { either = larger_either }

pub chosen_takes : (n : ℕ) → Takes (chosen_of n)
chosen_takes n = record { either = chosen_either n }

takes_fits : {B : ℕ} (F : ℤ → ℤ → ℤ) → Takes F → (x y : ℤ) → Fit B x → Fit B y → Fit B (F x y)
takes_fits {B} F t x y hx hy = go (t.either x y)
  where
    go : (F x y ≡ x) ⊎ (F x y ≡ y) → Fit B (F x y)
    go (inl e) = subst (Fit B) (sym e) hx
    go (inr e) = subst (Fit B) (sym e) hy

module _ {B : ℕ} {S : List ℕ} {f h : Cost} (hf : Within B S f) (hh : Within B S h) where
  pub smaller_within : Within B S (smaller f h)
  smaller_within = record { fits = λ s x. takes_fits smaller_of smaller_takes (f s).off (h s).off (hf.fits s x) (hh.fits s x) }

  pub larger_within : Within B S (larger f h)
  larger_within = record { fits = λ s x. takes_fits larger_of larger_takes (f s).off (h s).off (hf.fits s x) (hh.fits s x) }

  pub chosen_within : (g : Rule) → Within B S (chosen g f h)
  chosen_within g = record { fits = λ s x. takes_fits (chosen_of (g s).end) (chosen_takes (g s).end) (f s).off (h s).off (hf.fits s x) (hh.fits s x) }

-- ---- scale: from the lowest and the highest of the cost
module _ (ns : List ℕ) (p : Pos ns) (f : Cost) (n : ℕ) where
  pub lowest_scaled : lowest_of ns (scaled (pos n) f) ≡ lowest_of ns f *ℤ pos n
  lowest_scaled = extreme_map low low (λ z. z *ℤ pos n) (λ a b h. scale_le n a b h) ns p f

  pub highest_scaled : highest_of ns (scaled (pos n) f) ≡ highest_of ns f *ℤ pos n
  highest_scaled = extreme_map high high (λ z. z *ℤ pos n) (λ a b h. scale_le n b a h) ns p f

  -- a negative factor turns them
  pub lowest_turned : lowest_of ns (scaled (negsuc n) f) ≡ highest_of ns f *ℤ negsuc n
  lowest_turned = extreme_map high low (λ z. z *ℤ negsuc n) (λ a b h. scale_ge n b a h) ns p f

  pub highest_turned : highest_of ns (scaled (negsuc n) f) ≡ lowest_of ns f *ℤ negsuc n
  highest_turned = extreme_map low high (λ z. z *ℤ negsuc n) (λ a b h. scale_ge n a b h) ns p f
