-- The laws of each call on a cost table. Assumes nothing.
use mathlib.Core.Path.{◌≡◌, refl, sym, ap, ap₂, subst}
use mathlib.Core.List.{List}
use Prim.Native.Nat.{ℕ}
use native.Mathlib.Decide.{ℕ_discrete, dec_le}
use native.Mathlib.Omega.{arith}
use lib.IntN.{ℤ, ◌+ℤ◌, ◌-ℤ◌}
use lib.ListN.{get_or}
use Rattle.theory.specs.Functions.{Agree, Amount, zero_fun}
use Rattle.theory.specs.Costs.{costs, Cost, amount}
use Rattle.settings.specs.declared.refusals.Refusal.TheVariants.{BadPlace, BadArgument, Range}
use Rattle.promises.specs.Integers.{Fit}
use Rattle.promises.specs.CostOperations.{joined, scaled, smaller_of, larger_of}
use Rattle.promises.specs.Range.{LeavesRange, cost_most}
use Rattle.promises.specs.State.{state}
use Rattle.promises.specs.CostDeeds.{cost_looked, costed, price, range_cases, join, scale}
use Rattle.table_calls.proofs.Like.{Like, more, keep}
use Rattle.cost_calls.proofs.Edge.{drawn}
use Rattle.demands.specs.Agrees.{Matches}
use Rattle.demands.specs.TableGround.{table_ground}
use Rattle.demands.specs.CostCalls.{Call, open_call, constant_call, copy_call, price_call, add_call, subtract_call, smaller_call, larger_call, scale_call, look_up_call, same_call, tally_call, deed}
use Rattle.demands.proofs.Firm.{neg, or, rests, not_decided, leaves}
use Rattle.demands.proofs.Matching.{room_like}
use Rattle.demands.proofs.Effects.{Effects, replaced, on_table}
use Rattle.demands.proofs.Frame.{Frame}
use Rattle.demands.proofs.Table.{table_frame}
use Rattle.demands.proofs.Lawful.{Lawful, brief_lawful}
use Rattle.demands.proofs.TableLaws.{opening_lawful, constant_lawful, copy_lawful, look_up_lawful, same_lawful, tally_lawful}

-- ---- the table
abbrev pub effects : Effects (table_ground costed)
effects = on_table costed

pub frame : Frame effects
frame = table_frame cost_looked drawn

-- ---- costs that agree
pub offs : {x y : Amount costs} → x ≡ y → x.off ≡ y.off
offs e = ap (λ (z : Amount costs). z.off) e

pub leaves_like : {S : List ℕ} {g h : Cost} → Agree S g h → LeavesRange S g → LeavesRange S h
leaves_like e l = record { setting = l.setting; valid = l.valid; out = λ f. l.out (subst (Fit cost_most) (sym (offs (e l.setting l.valid))) f) }

-- RANGE and NO ROOM
pub range_like : {cap : ℕ} {S : List ℕ} {gs hs : List Cost} {g h : Cost} → Matches S gs hs → Agree S g h → Like (range_cases g (state cap S gs)) (range_cases h (state cap S hs))
range_like m e = more Range (leaves_like e) (leaves_like (λ s v. sym (e s v))) (λ n. room_like m e)

module _ {S : List ℕ} {gs hs : List Cost} (m : Matches S gs hs) where
  abbrev old : ℕ → Cost
  old p = get_or gs p zero_fun

  abbrev new : ℕ → Cost
  new p = get_or hs p zero_fun

  joined_agree : (F : ℤ → ℤ → ℤ) (a b : ℕ) → Agree S (joined F (old a) (old b)) (joined F (new a) (new b))
  joined_agree F a b s v = ap₂ (λ (x y : ℤ). amount (F x y)) (offs (m.each a s v)) (offs (m.each b s v))

  scaled_agree : (a : ℕ) (c : ℤ) → Agree S (scaled c (old a)) (scaled c (new a))
  scaled_agree a c s v = ap (λ (x : Amount costs). scaled c (λ t. x) s) (m.each a s v)

-- ---- calls that return only how they ended
price_lawful : (p f : ℕ) (l : List ℤ) → Lawful effects (price p f l)
price_lawful p f l = brief_lawful (record {
  ordered = λ z. (omega arith, (omega arith, (omega arith, tt)));
  firm = λ z. (neg, (or (dec_le _ _) (or (not_decided (ℕ_discrete _ _)) neg), (rests, tt)));
  cases_like = λ cap m. keep BadPlace (λ n. keep BadArgument (λ k. room_like m (λ s v. refl)));
  writes_like = λ cap m e. replaced p (λ s v. refl);
})

join_lawful : (F : ℤ → ℤ → ℤ) (p a b : ℕ) → Lawful effects (join F p a b)
join_lawful F p a b = brief_lawful (record {
  ordered = λ z. (omega arith, (omega arith, (omega arith, tt)));
  firm = λ z. (neg, (leaves, (rests, tt)));
  cases_like = λ cap m. keep BadPlace (λ n. range_like m (joined_agree m F a b));
  writes_like = λ cap m e. replaced p (joined_agree m F a b);
})

scale_lawful : (p a : ℕ) (c : ℤ) → Lawful effects (scale p a c)
scale_lawful p a c = brief_lawful (record {
  ordered = λ z. (omega arith, (omega arith, (omega arith, (omega arith, tt))));
  firm = λ z. (neg, (neg, (leaves, (rests, tt))));
  cases_like = λ cap m. keep BadPlace (λ n. keep BadArgument (λ k. range_like m (scaled_agree m a c)));
  writes_like = λ cap m e. replaced p (scaled_agree m a c);
})

-- EVERY CALL is lawful
pub lawful : (c : Call) → Lawful effects (deed c)
lawful (open_call S cap m) = opening_lawful costed S cap m
lawful (constant_call p x) = constant_lawful costed p (amount x)
lawful (copy_call p q) = copy_lawful costed p q
lawful (price_call p f l) = price_lawful p f l
lawful (add_call p a b) = join_lawful ◌+ℤ◌ p a b
lawful (subtract_call p a b) = join_lawful ◌-ℤ◌ p a b
lawful (smaller_call p a b) = join_lawful smaller_of p a b
lawful (larger_call p a b) = join_lawful larger_of p a b
lawful (scale_call p a c) = scale_lawful p a c
lawful (look_up_call p s) = look_up_lawful costed p s
lawful (same_call p q) = same_lawful costed p q
lawful tally_call = tally_lawful costed
