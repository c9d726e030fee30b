-- The laws of each call on a rule table. Assumes nothing.
use mathlib.Core.Path.{◌≡◌, refl, sym, ap, ap₂, ◌∙◌}
use mathlib.Core.Logic.{◌⊎◌, inr}
use mathlib.Core.List.{List, ◌++◌}
use Prim.Native.Nat.{ℕ, ◌≤◌, ◌<◌}
use native.Mathlib.Decide.{ℕ_discrete, dec_lt, dec_le}
use native.Mathlib.Omega.{arith}
use lib.ListN.{length, get_or, set, drop, length-set}
use lib.Seq.{get_or-set_same, get_or-set_other}
use Rattle.theory.specs.Settings.{Valid}
use Rattle.theory.specs.Functions.{Agree, zero_fun}
use Rattle.theory.specs.First.{FirstFrom, NoneFrom}
use Rattle.theory.specs.Operations.{restricted}
use Rattle.theory.specs.Rules.{Rule, says}
use Rattle.theory.proofs.Counted.{count_agree, meet_agree}
use Rattle.theory.proofs.First.{first_unique}
use Rattle.theory.proofs.Ranges.{valid_length, valid_at, valid_from}
use Rattle.theory.proofs.Rules.{numbers}
use Rattle.settings.specs.Step.{setting_of}
use Rattle.settings.specs.declared.refusals.Refusal.TheVariants.{BadPlace, Newer, BadSheet, OtherFeatures, BadArgument, BadSelector, NoSpace, None}
use Rattle.table_words.proofs.Tab.{tab_ext}
use Rattle.promises.specs.Operators.{pair_of, case_of, forgotten_of}
use Rattle.promises.specs.State.{state}
use Rattle.promises.specs.RuleDeeds.{looked, spelled, counted, met, ruled, literal, case_rule, case, applied, apply, restrict, without, forget, count_with, next_with}
use Rattle.promises.specs.SheetDeeds.{SheetFor, filed, read_sheet, write_sheet}
use Rattle.table_calls.proofs.Like.{alike, more, keep, clear, rest}
use Rattle.rule_calls.proofs.Edge.{drawn}
use Rattle.sheets.proofs.Edge.{one_sheet}
use Rattle.demands.specs.Agrees.{Matches}
use Rattle.demands.specs.TableGround.{table_ground}
use Rattle.demands.specs.RuleCalls.{Call, open_call, constant_call, copy_call, literal_call, case_call, apply_call, restrict_call, forget_call, read_call, look_up_call, same_call, tally_call, count_call, next_call, write_call, deed}
use Rattle.demands.proofs.Firm.{le, neg, or, rests, reaches, newer, none_from}
use Rattle.demands.proofs.Matching.{room_like, matches_sym}
use Rattle.demands.proofs.Effects.{Effects, kept, replaced, on_table}
use Rattle.demands.proofs.Frame.{Frame}
use Rattle.demands.proofs.Table.{table_frame}
use Rattle.demands.proofs.Lawful.{Lawful, answer_one, steady_lawful, brief_lawful}
use Rattle.demands.proofs.TableLaws.{opening_lawful, constant_lawful, copy_lawful, look_up_lawful, same_lawful, tally_lawful}

-- ---- the table
abbrev pub effects : Effects (table_ground ruled)
effects = on_table ruled

pub frame : Frame effects
frame = table_frame looked drawn

-- ---- settings
-- a setting with one value replaced
pub valid_set : (S s : List ℕ) (f x : ℕ) → Valid S s → x < get_or S f 0 → Valid S (set s f x)
valid_set S s f x v h = valid_from S (set s f x) (length-set s f x ∙ valid_length S s v) (λ k l. go k l (ℕ_discrete k f))
  where
    go : (k : ℕ) → k < length S → Dec (k ≡ f) → get_or (set s f x) k 0 < get_or S k 0
    go k l (yes e) = rw e (omega (arith, h, get_or-set_same s f x 0 (omega (arith, l, e, valid_length S s v))))
    go k l (no n) = omega (arith, valid_at S s v k l, get_or-set_other s f k x 0 n)

-- ---- rules that agree
module _ {S : List ℕ} {gs hs : List Rule} (m : Matches S gs hs) where
  abbrev old : ℕ → Rule
  old p = get_or gs p zero_fun

  abbrev new : ℕ → Rule
  new p = get_or hs p zero_fun

  case_agree : (cap q : ℕ) (l : List ℕ) → Agree S (case_rule (state cap S gs) q l) (case_rule (state cap S hs) q l)
  case_agree cap q l s v =
      ap₂ (λ (a : ℕ) (b : List ℕ). says (case_of a b)) (numbers (m.each q s v))
      (tab_ext (λ j. (old (get_or l j 0) s).end) (λ j. (new (get_or l j 0) s).end) (length l) (λ j h. numbers (m.each (get_or l j 0) s v)))

  applied_agree : (x a b : ℕ) → Agree S (applied x (old a) (old b)) (applied x (new a) (new b))
  applied_agree x a b s v = ap₂ (λ (y z : ℕ). says (pair_of x y z)) (numbers (m.each a s v)) (numbers (m.each b s v))

  restricted_agree : (q f x : ℕ) → x < get_or S f 0 → Agree S (restricted f x (old q)) (restricted f x (new q))
  restricted_agree q f x h s v = m.each q (set s f x) (valid_set S s f x v h)

  without_agree : (q f : ℕ) → Agree S (without f (get_or S f 0) (old q)) (without f (get_or S f 0) (new q))
  without_agree q f s v =
      ap (λ (l : List ℕ). says (forgotten_of l)) (tab_ext (λ x. (old q (set s f x)).end) (λ x. (new q (set s f x)).end) (get_or S f 0) (λ x h. numbers (m.each q (set s f x) (valid_set S s f x v h))))

module _ {S : List ℕ} {g h : Rule} (a : Agree S g h) where
  none_agree : {x : ℕ} {s : List ℕ} → NoneFrom S g x s → NoneFrom S h x s
  none_agree n = record { none = λ u v e f. n.none u v (numbers (a u v) ∙ e) f }

  first_agree : {x : ℕ} {s t : List ℕ} → FirstFrom S g x s t → FirstFrom S h x s t
  first_agree {t = t} n = record { valid = n.valid; gives = sym (numbers (a t n.valid)) ∙ n.gives; from = n.from; least = λ u v e f. n.least u v (numbers (a u v) ∙ e) f }

-- ---- calls that return only how they ended
case_lawful : (p q : ℕ) (l : List ℕ) → Lawful effects (case p q l)
case_lawful p q l = brief_lawful (record {
  ordered = λ z. (omega arith, (omega arith, (omega arith, (omega arith, tt))));
  firm = λ z. (neg, (or (dec_lt _ _) le, (reaches, (rests, tt))));
  cases_like = λ cap m. keep BadPlace (λ n. keep BadArgument (λ k. more BadSelector (meet_agree (m.each q)) (meet_agree ((matches_sym m).each q)) (λ i. room_like m (case_agree m cap q l))));
  writes_like = λ cap m e. replaced p (case_agree m cap q l);
})

apply_lawful : (p x a b : ℕ) → Lawful effects (apply p x a b)
apply_lawful p x a b = brief_lawful (record {
  ordered = λ z. (omega arith, (omega arith, (omega arith, tt)));
  firm = λ z. (neg, (or (dec_lt _ _) le, (rests, tt)));
  cases_like = λ cap m. keep BadPlace (λ n. keep BadArgument (λ k. room_like m (applied_agree m x a b)));
  writes_like = λ cap m e. replaced p (applied_agree m x a b);
})

restrict_lawful : (p q f x : ℕ) → Lawful effects (restrict p q f x)
restrict_lawful p q f x = brief_lawful (record {
  ordered = λ z. (omega arith, (omega arith, (omega arith, tt)));
  firm = λ z. (neg, (or (dec_le _ _) le, (rests, tt)));
  cases_like = λ cap {S} m. keep BadPlace (λ n. keep BadArgument (λ k. room_like m (restricted_agree m q f x (small S k))));
  writes_like = λ cap {S} m e. replaced p (restricted_agree m q f x (small S (clear (rest e))));
})
  where
    small : (S : List ℕ) → (((length S ≤ f) ⊎ (get_or S f 0 ≤ x)) → ⊥) → x < get_or S f 0
    small S n = let k : get_or S f 0 ≤ x → ⊥ = λ h. n (inr h) in omega (arith, k)

forget_lawful : (p q f : ℕ) → Lawful effects (forget p q f)
forget_lawful p q f = brief_lawful (record {
  ordered = λ z. (omega arith, (omega arith, (omega arith, tt)));
  firm = λ z. (neg, (le, (rests, tt)));
  cases_like = λ cap m. keep BadPlace (λ n. keep BadArgument (λ k. room_like m (without_agree m q f)));
  writes_like = λ cap m e. replaced p (without_agree m q f);
})

read_lawful : (p : ℕ) (s : List ℕ) → Lawful effects (read_sheet p s)
read_lawful p s = brief_lawful (record {
  ordered = λ z. (omega arith, (omega arith, (omega arith, (omega arith, (omega arith, tt)))));
  firm = λ z. (neg, (newer, (neg, (neg, (rests, tt)))));
  cases_like = λ cap m. keep BadPlace (λ n. keep Newer (λ k. keep BadSheet (λ i. keep OtherFeatures (λ j. room_like m (λ t v. refl)))));
  writes_like = λ cap m e. replaced p (λ t v. refl);
})

-- ---- calls with an answer
literal_lawful : (p f x : ℕ) → Lawful effects (literal p f x)
literal_lawful p f x =
    steady_lawful (record {
      asks = refl;
      ordered = λ z. (omega arith, (omega arith, (omega arith, tt)));
      firm = λ z. (neg, (or (dec_le _ _) le, (rests, tt)));
      cases_like = λ cap m. keep BadPlace (λ n. keep BadArgument (λ k. room_like m (λ s v. refl)));
      writes_like = λ cap m e. replaced p (λ s v. refl);
      gives_like = λ cap m e r g. g;
      one = λ z r q a b g h. answer_one spelled r q (a ∙ sym b) (g ∙ sym h);
    })

count_lawful : (p x : ℕ) → Lawful effects (count_with p x)
count_lawful p x =
    steady_lawful (record {
      asks = refl;
      ordered = λ z. (omega arith, (omega arith, tt));
      firm = λ z. (neg, (le, tt));
      cases_like = λ cap m. keep BadPlace (λ n. keep BadArgument (λ k. alike));
      writes_like = λ cap m e. kept;
      gives_like = λ cap {S} {gs} {hs} m e r g. g ∙ count_agree S (get_or gs p zero_fun) (get_or hs p zero_fun) x (m.each p);
      one = λ z r q a b g h. answer_one counted r q (a ∙ sym b) (g ∙ sym h);
    })

next_lawful : (p x : ℕ) (s : List ℕ) → Lawful effects (next_with p x s)
next_lawful p x s =
    steady_lawful (record {
      asks = refl;
      ordered = λ z. (omega arith, (omega arith, (omega arith, tt)));
      firm = λ z. (neg, (or (dec_le _ _) neg, (none_from, tt)));
      cases_like = λ cap m. keep BadPlace (λ n. keep BadArgument (λ k. more None (none_agree (m.each p)) (none_agree ((matches_sym m).each p)) (λ i. alike)));
      writes_like = λ cap m e. kept;
      gives_like = λ cap m e r g. (g.0, g.1, first_agree (m.each p) g.2);
      one = λ z r q a b g h. answer_one met r q (a ∙ sym b) (g.1 ∙ ap setting_of (first_unique g.2 h.2) ∙ sym h.1);
    })

-- a sheet for a rule is one for every rule that agrees
for_like : {S : List ℕ} {g h : Rule} {n : ℕ} {s : List ℕ} → Agree S g h → SheetFor S g n s → SheetFor S h n s
for_like a x = record { good = x.good; list = x.list; rule = λ t v. x.rule t v ∙ a t v; room = x.room }

write_lawful : (p : ℕ) (out : List ℕ) → Lawful effects (write_sheet p out)
write_lawful p out =
    steady_lawful (record {
      asks = refl;
      ordered = λ z. (omega arith, (omega arith, tt));
      firm = λ z. (neg, (neg, tt));
      cases_like = λ cap m. keep BadPlace (λ n. more NoSpace (λ k x. k (x.0, for_like ((matches_sym m).each p) x.1)) (λ k x. k (x.0, for_like (m.each p) x.1)) (λ i. alike));
      writes_like = λ cap m e. kept;
      gives_like = λ cap m e r g. (g.0, for_like (m.each p) g.1, g.2, g.3);
      one = λ z r q a b g h.
          let e = one_sheet g.1 h.1 in
          answer_one filed r q (a ∙ sym b) (λ i. ((g.2 ∙ ap length e ∙ sym h.2) i, (g.3 ∙ ap (λ (s : List ℕ). s ++ drop (length s) out) e ∙ sym h.3) i));
    })

-- EVERY CALL is lawful
pub lawful : (c : Call) → Lawful effects (deed c)
lawful (open_call S cap m) = opening_lawful ruled S cap m
lawful (constant_call p x) = constant_lawful ruled p (says x)
lawful (copy_call p q) = copy_lawful ruled p q
lawful (literal_call p f x) = literal_lawful p f x
lawful (case_call p q l) = case_lawful p q l
lawful (apply_call p x a b) = apply_lawful p x a b
lawful (restrict_call p q f x) = restrict_lawful p q f x
lawful (forget_call p q f) = forget_lawful p q f
lawful (read_call p s) = read_lawful p s
lawful (look_up_call p s) = look_up_lawful ruled p s
lawful (same_call p q) = same_lawful ruled p q
lawful tally_call = tally_lawful ruled
lawful (count_call p x) = count_lawful p x
lawful (next_call p x s) = next_lawful p x s
lawful (write_call p out) = write_lawful p out
