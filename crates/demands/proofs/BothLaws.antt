-- The laws of each call that is lent both tables. Assumes nothing.
use mathlib.Core.Path.{◌≡◌, sym, ap, ap₂, subst, ◌∙◌}
use mathlib.Core.List.{List}
use Prim.Native.Nat.{ℕ}
use native.Mathlib.Decide.{ℕ_discrete}
use native.Mathlib.Omega.{arith}
use lib.IntN.{ℤ}
use lib.Signed.{◌≤ℤ◌}
use Rattle.theory.specs.Kind.{Kind}
use Rattle.theory.specs.Settings.{Valid}
use Rattle.theory.specs.Deciding.{list_discrete}
use Rattle.theory.specs.Functions.{Agree, Fun}
use Rattle.theory.specs.Rules.{rules, Rule}
use Rattle.theory.specs.Costs.{costs, Cost, amount}
use Rattle.theory.proofs.Rules.{numbers}
use Rattle.settings.specs.Step.{setting_of}
use Rattle.settings.specs.Refusals.{Cases}
use Rattle.settings.specs.declared.refusals.Refusal.TheVariants.{BadPlace, OtherFeatures, None}
use Rattle.promises.specs.CostOperations.{chosen_of, chosen, is_below}
use Rattle.promises.specs.Lowest.{Lowest, NoneMarked}
use Rattle.promises.specs.State.{State, on, room_cases}
use Rattle.promises.specs.RuleDeeds.{ruled}
use Rattle.promises.specs.CostDeeds.{costed, range_cases}
use Rattle.promises.specs.BothDeeds.{both_front, found, choose, less_than, lowest}
use Rattle.table_calls.proofs.Like.{Like, alike, more, keep, clear, rest}
use Rattle.theory_costs.proofs.Lowest.{lowest_unique}
use Rattle.demands.specs.Agrees.{Agrees}
use Rattle.demands.specs.Ground.{together}
use Rattle.demands.specs.TableGround.{table_ground}
use Rattle.demands.specs.BothCalls.{Call, on_rules_call, on_costs_call, choose_call, less_call, lowest_call, deed}
use Rattle.demands.proofs.Firm.{neg, sure, rests, leaves, none_marked}
use Rattle.demands.proofs.Matching.{room_like, as_framed}
use Rattle.demands.proofs.Effects.{Effects, kept, replaced, on_two}
use Rattle.demands.proofs.Frame.{Frame, and_frame}
use Rattle.demands.proofs.Lawful.{Lawful, answer_one}
use Rattle.demands.proofs.Lifting.{first_lawful, second_lawful}
use Rattle.demands.proofs.RuleLaws as R
use Rattle.demands.proofs.CostLaws as C
use Rattle.demands.proofs.CostLaws.{offs, range_like}

abbrev pub effects : Effects (together (table_ground ruled) (table_ground costed))
effects = on_two R.effects C.effects

pub frame : Frame effects
frame = and_frame R.frame C.frame

-- NO ROOM, and RANGE before it, of states that agree
room_agree : {K : Kind} {z y : State K} {g h : Fun K} → Agrees z y → Agree z.list g h → Like (room_cases g z) (room_cases h y)
room_agree {K} {z} {y} {g} {h} a e = subst (λ (s : State K). Like (room_cases g z) (room_cases h s)) (as_framed a) (room_like a.functions e)

range_agree : {z y : State costs} {g h : Cost} → Agrees z y → Agree z.list g h → Like (range_cases g z) (range_cases h y)
range_agree {z} {y} {g} {h} a e = subst (λ (s : State costs). Like (range_cases g z) (range_cases h s)) (as_framed a) (range_like a.functions e)

module _ {x y : State rules × State costs} (a : Agrees x.0 y.0) (b : Agrees x.1 y.1) where
  -- OTHER FEATURES together
  door_like : {i j : List ℕ} {l m : Cases} → ((x.0.list ≡ x.1.list) → Like l m) → Like (both_front i j x l) (both_front i j y m)
  door_like k =
      keep BadPlace (λ n. more OtherFeatures
      (λ f e. f (sym a.lists ∙ e ∙ b.lists))
      (λ f e. f (a.lists ∙ e ∙ sym b.lists))
      (λ f. k (sure (list_discrete ℕ_discrete x.0.list x.1.list) f)))

  module _ (e : x.0.list ≡ x.1.list) where
    -- the rules too agree at every setting of the costs' list
    rules_agree : (q : ℕ) → Agree x.1.list (on x.0 q) (on y.0 q)
    rules_agree q s v = a.functions.each q s (subst (λ (S : List ℕ). Valid S s) (sym e) v)

    chosen_agree : (q i j : ℕ) → Agree x.1.list (chosen (on x.0 q) (on x.1 i) (on x.1 j)) (chosen (on y.0 q) (on y.1 i) (on y.1 j))
    chosen_agree q i j s v = λ k. amount (chosen_of (numbers (rules_agree q s v) k) (offs (b.functions.each i s v) k) (offs (b.functions.each j s v) k))

    below_agree : (i j : ℕ) → Agree x.0.list (is_below (on x.1 i) (on x.1 j)) (is_below (on y.1 i) (on y.1 j))
    below_agree i j s v =
        let u = subst (λ (S : List ℕ). Valid S s) e v in
        ap₂ (λ (m n : ℤ). is_below (λ t. amount m) (λ t. amount n) s) (offs (b.functions.each i s u)) (offs (b.functions.each j s u))

choose_lawful : (p q i j : ℕ) → Lawful effects (choose p q i j)
choose_lawful p q i j =
    record {
      ordered = λ x. (omega arith, (omega arith, (omega arith, (omega arith, tt))));
      firm = λ x. (neg, (neg, (leaves, (rests, tt))));
      cases_like = λ x y a. door_like a.0 a.1 (λ e. range_agree a.1 (chosen_agree a.0 a.1 e q i j));
      writes_like = λ x y a e. (kept, replaced p (chosen_agree a.0 a.1 (sure (list_discrete ℕ_discrete x.0.list x.1.list) (clear (rest e))) q i j));
      gives_like = λ x y a e r g. tt;
      one = λ x r k a b g h. a ∙ sym b;
    }

less_lawful : (p i j : ℕ) → Lawful effects (less_than p i j)
less_lawful p i j =
    record {
      ordered = λ x. (omega arith, (omega arith, (omega arith, tt)));
      firm = λ x. (neg, (neg, (rests, tt)));
      cases_like = λ x y a. door_like a.0 a.1 (λ e. room_agree a.0 (below_agree a.0 a.1 e i j));
      writes_like = λ x y a e. (replaced p (below_agree a.0 a.1 (sure (list_discrete ℕ_discrete x.0.list x.1.list) (clear (rest e))) i j), kept);
      gives_like = λ x y a e r g. tt;
      one = λ x r k a b g h. a ∙ sym b;
    }

-- NONE and the lowest, of rules and costs that agree
none_like : {S T : List ℕ} {g h : Rule} → T ≡ S → Agree S g h → NoneMarked S g → NoneMarked T h
none_like {S} {T} e a n = record { none = λ u v. let k = subst (λ (L : List ℕ). Valid L u) e v in sym (numbers (a u k)) ∙ n.none u k }

lowest_like : {S T : List ℕ} {f k : Cost} {g h : Rule} {c : ℤ} {t : List ℕ} → T ≡ S → Agree S f k → Agree S g h → Lowest S f g c t → Lowest T k h c t
lowest_like {S} {T} {f} {k} {g} {h} {c} {t} e af ag n =
    subst (λ (L : List ℕ). Lowest L k h c t) (sym e)
    (record {
      valid = n.valid;
      marked = λ z. n.marked (numbers (ag t n.valid) ∙ z);
      gives = sym (offs (af t n.valid)) ∙ n.gives;
      least = λ u v m. subst (λ (i : ℤ). c ≤ℤ i) (offs (af u v)) (n.least u v (λ z. m (sym (numbers (ag u v)) ∙ z)));
      first = λ u v m z. n.first u v (λ i. m (sym (numbers (ag u v)) ∙ i)) (offs (af u v) ∙ z);
    })

lowest_lawful : (i q : ℕ) → Lawful effects (lowest i q)
lowest_lawful i q =
    record {
      ordered = λ x. (omega arith, (omega arith, (omega arith, tt)));
      firm = λ x. (neg, (neg, (none_marked, tt)));
      cases_like = λ x y a. door_like a.0 a.1 (λ e. more None (none_like a.1.lists (rules_agree a.0 a.1 e q))
          (none_like (sym a.1.lists) (λ s v. sym (rules_agree a.0 a.1 e q s (subst (λ (S : List ℕ). Valid S s) a.1.lists v)))) (λ m. alike));
      writes_like = λ x y a e. (kept, kept);
      gives_like = λ x y a e r g.
          (g.0, g.1, lowest_like a.1.lists (a.1.functions.each i) (rules_agree a.0 a.1 (sure (list_discrete ℕ_discrete x.0.list x.1.list) (clear (rest e))) q) g.2);
      one = λ x r k a b g h. let u = lowest_unique g.2 h.2 in
          answer_one found r k (a ∙ sym b) (λ j. (u.0 j, (g.1 ∙ ap setting_of u.1 ∙ sym h.1) j));
    }

-- EVERY CALL is lawful
pub lawful : (c : Call) → Lawful effects (deed c)
lawful (on_rules_call c) = first_lawful R.frame C.frame (R.lawful c)
lawful (on_costs_call c) = second_lawful R.frame C.frame (C.lawful c)
lawful (choose_call p q i j) = choose_lawful p q i j
lawful (less_call p i j) = less_lawful p i j
lawful (lowest_call i q) = lowest_lawful i q
