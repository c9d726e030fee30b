-- WHAT STANDS ON THE PLACES, after an opening and after any calls: each place gives what the functions give, and two places hold one root exactly if they agree. Assumes nothing.
use mathlib.Core.Path.{◌≡◌, sym, ap, subst, ◌∙◌}
use mathlib.Core.Logic.{◌↔◌}
use mathlib.Core.List.{List}
use Prim.Native.Nat.{ℕ, ◌≤◌, ◌<◌}
use lib.ListN.{length}
use lib.Seq.{get_or-set_same, get_or-set_other}
use Rattle.theory.specs.Kind.{Kind}
use Rattle.theory.specs.Settings.{Valid}
use Rattle.theory.specs.Functions.{Agree, Amount, Fun, zero_fun}
use Rattle.theory.specs.Rules.{rules}
use Rattle.theory.specs.Costs.{costs}
use Rattle.settings.specs.declared.refusals.Refusal.TheVariants.{Damaged, BadOpening}
use Rattle.settings.specs.Refusals.{Outcome}
use Rattle.settings.specs.Refusals.{Taken}
use Rattle.table_words.specs.Table.{Table}
use Rattle.table_words.proofs.Tab.{length_tab, get_or_tab}
use Rattle.promises.specs.Words.{sizes, bound}
use Rattle.promises.specs.RuleWords.{rule_root}
use Rattle.promises.specs.CostWords.{cost_root, cost_base}
use Rattle.promises.specs.Deed.{Answer, Meets}
use Rattle.promises.specs.State.{State, on, put}
use Rattle.promises.specs.Table.{Tabled, state_of}
use Rattle.promises.specs.TableDeeds.{Openable, fresh, open_table}
use Rattle.promises.specs.RuleDeeds.{looked, ruled}
use Rattle.promises.specs.CostDeeds.{cost_looked, costed}
use Rattle.promises.specs.BothDeeds.{both}
use Rattle.table_calls.proofs.Like.{alike, more, keep, like_one}
use Rattle.table_calls.proofs.Drawn.{Drawn, tabled}
use Rattle.rule_calls.proofs.Edge as RE
use Rattle.rule_calls.proofs.Answering as Ra
use Rattle.cost_calls.proofs.Edge as CE
use Rattle.cost_calls.proofs.Answering as CA
use Rattle.demands.specs.Ground.{Holds}
use Rattle.demands.specs.TableGround.{Alike, table_ground}
use Rattle.demands.specs.Run.{Event, Run, ran}
use Rattle.demands.specs.Places.{Stands}
use Rattle.demands.specs.RuleCalls.{on_rules}
use Rattle.demands.specs.CostCalls.{on_costs}
use Rattle.demands.specs.BothCalls.{on_both}
use Rattle.demands.proofs.Frame.{first, second}
use Rattle.demands.proofs.Table.{made_says, itself, table_frame}
use Rattle.demands.proofs.Demands.{run_holds}
use Rattle.demands.proofs.Parts.{rules_kept, costs_kept, both_kept}

-- ---- EVERY KIND
-- each place of a fresh table has the constant 0
pub fresh_zero : {K : Kind} (T : Tabled K) (S : List ℕ) (cap p : ℕ) → p < T.places → on (fresh T S cap) p ≡ zero_fun
fresh_zero T S cap p h = get_or_tab (λ q. zero_fun) T.places p zero_fun h

-- a function put on a place stands there, and every other place keeps its own
module _ {K : Kind} (z : State K) (p : ℕ) (g : Fun K) where
  pub put_here : p < length z.places → on (put p g z) p ≡ g
  put_here h = get_or-set_same z.places p g zero_fun h

  pub put_elsewhere : (q : ℕ) → (q ≡ p → ⊥) → on (put p g z) q ≡ on z q
  put_elsewhere q n = get_or-set_other z.places p q g zero_fun n

module _ {K : Kind} {D : Table K} {own : List ℕ → ℕ → Fun K} {Sound : List ℕ → Type 0} (looked : Answer (Amount K × ℕ)) (F : Drawn D own Sound) where
  abbrev drawn : Tabled K
  drawn = tabled D Sound looked

  opened : {S : List ℕ} {cap m : ℕ} {w w' : List ℕ} {o : Outcome} → Meets (open_table drawn S cap m) w w' o → o ≡ Taken → Holds (table_ground drawn) w' (fresh drawn S cap)
  opened a t = record { sound = (a.leaves t).sound; agrees = made_says looked F (length_tab (λ p. zero_fun) D.places) (a.leaves t) }

  opened_alike : (S : List ℕ) (cap : ℕ) (w u w' u' : List ℕ) (o q : Outcome) → bound cap ≤ length w → bound cap ≤ length u →
      Meets (open_table drawn S cap (length w)) w w' o → Meets (open_table drawn S cap (length u)) u u' q → (o ≡ q) × (o ≡ Taken → Alike w' u')
  opened_alike S cap w u w' u' o q hw hu x y = (same, λ t. (table_frame looked F).alike_held w' u' (fresh drawn S cap) (opened x t) (opened y (sym same ∙ t)))
    where
      same : o ≡ q
      same =
          let f : (Openable S cap (length w) → ⊥) → Openable S cap (length u) → ⊥ = λ k i. k (record { list = i.list; some = i.some; most = i.most; room = hw }) in
          let g : (Openable S cap (length u) → ⊥) → Openable S cap (length w) → ⊥ = λ k i. k (record { list = i.list; some = i.some; most = i.most; room = hu }) in
          like_one o q (keep Damaged (λ d. more BadOpening f g (λ k. alike))) x.ends y.ends

  module _ {w : List ℕ} {z : State K} (h : Holds (table_ground drawn) w z) where
    gives : (p : ℕ) → Agree z.list (on (state_of drawn w) p) (on z p)
    gives p s v = h.agrees.functions.each p s (subst (λ (S : List ℕ). Valid S s) h.agrees.lists v)

    own_gives : (p : ℕ) → p < D.places → Agree z.list (own w p) (on z p)
    own_gives p l s v = ap (λ (g : Fun K). g s) (sym (F.at_said w p l)) ∙ gives p s v

    -- what is so exactly if two places of the words agree is so exactly if their functions do
    held_same : {E : Type 0} (p q : ℕ) → p < D.places → q < D.places → (E → Agree (sizes w) (own w p) (own w q)) → (Agree (sizes w) (own w p) (own w q) → E) → E ↔ Agree z.list (on z p) (on z q)
    held_same p q hp hq f b = (
      (λ e s v. sym (own_gives p hp s v) ∙ f e s (subst (λ (S : List ℕ). Valid S s) h.agrees.lists v) ∙ own_gives q hq s v),
      (λ a. b (λ s v. let u = subst (λ (S : List ℕ). Valid S s) (sym h.agrees.lists) v in own_gives p hp s u ∙ a s u ∙ sym (own_gives q hq s u))),
    )

  stands : Stands drawn
  stands =
      record {
        opened_holds = λ S cap m w w' o a t. opened a t;
        sound_holds = λ w s. record { sound = s; agrees = itself looked F s };
        place_gives = λ w z h p. gives h p;
        opening_alike = opened_alike;
      }

-- ---- RULES
pub rules_stand : Stands ruled
rules_stand = stands looked RE.drawn

module _ {w : List ℕ} {z : State rules} (h : Holds (table_ground ruled) w z) where
  -- two places hold one root word exactly if their functions agree at every setting
  pub one_root : (p q : ℕ) → p < 32 → q < 32 → (rule_root w p ≡ rule_root w q) ↔ Agree z.list (on z p) (on z q)
  one_root p q hp hq = held_same looked RE.drawn h p q hp hq (Ra.roots_agree h.sound p q hp hq) (Ra.agree_roots h.sound p q hp hq)

-- ---- COSTS
pub costs_stand : Stands costed
costs_stand = stands cost_looked CE.drawn

module _ {w : List ℕ} {z : State costs} (h : Holds (table_ground costed) w z) where
  -- two places hold one root word and one base exactly if their functions agree at every setting
  pub one_root_and_base : (p q : ℕ) → p < 16 → q < 16 → ((cost_root w p ≡ cost_root w q) × (cost_base w p ≡ cost_base w q)) ↔ Agree z.list (on z p) (on z q)
  one_root_and_base p q hp hq =
      held_same cost_looked CE.drawn h p q hp hq (λ e. CA.places_agree h.sound p q hp hq e.0 e.1) (λ a. (CA.agree_roots h.sound p q hp hq a, CA.agree_bases h.sound p q hp hq a))

-- ---- AFTER ANY RUN the words are such: of a rule table, of a cost table, of both
pub run_rules_lem : {z : State rules} {l : List (Event on_rules)} {w : List ℕ} → Run on_rules z l w → Holds (table_ground ruled) w (ran on_rules z l)
run_rules_lem r = run_holds rules_kept r

pub run_costs : {z : State costs} {l : List (Event on_costs)} {w : List ℕ} → Run on_costs z l w → Holds (table_ground costed) w (ran on_costs z l)
run_costs r = run_holds costs_kept r

module _ {z : both.Plain} {l : List (Event on_both)} {w : both.Words} (r : Run on_both z l w) where
  pub run_both_rules : Holds (table_ground ruled) w.0 (ran on_both z l).0
  run_both_rules = first (table_ground ruled) (table_ground costed) (run_holds both_kept r)

  pub run_both_costs : Holds (table_ground costed) w.1 (ran on_both z l).1
  run_both_costs = second (table_ground ruled) (table_ground costed) (run_holds both_kept r)
