-- A RESULT ALWAYS EXISTS: on any functions every call has one, so the run on functions goes on with any calls. Assumes nothing.
use mathlib.Core.Path.{◌≡◌, refl, sym, ap, subst, ◌∙◌}
use mathlib.Core.Bool.{Bool, true, false}
use Rattle.std.specs.Prelude.{Result, Ok, Err}
use mathlib.Core.Logic.{◌⊎◌, inl, inr, ⊎_elim}
use mathlib.Core.Option.{Option, some, none}
use mathlib.Core.List.{List, ◌++◌}
use Prim.Native.Nat.{ℕ, ◌^◌, ◌≤◌}
use native.Mathlib.Decide.{ℕ_discrete, dec_lt, dec_le}
use lib.IntN.{ℤ, pos, ◌+ℤ◌, ◌-ℤ◌}
use lib.ListN.{length, get_or, drop}
use Rattle.theory.specs.Kind.{Kind}
use Rattle.theory.specs.Settings.{Valid, zeros}
use Rattle.theory.specs.Functions.{Amount, zero_fun}
use Rattle.theory.specs.Deciding.{list_discrete}
use Rattle.theory.specs.Comparing.{agree_decided}
use Rattle.theory.specs.Counted.{count_of}
use Rattle.theory.specs.First.{FirstFrom, NoneFrom}
use Rattle.theory.specs.Tally.{tally}
use Rattle.theory.specs.Questions.{asked}
use Rattle.theory.specs.Asked.{Asked}
use Rattle.theory.specs.Rules.{rules, Rule, says}
use Rattle.theory.specs.Costs.{costs, Cost, amount}
use Rattle.theory.proofs.Asked.{asked_counts}
use Rattle.theory.proofs.Counting.{tally_counts}
use Rattle.theory.proofs.First.{first_or_none}
use Rattle.theory.proofs.Ranges.{valid_decided}
use Rattle.settings.specs.Tells.{Tells}
use Rattle.settings.specs.Step.{setting_of, values_of, next_of, Gives}
use Rattle.settings.specs.Refusals.{Cases, Ends, ending_of, ◌when◌else◌, taken}
use Rattle.settings.specs.declared.refusals.Refusal.{Refusal}
use Rattle.settings.specs.Refusals.{Outcome}
use Rattle.settings.specs.Refusals.{Taken, Refused}
use Rattle.settings.specs.declared.steps.Setting.{Setting}
use Rattle.settings.specs.declared.steps.Stepped.{Stepped}
use Rattle.settings.specs.declared.steps.Stepped.TheVariants.{Next, Last}
use Rattle.settings.proofs.Endings.{not_taken}
use Rattle.promises.specs.declared.Found.{Found}
use Rattle.promises.specs.CostOperations.{smaller_of, larger_of}
use Rattle.promises.specs.Operators.{set_size}
use Rattle.promises.specs.Range.{cost_most}
use Rattle.promises.specs.Lowest.{Lowest, NoneMarked}
use Rattle.promises.specs.Sheet.{sheet_sizes, row, sheet_rule}
use Rattle.promises.specs.State.{on, Places}
use Rattle.promises.specs.Loan.{Loan}
use Rattle.promises.specs.Table.{Tabled, table}
use Rattle.promises.specs.Deed.{Answer, Deed, plain}
use Rattle.promises.specs.TableDeeds.{compared, tallied, open_table, constant, copy, look_up, same, tally_all}
use Rattle.promises.specs.RuleDeeds as RD
use Rattle.promises.specs.RuleDeeds.{ruled}
use Rattle.promises.specs.CostDeeds.{costed, join}
use Rattle.promises.specs.BothDeeds.{both, found}
use Rattle.promises.specs.SheetDeeds.{filed, number_in}
use Rattle.table_calls.proofs.Like.{clear, rest}
use Rattle.theory_costs.specs.Spots as Spots
use Rattle.theory_costs.proofs.Integers.{fit_decided}
use Rattle.theory_costs.proofs.Lowest.{lowest_or_none}
use Rattle.theory_costs.proofs.Spots.{Says, lowest_right}
use Rattle.demands.specs.Does.{Does}
use Rattle.demands.specs.RuleCalls as R
use Rattle.demands.specs.CostCalls as C
use Rattle.demands.specs.BothCalls as B
use Rattle.demands.specs.ByteCalls as Y
use Rattle.demands.proofs.Firm.{sure, not_decided}
use Rattle.demands.proofs.Searching.{or_decided, and_decided, first_from_decided, places_decided, outnumber_decided, priced_decided, reaches_decided, leaves_decided, openable_decided, inside_decided, rows_decided}
use Rattle.demands.proofs.Sheeted.{newer_decided, good_decided, sheet_for_decided}

-- ---- what a deed needs for that
-- each condition of the table can be decided where the earlier ones fail
abbrev Sure : Cases → Type 0
Sure taken = Unit {0}
Sure (x when P else l) = Dec P × ((P → ⊥) → Sure l)

ends_so : (l : Cases) → Sure l → (o : Outcome) × Ends l o
ends_so taken s = (Taken, refl)
ends_so (x when P else l) s = go s.0 (λ n. ends_so l (s.1 n))
  where
    go : Dec P → ((P → ⊥) → (o : Outcome) × Ends l o) → (o : Outcome) × Ends (x when P else l) o
    go (yes p) f = (Refused x, (λ q. refl, λ n. absurd (n p)))
    go (no n) f = let r = f n in (r.0, (λ p. absurd (n p), λ m. r.1))

module _ {L : Loan} where
  record Always (d : Deed L) : Type 1 where
    sure_of : (z : L.Plain) → Sure (d.cases z)
    given : (z : L.Plain) → Ends (d.cases z) Taken → (r : d.Result) × (d.ending r ≡ Taken) × d.Gives z r
    refuses : (x : Refusal) → d.ending (d.refusal x) ≡ Refused x

  exists : {d : Deed L} → Always d → (z : L.Plain) → (r : d.Result) × Does d z r
  exists {d} a z = let q = ends_so (d.cases z) (a.sure_of z) in go q.0 q.1
    where
      go : (o : Outcome) → Ends (d.cases z) o → (r : d.Result) × Does d z r
      go (Ok u) e =
          let g = a.given z e in
          (g.0, record { ends = subst (Ends (d.cases z)) (sym g.1) e; gives = λ t. g.2; refused = λ x t. not_taken (sym t ∙ g.1) })
      go (Err x) e = (
        d.refusal x,
        record {
          ends = subst (Ends (d.cases z)) (sym (a.refuses x)) e;
          gives = λ t. not_taken (sym (a.refuses x) ∙ t);
          refused = λ y t. let h : Refused x ≡ Refused y = sym (a.refuses x) ∙ t in ap d.refusal (cc);
        },
      )

  -- a call that returns only how it ended
  brief : {l : L.Plain → Cases} {e : L.Plain → L.Effect} → ((z : L.Plain) → Sure (l z)) → Always (plain {L = L} l e)
  brief s = record { sure_of = s; given = λ z e. (Taken, refl, tt); refuses = λ x. refl }

-- every ending has its result, and every value where it is taken
record Full {A : Type 0} (R : Answer A) : Type 0 where
  ended : (o : Outcome) (a : A) → R.ending (R.made o a) ≡ o
  valued : (a : A) → R.value (R.made Taken a) ≡ a

rule_looks : (o : Outcome) (a : Amount rules × ℕ) → ruled.looked.ending (ruled.looked.made o a) ≡ o
rule_looks (Ok u) a = refl
rule_looks (Err x) a = refl

cost_looks : (o : Outcome) (a : Amount costs × ℕ) → costed.looked.ending (costed.looked.made o a) ≡ o
cost_looks (Ok u) a = refl
cost_looks (Err x) a = refl

-- ---- the calls that every table has
told_decided : {P : Type 0} → Dec P → (b : Bool) × Tells b P
told_decided (yes p) = (true, p)
told_decided (no n) = (false, n)

module _ {K : Kind} (T : Tabled K) where
  opening_has : (S : List ℕ) (cap m : ℕ) → Always (open_table T S cap m)
  opening_has S cap m = record { sure_of = λ z. (not_decided (openable_decided S cap m), λ n. tt); given = λ z e. (Taken, refl, tt); refuses = λ x. refl }

  constant_has : (p : ℕ) (x : Amount K) → Dec (T.InRange x) → Always (constant T p x)
  constant_has p x d = brief (λ z. (not_decided (places_decided T.places _), λ k. (not_decided d, λ i. tt)))

  copy_has : (p q : ℕ) → Always (copy T p q)
  copy_has p q = brief (λ z. (not_decided (places_decided T.places _), λ k. tt))

  look_up_has : Full T.looked → (p : ℕ) (s : List ℕ) → Always (look_up T p s)
  look_up_has f p s =
      record {
        sure_of = λ z. (not_decided (places_decided T.places _), λ k. (not_decided (valid_decided z.list s), λ i. tt));
        given = λ z e.
            let a : Amount K × ℕ = (on z p s, asked z.list (on z p) s) in
            let v = f.valued a in
            (T.looked.made Taken a, f.ended Taken a, (λ i. (v i).0, subst (λ (b : Amount K × ℕ). Asked z.list (on z p) s b.1) (sym v) (asked_counts z.list (on z p) s)));
        refuses = λ y. f.ended (Refused y) (zero_fun s, 0);
      }

  same_has : (p q : ℕ) → Always (same T p q)
  same_has p q =
      record {
        sure_of = λ z. (not_decided (places_decided T.places _), λ k. tt);
        given = λ z e. let t = told_decided (agree_decided z.list (on z p) (on z q)) in (compared.made Taken t.0, refl, t.1);
        refuses = λ y. refl;
      }

  tally_has : Always (tally_all T)
  tally_has = record { sure_of = λ z. tt; given = λ z e. (tallied.made Taken (tally z.list z.places), refl, tally_counts z.list z.places); refuses = λ y. refl }

-- ---- finding the answers
found_decided : (S : List ℕ) (g : Rule) (x : ℕ) (s : List ℕ) → (((65536 ≤ x) ⊎ (Valid S s → ⊥)) → ⊥) → ((t : List ℕ) × FirstFrom S g x s t) ⊎ NoneFrom S g x s
found_decided S g x s k = first_from_decided S g x s (sure (valid_decided S s) (λ m. k (inr m)))

none_from_decided : {S : List ℕ} {g : Rule} {x : ℕ} {s : List ℕ} → ((t : List ℕ) × FirstFrom S g x s t) ⊎ NoneFrom S g x s → Dec (NoneFrom S g x s)
none_from_decided (inl f) = no (λ n. first_or_none f.1 n)
none_from_decided (inr n) = yes n

none_marked_decided : (S : List ℕ) (g : Rule) → Dec (NoneMarked S g)
none_marked_decided S g = go (Spots.lowest S (λ s. amount (pos 0)) g) (lowest_right S (λ s. amount (pos 0)) g)
  where
    go : (x : Option Spots.Spot) → Says S (λ s. amount (pos 0)) g x → Dec (NoneMarked S g)
    go none n = yes n
    go (some x) l = no (lowest_or_none l)

-- ---- THE CALLS
rule_has : (c : R.Call) → Always (R.deed c)
rule_has (R.open_call S cap m) = opening_has ruled S cap m
rule_has (R.constant_call p x) = constant_has ruled p (says x) (dec_lt x 65536)
rule_has (R.copy_call p q) = copy_has ruled p q
rule_has (R.literal_call p f x) =
    record {
      sure_of = λ z. (not_decided (places_decided 32 _), λ n. (or_decided (dec_le (length z.list) f) (dec_le (2 ^ get_or z.list f 0) x), λ k. (outnumber_decided z _, λ i. tt)));
      given = λ z e. ((RD.spelled).made Taken (set_size (get_or z.list f 0) x), refl, refl);
      refuses = λ y. refl;
    }
rule_has (R.case_call p q l) =
    brief (λ z. (not_decided (places_decided 32 _), λ n. (or_decided (dec_lt (length l) 1) (dec_lt 8 (length l)), λ k. (reaches_decided z.list (on z q) (length l), λ i. (outnumber_decided z _, λ j. tt)))))
rule_has (R.apply_call p x a b) = brief (λ z. (not_decided (places_decided 32 _), λ n. (or_decided (dec_lt x 1) (dec_lt 5 x), λ k. (outnumber_decided z _, λ i. tt))))
rule_has (R.restrict_call p q f x) = brief (λ z. (not_decided (places_decided 32 _), λ n. (or_decided (dec_le (length z.list) f) (dec_le (get_or z.list f 0) x), λ k. (outnumber_decided z _, λ i. tt))))
rule_has (R.forget_call p q f) = brief (λ z. (not_decided (places_decided 32 _), λ n. (dec_le (length z.list) f, λ k. (outnumber_decided z _, λ i. tt))))
rule_has (R.read_call p s) =
    brief (λ z. (not_decided (places_decided 32 _), λ n. (newer_decided s, λ k. (not_decided (good_decided s), λ i. (not_decided (list_discrete ℕ_discrete (sheet_sizes s) z.list), λ j. (outnumber_decided z _, λ h. tt))))))
rule_has (R.look_up_call p s) = look_up_has ruled (record { ended = rule_looks; valued = λ n. refl }) p s
rule_has (R.same_call p q) = same_has ruled p q
rule_has R.tally_call = tally_has ruled
rule_has (R.count_call p x) =
    record { sure_of = λ z. (not_decided (places_decided 32 _), λ n. (dec_le 65536 x, λ k. tt)); given = λ z e. ((RD.counted).made Taken (count_of z.list (on z p) x), refl, refl); refuses = λ y. refl }
rule_has (R.next_call p x s) =
    record {
      sure_of = λ z. (not_decided (places_decided 32 _), λ n. (or_decided (dec_le 65536 x) (not_decided (valid_decided z.list s)), λ k. (none_from_decided (found_decided z.list (on z p) x s k), λ i. tt)));
      given = λ z e. ⊎_elim (λ f. ((RD.met).made Taken (setting_of f.0), refl, (f.0, refl, f.1))) (λ n. absurd (clear (rest (rest e)) n)) (found_decided z.list (on z p) x s (clear (rest e)));
      refuses = λ y. refl;
    }
rule_has (R.write_call p out) =
    record {
      sure_of = λ z. (not_decided (places_decided 32 _), λ n. (not_decided (sheet_for_decided z.list (on z p) (length out)), λ k. tt));
      given = λ z e. let x = sure (sheet_for_decided z.list (on z p) (length out)) (clear (rest e)) in
          (filed.made Taken (length x.0, x.0 ++ drop (length x.0) out), refl, (x.0, x.1, refl, refl));
      refuses = λ y. refl;
    }

join_has : (F : ℤ → ℤ → ℤ) (p a b : ℕ) → Always (join F p a b)
join_has F p a b = brief (λ z. (not_decided (places_decided 16 _), λ n. (leaves_decided z.list _, λ k. (outnumber_decided z _, λ i. tt))))

cost_has : (c : C.Call) → Always (C.deed c)
cost_has (C.open_call S cap m) = opening_has costed S cap m
cost_has (C.constant_call p x) = constant_has costed p (amount x) (fit_decided cost_most x)
cost_has (C.copy_call p q) = copy_has costed p q
cost_has (C.price_call p f l) =
    brief (λ z. (not_decided (places_decided 16 _), λ n. (or_decided (dec_le (length z.list) f) (or_decided (not_decided (ℕ_discrete (length l) (get_or z.list f 0))) (not_decided (priced_decided l))), λ k. (outnumber_decided z _, λ i. tt))))
cost_has (C.add_call p a b) = join_has ◌+ℤ◌ p a b
cost_has (C.subtract_call p a b) = join_has ◌-ℤ◌ p a b
cost_has (C.smaller_call p a b) = join_has smaller_of p a b
cost_has (C.larger_call p a b) = join_has larger_of p a b
cost_has (C.scale_call p a c) = brief (λ z. (not_decided (places_decided 16 _), λ n. (not_decided (fit_decided cost_most c), λ k. (leaves_decided z.list _, λ i. (outnumber_decided z _, λ j. tt)))))
cost_has (C.look_up_call p s) = look_up_has costed (record { ended = cost_looks; valued = λ x. refl }) p s
cost_has (C.same_call p q) = same_has costed p q
cost_has C.tally_call = tally_has costed

-- a taken lowest
abbrev Given : List ℕ → Cost → Rule → Type 0
Given S f g = (r : Result Found Refusal) × (ending_of r ≡ Taken) × ((u : List ℕ) × ((found.value r).1 ≡ setting_of u) × Lowest S f g (found.value r).0 u)

-- one place or list of each table is none
both_decided : (l m : List ℕ) → Dec ((Places 32 l × Places 16 m) → ⊥)
both_decided l m = not_decided (and_decided (places_decided 32 l) (places_decided 16 m))

both_has : (c : B.Call) → Always (B.deed c)
both_has (B.on_rules_call c) = let a = rule_has c in record { sure_of = λ z. a.sure_of z.0; given = λ z. a.given z.0; refuses = a.refuses }
both_has (B.on_costs_call c) = let a = cost_has c in record { sure_of = λ z. a.sure_of z.1; given = λ z. a.given z.1; refuses = a.refuses }
both_has (B.choose_call p q a b) =
    brief (λ z. (both_decided _ _, λ n. (not_decided (list_discrete ℕ_discrete z.0.list z.1.list), λ f. (leaves_decided z.1.list _, λ k. (outnumber_decided z.1 _, λ i. tt)))))
both_has (B.less_call p a b) = brief (λ z. (both_decided _ _, λ n. (not_decided (list_discrete ℕ_discrete z.0.list z.1.list), λ f. (outnumber_decided z.0 _, λ k. tt))))
both_has (B.lowest_call a q) =
    record {
      sure_of = λ z. (both_decided _ _, λ n. (not_decided (list_discrete ℕ_discrete z.0.list z.1.list), λ f. (none_marked_decided z.1.list (on z.0 q), λ k. tt)));
      given = λ z e. spot z.1.list (on z.1 a) (on z.0 q) (clear (rest (rest e)));
      refuses = λ y. refl;
    }
  where
    spot : (S : List ℕ) (f : Cost) (g : Rule) → (NoneMarked S g → ⊥) → Given S f g
    spot S f g n = go (Spots.lowest S f g) (lowest_right S f g)
      where
        go : (x : Option Spots.Spot) → Says S f g x → Given S f g
        go none m = absurd (n m)
        go (some x) l = (Ok (record { cost = x.cost; setting = setting_of x.setting }), refl, (x.setting, refl, l))

byte_has : (c : Y.Call) → Always (Y.deed c)
byte_has (Y.step_call S s) =
    record { sure_of = λ z. (not_decided (inside_decided S s), λ n. tt); given = λ z e. let a = last_or (next_of S (values_of s)) in (Ok a.0, refl, a.1); refuses = λ y. refl }
  where
    last_or : (t : Option (List ℕ)) → (a : Stepped) × Gives S t a
    last_or (some t) = (Next (setting_of t), refl)
    last_or none = (Last (setting_of (zeros S)), refl)
byte_has (Y.look_up_call s t) =
    record {
      sure_of = λ z. (newer_decided s, λ n. (not_decided (good_decided s), λ k. (not_decided (valid_decided (sheet_sizes s) t), λ i. tt)));
      given = λ z e. ((RD.looked).made Taken (sheet_rule s t, asked (sheet_sizes s) (sheet_rule s) t), refl, (refl, asked_counts (sheet_sizes s) (sheet_rule s) t));
      refuses = λ y. refl;
    }
byte_has (Y.look_up_all_call s t out) =
    record {
      sure_of = λ z. (newer_decided s, λ n. (not_decided (good_decided s), λ k. (not_decided (rows_decided (sheet_sizes s) (length out) t), λ i. tt)));
      given = λ z e. ((Taken, row 0 (length out) (number_in s t)), refl, refl);
      refuses = λ y. refl;
    }

-- THEOREM, of every call
pub rules_always : (c : R.Call) (z : (table ruled).Plain) → (r : (R.deed c).Result) × Does (R.deed c) z r
rules_always c z = exists (rule_has c) z

pub costs_always : (c : C.Call) (z : (table costed).Plain) → (r : (C.deed c).Result) × Does (C.deed c) z r
costs_always c z = exists (cost_has c) z

pub both_always : (c : B.Call) (z : both.Plain) → (r : (B.deed c).Result) × Does (B.deed c) z r
both_always c z = exists (both_has c) z

pub bytes_always : (c : Y.Call) → (r : (Y.deed c).Result) × Does (Y.deed c) tt r
bytes_always c = exists (byte_has c) tt
