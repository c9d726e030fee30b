-- SHEETS: two sheets of one list that passed a call have equal bytes exactly if their rules agree. Assumes nothing.
use mathlib.Core.Path.{◌≡◌, refl, sym, ap, subst, ◌∙◌}
use mathlib.Core.Logic.{◌↔◌}
use mathlib.Core.List.{List, [], ◌∷◌, ◌++◌}
use Prim.Native.Nat.{ℕ, ◌<◌}
use native.Mathlib.Decide.{ℕ_discrete}
use native.Mathlib.Omega.{arith}
use lib.ListN.{length, take, drop}
use Rattle.theory.specs.Deciding.{list_discrete}
use Rattle.theory.specs.Functions.{Agree}
use Rattle.theory.specs.Rules.{Rule}
use Rattle.settings.specs.Refusals.{Ends}
use Rattle.settings.specs.Refusals.{Outcome}
use Rattle.settings.specs.Refusals.{Taken}
use Rattle.promises.specs.declared.Looked.{Looked}
use Rattle.std.specs.Prelude.{Ok}
use Rattle.promises.specs.Words.{sizes}
use Rattle.promises.specs.Sheet.{sheet_sizes, sheet_rule, GoodSheet}
use Rattle.promises.specs.State.{on}
use Rattle.promises.specs.Table.{state_of}
use Rattle.promises.specs.Deed.{refusals, Meets}
use Rattle.promises.specs.RuleDeeds.{ruled}
use Rattle.promises.specs.SheetDeeds.{SheetFor, read_sheet, write_sheet, look_up_in, look_up_all_in}
use Rattle.rule_words.proofs.Reading.{length_rules}
use Rattle.table_calls.proofs.Like.{clear, rest}
use Rattle.sheets.proofs.Edge.{sheets_same}
use Rattle.demands.specs.Sheets.{Passed, written, taken_in, looked_up, all_looked_up}
use Rattle.demands.proofs.Firm.{sure}
use Rattle.demands.proofs.Searching.{places_decided}
use Rattle.demands.proofs.Sheeted.{good_decided}
use Rattle.demands.proofs.Places.{put_here}

take_front : (s x : List ℕ) → take (length s) (s ++ x) ≡ s
take_front [] x = refl
take_front (a ∷ s) x = ap (λ (l : List ℕ). a ∷ l) (take_front s x)

-- what write wrote is the sheet of the place
wrote_sheet : {p n : ℕ} {w w' out out' : List ℕ} → Meets (write_sheet p out) w w' (Ok n, out') →
    SheetFor (sizes w) (on (state_of ruled w) p) (length out) (take n out')
wrote_sheet {p} {n} {w} {out = out} {out' = out'} a =
    let g = a.gives refl in
    let front : take n out' ≡ g.0 = ap (λ (m : ℕ). take m out') g.2 ∙ ap (take (length g.0)) g.3 ∙ take_front g.0 (drop (length g.0) out) in
    subst (SheetFor (sizes w) (on (state_of ruled w) p) (length out)) (sym front) g.1

-- what read took is the sheet of the rule that the place has afterwards
took_sheet : {p : ℕ} {s w w' : List ℕ} {o : Outcome} → Meets (read_sheet p s) w w' o → o ≡ Taken → SheetFor (sizes w) (on (state_of ruled w') p) (length s) s
took_sheet {p} {s} {w} {w'} a e =
    record {
      good = sure (good_decided s) (clear (rest (rest (rest done))));
      list = sure (list_discrete ℕ_discrete (sheet_sizes s) (sizes w)) (clear (rest (rest (rest (rest done)))));
      rule = λ t v. sym ((a.leaves e).gives p place t v ∙ ap (λ (g : Rule). g t) (put_here (state_of ruled w) p (sheet_rule s) (omega (arith, place, length_rules w))));
      room = omega arith;
    }
  where
    done : Ends (refusals (read_sheet p s) w) Taken
    done = subst (Ends (refusals (read_sheet p s) w)) e a.ends

    place : p < 32
    place = (sure (places_decided 32 (p ∷ [])) (clear (rest done))).each 0 (omega arith)

-- what the phone's look up took is the sheet of its rule, of one setting or of many
good_sheet : {s : List ℕ} → ((GoodSheet s → ⊥) → ⊥) → SheetFor (sheet_sizes s) (sheet_rule s) (length s) s
good_sheet {s} g = record { good = sure (good_decided s) g; list = refl; rule = λ u v. refl; room = omega arith }

looked_sheet : {s t : List ℕ} {v : Looked} → Meets (look_up_in s t) tt tt (Ok v) → SheetFor (sheet_sizes s) (sheet_rule s) (length s) s
looked_sheet a = good_sheet (clear (rest (rest a.ends)))

all_looked_sheet : {s t out : List ℕ} {r : Outcome × List ℕ} → Meets (look_up_all_in s t out) tt tt r → r.0 ≡ Taken → SheetFor (sheet_sizes s) (sheet_rule s) (length s) s
all_looked_sheet {s} {t} {out} a e = good_sheet (clear (rest (rest (subst (Ends (refusals (look_up_all_in s t out) tt)) e a.ends))))

-- THEOREM: what passed a call is the sheet of its rule
pub passed_sheet : {S : List ℕ} {g : Rule} {s : List ℕ} → Passed S g s → SheetFor S g (length s) s
passed_sheet (written a) = let x = wrote_sheet a in record { good = x.good; list = x.list; rule = x.rule; room = omega arith }
passed_sheet (taken_in a e) = took_sheet a e
passed_sheet (looked_up a) = looked_sheet a
passed_sheet (all_looked_up a e) = all_looked_sheet a e

-- THEOREM: two of one list have equal bytes exactly if their rules agree
pub equal_bytes : {S : List ℕ} {g h : Rule} {s t : List ℕ} → Passed S g s → Passed S h t → (s ≡ t) ↔ Agree S g h
equal_bytes x y = sheets_same (passed_sheet x) (passed_sheet y)
