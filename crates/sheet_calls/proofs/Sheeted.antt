-- Each place of a sound table has a sheet, and write lays it into the output or finds no space. Assumes nothing.
use mathlib.Core.Path.{◌≡◌, refl, sym, ap, subst}
use mathlib.Core.List.{List, [], ◌∷◌, ◌++◌}
use Prim.Native.Nat.{ℕ, zero, suc, ◌≤◌, ◌<◌}
use native.Mathlib.Omega.{arith}
use lib.ListN.{length, get_or, drop}
use Rattle.theory.specs.Functions.{zero_fun}
use Rattle.theory.specs.Rests.{OfSome, IsRest, Rest}
use Rattle.theory.specs.Rules.{rules, Rule}
use Rattle.theory.specs.Tally.{tally}
use Rattle.theory.proofs.Counting.{counts_le, tally_counts}
use Rattle.rule_words.proofs.Bounding.{rule_small}
use Rattle.rule_words.proofs.Reading.{at_rules}
use Rattle.promises.specs.Words.{sizes}
use Rattle.promises.specs.RuleWords.{rule_of, rules_of}
use Rattle.promises.specs.RuleSound.{RuleSound}
use Rattle.promises.specs.State.{on}
use Rattle.promises.specs.Table.{state_of}
use Rattle.promises.specs.RuleDeeds.{ruled}
use Rattle.promises.specs.SheetDeeds.{SheetFor}
use Rattle.rule_calls.proofs.Sounding.{sound_list}
use Rattle.rule_calls.proofs.Theorems.{copy_fits}
use Rattle.sheet_bytes.specs.Sheet.{sheet_of, IsSheet}
use Rattle.sheets.proofs.Edge.{sheet_for, room_for}
use Rattle.sheet_laying.specs.Laid.{Laid}
use Rattle.sheet_writer.proofs.Parts.{none_tells, some_tells}
use Rattle.std.specs.Prelude.{Option, Some, None, Result, Err}
use Rattle.std.specs.Option.{ok_or}
use Rattle.settings.specs.Refusals.{Outcome, Taken}
use Rattle.settings.specs.declared.refusals.Refusal.{Refusal}
use Rattle.settings.specs.declared.refusals.Refusal.TheVariants.{NoSpace}
use Rattle.settings.proofs.Endings.{stop, pass}
use Rattle.promises.specs.Deed.{Meets}
use Rattle.promises.specs.SheetDeeds.{write_sheet}
use Rattle.table_calls.specs.Door.{Enters}
use Rattle.table_calls.proofs.Meeting.{let_in, refuses, takes}

-- the last of a list
get_or_last : (gs : List Rule) (g : Rule) → get_or (gs ++ (g ∷ [])) (length gs) zero_fun ≡ g
get_or_last [] g = refl
get_or_last (h ∷ gs) g = get_or_last gs g

length_last : (gs : List Rule) (g : Rule) → length (gs ++ (g ∷ [])) ≡ suc (length gs)
length_last [] g = refl
length_last (h ∷ gs) g = ap suc (length_last gs g)

-- a rule has no more rests than a list of rules that ends with it
tally_last : (S : List ℕ) (gs : List Rule) (g : Rule) → tally S (g ∷ []) ≤ tally S (gs ++ (g ∷ []))
tally_last S gs g = counts_le S (g ∷ []) (gs ++ (g ∷ [])) _ _ more (tally_counts S (g ∷ [])) (tally_counts S (gs ++ (g ∷ [])))
  where
    more : (x : Rest rules) → OfSome S (g ∷ []) x → OfSome S (gs ++ (g ∷ [])) x
    more x o = go o.place o.there o.is_rest
      where
        go : (i : ℕ) → i < 1 → IsRest S (get_or (g ∷ []) i zero_fun) x → OfSome S (gs ++ (g ∷ [])) x
        go zero h r = record { place = length gs; there = omega (arith, length_last gs g); is_rest = subst (λ (f : Rule). IsRest S f x) (sym (get_or_last gs g)) r }
        go (suc i) h r = absurd (omega arith)

-- the sheet of the rule of place p
abbrev pub sheet_at : List ℕ → ℕ → List ℕ
sheet_at w p = sheet_of (sizes w) (rule_of w p)

module _ {w : List ℕ} {p : ℕ} (s : RuleSound w) (h : p < 32) where
  pub place_sheet : IsSheet (sizes w) (rule_of w p) (sheet_at w p)
  place_sheet = record {
    writable = record {
      list = sound_list s;
      numbers = λ t v. rule_small w p t;
      rests = omega (arith, tally_last (sizes w) (rules_of w) (rule_of w p), copy_fits p h s, s.header.most);
    };
    bytes = refl;
  }

  -- and so at the edge
  edge_sheet : IsSheet (sizes w) (on (state_of ruled w) p) (sheet_at w p)
  edge_sheet = subst (λ (g : Rule). IsSheet (sizes w) g (sheet_at w p)) (sym (at_rules w p h)) place_sheet

  pub place_for : {n : ℕ} → length (sheet_at w p) ≤ n → SheetFor (sizes w) (on (state_of ruled w) p) n (sheet_at w p)
  place_for l = sheet_for edge_sheet l

  pub no_place_for : {n : ℕ} → n < length (sheet_at w p) → ((x : List ℕ) × SheetFor (sizes w) (on (state_of ruled w) p) n x) → ⊥
  no_place_for l x = omega (arith, l, (room_for.0 x).1, ap length edge_sheet.bytes)

  -- ---- what write laid into the output
  module _ {out out' : List ℕ} where
    -- nothing: it is too short
    pub laid_none : Laid (sheet_at w p) out out' None → (((x : List ℕ) × SheetFor (sizes w) (on (state_of ruled w) p) (length out) x) → ⊥) × (out' ≡ out)
    laid_none l = (no_place_for (none_tells l), (l.short (none_tells l)).1)

    -- or the sheet
    pub laid_sheet : {n : ℕ} → Laid (sheet_at w p) out out' (Some n) → (x : List ℕ) × SheetFor (sizes w) (on (state_of ruled w) p) (length out) x × (n ≡ length x) × (out' ≡ x ++ drop (length x) out)
    laid_sheet {n} l =
        let f = some_tells l in
        let e = (l.fits f).0 in
        (sheet_at w p, place_for f, cc, (l.fits f).1)

-- WRITE past the door: what was laid decides
pub written : {w out out' : List ℕ} {p : ℕ} {o : Outcome} → Enters RuleSound 32 (p ∷ []) w o → o ≡ Taken → (r : Option ℕ) → Laid (sheet_at w p) out out' r → Meets (write_sheet p out) w w (ok_or r NoSpace, out')
written {w} {out} {p = p} e t (Some n) l =
    let x = laid_sheet (e.sound t) ((e.there t).each 0 (omega arith)) l in takes refl (let_in e t (pass (λ n. n (x.0, x.1)) refl)) refl x
written {w} {out} {p = p} e t None l =
    let n = laid_none (e.sound t) ((e.there t).each 0 (omega arith)) l in
    refuses refl (ap (λ (l : List ℕ). let r : Result ℕ Refusal × List ℕ = (Err NoSpace, l) in r) n.1) (let_in e t (stop n.0))
