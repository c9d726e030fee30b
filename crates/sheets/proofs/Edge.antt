-- What the edge says of a sheet by its bytes is what the layers below say by building it. Assumes nothing.
use mathlib.Core.Path.{◌≡◌, refl, sym, ap, subst, ◌∙◌}
use mathlib.Core.Logic.{◌↔◌}
use mathlib.Core.List.{List, [], ◌∷◌}
use Prim.Native.Nat.{ℕ, ◌≤◌, ◌<◌}
use native.Mathlib.Omega.{arith}
use lib.ListN.{length}
use Rattle.theory.specs.Functions.{Agree}
use Rattle.theory.specs.Rules.{Built, Phrase, Rule}
use Rattle.theory.proofs.Ranges.{features_pos}
use Rattle.theory.proofs.Rests.{nodes_tally}
use Rattle.theory.proofs.Canonical.{build_agree}
use Rattle.promises.specs.Sheet.{sheet_sizes, sheet_rule, GoodSheet}
use Rattle.promises.specs.SheetDeeds.{SheetFor}
use Rattle.sheet_bytes.specs.Sheet.{sheet_of, Writable, IsSheet, Written}
use Rattle.sheet_check.proofs.Reading.{sheet_good, sheet_sizes_lem, sheet_says}
use Rattle.sheet_check.proofs.Writing.{good_sheet}
use Rattle.sheets.proofs.Theorems.{agree_sheet}

-- THEOREM: numbers are the sheet of some rule exactly if they are good bytes
pub written_good : (s : List ℕ) → Written s ↔ GoodSheet s
written_good s = (λ x. sheet_good x.is, λ x. record { list = sheet_sizes s; rule = sheet_rule s; is = good_sheet x })

-- ---- a sheet is that of every rule that agrees
pub writable_agree : {S : List ℕ} {g h : Rule} → Agree S h g → Writable S g → Writable S h
writable_agree {S} {g} {h} a x =
    let pos = features_pos S x.list in
    record {
      list = x.list;
      numbers = λ t v. subst (λ (n : Phrase). n.end < 65536) (sym (a t v)) (x.numbers t v);
      rests = omega (arith, x.rests, nodes_tally S pos (h ∷ []), nodes_tally S pos (g ∷ []), ap (λ (r : Built). length r.1) (build_agree 0 S h g a []));
    }

pub sheet_agree : {S : List ℕ} {g h : Rule} {s : List ℕ} → Agree S h g → IsSheet S g s → IsSheet S h s
sheet_agree {S} {g} {h} a x = record { writable = writable_agree a x.writable; bytes = agree_sheet S h g a ∙ x.bytes }

-- THEOREM: bytes are the sheet of the rule g over S exactly if they are good, their list is S and their rule agrees with g
pub sheet_by_bytes : {S : List ℕ} {g : Rule} {s : List ℕ} → IsSheet S g s ↔ (GoodSheet s × (sheet_sizes s ≡ S) × Agree S (sheet_rule s) g)
sheet_by_bytes {S} {g} {s} = (
  (λ x. (sheet_good x, sheet_sizes_lem x, sheet_says x)),
  (λ x. sheet_agree (λ t v. sym (x.2 t v)) (subst (λ (T : List ℕ). IsSheet T (sheet_rule s) s) x.1 (good_sheet x.0))),
)

-- ---- the sheet for a rule, where it has room
pub sheet_for : {S : List ℕ} {g : Rule} {n : ℕ} {s : List ℕ} → IsSheet S g s → length s ≤ n → SheetFor S g n s
sheet_for x h = record { good = sheet_good x; list = sheet_sizes_lem x; rule = sheet_says x; room = h }

pub for_sheet : {S : List ℕ} {g : Rule} {n : ℕ} {s : List ℕ} → SheetFor S g n s → IsSheet S g s
for_sheet x = sheet_by_bytes.1 (x.good, x.list, x.rule)

-- THEOREM: two of one list are equal bytes exactly if their rules agree, so each rule has one
module _ {S : List ℕ} {g h : Rule} {n m : ℕ} {s t : List ℕ} (x : SheetFor S g n s) (y : SheetFor S h m t) where
  pub sheets_same : (s ≡ t) ↔ Agree S g h
  sheets_same = (
    (λ e r v. sym (x.rule r v) ∙ ap (λ (u : List ℕ). sheet_rule u r) e ∙ y.rule r v),
    (λ a. sym (for_sheet x).bytes ∙ agree_sheet S g h a ∙ (for_sheet y).bytes),
  )

pub one_sheet : {S : List ℕ} {g : Rule} {n m : ℕ} {s t : List ℕ} → SheetFor S g n s → SheetFor S g m t → s ≡ t
one_sheet x y = (sheets_same x y).1 (λ r v. refl)

-- THEOREM: there is a sheet for a rule exactly if the rule has a sheet and that has room
module _ {S : List ℕ} {g : Rule} {n : ℕ} where
  pub room_for : ((s : List ℕ) × SheetFor S g n s) ↔ (Writable S g × (length (sheet_of S g) ≤ n))
  room_for = (
    (λ x. let y = for_sheet x.1 in (y.writable, omega (arith, x.1.room, ap length y.bytes))),
    (λ x. (sheet_of S g, sheet_for (record { writable = x.0; bytes = refl }) x.1)),
  )
