-- What the promises of write and read add up to. Assumes nothing.
use mathlib.Core.Path.{◌≡◌, refl, sym, ap, subst, ◌∙◌}
use mathlib.Core.HLevel.{dec→stable}
use mathlib.Core.List.{List, [], ◌∷◌}
use Prim.Native.Nat.{ℕ, zero, suc, ◌≤◌, ◌<◌}
use native.Mathlib.Decide.{ℕ_discrete, dec_lt}
use native.Mathlib.Omega.{arith}
use lib.ListN.{length, get_or, take, drop}
use lib.Seq.{get_or-set_same, take-append_seam}
use Rattle.theory.specs.Deciding.{list_discrete}
use Rattle.theory.specs.Functions.{Agree, zero_fun}
use Rattle.theory.specs.Rules.{Rule, Phrase}
use Rattle.theory.specs.Settings.{Valid}
use Rattle.theory.specs.Asked.{Asked}
use Rattle.theory.proofs.Ranges.{valid_decided}
use Rattle.theory.proofs.Asked.{asked_like, asked_one}
use Rattle.settings.specs.Refusals.{Ends, ◌when◌else◌, taken}
use Rattle.settings.specs.declared.refusals.Refusal.TheVariants.{BadArgument, NoRoom}
use Rattle.settings.specs.Refusals.{Outcome, Taken, Refused, ending_of}
use Rattle.settings.specs.declared.refusals.Refusal.{Refusal}
use Rattle.std.specs.Prelude.{Result, Ok, Err}
use Rattle.settings.proofs.Endings.{not_taken}
use Rattle.promises.specs.declared.Looked.{Looked}
use Rattle.promises.specs.Words.{sizes}
use Rattle.promises.specs.RuleWords.{rules_of}
use Rattle.promises.specs.RuleSound.{RuleSound}
use Rattle.promises.specs.Sheet.{sheet_sizes, sheet_rule, GoodSheet}
use Rattle.promises.specs.State.{on, Outnumber, Places, room_cases}
use Rattle.promises.specs.Table.{state_of}
use Rattle.promises.specs.Deed.{Meets}
use Rattle.promises.specs.TableDeeds as D
use Rattle.promises.specs.RuleDeeds.{ruled}
use Rattle.promises.specs.SheetDeeds.{read_sheet, write_sheet, look_up_in, SheetFor}
use Rattle.rule_words.proofs.Reading.{length_rules}
use Rattle.table_calls.proofs.Drawn.{outnumber, outnumbered}
use Rattle.table_calls.proofs.Like.{clear, rest}
use Rattle.table_calls.proofs.Theorems.{ended}
use Rattle.rule_settling.proofs.Settling.{exceeds_agree}
use Rattle.promises.specs.ForC.{heard, Hears, returned, tell_returned}
use Rattle.sheets.proofs.Edge.{one_sheet}
use Rattle.sheets.proofs.Stable.{good_stable}
use Rattle.sheets.proofs.Theorems.{longest, newer_not}

-- the place of a call on one place
one_place : {p : ℕ} → p < 32 → Places 32 (p ∷ [])
one_place {p} h = record { each = go }
  where
    go : (j : ℕ) → j < 1 → get_or (p ∷ []) j 0 < 32
    go zero l = h
    go (suc j) l = absurd (omega arith)

-- ---- SOUND: read leaves a sound table sound
pub read_sound : {p : ℕ} {s w w' : List ℕ} {o : Outcome} → RuleSound w → Meets (read_sheet p s) w w' o → RuleSound w'
read_sound {o = o} ok r = ended o (λ e. (r.leaves e).sound) (λ x e. subst RuleSound (sym (r.kept x e)) ok)

-- ---- what a taken read says
module _ {p : ℕ} {s w w' : List ℕ} (r : Meets (read_sheet p s) w w' Taken) where
  pub read_place : p < 32
  read_place = dec→stable (dec_lt p 32) (λ n. clear (rest r.ends) (λ l. n (l.each 0 (omega arith))))

  pub read_good : GoodSheet s
  read_good = good_stable (clear (rest (rest (rest r.ends))))

  pub read_list : sheet_sizes s ≡ sizes w
  read_list = dec→stable (list_discrete ℕ_discrete (sheet_sizes s) (sizes w)) (clear (rest (rest (rest (rest r.ends)))))

  list_kept : sizes w' ≡ sizes w
  list_kept = (r.leaves refl).list

  pub read_says : Agree (sizes w) (on (state_of ruled w') p) (sheet_rule s)
  read_says t v = (r.leaves refl).gives p read_place t v ∙ ap (λ (g : Rule). g t) (get_or-set_same (rules_of w) p (sheet_rule s) zero_fun (omega (arith, length_rules w, read_place)))

-- ---- what a taken write laid: the sheet of the place stands in front
module _ {p : ℕ} {w out out' : List ℕ} {n : ℕ} (a : Meets (write_sheet p out) w w (Ok n, out')) where
  pub wrote_sheet : SheetFor (sizes w) (on (state_of ruled w) p) (length out) (take n out')
  wrote_sheet =
      let x = a.gives refl in
      subst (SheetFor (sizes w) (on (state_of ruled w) p) (length out))
      (sym (ap (λ (m : ℕ). take m out') x.2 ∙ ap (take (length x.0)) x.3 ∙ take-append_seam x.0 (drop (length x.0) out))) x.1

  -- ---- READ WHAT WAS WRITTEN: the same rule, in any table over the list with room; NO ROOM exactly where there is none
  module _ {u u' : List ℕ} {q : ℕ} {o : Outcome} (fit : RuleSound u) (hq : q < 32) (list : sizes u ≡ sizes w) (b : Meets (read_sheet q (take n out')) u u' o) where
    abbrev g : Rule
    g = sheet_rule (take n out')

    same_rule : Agree (sizes u) g (on (state_of ruled w) p)
    same_rule = subst (λ (S : List ℕ). Agree S g (on (state_of ruled w) p)) (sym list) wrote_sheet.rule

    ending : Ends (room_cases g (state_of ruled u)) o
    ending =
        let x = wrote_sheet in
        ((((b.ends.1 (λ n. n fit)).1 (λ n. n (one_place hq))).1 (λ n. newer_not n x.good)).1 (λ n. n x.good)).1 (λ n. n (x.list ∙ sym list))

    pub read_written : (Outnumber (state_of ruled u) (on (state_of ruled w) p) → ⊥) → (o ≡ Taken) × Agree (sizes w) (on (state_of ruled u') q) (on (state_of ruled w) p)
    read_written k = (taken_in, λ t v. read_says (subst (Meets (read_sheet q (take n out')) u u') taken_in b) t (subst (λ (S : List ℕ). Valid S t) (sym list) v) ∙ wrote_sheet.rule t v)
      where
        taken_in : o ≡ Taken
        taken_in = ending.1 (λ x. k (outnumber (exceeds_agree fit same_rule (outnumbered x))))

    pub read_written_full : Outnumber (state_of ruled u) (on (state_of ruled w) p) → o ≡ Refused NoRoom
    read_written_full x = ending.0 (outnumber (exceeds_agree fit (λ t v. sym (same_rule t v)) (outnumbered x)))

module _ {p : ℕ} {s w w' : List ℕ} (r : Meets (read_sheet p s) w w' Taken) where
  -- ---- WRITE WHAT WAS READ: the same bytes
  pub write_read : {out out' : List ℕ} {n : ℕ} → Meets (write_sheet p out) w' w' (Ok n, out') → take n out' ≡ s
  write_read x =
      one_sheet {m = length s} (wrote_sheet x)
      (record {
        good = read_good r;
        list = read_list r ∙ sym (list_kept r);
        rule =
            subst (λ (S : List ℕ). Agree S (sheet_rule s) (on (state_of ruled w') p)) (sym (list_kept r)) (λ t v. sym (read_says r t v));
        room = omega arith;
      })

  -- ---- LOOK UP: the lookup in the bytes answers what the table's look up answers after reading them
  module _ (ok : RuleSound w) (t : List ℕ) where
    -- both are taken at a setting of the list
    both_taken : {l k : Looked} → Meets (D.look_up ruled p t) w' w' (Ok l) → Meets (look_up_in s t) tt tt (Ok k) → Valid (sizes w) t → l ≡ k
    both_taken {l} {k} a b v =
        let x = a.gives refl in
        let y = b.gives refl in
        let n : l.number ≡ k.number = ap (λ (z : Phrase). z.end) (x.0 ∙ read_says r t v ∙ sym y.0) in
        let own : Asked (sizes w) (sheet_rule s) t l.asked = asked_like (sizes w) (on (state_of ruled w') p) (sheet_rule s) (read_says r) t v l.asked
        (subst (λ (S : List ℕ). Asked S (on (state_of ruled w') p) t l.asked) (list_kept r) x.1) in
        let c : l.asked ≡ k.asked = asked_one (sizes w) (sheet_rule s) t l.asked k.asked own (subst (λ (S : List ℕ). Asked S (sheet_rule s) t k.asked) (read_list r) y.1) in
        (λ i. record { number = n i; asked = c i })

    module _ (l k : Result Looked Refusal) (a : Meets (D.look_up ruled p t) w' w' l) (b : Meets (look_up_in s t) tt tt k) where
      in_table : Ends (BadArgument when (Valid (sizes w') t → ⊥) else taken) (ending_of l)
      in_table = (a.ends.1 (λ m. m (read_sound ok r))).1 (λ m. m (one_place (read_place r)))

      in_bytes : Ends (BadArgument when (Valid (sheet_sizes s) t → ⊥) else taken) (ending_of k)
      in_bytes = ((b.ends.1 (λ m. m tt)).1 (λ n. newer_not n (read_good r))).1 (λ m. m (read_good r))

      same_taken : (x y : Result Looked Refusal) → l ≡ x → k ≡ y → ending_of x ≡ Taken → ending_of y ≡ Taken → Valid (sizes w) t → l ≡ k
      same_taken (Ok x) (Ok y) e f h i v =
          e ∙ ap (λ (z : Looked). let o : Result Looked Refusal = Ok z in o) (both_taken (subst (Meets (D.look_up ruled p t) w' w') e a) (subst (Meets (look_up_in s t) tt tt) f b) v) ∙ sym f
      same_taken (Ok x) (Err y) e f h i v = not_taken i
      same_taken (Err x) y e f h i v = not_taken h

      pub look_up_same : l ≡ k
      look_up_same = go (valid_decided (sizes w) t)
        where
          go : Dec (Valid (sizes w) t) → l ≡ k
          go (yes v) =
              same_taken l k refl refl (in_table.1 (λ m. m (subst (λ (S : List ℕ). Valid S t) (sym (list_kept r)) v)))
              (in_bytes.1 (λ m. m (subst (λ (S : List ℕ). Valid S t) (sym (read_list r)) v))) v
          go (no m) =
              let e = in_table.0 (λ v. m (subst (λ (S : List ℕ). Valid S t) (list_kept r) v)) in
              let f = in_bytes.0 (λ v. m (subst (λ (S : List ℕ). Valid S t) (read_list r) v)) in
              a.refused BadArgument e ∙ sym (b.refused BadArgument f)

    -- it asks as many features
    pub look_up_asks : (l k : Looked) → Meets (D.look_up ruled p t) w' w' (Ok l) → Meets (look_up_in s t) tt tt (Ok k) → l.asked ≡ k.asked
    look_up_asks l k a b = let e = look_up_same (Ok l) (Ok k) a b in let q : l ≡ k = cc in ap (λ (x : Looked). x.asked) q

  -- and C gets that
  pub look_up_read : RuleSound w → (t : List ℕ) (l : Result Looked Refusal) (n : ℕ) → Meets (D.look_up ruled p t) w' w' l
      → Hears (Meets (look_up_in s t) tt tt) (tell_returned []) (heard n [] []) → n ≡ returned l
  look_up_read ok t l n a b = b.number ∙ ap returned (sym (look_up_same ok t l b.answer a b.keeps))

-- ---- SMALL: a written sheet has at most 102,428 bytes
pub written_small : (p : ℕ) (w out out' : List ℕ) (n : ℕ) → Meets (write_sheet p out) w w (Ok n, out') → n ≤ 102428
written_small p w out out' n a = let x = a.gives refl in omega (arith, x.2, longest x.1.good)
