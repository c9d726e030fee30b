-- The laws of the calls that every kind of table has. Assumes nothing.
use mathlib.Core.Path.{refl, sym, subst, ◌∙◌}
use mathlib.Core.List.{List}
use Prim.Native.Nat.{ℕ}
use native.Mathlib.Omega.{arith}
use lib.ListN.{get_or}
use Rattle.theory.specs.Kind.{Kind}
use Rattle.theory.specs.Functions.{Amount, Fun, zero_fun}
use Rattle.theory.specs.Settings.{Valid}
use Rattle.theory.specs.Rests.{Counts}
use Rattle.theory.specs.Tally.{tally}
use Rattle.theory.proofs.Asked.{asked_one, asked_like}
use Rattle.theory.proofs.Counting.{tally_counts, counts_unique}
use Rattle.theory.proofs.Ranges.{valid_decided, features_pos}
use Rattle.settings.specs.declared.refusals.Refusal.TheVariants.{BadPlace, BadArgument, BadOpening}
use Rattle.settings.proofs.Answers.{retell, tells_decided}
use Rattle.table_words.proofs.Tab.{length_tab}
use Rattle.promises.specs.Table.{Tabled}
use Rattle.promises.specs.TableDeeds.{compared, tallied, open_table, constant, copy, look_up, same, tally_all}
use Rattle.table_calls.proofs.Like.{alike, keep, clear, rest}
use Rattle.demands.specs.Agrees.{Matches}
use Rattle.demands.proofs.Firm.{neg, sure}
use Rattle.demands.proofs.Tally.{tally_agree}
use Rattle.demands.proofs.Effects.{kept, replaced, opened, on_table}
use Rattle.demands.proofs.Lawful.{Lawful, answer_one, steady_lawful, brief_lawful}

-- functions that match have one number of distinct rests
counts_like : {K : Kind} {S : List ℕ} {gs hs : List (Fun K)} {a : ℕ} → Matches S gs hs → Counts S gs a → Counts S hs a
counts_like {S = S} {gs = gs} {hs = hs} {a = a} m c =
    subst (Counts S hs) (sym (counts_unique S gs a (tally S gs) c (tally_counts S gs) ∙ tally_agree S (features_pos S m.features) gs hs m.many (λ i l. m.each i))) (tally_counts S hs)

module _ {K : Kind} (T : Tabled K) where
  -- opening asks nothing of the words and looks at no function
  pub opening_lawful : (S : List ℕ) (cap m : ℕ) → Lawful (on_table T) (open_table T S cap m)
  opening_lawful S cap m =
      record {
        ordered = λ z. (omega arith, tt);
        firm = λ z. (neg, tt);
        cases_like = λ z x a. keep BadOpening (λ k. alike);
        writes_like = λ z x a e. opened (length_tab (λ p. zero_fun) T.places);
        gives_like = λ z x a e r g. tt;
        one = λ z r q a b g h. a ∙ sym b;
      }

  pub constant_lawful : (p : ℕ) (x : Amount K) → Lawful (on_table T) (constant T p x)
  constant_lawful p x = brief_lawful (record {
    ordered = λ z. (omega arith, (omega arith, tt));
    firm = λ z. (neg, (neg, tt));
    cases_like = λ cap m. keep BadPlace (λ k. keep BadArgument (λ i. alike));
    writes_like = λ cap m e. replaced p (λ s v. refl);
  })

  pub copy_lawful : (p q : ℕ) → Lawful (on_table T) (copy T p q)
  copy_lawful p q = brief_lawful (record {
    ordered = λ z. (omega arith, tt);
    firm = λ z. (neg, tt);
    cases_like = λ cap m. keep BadPlace (λ k. alike);
    writes_like = λ cap m e. replaced p (m.each q);
  })

  pub look_up_lawful : (p : ℕ) (s : List ℕ) → Lawful (on_table T) (look_up T p s)
  look_up_lawful p s =
      steady_lawful (record {
        asks = refl;
        ordered = λ z. (omega arith, (omega arith, tt));
        firm = λ z. (neg, (neg, tt));
        cases_like = λ cap m. keep BadPlace (λ k. keep BadArgument (λ i. alike));
        writes_like = λ cap m e. kept;
        gives_like = λ cap {S} {gs} {hs} m e r g.
            let v : Valid S s = sure (valid_decided S s) (clear (rest e)) in
            (g.0 ∙ m.each p s v, asked_like S (get_or gs p zero_fun) (get_or hs p zero_fun) (m.each p) s v (T.looked.value r).1 g.1);
        one = λ z r q a b g h.
            let n = asked_one z.list (get_or z.places p zero_fun) s (T.looked.value r).1 (T.looked.value q).1 g.1 h.1 in
            answer_one T.looked r q (a ∙ sym b) (λ i. ((g.0 ∙ sym h.0) i, n i));
      })

  pub same_lawful : (p q : ℕ) → Lawful (on_table T) (same T p q)
  same_lawful p q =
      steady_lawful (record {
        asks = refl;
        ordered = λ z. (omega arith, tt);
        firm = λ z. (neg, tt);
        cases_like = λ cap m. keep BadPlace (λ k. alike);
        writes_like = λ cap m e. kept;
        gives_like = λ cap m e r g. retell (compared.value r) (λ a s v. sym (m.each p s v) ∙ a s v ∙ m.each q s v) (λ a s v. m.each p s v ∙ a s v ∙ sym (m.each q s v)) g;
        one = λ z r k a b g h. answer_one compared r k (a ∙ sym b) (tells_decided _ (compared.value r) (compared.value k) g h);
      })

  pub tally_lawful : Lawful (on_table T) (tally_all T)
  tally_lawful =
      steady_lawful (record {
        asks = refl;
        ordered = λ z. tt;
        firm = λ z. tt;
        cases_like = λ cap m. alike;
        writes_like = λ cap m e. kept;
        gives_like = λ cap m e r g. counts_like m g;
        one = λ z r q a b g h. answer_one tallied r q (a ∙ sym b) (counts_unique z.list z.places (tallied.value r) (tallied.value q) g h);
      })
