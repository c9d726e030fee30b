-- A call on one of two loans: what is true of it there is true of it on both. Assumes nothing.
use mathlib.Core.Path.{◌≡◌}
use Rattle.settings.specs.declared.refusals.Refusal.TheVariants.{Damaged}
use Rattle.promises.specs.Loan.{Loan, ◌and◌}
use Rattle.promises.specs.Deed.{Deed, Meets}
use Rattle.table_calls.proofs.Like.{more, like_refl, like_ends}
use Rattle.demands.specs.Ground.{Ground}
use Rattle.demands.specs.Does.{on_first, on_second}
use Rattle.demands.proofs.Effects.{Effects, on_two}
use Rattle.demands.proofs.Frame.{Frame}
use Rattle.demands.proofs.Lawful.{Lawful}

module _ {A B : Loan} {M : Ground A} {N : Ground B} {D : Effects M} {E : Effects N} (F : Frame D) (G : Frame E) where
  -- ---- its deed is lawful
  pub first_lawful : {d : Deed A} → Lawful D d → Lawful (on_two D E) (on_first B d)
  first_lawful l =
      record {
        ordered = λ z. l.ordered z.0;
        firm = λ z. l.firm z.0;
        cases_like = λ z y a. l.cases_like z.0 y.0 a.0;
        writes_like = λ z y a e. (l.writes_like z.0 y.0 a.0 e, G.same_keeps z.1);
        gives_like = λ z y a e r g. l.gives_like z.0 y.0 a.0 e r g;
        one = λ z. l.one z.0;
      }

  pub second_lawful : {d : Deed B} → Lawful E d → Lawful (on_two D E) (on_second A d)
  second_lawful l =
      record {
        ordered = λ z. l.ordered z.1;
        firm = λ z. l.firm z.1;
        cases_like = λ z y a. l.cases_like z.1 y.1 a.1;
        writes_like = λ z y a e. (F.same_keeps z.0, l.writes_like z.1 y.1 a.1 e);
        gives_like = λ z y a e r g. l.gives_like z.1 y.1 a.1 e r g;
        one = λ z. l.one z.1;
      }

  -- ---- and its promise is kept
  pub first_meets : {d : Deed A} {w w' : (A and B).Words} {r : d.Result} → Meets d w.0 w'.0 r → w'.1 ≡ w.1 → Meets (on_first B d) w w' r
  first_meets {d} {w} {w'} {r} m k =
      record {
        ends = like_ends (d.ending r) (more Damaged (λ n s. n (s, G.sound_nothing w.1)) (λ n s. n s.0) (λ n. like_refl (d.cases (A.says w.0)))) m.ends;
        leaves = λ e. (m.leaves e, G.leaves_keeps w.1 w'.1 k);
        gives = m.gives;
        kept = λ x e i. (m.kept x e i, k i);
        refused = m.refused;
      }

  pub second_meets : {d : Deed B} {w w' : (A and B).Words} {r : d.Result} → Meets d w.1 w'.1 r → w'.0 ≡ w.0 → Meets (on_second A d) w w' r
  second_meets {d} {w} {w'} {r} m k =
      record {
        ends = like_ends (d.ending r) (more Damaged (λ n s. n (F.sound_nothing w.0, s)) (λ n s. n s.1) (λ n. like_refl (d.cases (B.says w.1)))) m.ends;
        leaves = λ e. (F.leaves_keeps w.0 w'.0 k, m.leaves e);
        gives = m.gives;
        kept = λ x e i. (k i, m.kept x e i);
        refused = m.refused;
      }
