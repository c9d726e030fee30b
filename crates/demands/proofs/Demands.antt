-- THE DEMANDS, of every part of the library that keeps its word. Assumes nothing.
use mathlib.Core.Path.{◌≡◌, refl, sym, subst, ◌∙◌}
use mathlib.Core.List.{List, ◌∷◌}
use native.Mathlib.Omega.{arith}
use Rattle.settings.specs.Refusals.{Cases, Ends, ◌when◌else◌, taken, Above, Ordered}
use Rattle.settings.specs.declared.refusals.Refusal.{Refusal}
use Rattle.settings.specs.declared.refusals.Refusal.TheVariants.{Damaged}
use Rattle.settings.specs.Refusals.{Outcome}
use Rattle.std.specs.Prelude.{Ok, Err}
use Rattle.settings.specs.Refusals.{Taken, Refused}
use Rattle.settings.proofs.Endings.{ends_unique}
use Rattle.promises.specs.Loan.{Loan}
use Rattle.promises.specs.Deed.{Deed, refusals, Meets}
use Rattle.table_calls.proofs.Theorems.{ended}
use Rattle.table_calls.proofs.Like.{more, like_ends, like_one, clear, rest}
use Rattle.demands.specs.Exact.{Exact}
use Rattle.demands.specs.Ground.{Ground, Holds}
use Rattle.demands.specs.Does.{Does, left_by, afterwards}
use Rattle.demands.specs.Run.{Part, Event, Run, begun, called, ran, Told, SameCalls, none, again}
use Rattle.demands.proofs.Firm.{neg}
use Rattle.demands.proofs.Exact.{exactly}
use Rattle.demands.proofs.Effects.{Effects}
use Rattle.demands.proofs.Frame.{Frame}
use Rattle.demands.proofs.Lawful.{Lawful}

-- numbers above 1 are above 0
lower : (l : Cases) → Above 1 l → Above 0 l
lower taken a = tt
lower (x when P else l) a = (omega (arith, a.0), a.1)

-- ---- ONE CALL
module _ {L : Loan} {G : Ground L} {E : Effects G} (F : Frame E) {d : Deed L} (l : Lawful E d) where
  -- on the same functions it returns one thing, and the lowest number that applies
  does_one : (z : L.Plain) (r q : d.Result) → Does d z r → Does d z q → r ≡ q
  does_one z r q a b = ended (d.ending r) (λ e. l.one z r q e (sym same ∙ e) (a.gives e) (b.gives (sym same ∙ e))) (λ x e. a.refused x e ∙ sym (b.refused x (sym same ∙ e)))
    where
      same : d.ending r ≡ d.ending q
      same = ends_unique (d.cases z) (d.ending r) (d.ending q) a.ends b.ends

  does_exact : (z : L.Plain) (r : d.Result) → Does d z r → Exact (d.cases z) (d.ending r)
  does_exact z r a = exactly (lower (d.cases z) (l.ordered z)) (l.firm z) a.ends

  meets_exact : {w w' : L.Words} {r : d.Result} → Meets d w w' r → Exact (refusals d w) (d.ending r)
  meets_exact {w} m = exactly (omega arith, l.ordered (L.says w)) (neg, l.firm (L.says w)) m.ends

  -- on words that hold functions it does its deed, and the words hold the functions afterwards
  module _ {w w' : L.Words} {z : L.Plain} {r : d.Result} (h : Holds G w z) (m : Meets d w w' r) where
    now : Ends (d.cases (L.says w)) (d.ending r)
    now = m.ends.1 (λ n. n (F.asked d.needs w h.sound))

    abbrev met : d.ending r ≡ Taken → Ends (d.cases (L.says w)) Taken
    met e = subst (Ends (d.cases (L.says w))) e now

    told : G.Agrees d.needs (L.says w) z
    told = F.agreed d.needs (L.says w) z h.agrees

    step_does : Does d z r
    step_does =
        record {
          ends = like_ends (d.ending r) (l.cases_like z (L.says w) (F.agrees_sym d.needs (L.says w) z told)) now;
          gives = λ e. l.gives_like (L.says w) z told (met e) r (m.gives e);
          refused = m.refused;
        }

    step_holds : Holds G w' (afterwards G d z r)
    step_holds = go (d.ending r) refl
      where
        go : (o : Outcome) → d.ending r ≡ o → Holds G w' (left_by G o (d.writes z) z)
        go (Ok u) e = F.changed w w' z (d.writes (L.says w)) (d.writes z) h
            (F.same_whole d.needs (L.says w) (d.writes (L.says w)) (d.writes z) (l.writes_like (L.says w) z told (met e))) (m.leaves e)
        go (Err x) e = subst (λ (u : L.Words). Holds G u z) (sym (m.kept x e)) h

  -- two outcomes on the same words are one
  pub meets_one : {w a b : L.Words} {r q : d.Result} → Meets d w a r → Meets d w b q → (r ≡ q) × (a ≡ b)
  meets_one {w} {a} {b} {r} {q} m n = (
    ended (d.ending r) (λ e. l.one (L.says w) r q e (sym same ∙ e) (m.gives e) (n.gives (sym same ∙ e))) (λ x e. m.refused x e ∙ sym (n.refused x (sym same ∙ e))),
    ended (d.ending r) (λ e. F.leaves_one w a b (d.writes (L.says w)) (m.leaves e) (n.leaves (sym same ∙ e))) (λ x e. m.kept x e ∙ sym (n.kept x (sym same ∙ e))),
  )
    where
      same : d.ending r ≡ d.ending q
      same = ends_unique (refusals d w) (d.ending r) (d.ending q) m.ends n.ends

  -- words that are alike up to the bounds: one answer, and alike again
  module _ {w u w' u' : L.Words} {r q : d.Result} (b : G.Alike w u) (m : Meets d w w' r) (n : Meets d u u' q) where
    -- where the first cannot be damaged the two say the same
    agree : ((L.Sound d.needs w → ⊥) → ⊥) → G.Agrees d.needs (L.says w) (L.says u)
    agree k = F.agrees_stable d.needs (L.says w) (L.says u) (λ x. k (λ s. x (F.says_past d.needs w u b s)))

    same_end : d.ending r ≡ d.ending q
    same_end = like_one (d.ending r) (d.ending q)
        (more Damaged
        (λ k s. k (F.sound_past d.needs u w (F.alike_sym w u b) s))
        (λ k s. k (F.sound_past d.needs w u b s))
        (λ k. l.cases_like (L.says w) (L.says u) (agree k)))
        m.ends n.ends

    done : d.ending r ≡ Taken → Ends (refusals d w) Taken
    done e = subst (Ends (refusals d w)) e m.ends

    abbrev agreed : d.ending r ≡ Taken → G.Agrees d.needs (L.says w) (L.says u)
    agreed e = agree (clear (done e))

    answer_past : r ≡ q
    answer_past = ended (d.ending r)
        (λ e. l.one (L.says u) r q e (sym same_end ∙ e) (l.gives_like (L.says w) (L.says u) (agreed e) (rest (done e)) r (m.gives e)) (n.gives (sym same_end ∙ e)))
        (λ x e. m.refused x e ∙ sym (n.refused x (sym same_end ∙ e)))

    words_past : G.Alike w' u'
    words_past = ended (d.ending r)
        (λ e. F.leaves_past d.needs w u w' u' (d.writes (L.says w)) (d.writes (L.says u)) b (agreed e)
        (l.writes_like (L.says w) (L.says u) (agreed e) (rest (done e))) (m.leaves e) (n.leaves (sym same_end ∙ e)))
        (λ x e. subst (λ (k : L.Words). G.Alike k u') (sym (m.kept x e)) (subst (λ (k : L.Words). G.Alike w k) (sym (n.kept x (sym same_end ∙ e))) b))

-- A PART KEEPS ITS WORD: its words have the laws of a loan, and its deeds are lawful
pub record Kept (P : Part) : Type 1 where
  pub effects : Effects P.basis
  pub frame : Frame effects
  pub lawful : (c : P.Call) → Lawful effects (P.deed c)

module _ {P : Part} (K : Kept P) where
  step_by_step : {z : P.loan.Plain} {l : List (Event P)} {w : P.loan.Words} → Run P z l w → Told P z l × Holds P.basis w (ran P z l)
  step_by_step (begun h) = (tt, h)
  step_by_step (called c r e m) =
      let i = step_by_step e in
      ((step_does K.frame (K.lawful c) i.1 m, i.0), step_holds K.frame (K.lawful c) i.1 m)

  told_one : (z : P.loan.Plain) {l k : List (Event P)} → SameCalls P l k → Told P z l → Told P z k → l ≡ k
  told_one z none a b = refl
  told_one z (again {l} {k} c r q s) a b =
      let e : l ≡ k = told_one z s a.1 b.1 in
      let f : r ≡ q = does_one K.frame (K.lawful c) (ran P z l) r q a.0 (subst (λ (m : List (Event P)). Does (P.deed c) (ran P z m) q) (sym e) b.0) in
      λ i. (c, f i) ∷ e i

  -- ---- RUNS: after any calls, refused ones included, every ending and every answer is that of the run on functions,
  -- and the tables are sound and hold the functions of that run
  module _ {z : P.loan.Plain} {l : List (Event P)} {w : P.loan.Words} where
    pub run_told : Run P z l w → Told P z l
    run_told r = (step_by_step r).0

    pub run_holds : Run P z l w → Holds P.basis w (ran P z l)
    run_holds r = (step_by_step r).1

  -- words that hold the same functions are the same up to the bounds
  pub same_words : (w u : P.loan.Words) (z : P.loan.Plain) → Holds P.basis w z → Holds P.basis u z → P.basis.Alike w u
  same_words = K.frame.alike_held

  -- the calls decide: two runs of the same calls return the same, and leave the same words up to the bounds
  module _ {z : P.loan.Plain} {l k : List (Event P)} {w u : P.loan.Words} (s : SameCalls P l k) (a : Run P z l w) (b : Run P z k u) where
    pub runs_return : l ≡ k
    runs_return = told_one z s (run_told a) (run_told b)

    pub runs_leave : P.basis.Alike w u
    runs_leave = K.frame.alike_held w u (ran P z l) (run_holds a) (subst (λ (m : List (Event P)). Holds P.basis u (ran P z m)) (sym runs_return) (run_holds b))

  -- ---- REFUSALS: in any words, each number exactly if its condition holds and no lower number's does
  pub refused_exactly : (c : P.Call) (w w' : P.loan.Words) (r : (P.deed c).Result) → Meets (P.deed c) w w' r → Exact (refusals (P.deed c) w) ((P.deed c).ending r)
  refused_exactly c w w' r m = meets_exact K.frame (K.lawful c) m

  -- and so in the run on functions
  pub told_exactly : (c : P.Call) (z : P.loan.Plain) (r : (P.deed c).Result) → Does (P.deed c) z r → Exact ((P.deed c).cases z) ((P.deed c).ending r)
  told_exactly c z r a = does_exact K.frame (K.lawful c) z r a

  -- refused means untouched: every word is as it was, and what is returned is the refusal's own
  pub refused_untouched : (c : P.Call) (w w' : P.loan.Words) (r : (P.deed c).Result) (x : Refusal) → Meets (P.deed c) w w' r → (P.deed c).ending r ≡ Refused x
      → (w' ≡ w) × (r ≡ (P.deed c).refusal x)
  refused_untouched c w w' r x m e = (m.kept x e, m.refused x e)

  -- every table of refusals ascends
  pub ascends : (c : P.Call) (w : P.loan.Words) → Ordered (refusals (P.deed c) w)
  ascends c w = (omega arith, (K.lawful c).ordered (P.loan.says w))

  -- ---- PAST THE BOUND: words that are the same up to the bounds give the same answer, and are the same up to the bounds afterwards
  pub past_the_bound : (c : P.Call) (w u w' u' : P.loan.Words) (r q : (P.deed c).Result) → P.basis.Alike w u → Meets (P.deed c) w w' r → Meets (P.deed c) u u' q
      → (r ≡ q) × P.basis.Alike w' u'
  past_the_bound c w u w' u' r q b m n = (answer_past K.frame (K.lawful c) b m n, words_past K.frame (K.lawful c) b m n)

  -- ---- DECIDED: two outcomes that meet a promise are equal, in what they return and in every word
  pub decided : (c : P.Call) (w a b : P.loan.Words) (r q : (P.deed c).Result) → Meets (P.deed c) w a r → Meets (P.deed c) w b q → (r ≡ q) × (a ≡ b)
  decided c w a b r q m n = meets_one K.frame (K.lawful c) m n
