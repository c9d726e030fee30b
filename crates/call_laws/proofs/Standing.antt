-- WHAT STANDS ON A PLACE after a call that writes, for every kind: the function put there, and on every other place its own. Assumes nothing.
use mathlib.Core.Path.{◌≡◌, refl, sym, ap, subst, ◌∙◌}
use mathlib.Core.List.{List}
use Prim.Native.Nat.{ℕ, ◌<◌}
use native.Mathlib.Decide.{dec_lt}
use native.Mathlib.Omega.{arith}
use lib.ListN.{length, get_or}
use lib.Seq.{get_or-set_same, get_or-set_other}
use Rattle.theory.specs.Kind.{Kind}
use Rattle.theory.specs.Settings.{Valid}
use Rattle.theory.specs.Functions.{Agree, Amount, Fun, zero_fun}
use Rattle.settings.specs.Refusals.{Outcome}
use Rattle.settings.specs.Refusals.{Taken}
use Rattle.promises.specs.Words.{sizes}
use Rattle.promises.specs.State.{put, Places}
use Rattle.promises.specs.Deed.{Answer, Deed, Meets}
use Rattle.promises.specs.Table.{Tabled, Effect, puts, state_of, Made, Leaves, table}
use Rattle.table_words.specs.Table.{Table}
use Rattle.table_calls.proofs.Drawn.{Drawn, tabled}
use Rattle.table_calls.proofs.Theorems.{ended}
use Rattle.call_laws.specs.Standing.{Among, Still, Next}

-- a place of a list that is not without places is one
pub there : {n : ℕ} {l : List ℕ} → ((Places n l → ⊥) → ⊥) → (j : ℕ) → j < length l → get_or l j 0 < n
there {n} {l} k j h = go (dec_lt (get_or l j 0) n)
  where
    go : Dec (get_or l j 0 < n) → get_or l j 0 < n
    go (yes p) = p
    go (no m) = absurd (k (λ a. m (a.each j h)))

module _ {K : Kind} {D : Table K} {own : List ℕ → ℕ → Fun K} {Sound : List ℕ → Type 0} (looked : Answer (Amount K × ℕ)) (F : Drawn D own Sound) where
  abbrev T : Tabled K
  T = tabled D Sound looked

  -- what agrees with a place agrees with it as long as it still holds what it held
  pub still_agrees : {p : ℕ} {w v : List ℕ} {f : Fun K} → Agree (sizes w) (own w p) f → Still own Sound p w v → Agree (sizes v) (own v p) f
  still_agrees a k s x = let y = subst (λ (S : List ℕ). Valid S s) k.list x in k.same s y ∙ a s y

  -- a taken call that puts g on place p
  module _ {d : Deed (table T)} {w w' : List ℕ} {r : d.Result} {p : ℕ} {g : Fun K} (e : d.writes (state_of T w) ≡ puts p g) (c : Meets d w w' r) (t : d.ending r ≡ Taken) where
    made : Made T (put p g (state_of T w)) w w'
    made = subst (λ (x : Effect K). Leaves T x w w') e (c.leaves t)

    pub written_sound : Sound w'
    written_sound = made.sound

    pub written_list : sizes w' ≡ sizes w
    written_list = made.list

    pub written_agrees : {f : Fun K} → p < D.places → Agree (sizes w) g f → Agree (sizes w') (own w' p) f
    written_agrees h a s x =
        let y = subst (λ (S : List ℕ). Valid S s) written_list x in
        ap (λ (f : Fun K). f s) (sym (F.at_said w' p h)) ∙ made.gives p h s y
        ∙ ap (λ (f : Fun K). f s) (get_or-set_same (D.said w) p g zero_fun (omega (arith, h, F.length_said w))) ∙ a s y

    pub written_elsewhere : (q : ℕ) → q < D.places → (q ≡ p → ⊥) → Still own Sound q w w'
    written_elsewhere q h n =
        record {
          sound = written_sound;
          list = written_list;
          same = λ s x.
              ap (λ (f : Fun K). f s) (sym (F.at_said w' q h)) ∙ made.gives q h s x
              ∙ ap (λ (f : Fun K). f s) (get_or-set_other (D.said w) p q g zero_fun n ∙ F.at_said w q h);
        }

  -- ---- MEANWHILE: nothing; one thing after another; any call that writes another place, taken or refused
  pub still_itself : {p : ℕ} {w : List ℕ} → Sound w → Still own Sound p w w
  still_itself s = record { sound = s; list = refl; same = λ t v. refl }

  pub still_on : {p : ℕ} {w u v : List ℕ} → Still own Sound p w u → Still own Sound p u v → Still own Sound p w v
  still_on i j =
      record { sound = j.sound; list = j.list ∙ i.list; same = λ s x. j.same s (subst (λ (S : List ℕ). Valid S s) (sym i.list) x) ∙ i.same s x }

  pub call_stands : {d : Deed (table T)} {p q : ℕ} {g : Fun K} {w w' : List ℕ} {r : d.Result} → d.writes (state_of T w) ≡ puts p g → Meets d w w' r → Sound w → q < D.places → (q ≡ p → ⊥) →
      Still own Sound q w w'
  call_stands {d} {q = q} {w = w} {w' = w'} {r = r} e c s h n =
      ended (d.ending r) (λ t. written_elsewhere {d = d} e c t q h n)
      (λ x t. subst (λ (u : List ℕ). Still own Sound q w u) (sym (c.kept x t)) (still_itself s))

  -- a call that comes at once is next
  pub at_once : {l : List ℕ} {Call : List ℕ → List ℕ → Outcome → Type 0} {w v : List ℕ} → Sound w → Call w v Taken → Next own Sound l Call w v
  at_once {w = w} s c = record { found = w; still = λ p m. still_itself s; taken = c }

  -- and what it does not write stands
  pub next_stands : {l : List ℕ} {d : Deed (table T)} {w v : List ℕ} {p q : ℕ} {g : Fun K} {o : d.Result} {Call : List ℕ → List ℕ → Outcome → Type 0} (t : Next own Sound l Call w v) →
      d.writes (state_of T t.found) ≡ puts p g → Meets d t.found v o → d.ending o ≡ Taken → Among q l → q < D.places → (q ≡ p → ⊥) → Still own Sound q w v
  next_stands {d = d} {q = q} t e c k m h n = still_on (t.still q m) (written_elsewhere {d = d} e c k q h n)
