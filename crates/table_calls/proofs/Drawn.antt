-- What a table that a call wrote is at the edge, as the pictures of the layers below say, for every kind; and how the calls that every kind has meet their deeds. Assumes nothing.
use mathlib.Core.Path.{◌≡◌, refl, sym, ap, subst, ◌∙◌}
use mathlib.Core.List.{List, [], ◌∷◌, ◌++◌}
use Prim.Native.Nat.{ℕ, ◌<◌}
use native.Mathlib.Decide.{ℕ_discrete}
use native.Mathlib.Omega.{arith}
use lib.ListN.{length, get_or, set}
use lib.Seq.{get_or-set_same, get_or-set_other}
use Rattle.theory.specs.Kind.{Kind}
use Rattle.theory.specs.Settings.{Valid}
use Rattle.theory.specs.Functions.{Agree, Amount, Fun, zero_fun}
use Rattle.theory.specs.Asked.{Asked}
use Rattle.theory.specs.Questions.{asked}
use Rattle.theory.specs.Rests.{Counts}
use Rattle.theory.specs.Tally.{tally}
use Rattle.theory.proofs.Asked.{asked_counts}
use Rattle.theory.proofs.Counting.{tally_counts, counts_unique}
use Rattle.settings.specs.Refusals.{Cases, Ends, ◌when◌else◌, taken}
use Rattle.settings.specs.declared.refusals.Refusal.{Refusal}
use Rattle.settings.specs.declared.refusals.Refusal.TheVariants.{NoRoom, BadOpening}
use Rattle.std.specs.Prelude.{Ok, Err}
use Rattle.settings.specs.Refusals.{Outcome}
use Rattle.settings.specs.Refusals.{Taken, Refused}
use Rattle.settings.proofs.Endings.{stop, pass}
use Rattle.promises.specs.Words.{capacity, sizes}
use Rattle.promises.specs.Deed.{Answer, Deed, refusals, Meets}
use Rattle.promises.specs.State.{State, on, put, Outnumber, room_cases}
use Rattle.promises.specs.Table.{Tabled, Effect, puts, state_of, Made, Leaves, table}
use Rattle.promises.specs.TableDeeds.{Openable, fresh, open_table, look_up, tally_all}
use Rattle.table_words.specs.Table.{Table}
use Rattle.table_words.specs.Picture.{Pictures, Proper, Becomes}
use Rattle.table_calls.specs.Writing.{Exceeds, Writes}
use Rattle.table_calls.specs.Door.{Enters}
use Rattle.table_calls.specs.Opening.{Opens, Opened, Named}
use Rattle.table_calls.proofs.Like.{alike, more, like_ends}
use Rattle.table_calls.proofs.Meeting.{let_in, refuses, takes}

module _ {K : Kind} (D : Table K) (Sound : List ℕ → Type 0) (looked : Answer (Amount K × ℕ)) where
  -- a kind of table at the edge
  abbrev pub tabled : Tabled K
  tabled = record { places = D.places; said = D.said; Sound = Sound; InRange = D.InRange; looked = looked }

-- NO ROOM, as the rests are counted at the edge and as they are computed below
module _ {K : Kind} {z : State K} {g : Fun K} where
  pub outnumber : z.capacity < tally z.list (z.places ++ (g ∷ [])) → Outnumber z g
  outnumber x = record { number = tally z.list (z.places ++ (g ∷ [])); counts = tally_counts z.list (z.places ++ (g ∷ [])); more = x }

  pub outnumbered : Outnumber z g → z.capacity < tally z.list (z.places ++ (g ∷ []))
  outnumbered o =
      omega (arith, o.more, counts_unique z.list (z.places ++ (g ∷ [])) o.number (tally z.list (z.places ++ (g ∷ []))) o.counts (tally_counts z.list (z.places ++ (g ∷ []))))

-- what a kind of table gives; own is the function of a place as the kind's own definitions say it
module _ {K : Kind} (D : Table K) (own : List ℕ → ℕ → Fun K) (Sound : List ℕ → Type 0) where
  pub record Drawn : Type 0 where
    pub at_said : (w : List ℕ) (p : ℕ) → p < D.places → get_or (D.said w) p zero_fun ≡ own w p
    pub length_said : (w : List ℕ) → length (D.said w) ≡ D.places
    pub pictures : (w : List ℕ) → Sound w → Pictures D (capacity w) (sizes w) (D.said w) w
    pub proper : (w : List ℕ) → Sound w → Proper D (capacity w) (sizes w) (D.said w)
    pub sound : {cap : ℕ} {S : List ℕ} {gs : List (Fun K)} {w : List ℕ} → Proper D cap S gs → Pictures D cap S gs w → Sound w
    pub says : {cap : ℕ} {S : List ℕ} {gs : List (Fun K)} {w : List ℕ} → Proper D cap S gs → Pictures D cap S gs w →
        (capacity w ≡ cap) × (sizes w ≡ S) × ((q : ℕ) → q < D.places → Agree S (get_or (D.said w) q zero_fun) (get_or gs q zero_fun))

module _ {K : Kind} {D : Table K} {own : List ℕ → ℕ → Fun K} {Sound : List ℕ → Type 0} (looked : Answer (Amount K × ℕ)) (F : Drawn D own Sound) where
  abbrev T : Tabled K
  T = tabled D Sound looked

  -- a table made to hold a function on a place holds every function there that agrees with it
  pub made_like : {w w' : List ℕ} (p : ℕ) (g h : Fun K) → Agree (sizes w) g h → Made T (put p g (state_of T w)) w w' → Made T (put p h (state_of T w)) w w'
  made_like {w} {w'} p g h e b =
      record { long = b.long; sound = b.sound; room = b.room; list = b.list; gives = λ q l s v. b.gives q l s v ∙ go q l s v (ℕ_discrete q p); past = b.past }
    where
      go : (q : ℕ) → q < D.places → (s : List ℕ) → Valid (sizes w) s → Dec (q ≡ p) → get_or (set (D.said w) p g) q zero_fun s ≡ get_or (set (D.said w) p h) q zero_fun s
      go q l s v (yes z) =
          let k : p < length (D.said w) = omega (arith, l, z, F.length_said w) in
          ap (λ (i : ℕ). get_or (set (D.said w) p g) i zero_fun s) z ∙ ap (λ (f : Fun K). f s) (get_or-set_same (D.said w) p g zero_fun k) ∙ e s v
          ∙ sym (ap (λ (i : ℕ). get_or (set (D.said w) p h) i zero_fun s) z ∙ ap (λ (f : Fun K). f s) (get_or-set_same (D.said w) p h zero_fun k))
      go q l s v (no n) = ap (λ (f : Fun K). f s) (get_or-set_other (D.said w) p q g zero_fun n ∙ sym (get_or-set_other (D.said w) p q h zero_fun n))

  -- a table that a call wrote is made to hold the functions with one replaced, whichever way that one is said
  pub written : {w w' : List ℕ} {p : ℕ} {g h : Fun K} → Agree (sizes w) g h → Becomes D p (g ∷ []) w w' → Made T (put p h (state_of T w)) w w'
  written {p = p} {g = g} {h = h} e b =
      let f = F.says b.proper b.pictures in
      made_like p g h e (record { long = b.long; sound = F.sound b.proper b.pictures; room = f.0; list = f.1; gives = f.2; past = b.past })

  -- a fresh table
  pub laid_out : {S : List ℕ} {cap : ℕ} {w w' : List ℕ} {o : Outcome} → Opens D S cap w w' o → o ≡ Taken → Made T (fresh T S cap) w w'
  laid_out a t =
      let f = F.says (a.proper t) (a.pictures t) in
      record { long = a.long; sound = F.sound (a.proper t) (a.pictures t); room = f.0; list = f.1; gives = f.2; past = a.past t }

  -- a call that built: NO ROOM by the rests as they are counted
  pub room_ends : (w : List ℕ) (g : Fun K) (o : Outcome) → Ends (NoRoom when (Exceeds D w (g ∷ [])) else taken) o → Ends (room_cases g (state_of T w)) o
  room_ends w g o e = like_ends o (more NoRoom outnumbered outnumber (λ n. alike)) e

  -- the function of a place, said of the functions and of the words
  pub placed : (w : List ℕ) (p : ℕ) → p < D.places → Agree (sizes w) (own w p) (on (state_of T w) p)
  placed w p h s v = ap (λ (g : Fun K). g s) (sym (F.at_said w p h))

  -- A CALL THAT WROTE: the layers below say what became of the words, and the refusals end it as o
  pub wrote : {d : Deed (table T)} {m : Cases} {w w' : List ℕ} {r : d.Result} {p : ℕ} {h : Fun K} {o : Outcome} → d.ending r ≡ o → d.writes (state_of T w) ≡ puts p h → Writes D m p (h ∷ []) w w' o →
      Ends (refusals d w) o → (o ≡ Taken → d.Gives (state_of T w) r) → ((x : Refusal) → o ≡ Refused x → r ≡ d.refusal x) → Meets d w w' r
  wrote {d} {w = w} {w' = w'} e f x t g k =
      record {
        ends = subst (Ends (refusals d w)) (sym e) t;
        leaves = λ q. subst (λ (y : Effect K). Leaves T y w w') (sym f) (written (λ s v. refl) (x.becomes (sym e ∙ q)));
        gives = λ q. g (sym e ∙ q);
        kept = λ y q. x.refused y (sym e ∙ q);
        refused = λ y q. k y (sym e ∙ q);
      }

  -- ---- the calls that every kind has, where they are not refused at the door
  -- OPEN: refused, or a fresh table
  pub not_opened : {S : List ℕ} {cap : ℕ} (w : List ℕ) → (Openable S cap (length w) → ⊥) → Meets (open_table T S cap (length w)) w w (Refused BadOpening)
  not_opened w n = refuses refl refl (pass (λ m. m tt) (stop n))

  pub fresh_opened : {S : List ℕ} {cap : ℕ} {w w' : List ℕ} → Openable S cap (length w) → Opens D S cap w w' Taken → Meets (open_table T S cap (length w)) w w' Taken
  fresh_opened o a = takes refl (pass (λ m. m tt) (pass (λ m. m o) refl)) (laid_out a refl) tt

  pub opens : {k b : ℕ} {S : List ℕ} {cap : ℕ} {w w' : List ℕ} → (Openable S cap (length w) → Named k b S cap w w' → Opens D S cap w w' Taken) → (o : Outcome)
      → Opened k b S cap w w' o → Meets (open_table T S cap (length w)) w w' o
  opens f (Ok u) n = fresh_opened n.0 (f n.0 n.1)
  opens {S = S} {cap = cap} {w = w} {w' = w'} f (Err x) n =
      subst (λ (y : Refusal). Meets (open_table T S cap (length w)) w w' (Refused y)) (sym n.0)
      (subst (λ (v : List ℕ). Meets (open_table T S cap (length w)) w v (Refused BadOpening)) (sym n.2) (not_opened w n.1))

  -- LOOK UP: what was found is what the place's own function gives, and so many features it asks
  pub looks : {w s : List ℕ} {p : ℕ} {o : Outcome} {r : looked.Result} → Enters Sound D.places (p ∷ []) w o → o ≡ Taken → Valid (sizes w) s
      → looked.ending r ≡ Taken → (looked.value r).0 ≡ own w p s → (looked.value r).1 ≡ asked (sizes w) (own w p) s → Meets (look_up T p s) w w r
  looks {w} {s} {p} {r = r} e t v k g a =
      let q : own w p ≡ on (state_of T w) p = sym (F.at_said w p ((e.there t).each 0 (omega arith))) in
      takes k (let_in e t (pass (λ m. m v) refl)) refl (
        g ∙ ap (λ (f : Fun K). f s) q,
        subst (λ (f : Fun K). Asked (sizes w) f s (looked.value r).1) q (subst (Asked (sizes w) (own w p) s) (sym a) (asked_counts (sizes w) (own w p) s)),
      )

  -- TALLY: the number of distinct rests
  pub tallies : {w : List ℕ} {n : ℕ} → Sound w → n ≡ tally (sizes w) (D.said w) → Meets (tally_all T) w w (Ok n)
  tallies {w} s e = takes refl (pass (λ m. m s) refl) refl (subst (Counts (sizes w) (D.said w)) (sym e) (tally_counts (sizes w) (D.said w)))
