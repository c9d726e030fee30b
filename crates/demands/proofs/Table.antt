-- One lent table has the laws of a loan: a sound table is a picture, and a picture is a sound table that says what it pictures. Assumes nothing.
use mathlib.Core.Path.{◌≡◌, sym, subst, ◌∙◌}
use mathlib.Core.Logic.{⊎_elim}
use mathlib.Core.List.{List}
use Prim.Native.Nat.{ℕ, ◌<◌}
use native.Mathlib.Omega.{arith}
use lib.ListN.{length, length-set}
use lib.Seq.{ext_get_or}
use Rattle.theory.specs.Kind.{Kind}
use Rattle.theory.specs.Settings.{Valid}
use Rattle.theory.specs.Functions.{Amount, Fun}
use Rattle.table_words.specs.Table.{Table}
use Rattle.table_words.specs.Picture.{Pictures}
use Rattle.table_words.proofs.Picture.{one_picture, shows_ext}
use Rattle.table_words.proofs.Tab.{split}
use Rattle.promises.specs.Words.{head, capacity, sizes, bound}
use Rattle.promises.specs.State.{State, put}
use Rattle.promises.specs.Deed.{Answer}
use Rattle.promises.specs.Table.{Ask, any_words, sound_table, Effect, keeps, puts, opens, Tabled, state_of, SoundAs, Made, Leaves, table}
use Rattle.table_calls.proofs.Drawn.{Drawn, tabled}
use Rattle.demands.specs.Agrees.{Agrees}
use Rattle.demands.specs.Ground.{Ground, Holds}
use Rattle.demands.specs.TableGround.{Alike, left, AgreesAs, table_ground}
use Rattle.demands.proofs.Firm.{Stable}
use Rattle.demands.proofs.Matching.{matches_below, agrees_refl, agrees_sym, agrees_trans, agrees_put, agrees_stable}
use Rattle.demands.proofs.Effects.{Same, kept, replaced, opened, on_table}
use Rattle.demands.proofs.Frame.{Frame}

same_whole : {K : Kind} {m : ℕ} (n : Ask) (S : List ℕ) (x y : Effect K) → Same m n S x y → Same m sound_table S x y
same_whole n S x y kept = kept
same_whole n S x y (replaced p e) = replaced p e
same_whole n S x y (opened l) = opened l

pub alike_sym : {w u : List ℕ} → Alike w u → Alike u w
unfolding head
alike_sym {w} {u} a =
    let c : capacity u ≡ capacity w = a.words 1 (omega arith) in
    record { long = omega (arith, a.long', c); long' = omega (arith, a.long, c); words = λ j h. sym (a.words j (omega (arith, h, c))) }

module _ {K : Kind} {D : Table K} {own : List ℕ → ℕ → Fun K} {Sound : List ℕ → Type 0} (looked : Answer (Amount K × ℕ)) (F : Drawn D own Sound) where
  abbrev T : Tabled K
  T = tabled D Sound looked

  abbrev said : List ℕ → State K
  said w = state_of T w

  abbrev G : Ground (table T)
  G = table_ground T

  -- a table that was made says what its maker was told, if that is a function for each place
  pub made_says : {w w' : List ℕ} {y : State K} → length y.places ≡ D.places → Made T y w w' → Agrees (said w') y
  made_says {w} {w'} {y} l m =
      record {
        capacities = sym m.room;
        lists = sym m.list;
        functions = matches_below (D.said w') y.places (F.proper w' m.sound).list (F.length_said w' ∙ sym l)
            (λ p h s v. m.gives p (omega (arith, h, F.length_said w')) s (subst (λ (S : List ℕ). Valid S s) m.list v));
      }

  -- so does one with a function replaced
  put_long : (w : List ℕ) (p : ℕ) (g : Fun K) → length (put p g (said w)).places ≡ D.places
  put_long w p g = length-set (D.said w) p g ∙ F.length_said w

  made_holds : {w w' : List ℕ} {y z : State K} → length y.places ≡ D.places → Made T y w w' → Agrees y z → Holds G w' z
  made_holds l m a = record { sound = m.sound; agrees = agrees_trans (made_says l m) a }

  -- a sound table holds what it says
  pub itself : {w : List ℕ} → Sound w → Agrees (said w) (said w)
  itself {w} s = agrees_refl (F.proper w s).list

  -- ONE TABLE: sound tables that hold the same functions have the same words up to the bound
  alike_held : (w u : List ℕ) (z : State K) → Holds G w z → Holds G u z → Alike w u
  alike_held w u z a b =
      let e = agrees_trans a.agrees (agrees_sym b.agrees) in
      let c : capacity u ≡ capacity w = e.capacities in
      record {
        long = (F.pictures w a.sound).long;
        long' = omega (arith, (F.pictures u b.sound).long, c);
        words = λ j h. sym (one_picture (D.said w) (D.said u) (F.pictures w a.sound)
            (subst (λ (S : List ℕ). Pictures D (capacity w) S (D.said u) u) e.lists (subst (λ (k : ℕ). Pictures D k (sizes u) (D.said u) u) e.capacities (F.pictures u b.sound)))
            e.functions.many (λ q l. e.functions.each q) j (omega (arith, h)));
      }

  -- two tables that were made to hold one thing say one thing
  made_agree : {w u a b : List ℕ} {y : State K} → Made T y w a → Made T y u b → Agrees (said a) (said b)
  made_agree {a = a} {b = b} {y = y} m n =
      record {
        capacities = n.room ∙ sym m.room;
        lists = n.list ∙ sym m.list;
        functions = matches_below (D.said a) (D.said b) (F.proper a m.sound).list (F.length_said a ∙ sym (F.length_said b))
            (λ p h s v.
            let l : p < D.places = omega (arith, h, F.length_said a) in
            let x = subst (λ (S : List ℕ). Valid S s) m.list v in
            m.gives p l s x ∙ sym (n.gives p l s x));
      }

  made_one : {w a b : List ℕ} {y : State K} → Made T y w a → Made T y w b → a ≡ b
  made_one {w} {a} {b} {y} m n =
      let s = alike_held a b (said b) (record { sound = m.sound; agrees = made_agree m n }) (record { sound = n.sound; agrees = itself n.sound }) in
      ext_get_or 0 a b (m.long ∙ sym n.long)
      (λ j k. ⊎_elim
      (λ l. sym (s.words j (omega (arith, l, m.room))))
      (λ l. m.past j l ∙ sym (n.past j l))
      (split j (bound y.capacity)))

  leaves_one : (w a b : List ℕ) (x : Effect K) → Leaves T x w a → Leaves T x w b → a ≡ b
  leaves_one w a b keeps c d = c ∙ sym d
  leaves_one w a b (puts p g) c d = made_one c d
  leaves_one w a b (opens y) c d = made_one c d

  changed : (w w' : List ℕ) (z : State K) (x y : Effect K) → Holds G w z → Same D.places sound_table (sizes w) x y → Leaves T x w w' → Holds G w' (left y z)
  changed w w' z x y h kept c = subst (λ (u : List ℕ). Holds G u z) (sym c) h
  changed w w' z x y h (replaced {g = g} p e) c = made_holds (put_long w p g) c (agrees_put p h.agrees e)
  changed w w' z x y h (opened l) c = record { sound = c.sound; agrees = made_says l c }

  -- ---- words past the bound
  module _ {w u : List ℕ} (a : Alike w u) (s : Sound w) where
    drawn : Pictures D (capacity w) (sizes w) (D.said w) u
    drawn = shows_ext (F.proper w s).fits a.long' (λ j h. a.words j (omega (arith, h))) (F.pictures w s)

    sound_alike : Sound u
    sound_alike = F.sound (F.proper w s) drawn

    says_alike : Agrees (said w) (said u)
    says_alike =
        let e = F.says (F.proper w s) drawn in
        record {
          capacities = e.0;
          lists = e.1;
          functions = matches_below (D.said w) (D.said u) (F.proper w s).list (F.length_said w ∙ sym (F.length_said u)) (λ p h t v. sym (e.2 p (omega (arith, h, F.length_said w)) t v));
        }

  sound_past : (n : Ask) (w u : List ℕ) → Alike w u → SoundAs T n w → SoundAs T n u
  sound_past any_words w u a s = tt
  sound_past sound_table w u a s = sound_alike a s

  says_past : (n : Ask) (w u : List ℕ) → Alike w u → SoundAs T n w → AgreesAs n (said w) (said u)
  says_past any_words w u a s = tt
  says_past sound_table w u a s = says_alike a s

  leaves_past : (n : Ask) (w u w' u' : List ℕ) (x y : Effect K) → Alike w u → AgreesAs n (said w) (said u) → Same D.places n (sizes w) x y → Leaves T x w w' → Leaves T y u u' → Alike w' u'
  leaves_past n w u w' u' x y b a kept c d = subst (λ (k : List ℕ). Alike k u') (sym c) (subst (λ (k : List ℕ). Alike w k) (sym d) b)
  leaves_past n w u w' u' x y b a (replaced {g = g} {h = h} p e) c d =
      alike_held w' u' (put p h (said u)) (made_holds (put_long w p g) c (agrees_put p a e)) (record { sound = d.sound; agrees = made_says (put_long u p h) d })
  leaves_past n w u w' u' x y b a (opened {y = z} l) c d = alike_held w' u' z (record { sound = c.sound; agrees = made_says l c }) (record { sound = d.sound; agrees = made_says l d })

  -- ---- what is asked for
  asked : (n : Ask) (w : List ℕ) → Sound w → SoundAs T n w
  asked any_words w s = tt
  asked sound_table w s = s

  agreed : (n : Ask) (z y : State K) → Agrees z y → AgreesAs n z y
  agreed any_words z y a = tt
  agreed sound_table z y a = a

  symmetric : (n : Ask) (z y : State K) → AgreesAs n z y → AgreesAs n y z
  symmetric any_words z y a = tt
  symmetric sound_table z y a = agrees_sym a

  stable : (n : Ask) (z y : State K) → Stable (AgreesAs n z y)
  stable any_words z y k = tt
  stable sound_table z y k = agrees_stable k

  pub table_frame : Frame (on_table T)
  table_frame =
      record {
        same_whole = λ n z. same_whole n z.list;
        asked = asked;
        agreed = agreed;
        sound_nothing = λ w. tt;
        same_keeps = λ z. kept;
        leaves_keeps = λ w w' e. e;
        agrees_sym = symmetric;
        agrees_stable = stable;
        changed = changed;
        leaves_one = leaves_one;
        alike_sym = λ w u. alike_sym;
        alike_held = alike_held;
        sound_past = sound_past;
        says_past = says_past;
        leaves_past = leaves_past;
      }
