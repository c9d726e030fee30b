-- The laws of a loan: what every theorem on calls needs of the words that they are lent, and that two loans together have them. Assumes nothing.
use mathlib.Core.Path.{◌≡◌}
use Rattle.promises.specs.Loan.{Loan, ◌and◌}
use Rattle.demands.specs.Ground.{Ground, Holds, together}
use Rattle.demands.proofs.Firm.{Stable}
use Rattle.demands.proofs.Effects.{Effects, on_none, on_two}

module _ {L : Loan} {G : Ground L} (E : Effects G) where
  pub record Frame : Type 1 where
    -- who asks for all asks for each
    pub same_whole : (n : L.Need) (z : L.Plain) (x y : L.Effect) → E.Same n z x y → E.Same L.whole z x y
    pub asked : (n : L.Need) (w : L.Words) → L.Sound L.whole w → L.Sound n w
    pub agreed : (n : L.Need) (z y : L.Plain) → G.Agrees L.whole z y → G.Agrees n z y
    -- nothing asked for, everything kept
    pub sound_nothing : (w : L.Words) → L.Sound L.nothing w
    pub same_keeps : (z : L.Plain) → E.Same L.nothing z L.keeps L.keeps
    pub leaves_keeps : (w w' : L.Words) → w' ≡ w → L.Leaves L.keeps w w'
    -- agreeing
    pub agrees_sym : (n : L.Need) (z y : L.Plain) → G.Agrees n z y → G.Agrees n y z
    pub agrees_stable : (n : L.Need) (z y : L.Plain) → Stable (G.Agrees n z y)
    -- what a taken call left: it holds the functions with the effect, and that is one thing
    pub changed : (w w' : L.Words) (z : L.Plain) (x y : L.Effect) → Holds G w z → E.Same L.whole (L.says w) x y → L.Leaves x w w' → Holds G w' (G.left y z)
    pub leaves_one : (w a b : L.Words) (x : L.Effect) → L.Leaves x w a → L.Leaves x w b → a ≡ b
    -- words that are the same up to the bounds
    pub alike_sym : (w u : L.Words) → G.Alike w u → G.Alike u w
    pub alike_held : (w u : L.Words) (z : L.Plain) → Holds G w z → Holds G u z → G.Alike w u
    pub sound_past : (n : L.Need) (w u : L.Words) → G.Alike w u → L.Sound n w → L.Sound n u
    pub says_past : (n : L.Need) (w u : L.Words) → G.Alike w u → L.Sound n w → G.Agrees n (L.says w) (L.says u)
    pub leaves_past : (n : L.Need) (w u w' u' : L.Words) (x y : L.Effect) → G.Alike w u → G.Agrees n (L.says w) (L.says u) → E.Same n (L.says w) x y →
        L.Leaves x w w' → L.Leaves y u u' → G.Alike w' u'

pub no_table_frame : Frame on_none
no_table_frame =
    record {
      same_whole = λ n z x y s. tt;
      asked = λ n w s. tt;
      agreed = λ n z y a. tt;
      sound_nothing = λ w. tt;
      same_keeps = λ z. tt;
      leaves_keeps = λ w w' e. tt;
      agrees_sym = λ n z y a. tt;
      agrees_stable = λ n z y k. tt;
      changed = λ w w' z x y h s c. record { sound = tt; agrees = tt };
      leaves_one = λ w a b x c d i. tt;
      alike_sym = λ w u a. tt;
      alike_held = λ w u z h k. tt;
      sound_past = λ n w u a s. tt;
      says_past = λ n w u a s. tt;
      leaves_past = λ n w u w' u' x y a b s c d. tt;
    }

-- two loans that hold functions hold those of each
module _ {A B : Loan} (G : Ground A) (H : Ground B) where
  pub first : {w : (A and B).Words} {z : (A and B).Plain} → Holds (together G H) w z → Holds G w.0 z.0
  first h = record { sound = h.sound.0; agrees = h.agrees.0 }

  pub second : {w : (A and B).Words} {z : (A and B).Plain} → Holds (together G H) w z → Holds H w.1 z.1
  second h = record { sound = h.sound.1; agrees = h.agrees.1 }

module _ {A B : Loan} {M : Ground A} {N : Ground B} {D : Effects M} {E : Effects N} (F : Frame D) (G : Frame E) where
  pub and_frame : Frame (on_two D E)
  and_frame =
      record {
        same_whole = λ n z x y s. (F.same_whole n.0 z.0 x.0 y.0 s.0, G.same_whole n.1 z.1 x.1 y.1 s.1);
        asked = λ n w s. (F.asked n.0 w.0 s.0, G.asked n.1 w.1 s.1);
        agreed = λ n z y a. (F.agreed n.0 z.0 y.0 a.0, G.agreed n.1 z.1 y.1 a.1);
        sound_nothing = λ w. (F.sound_nothing w.0, G.sound_nothing w.1);
        same_keeps = λ z. (F.same_keeps z.0, G.same_keeps z.1);
        leaves_keeps = λ w w' e. (F.leaves_keeps w.0 w'.0 (λ i. (e i).0), G.leaves_keeps w.1 w'.1 (λ i. (e i).1));
        agrees_sym = λ n z y a. (F.agrees_sym n.0 z.0 y.0 a.0, G.agrees_sym n.1 z.1 y.1 a.1);
        agrees_stable = λ n z y k. (F.agrees_stable n.0 z.0 y.0 (λ m. k (λ a. m a.0)), G.agrees_stable n.1 z.1 y.1 (λ m. k (λ a. m a.1)));
        changed = λ w w' z x y h s c.
            let p = F.changed w.0 w'.0 z.0 x.0 y.0 (first M N h) s.0 c.0 in
            let q = G.changed w.1 w'.1 z.1 x.1 y.1 (second M N h) s.1 c.1 in
            record { sound = (p.sound, q.sound); agrees = (p.agrees, q.agrees) };
        leaves_one = λ w a b x c d.
            let p = F.leaves_one w.0 a.0 b.0 x.0 c.0 d.0 in
            let q = G.leaves_one w.1 a.1 b.1 x.1 c.1 d.1 in
            λ i. (p i, q i);
        alike_sym = λ w u a. (F.alike_sym w.0 u.0 a.0, G.alike_sym w.1 u.1 a.1);
        alike_held = λ w u z h k. (F.alike_held w.0 u.0 z.0 (first M N h) (first M N k), G.alike_held w.1 u.1 z.1 (second M N h) (second M N k));
        sound_past = λ n w u a s. (F.sound_past n.0 w.0 u.0 a.0 s.0, G.sound_past n.1 w.1 u.1 a.1 s.1);
        says_past = λ n w u a s. (F.says_past n.0 w.0 u.0 a.0 s.0, G.says_past n.1 w.1 u.1 a.1 s.1);
        leaves_past = λ n w u w' u' x y a b s c d. (
          F.leaves_past n.0 w.0 u.0 w'.0 u'.0 x.0 y.0 a.0 b.0 s.0 c.0 d.0,
          G.leaves_past n.1 w.1 u.1 w'.1 u'.1 x.1 y.1 a.1 b.1 s.1 c.1 d.1,
        );
      }
