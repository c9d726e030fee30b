-- What the demands say of a loan: what an effect does to functions, which functions agree, which words are the same up to the bounds. Assumes nothing.
use Rattle.promises.specs.Loan.{Loan, no_table, ◌and◌}

module _ (L : Loan) where
  pub record Ground : Type 1 where
    -- the functions after an effect
    pub left : L.Effect → L.Plain → L.Plain
    -- functions that agree in what is asked for
    pub Agrees : L.Need → L.Plain → L.Plain → Type 0
    -- words that are the same up to the bounds of their tables
    pub Alike : L.Words → L.Words → Type 0

module _ {L : Loan} (G : Ground L) where
  -- the words are sound tables that hold the functions z
  pub record Holds (w : L.Words) (z : L.Plain) : Type 0 where
    pub sound : L.Sound L.whole w
    pub agrees : G.Agrees L.whole (L.says w) z

-- of no table, and of two loans together
abbrev pub no_ground : Ground no_table
no_ground = record { left = λ e z. tt; Agrees = λ n z y. Unit {0}; Alike = λ w u. Unit {0} }

abbrev pub together : {A B : Loan} → Ground A → Ground B → Ground (A and B)
together G H =
    record {
      left = λ e z. (G.left e.0 z.0, H.left e.1 z.1);
      Agrees = λ n z y. G.Agrees n.0 z.0 y.0 × H.Agrees n.1 z.1 y.1;
      Alike = λ w u. G.Alike w.0 u.0 × H.Alike w.1 u.1;
    }
