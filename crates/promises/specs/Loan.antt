-- WHAT A CALL IS LENT: words, the plain functions that they say, and what it may do to both. Assumes nothing.

pub record Loan : Type 1 where
  -- the lent words, and the functions that they say
  pub Words : Type 0
  pub Plain : Type 0
  pub says : Words → Plain
  -- what a call may ask of the words, DAMAGED where it is not so: nothing, or that every table is sound
  pub Need : Type 0
  pub nothing : Need
  pub whole : Need
  pub Sound : Need → Words → Type 0
  -- what a taken call leaves: everything, or what its effect says
  pub Effect : Type 0
  pub keeps : Effect
  pub Leaves : Effect → Words → Words → Type 0

-- a call on bytes alone is lent no table
abbrev pub no_table : Loan
no_table =
    record {
      Words = Unit {0};
      Plain = Unit {0};
      says = λ w. tt;
      Need = Unit {0};
      nothing = tt;
      whole = tt;
      Sound = λ n w. Unit {0};
      Effect = Unit {0};
      keeps = tt;
      Leaves = λ e w w'. Unit {0};
    }

-- two loans together
infixr 5 ◌and◌
abbrev pub ◌and◌ : Loan → Loan → Loan
A and B =
    record {
      Words = A.Words × B.Words;
      Plain = A.Plain × B.Plain;
      says = λ w. (A.says w.0, B.says w.1);
      Need = A.Need × B.Need;
      nothing = (A.nothing, B.nothing);
      whole = (A.whole, B.whole);
      Sound = λ n w. A.Sound n.0 w.0 × B.Sound n.1 w.1;
      Effect = A.Effect × B.Effect;
      keeps = (A.keeps, B.keeps);
      Leaves = λ e w w'. A.Leaves e.0 w.0 w'.0 × B.Leaves e.1 w.1 w'.1;
    }
