-- What a call does to plain functions, its deed; and THE PROMISE of every call: on words it does its deed. Assumes nothing.
use Rattle.std.specs.Prelude.{◌≡◌, refl, Ok, Err}
use Rattle.std.specs.Prelude as P
use Rattle.settings.specs.Refusals.{Cases, Outcome, Taken, Refused, ending_of, Ends, ◌when◌else◌}
use Rattle.settings.specs.declared.refusals.Refusal.{Refusal}
use Rattle.settings.specs.declared.refusals.Refusal.TheVariants.{Damaged}
use Rattle.promises.specs.Loan.{Loan}

-- a type of results: how the call ended and a value, and nothing else
pub record Answer (A : Type 0) : Type 1 where
  pub Result : Type 0
  pub ending : Result → Outcome
  pub value : Result → A
  pub made : Outcome → A → Result
  pub nothing_else : (r : Result) → r ≡ made (ending r) (value r)

-- a `Result`: taken it carries v, which says the value `read v`; refused it carries the refusal alone, and x stands for the value
module _ {A V : Type 0} (read : V → A) (write : A → V) (x : A) where
  abbrev pub read_from : P.Result V Refusal → A
  read_from (Ok v) = read v
  read_from (Err y) = x

  abbrev pub written_as : Outcome → A → P.Result V Refusal
  written_as (Ok u) a = Ok (write a)
  written_as (Err y) a = Err y

  abbrev pub nothing_more : ((v : V) → v ≡ write (read v)) → (r : P.Result V Refusal) → r ≡ written_as (ending_of r) (read_from r)
  nothing_more e (Ok v) = λ i. Ok (e v i)
  nothing_more e (Err y) = refl

  abbrev pub carried : ((v : V) → v ≡ write (read v)) → Answer A
  carried e = record { Result = P.Result V Refusal; ending = ending_of; value = read_from; made = written_as; nothing_else = nothing_more e }

-- the value itself
abbrev pub carries : {A : Type 0} → A → Answer A
carries x = carried (λ v. v) (λ a. a) x (λ v. refl)

abbrev pub ending_alone : Answer (Unit {0})
ending_alone = record { Result = Outcome; ending = λ o. o; value = λ o. tt; made = λ o a. o; nothing_else = λ o. refl }

-- an answer, and beside it lent words afterwards
abbrev pub beside : {A B : Type 0} → Answer A → Answer (A × B)
beside {B = B} R =
    record {
      Result = R.Result × B;
      ending = λ r. R.ending r.0;
      value = λ r. (R.value r.0, r.1);
      made = λ o a. (R.made o a.0, a.1);
      nothing_else = λ r i. (R.nothing_else r.0 i, r.1);
    }

module _ (L : Loan) where
  -- a call with its arguments
  pub record Deed : Type 1 where
    -- what it returns, and how that says that it ended
    pub Result : Type 0
    pub ending : Result → Outcome
    -- what it asks of the words, DAMAGED where it is not so; its refusals after that
    pub needs : L.Need
    pub cases : L.Plain → Cases
    -- taken: what it leaves, and what it answers
    pub writes : L.Plain → L.Effect
    pub Gives : L.Plain → Result → Type 0
    -- refused: what it returns
    pub refusal : Refusal → Result

module _ {L : Loan} where
  -- the whole table of refusals
  abbrev pub refusals : Deed L → L.Words → Cases
  refusals d w = Damaged when (L.Sound d.needs w → ⊥) else d.cases (L.says w)

  -- THE PROMISE: the call, lent w, returns r and leaves w'
  pub record Meets (d : Deed L) (w w' : L.Words) (r : d.Result) : Type 0 where
    pub ends : Ends (refusals d w) (d.ending r)
    pub leaves : d.ending r ≡ Taken → L.Leaves (d.writes (L.says w)) w w'
    pub gives : d.ending r ≡ Taken → d.Gives (L.says w) r
    pub kept : (x : Refusal) → d.ending r ≡ Refused x → w' ≡ w
    pub refused : (x : Refusal) → d.ending r ≡ Refused x → r ≡ d.refusal x

  -- ---- the shapes of deeds: a call that asks for every table that it is lent
  -- taken it leaves e and answers a value of which G holds, refused it answers x
  abbrev pub answers : {A : Type 0} (R : Answer A) → A → (L.Plain → Cases) → (L.Plain → L.Effect) → (L.Plain → A → Type 0) → Deed L
  answers R x l e G =
      record {
        Result = R.Result;
        ending = R.ending;
        needs = L.whole;
        cases = l;
        writes = e;
        Gives = λ z r. G z (R.value r);
        refusal = λ y. R.made (Refused y) x;
      }

  -- it leaves the tables as they are
  abbrev pub reads : {A : Type 0} (R : Answer A) → A → (L.Plain → Cases) → (L.Plain → A → Type 0) → Deed L
  reads R x l G = answers R x l (λ z. L.keeps) G

  -- it answers nothing but how it ended
  abbrev pub plain : (L.Plain → Cases) → (L.Plain → L.Effect) → Deed L
  plain l e = answers ending_alone tt l e (λ z a. Unit {0})
