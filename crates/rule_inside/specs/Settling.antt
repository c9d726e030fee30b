-- Contract between layers: what the words mean in which `rule_lending` says how a built rule is put into its place; the laws `..-in` and `..-out` are for its own proofs alone. Assumes nothing.
use Rattle.std.specs.Prelude.{◌≡◌, Option, List, ℕ}
use Rattle.settings.specs.Refusals.{Outcome}
use Rattle.rule_settling.specs.Settling as S
use Rattle.promises.specs.Words.{count}

-- n is the mark of the table w: what is built after it can be taken back
pub record Marked (w : List ℕ) (n : ℕ) : Type 0 where
  mark : n ≡ count w

pub marked_in : {w : List ℕ} {n : ℕ} → n ≡ count w → Marked w n
marked_in e = record { mark = e }

pub marked_out : {w : List ℕ} {n : ℕ} → Marked w n → n ≡ count w
marked_out m = m.mark

-- the answer of a call that built into w after the mark n may be settled into place p
pub record Asking (p n : ℕ) (w : List ℕ) (a : Option ℕ) : Type 0 where
  asks : S.Asks p n w a

pub asking_in : {p n : ℕ} {w : List ℕ} {a : Option ℕ} → S.Asks p n w a → Asking p n w a
asking_in s = record { asks = s }

pub asking_out : {p n : ℕ} {w : List ℕ} {a : Option ℕ} → Asking p n w a → S.Asks p n w a
asking_out s = s.asks

-- it is settled: the branch's rule stands in place p, or what was built is taken back
pub record Ending (p n : ℕ) (w w' : List ℕ) (a : Option ℕ) (o : Outcome) : Type 0 where
  settled : S.Settled p n w w' a o

pub ending_in : {p n : ℕ} {w w' : List ℕ} {a : Option ℕ} {o : Outcome} → S.Settled p n w w' a o → Ending p n w w' a o
ending_in s = record { settled = s }

pub ending_out : {p n : ℕ} {w w' : List ℕ} {a : Option ℕ} {o : Outcome} → Ending p n w w' a o → S.Settled p n w w' a o
ending_out s = s.settled
