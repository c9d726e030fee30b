-- A call done on plain functions; and a call on one of two loans. Assumes nothing.
use Rattle.std.specs.Prelude.{◌≡◌, Ok, Err}
use Rattle.settings.specs.Refusals.{Ends}
use Rattle.settings.specs.declared.refusals.Refusal.{Refusal}
use Rattle.settings.specs.Refusals.{Outcome}
use Rattle.settings.specs.Refusals.{Taken, Refused}
use Rattle.promises.specs.Loan.{Loan, ◌and◌}
use Rattle.promises.specs.Deed.{Deed}
use Rattle.demands.specs.Ground.{Ground}

module _ {L : Loan} where
  -- the call, done on the functions z, returns r
  pub record Does (d : Deed L) (z : L.Plain) (r : d.Result) : Type 0 where
    pub ends : Ends (d.cases z) (d.ending r)
    pub gives : d.ending r ≡ Taken → d.Gives z r
    pub refused : (x : Refusal) → d.ending r ≡ Refused x → r ≡ d.refusal x

  module _ (G : Ground L) where
    -- a call that ended as o leaves the functions with its effect; refused, as they were
    abbrev pub left_by : Outcome → L.Effect → L.Plain → L.Plain
    left_by (Ok u) e z = G.left e z
    left_by (Err x) e z = z

    abbrev pub afterwards : (d : Deed L) → L.Plain → d.Result → L.Plain
    afterwards d z r = left_by (d.ending r) (d.writes z) z

-- a call on the first of two loans, or on the second, asks nothing of the other and keeps it
abbrev pub on_first : {A : Loan} (B : Loan) → Deed A → Deed (A and B)
on_first {A} B d =
    record {
      Result = d.Result;
      ending = d.ending;
      needs = (d.needs, B.nothing);
      cases = λ z. d.cases z.0;
      writes = λ z. (d.writes z.0, B.keeps);
      Gives = λ z. d.Gives z.0;
      refusal = d.refusal;
    }

abbrev pub on_second : {B : Loan} (A : Loan) → Deed B → Deed (A and B)
on_second {B} A d =
    record {
      Result = d.Result;
      ending = d.ending;
      needs = (A.nothing, d.needs);
      cases = λ z. d.cases z.1;
      writes = λ z. (A.keeps, d.writes z.1);
      Gives = λ z. d.Gives z.1;
      refusal = d.refusal;
    }
