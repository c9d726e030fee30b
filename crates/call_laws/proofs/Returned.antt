-- A CALL FOR C that returned the number of an ending meets its promise with that ending: 0, it was taken. Assumes nothing.
use mathlib.Core.Path.{sym, subst}
use mathlib.Core.List.{[]}
use Rattle.settings.specs.Refusals.{outcome_number}
use Rattle.settings.specs.Refusals.{Outcome}
use Rattle.settings.proofs.Endings.{one_number}
use Rattle.promises.specs.ForC.{heard, Hears, tell_ending}

pub returned : {P : Outcome → Type 0} (o : Outcome) → Hears P (tell_ending []) (heard (outcome_number o) [] []) → P o
returned {P} o r = subst P (sym (one_number {o = o} {u = r.answer} r.number)) r.keeps
