-- `rule_operations::call_case::case` meets its contract: the branches and the selector are tested past the door, and the root words in a row are the operands. Assumes nothing.
use Rattle.std.proofs.Common.{◌≡◌, ◌+◌, length, refl, arith, rules}
use mathlib.Core.Path.{◌∙◌}
use Rattle.rule_engine.proofs.Recalling.{operands_taken, joint_taken}
use Rattle.std.proofs.lemmas.Result.{err_from_is_err_and}
use mathlib.Core.Logic.{⊎_elim}
use Rattle.settings.proofs.Answers.{sure, sure_not}
use Rattle.settings.proofs.Endings.{stop, pass}
use Rattle.promises.specs.State.{Places}
use Rattle.table_calls.proofs.Meeting.{turned_away, let_in, refuses}
use Rattle.rule_operations.proofs.Doors.{turned_back, nowhere, inside}
use Rattle.rule_operations.proofs.Operands.{case_operands, case_agrees, reaches_on}
use Rattle.rule_operations.proofs.Putting.{built_meets}
use Rattle.rule_operations.proofs.call_case.case.Goals as goal
use Rattle.rule_operations.proofs.call_case.case.Goals.{then-m-lt1-via-then-m-lt1, then-m-lt1-via-else-m-lt1+then-m-gt8}

pub returns-in_err-door : goal.returns-in_err-door
returns-in_err-door c =
    let p = err_from_is_err_and c.from_residual.result c.from_residual.ensures.1 in
    rw (p.1, p.2) (refuses refl refl (turned_away (turned_back c.door.ensures c.in_err-door.was) refl))

pub returns-then-not-all : goal.returns-then-not-all
returns-then-not-all c =
    let n : Places 32 c.args.branches.now → ⊥ = search rules in
    refuses refl refl (turned_away (nowhere c.door.ensures c.in_ok-door.was n) refl)

pub returns-then-m-lt1 : goal.returns-then-m-lt1
returns-then-m-lt1 c =
    let p : Places 32 c.args.branches.now = search rules in
    refuses refl refl (let_in (inside c.door.ensures c.in_ok-door.was p) refl (stop (search rules)))

pub returns-then-reaches : goal.returns-then-reaches
returns-then-reaches c =
    let a = c.args in
    let e = c.door.ensures in
    let t = c.in_ok-door.was in
    let p : Places 32 a.branches.now = search rules in
    refuses refl refl (let_in (inside e t p) refl
    (pass (⊎_elim (λ h. omega arith) (λ h. omega arith))
    (stop (sure c.if-reaches.true (reaches_on a.t.now a.selector _ c.reaches.result ((e.there t).each 1 (omega arith)) c.reaches.ensures)))))

pub put_joint-requires : goal.put_joint-requires
put_joint-requires c =
    let a = c.args in
    let e = c.door.ensures in
    let t = c.in_ok-door.was in
    let p : Places 32 a.branches.now = search rules in
    let n : length c.lined-ops.result ≡ 9 = search rules in (
      e.sound t,
      (e.there t).each 0 (omega arith),
      operands_taken a.t.now 16 (length a.branches.now + 1) 0 c.lined-ops.result (omega arith)
          (case_operands (e.sound t) a.selector a.branches.now _ c.lined-ops.ensures ((e.there t).each 1 (omega arith)) p (omega arith) (omega arith)),
    )

pub returns : goal.returns
returns c =
    let a = c.args in
    let e = c.door.ensures in
    let t = c.in_ok-door.was in
    let p : Places 32 a.branches.now = search rules in
    let n : length c.lined-ops.result ≡ 9 = search rules in
    let hq = (e.there t).each 1 (omega arith) in
    built_meets refl refl c.put_joint.ensures
    (λ s v. joint_taken a.t.now 6 16 (length a.branches.now + 1) 0 c.lined-ops.result (omega arith) s
    ∙ case_agrees (e.sound t) a.selector a.branches.now c.lined-ops.result c.lined-ops.ensures hq p s v)
    (λ z. let_in (inside e t p) refl
    (pass (⊎_elim (λ h. omega arith) (λ h. omega arith))
    (pass (sure_not c.if-reaches.false (reaches_on a.t.now a.selector _ c.reaches.result hq c.reaches.ensures)) z)))
    (λ k. tt) (λ y k. k)
