-- `settings::turn` meets its contract. The invariant: the values from place i on have no next setting, and are turned to 0. Assumes nothing.
use Rattle.std.proofs.Common.{take, drop, length, get_or, set, arith, ℕ, suc, ◌+◌, ◌-◌, ◌≤◌, ◌<◌, List, ◌≡◌}
use Rattle.std.specs.Prelude.{Some}
use Rattle.std.proofs.Math.Option.{none}
use Rattle.settings.proofs.Turning.{turned, start, at, back_to, full, moves, nothing, stays}
use Rattle.settings.specs.Odometer.{Turns}
use Rattle.settings.specs.Step.{next_of}
use borrow.Author.Rules.{rules}
use lib.ListN.{length-set}
use mathlib.Core.Path.{◌∙◌}
use Rattle.settings.proofs.steps.turn.Goals as goal

-- the loop's invariant: the values from place i on have no next setting, and are turned to 0
abbrev Turning : List ℕ → List ℕ → List ℕ → ℕ → Type 0
Turning S vs v i =
    (length vs ≡ 16) × (length v ≡ 16) × (v ≡ turned (length S) vs i) × (next_of (drop i S) (drop i (take (length S) vs)) ≡ none)

-- the loop's facts, at place i - 1
module _ (S vs v : List ℕ) (i : ℕ) (few : length S ≤ 16) (pos : 0 < i) (top : i ≤ length S) (inv : Turning S vs v i) where
  step : suc (i - 1) ≡ i
  step = omega arith

  state : v ≡ turned (length S) vs (suc (i - 1))
  state = rw step inv.2

  none_after : next_of (drop (suc (i - 1)) S) (drop (suc (i - 1)) (take (length S) vs)) ≡ none
  none_after = rw step inv.3

  seen : get_or v (i - 1) 0 ≡ get_or vs (i - 1) 0
  seen = at S vs (i - 1) (omega arith) (omega arith) v state

  grows : get_or v (i - 1) 0 + 1 < get_or S (i - 1) 0 → Turns S vs (Some (set v (i - 1) (get_or v (i - 1) 0 + 1)))
  grows h = rw seen (moves S vs (i - 1) (omega arith) (omega arith) v state none_after (omega (arith, seen)))

  falls : get_or S (i - 1) 0 ≤ get_or v (i - 1) 0 + 1 → Turning S vs (set v (i - 1) 0) (i - 1)
  falls h = (
    inv.0,
    length-set v (i - 1) 0 ∙ inv.1,
    back_to S vs (i - 1) (omega arith) (omega arith) v state,
    full S vs (i - 1) (omega arith) (omega arith) none_after (omega (arith, seen)),
  )

pub loop-i-init : goal.loop-i-init
loop-i-init c =
    let lv : length c.args.from ≡ 16 = search rules in
    (lv, lv, start (length c.args.features.now) c.args.from, nothing c.args.features.now c.args.from)

pub returns-then-from : goal.returns-then-from
returns-then-from c =
    grows c.args.features.now c.args.from c.loop-i.values c.loop-i.i (omega arith)
    (omega arith) (omega arith) c.loop-i.invariant (omega arith)

pub loop-i-preserved : goal.loop-i-preserved
loop-i-preserved c =
    falls c.args.features.now c.args.from c.loop-i.values c.loop-i.i (omega arith)
    (omega arith) (omega arith) c.loop-i.invariant (omega arith)

pub returns : goal.returns
returns c = stays c.args.features.now c.args.from c.loop-i.i (omega arith) c.loop-i.invariant.3
