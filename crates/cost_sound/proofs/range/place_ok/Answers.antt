-- `cost_sound::range::place_ok` meets its contract: the lowest and the highest amount of a place are its base with what its root keeps. Assumes nothing.
use Rattle.std.proofs.Common.{arith, ◌+◌}
use Rattle.settings.proofs.Answers.{tells_leb}
use Rattle.cost_sound.proofs.Ranging.{place_inside, place_low, place_high}
use Rattle.cost_sound.proofs.range.place_ok.Goals as goal

pub returns-then-base-from-ge3294967296 : goal.returns-then-base-from-ge3294967296
returns-then-base-from-ge3294967296 c =
    let q = c.requires in
    tells_leb _ _
    (λ g. place_inside q.0 q.1 c.args.p _ _ _ _ q.2 c.root_word.ensures c.base_word.ensures c.kept_span-below.ensures (omega arith) (omega arith))
    (λ f. let h = place_high q.0 q.1 c.args.p _ _ _ _ q.2 c.root_word.ensures c.base_word.ensures c.kept_span-below.ensures f in omega arith)

pub returns-else-base-from-ge3294967296 : goal.returns-else-base-from-ge3294967296
returns-else-base-from-ge3294967296 c =
    let q = c.requires in
    tells_leb 3294967296 (c.from-base.result + c.from.result)
    (λ g. absurd (omega arith))
    (λ f. let h = place_low q.0 q.1 c.args.p _ _ _ _ q.2 c.root_word.ensures c.base_word.ensures c.kept_span-below.ensures f in omega arith)
