-- `rule_restrict::restrict_walk` meets its contract: the first v branches of the node's result are there (Filling), what is noted is right (Noted), and a branch tests a higher
-- feature, so the measure falls. Assumes nothing.
use Rattle.std.proofs.Common.{length, ◌-◌, ◌≡◌}
use Rattle.rule_restrict.specs.Restrict.{restr, Noted}
use Rattle.table_notes.specs.Plain.{plain}
use Rattle.rule_nodes.specs.Nodes.{Filling, top}
use Rattle.promises.specs.Words.{features}
use Rattle.rule_restrict.proofs.+restrict_walk.Given as goal

abbrev pub decreases-restrict_walk : goal.decreases-restrict_walk
decreases-restrict_walk l = features l.t.now - top l.t.now l.b

abbrev pub invariant-loop-v : goal.invariant-loop-v
invariant-loop-v l =
    (length l.t ≡ length l.initial.t) × Filling (plain l.initial.t) (plain l.t) l.k (restr (plain l.initial.t) l.k l.b l.f l.x) l.v l.list × Noted l.t l.f l.x
