-- `sheet_reader::take_branch` meets its contract: the first v branches of the node's result are there (Filling), what is noted is right (Noted), and a branch word lies below that
-- of its node, so the measure falls. Assumes nothing.
use Rattle.std.proofs.Common.{◌≡◌, length}
use Rattle.sheet_reader.specs.Reader.{given, Noted}
use Rattle.rule_nodes.specs.Nodes.{Filling}
use Rattle.sheet_reader.proofs.+take_branch.Given as goal

abbrev pub decreases-take_branch : goal.decreases-take_branch
decreases-take_branch l = l.b

abbrev pub invariant-loop-v : goal.invariant-loop-v
invariant-loop-v l = record {
  long : length l.t ≡ length l.initial.t;
  filling : Filling l.initial.t l.t l.k (given l.sheet.laid.bytes.now l.k l.b) l.v l.list;
  noted : Noted l.t l.sheet.laid.bytes.now l.notes;
}
