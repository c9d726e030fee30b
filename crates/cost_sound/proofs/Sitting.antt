-- The nodes of tested words are nodes of a cost table. Assumes nothing.
use mathlib.Core.Path.{ap, ◌∙◌}
use mathlib.Core.List.{List}
use Prim.Native.Nat.{ℕ, ◌<◌}
use Rattle.theory.specs.Costs.{costs}
use Rattle.theory.specs.Diagrams.{Branch}
use Rattle.theory_costs.proofs.Words.{int_one}
use Rattle.cost_words.specs.Table.{cost_table}
use Rattle.cost_words.proofs.Packing.{target_one, int_zero}
use Rattle.table_checks.proofs.Sitting.{NodeFits}
use Rattle.cost_sound.specs.Walk.{Ordered}
use Rattle.promises.specs.Integers.{int}
use Rattle.promises.specs.Words.{count, body}
use Rattle.promises.specs.CostWords.{goes, added}
use Rattle.promises.specs.CostSound.{CostNodeOk as NodeOk}

module _ {w : List ℕ} (o : Ordered w) where
  pub node_fits : (i : ℕ) → i < count w → NodeFits cost_table w i
  node_fits i h =
      let n : NodeOk w i = o.nodes_ok.each i h in
      record {
        known = n.known;
        lower = n.lower.lower;
        differ = λ a. n.differ (record {
          targets = λ v hv. target_one (goes (body w i) v) (goes (body w i) 0) (ap (λ (b : Branch costs). b.to) (a v hv));
          addeds = λ v hv. int_one (added (body w i) v) (added (body w i) 0) (ap (λ (b : Branch costs). b.adds) (a v hv)) ∙ n.adds.level;
        });
        level = ap int n.adds.level ∙ int_zero;
        padded = n.padded;
      }
