-- Contract between layers: what the soundness test of a cost table has tested before it follows the roots. Assumes nothing.
use Rattle.std.specs.Prelude.{List, ℕ}
use Rattle.promises.specs.Sound.{Header, Chained}
use Rattle.promises.specs.CostSound.{CostNodesOk as Nodes}

pub record Ordered (w : List ℕ) : Type 0 where
  pub header : Header 2 w
  pub nodes_ok : Nodes w
  pub chained : Chained w
