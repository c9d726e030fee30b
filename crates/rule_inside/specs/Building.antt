-- Contract between layers: what the words mean in which `rule_lending` says how a rule is built in a rule table; the laws `..-in` and `..-out` are for its own proofs alone. Assumes nothing.
use Rattle.std.specs.Prelude.{Option, List, ℕ, ◌<◌}
use Rattle.theory.specs.Rules.{Rule}
use Rattle.rule_nodes.specs.Nodes as N
use Rattle.promises.specs.Words.{features}

-- w is a rule table that nodes may be added to
pub record Ready (w : List ℕ) : Type 0 where
  holds : N.Holds w

pub ready_in : {w : List ℕ} → N.Holds w → Ready w
ready_in h = record { holds = h }

pub ready_out : {w : List ℕ} → Ready w → N.Holds w
ready_out r = r.holds

-- w' is w with the nodes of the rule g of features k and up, and the answer tells its branch; or there was no room for them
pub record Built (w w' : List ℕ) (k : ℕ) (g : Rule) (a : Option ℕ) : Type 0 where
  result : N.Result w w' k g a

pub built_in : {w w' : List ℕ} {k : ℕ} {g : Rule} {a : Option ℕ} → N.Result w w' k g a → Built w w' k g a
built_in r = record { result = r }

pub built_out : {w w' : List ℕ} {k : ℕ} {g : Rule} {a : Option ℕ} → Built w w' k g a → N.Result w w' k g a
built_out b = b.result

-- t is w with the nodes of the first v branches of g at feature k, and the list says these branches
pub record Filling (w t : List ℕ) (k : ℕ) (g : Rule) (v : ℕ) (l : List ℕ) : Type 0 where
  filling : N.Filling w t k g v l

pub filling_in : {w t : List ℕ} {k : ℕ} {g : Rule} {v : ℕ} {l : List ℕ} → N.Filling w t k g v l → Filling w t k g v l
filling_in f = record { filling = f }

pub filling_out : {w t : List ℕ} {k : ℕ} {g : Rule} {v : ℕ} {l : List ℕ} → Filling w t k g v l → N.Filling w t k g v l
filling_out f = f.filling

-- there was no room for all of them
pub record Stopped (w t : List ℕ) (k : ℕ) (g : Rule) : Type 0 where
  stopped : N.Stopped w t k g

pub stopped_in : {w t : List ℕ} {k : ℕ} {g : Rule} → N.Stopped w t k g → Stopped w t k g
stopped_in s = record { stopped = s }

pub stopped_out : {w t : List ℕ} {k : ℕ} {g : Rule} → Stopped w t k g → N.Stopped w t k g
stopped_out s = s.stopped

-- a node of feature k may be made of the branches that the list says
pub record Listed (w : List ℕ) (k : ℕ) (l : List ℕ) : Type 0 where
  holds : N.Holds w
  left : k < features w
  listed : N.Listed w k l

pub listed_in : {w : List ℕ} {k : ℕ} {l : List ℕ} → N.Holds w → k < features w → N.Listed w k l → Listed w k l
listed_in h k l = record { holds = h; left = k; listed = l }

pub listed_out : {w : List ℕ} {k : ℕ} {l : List ℕ} → Listed w k l → N.Holds w × (k < features w) × N.Listed w k l
listed_out l = (l.holds, l.left, l.listed)

-- w' is w with that node, and the answer tells its branch; or there was no room for it
pub record Made (w w' : List ℕ) (k : ℕ) (l : List ℕ) (a : Option ℕ) : Type 0 where
  makes : N.Makes w w' k l a

pub made_in : {w w' : List ℕ} {k : ℕ} {l : List ℕ} {a : Option ℕ} → N.Makes w w' k l a → Made w w' k l a
made_in m = record { makes = m }

pub made_out : {w w' : List ℕ} {k : ℕ} {l : List ℕ} {a : Option ℕ} → Made w w' k l a → N.Makes w w' k l a
made_out m = m.makes
