-- Contract between layers: the words of a cost table: those that say targets, the pair of a node, a body packed; the code's targets. Assumes nothing.
use Rattle.std.specs.Prelude.{List, ℕ, zero, suc, ◌+◌, ◌*◌, ◌-◌, ◌<◌, ltb, get_or}
use Rattle.theory.specs.Costs.{costs}
use Rattle.theory.specs.Diagrams.{Node, Target, leaf, node}
use Rattle.theory_costs.specs.Integers.{word_for}
use Rattle.cost_words.specs.declared.Arm.{Arm}
use Rattle.cost_words.specs.declared.Target.{Target as CodeTarget}
use Rattle.cost_words.specs.declared.Target.TheVariants.{End, Node as NodeIs}
use Rattle.promises.specs.CostOperations.{smaller_of, larger_of}
use Rattle.promises.specs.CostSound.{sum_below}
use Rattle.promises.specs.Words.{pick}

-- the word that goes there
abbrev pub target_word : Target costs → ℕ
target_word (leaf e) = 0
target_word (node i) = suc i

-- spare word j of node i: the word of the lowest sum below it, then that of the highest
unfoldable pub pair_word : List ℕ → List (Node costs) → ℕ → ℕ → ℕ
pair_word S N i zero = word_for (sum_below smaller_of S N i)
pair_word S N i (suc j) = word_for (sum_below larger_of S N i)

-- body word v of the targets x and the added words a
unfoldable pub packed : (ℕ → ℕ) → (ℕ → ℕ) → ℕ → ℕ
packed x a v = pick (ltb v 4) (x (2 * v) + 65536 * x (2 * v + 1)) (a (v - 4))

-- the code's target
abbrev pub target_of : CodeTarget → Target costs
target_of End = leaf tt
target_of (NodeIs i) = node i

-- it has a word, which fits a half word
abbrev pub Worded : CodeTarget → Type 0
Worded End = Unit {0}
Worded (NodeIs i) = i < 65535

-- the target word and the added word of branch v of a list; past its end 0
abbrev pub tos : List Arm → ℕ → ℕ
tos b v = (get_or b v (record { to = 0; adds = 0 })).to

abbrev pub adding : List Arm → ℕ → ℕ
adding b v = (get_or b v (record { to = 0; adds = 0 })).adds
