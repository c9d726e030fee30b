-- Contract between layers: A COST TABLE: how its words are read and drawn. Assumes nothing.
use Rattle.std.specs.Prelude.{List, ℕ, ◌-◌, ltb, length, get_or}
use Rattle.theory.specs.Costs.{costs}
use Rattle.theory.specs.Diagrams.{Branch, Node, blank}
use Rattle.theory_costs.specs.Integers.{word_for}
use Rattle.table_words.specs.Table.{Table}
use Rattle.cost_words.specs.Words.{target_word, packed, pair_word}
use Rattle.promises.specs.Integers.{Fit}
use Rattle.promises.specs.Range.{cost_most}
use Rattle.promises.specs.Words.{pick}
use Rattle.promises.specs.CostWords.{target, cost_branch as branch, goes, added, Padded, root_at, costs_of}

-- the target word and the added word of value v of a node, 0 past its size
abbrev pub goes_of : Node costs → ℕ → ℕ
goes_of x v = target_word (get_or x.branches v blank).to

abbrev pub added_of : Node costs → ℕ → ℕ
added_of x v = pick (ltb v (length x.branches)) (word_for (get_or x.branches v blank).adds) 0

-- its body
abbrev pub body_of : Node costs → ℕ → ℕ
body_of x v = packed (goes_of x) (added_of x) v

-- the 16 root words, then the 16 bases
abbrev pub root_of : List (Branch costs) → ℕ → ℕ
root_of R p = pick (ltb p 16) (target_word (get_or R p blank).to) (word_for (get_or R (p - 16) blank).adds)

-- kind word 2, 16 places; a half word for each branch, from 1 on it says a node; the pair of a node in its spare words; costs from −1,000,000,000 to 1,000,000,000 at every setting
abbrev pub cost_table : Table costs
cost_table =
    record {
      number = 2;
      places = 16;
      first = 1;
      word = goes;
      goal = target;
      arm = λ f v. branch (goes f v) (added f v);
      Padded = Padded;
      body_of = body_of;
      root_of = root_of;
      root_at = root_at;
      spare_of = pair_word;
      share = λ j. 0;
      Shared = λ cap S gs. Unit {0};
      InRange = λ x. Fit cost_most x.off;
      said = costs_of;
    }
