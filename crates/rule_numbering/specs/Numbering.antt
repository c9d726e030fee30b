-- Contract between layers: the nodes that branches reach, numbered as building numbers them. The numbers stand in notes. Assumes nothing.
use Rattle.std.specs.Prelude.{Option, Some, None, ◌≡◌, List, ℕ, ◌+◌, ◌-◌, ◌≤◌, ◌<◌, ltb, length, get_or}
use Rattle.theory.specs.Copying.{Copies, Half, Lists, marked}
use Rattle.theory.specs.Rules.{Node}
use Rattle.rule_words.specs.Words.{branches}
use Rattle.rule_numbering.specs.declared.Notes.{Notes}
use Rattle.promises.specs.Tab.{tab}
use Rattle.promises.specs.Words.{size, count, sizes, feature, body, pick}
use Rattle.promises.specs.RuleWords.{decode, rule_node_list as nodes}

-- 1 + a number, 0 for none
abbrev pub marking : Option ℕ → ℕ
marking (Some j) = 1 + j
marking None = 0

-- 1 + the number of node i, 0 while it has none
abbrev pub mark : Notes → ℕ → ℕ
mark n i = marking (get_or n.numbers i None)

-- the node that has the number j
abbrev pub member : Notes → ℕ → ℕ
member n j = get_or n.nodes j 0

-- the word of a branch to the same node by its number, for the table's word
unfoldable pub renumbered : Notes → ℕ → ℕ
renumbered n b = pick (ltb b 65536) b (65535 + mark n (b - 65536))

-- the word says a phrase, or a node that has a number
abbrev pub Has : Notes → ℕ → Type 0
Has n b = 65536 ≤ b → 0 < mark n (b - 65536)

-- node i, its branches told by numbers
abbrev pub node_in : List ℕ → Notes → ℕ → Node
node_in w n i = record { feature = feature w i; branches = branches (size w (feature w i)) (λ v. renumbered n (body w i v)) }

-- the first c nodes by number
unfoldable pub numbered : List ℕ → Notes → ℕ → List Node
numbered w n c = tab (λ j. node_in w n (member n j)) c

-- c nodes have numbers, and so has all that they reach
pub record Noted (w : List ℕ) (n : Notes) (c : ℕ) : Type 0 where
  pub long : length n.numbers ≡ 4096
  pub wide : length n.nodes ≡ 4096
  pub half : Half (sizes w) (nodes w) (numbered w n c) (mark n)
  pub tallied : c ≡ marked (mark n) (count w)
  pub inside : (j : ℕ) → j < c → member n j < count w
  pub whole : (j v : ℕ) → j < c → v < size w (feature w (member n j)) → Has n (body w (member n j) v)

-- the branch b numbered. What had a number keeps it, and a node that b does not reach gets none
pub record Numbers (w : List ℕ) (n n' : Notes) (b c r : ℕ) : Type 0 where
  pub noted : Noted w n' r
  pub copied : Copies (sizes w) (nodes w) (decode b).to (numbered w n c) (decode (renumbered n' b)).to (numbered w n' r)
  pub has : Has n' b
  pub kept : (x : ℕ) → x < count w → 0 < mark n x → mark n' x ≡ mark n x
  pub later : (x : ℕ) → x < count w → b < 65536 + x → mark n' x ≡ mark n x

-- the first v branches of node i numbered
pub record Numbering (w : List ℕ) (n n' : Notes) (i v c r : ℕ) : Type 0 where
  pub noted : Noted w n' r
  pub listed : Lists (sizes w) (nodes w) i (numbered w n c) v (branches v (λ u. renumbered n' (body w i u))) (numbered w n' r)
  pub has : (u : ℕ) → u < v → Has n' (body w i u)
  pub kept : (x : ℕ) → x < count w → 0 < mark n x → mark n' x ≡ mark n x
  pub later : (x : ℕ) → x < count w → i ≤ x → mark n' x ≡ mark n x
