-- Contract between layers: what the words hold while nodes are copied: how many stay, how many are copied, and which copy is whose. Assumes nothing.
use Rattle.std.specs.Prelude.{List, ℕ, zero, suc, ◌+◌, ◌-◌, ltb}
use Rattle.promises.specs.Words.{head, capacity, link, pick}

-- how many nodes stay as they are: the first so many
abbrev pub kept : List ℕ → ℕ
kept w = head w 30

-- how many copies there are, with the nodes that stay
abbrev pub done : List ℕ → ℕ
done w = head w 31

-- the record of copy i: a node that stays, or far record i
unfoldable pub spot : List ℕ → ℕ → ℕ
spot w i = pick (ltb i (kept w)) i (capacity w + i)

-- 1 + the number of node i's copy, 0 while there is none: a node that stays is its own, the link word of another says it
unfoldable pub mark : List ℕ → ℕ → ℕ
mark w i = pick (ltb i (kept w)) (suc i) (link w i)

unfoldable pub higher : ℕ → ℕ → ℕ
higher a c = pick (ltb a c) c a

-- 1 + the highest node that is a root of the first p places, 0 where none is; `first` tells the kind: branch words below it end
unfoldable pub highest : ℕ → List ℕ → ℕ → ℕ
unfolding higher
highest first w zero = 0
highest first w (suc p) = higher (highest first w p) (suc (head w (32 + p)) - first)
