-- The rule sheet, edition 1: what stands in its bytes, the rule that they say, and which bytes are a sheet. Assumes nothing.
use Rattle.std.specs.Prelude.{◌≡◌, List, [], ◌∷◌, ℕ, zero, suc, ◌+◌, ◌*◌, ◌-◌, ◌≤◌, ◌<◌, length, get_or, take, drop}
use Rattle.std.proofs.Math.Option.{some}
use Rattle.theory.specs.Settings.{FeatureList}
use Rattle.theory.specs.Diagrams.{Node, meaning}
use Rattle.theory.specs.Walk.{scan}
use Rattle.theory.specs.Rules.{rules, Rule}
use Rattle.promises.specs.RuleWords.{decode}

-- NEWER: the first three bytes are 0, 1 and a number of 2 or more
pub record NewerSheet (s : List ℕ) : Type 0 where
  pub three : 3 ≤ length s
  pub zero : get_or s 0 0 ≡ 0
  pub one : get_or s 1 0 ≡ 1
  pub more : 2 ≤ get_or s 2 0

-- ---- what stands where
abbrev pub byte : List ℕ → ℕ → ℕ
byte s p = get_or s p 0

unfoldable pub pair : List ℕ → ℕ → ℕ
pair s p = byte s p * 256 + byte s (p + 1)

-- a branch's three bytes as one number: the phrase, or 65,536 + the node; 131,072 or more is neither
unfoldable pub triple : List ℕ → ℕ → ℕ
triple s p = byte s p * 65536 + pair s (p + 1)

abbrev pub sheet_features : List ℕ → ℕ
sheet_features s = pair s 3

abbrev pub sheet_size : List ℕ → ℕ → ℕ
sheet_size s k = byte s (5 + k)

-- the feature list
unfoldable pub sheet_sizes : List ℕ → List ℕ
sheet_sizes s = take (sheet_features s) (drop 5 s)

abbrev pub sheet_count : List ℕ → ℕ
sheet_count s = pair s (5 + sheet_features s)

-- where node i begins
unfoldable pub node_place : List ℕ → ℕ → ℕ
node_place s zero = 7 + sheet_features s
node_place s (suc i) = node_place s i + 1 + 3 * sheet_size s (byte s (node_place s i))

abbrev pub sheet_feature : List ℕ → ℕ → ℕ
sheet_feature s i = byte s (node_place s i)

abbrev pub sheet_width : List ℕ → ℕ → ℕ
sheet_width s i = sheet_size s (sheet_feature s i)

abbrev pub sheet_branch : List ℕ → ℕ → ℕ → ℕ
sheet_branch s i v = triple s (node_place s i + 1 + 3 * v)

-- where the nodes end, and the root
abbrev pub nodes_end : List ℕ → ℕ
nodes_end s = node_place s (sheet_count s)

abbrev pub sheet_root : List ℕ → ℕ
sheet_root s = triple s (nodes_end s + 2)

-- f u, f (u + 1), .., n of them
abbrev pub row : {A : Type 0} → ℕ → ℕ → (ℕ → A) → List A
row u zero f = []
row u (suc n) f = f u ∷ row (suc u) n f

unfoldable pub sheet_node : List ℕ → ℕ → Node rules
sheet_node s i = record { feature = sheet_feature s i; branches = row 0 (sheet_width s i) (λ v. decode (sheet_branch s i v)) }

unfoldable pub sheet_nodes : List ℕ → List (Node rules)
unfolding sheet_node
sheet_nodes s = row 0 (sheet_count s) (sheet_node s)

-- THE RULE that the bytes say
abbrev pub sheet_rule : List ℕ → Rule
sheet_rule s = meaning (sheet_nodes s) (decode (sheet_root s))

-- ---- good bytes
-- the first two sections, and room for the count of the third
pub record Begins (s : List ℕ) : Type 0 where
  pub zero : byte s 0 ≡ 0
  pub one : byte s 1 ≡ 1
  pub edition : byte s 2 ≡ 1
  pub long : 7 + sheet_features s ≤ length s
  pub list : FeatureList (sheet_sizes s)

-- the nodes lie one after the other, and the root after them ends the bytes
pub record Lies (s : List ℕ) : Type 0 where
  pub room : sheet_count s ≤ 4096
  pub known : (i : ℕ) → i < sheet_count s → sheet_feature s i < sheet_features s
  pub ends : nodes_end s + 5 ≡ length s
  pub zero : byte s (nodes_end s) ≡ 0
  pub one : byte s (nodes_end s + 1) ≡ 1

-- w is a phrase, or a node before i of feature k or higher
pub record SheetSits (s : List ℕ) (i k w : ℕ) : Type 0 where
  pub flag : w < 131072
  pub earlier : 65536 ≤ w → w - 65536 < i
  pub higher : 65536 ≤ w → k ≤ sheet_feature s (w - 65536)

-- each branch of node i is a phrase or an earlier node of a higher feature
pub record SheetLower (s : List ℕ) (i : ℕ) : Type 0 where
  pub lower : (v : ℕ) → v < sheet_width s i → SheetSits s i (sheet_feature s i + 1) (sheet_branch s i v)

-- the branches of node i are all equal
pub record SheetAlike (s : List ℕ) (i : ℕ) : Type 0 where
  pub alike : (v : ℕ) → v < sheet_width s i → sheet_branch s i v ≡ sheet_branch s i 0

-- node i by itself
pub record SheetNodeOk (s : List ℕ) (i : ℕ) : Type 0 where
  pub lower : SheetLower s i
  pub differ : SheetAlike s i → ⊥

pub record SheetNodesOk (s : List ℕ) : Type 0 where
  pub each : (i : ℕ) → i < sheet_count s → SheetNodeOk s i

-- nodes i and j are equal
pub record SheetSame (s : List ℕ) (i j : ℕ) : Type 0 where
  pub feature : byte s (node_place s i) ≡ byte s (node_place s j)
  pub each : (v : ℕ) → v < sheet_width s i → sheet_branch s i v ≡ sheet_branch s j v

-- no earlier node is equal to node i
pub record SheetAlone (s : List ℕ) (i : ℕ) : Type 0 where
  pub new : (j : ℕ) → j < i → SheetSame s j i → ⊥

-- no two nodes are equal
pub record Once (s : List ℕ) : Type 0 where
  pub once : (i : ℕ) → i < sheet_count s → SheetAlone s i

-- all of that
pub record SheetOrdered (s : List ℕ) : Type 0 where
  pub head : Begins s
  pub lie : Lies s
  pub nodes : SheetNodesOk s
  pub once : Once s

-- the walk from the root meets all nodes, each in its turn
unfoldable pub InOrder : List ℕ → Type 0
InOrder s = scan (sheet_nodes s) 0 (sheet_sizes s) (decode (sheet_root s)).to 0 ≡ some (sheet_count s)

-- GOOD BYTES, which some rule has as its sheet
pub record GoodSheet (s : List ℕ) : Type 0 where
  pub bytes : (p : ℕ) → byte s p < 256
  pub ordered : SheetOrdered s
  pub top : SheetSits s (sheet_count s) 0 (sheet_root s)
  pub order : InOrder s
