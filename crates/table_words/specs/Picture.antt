-- Contract between layers: a table at rest is the picture of its rules or costs: which words it has, given capacity, feature list and these functions. Assumes nothing.
use Rattle.std.specs.Prelude.{◌≡◌, List, ℕ, ◌+◌, ◌*◌, ◌≤◌, ◌<◌, length, get_or}
use Rattle.std.proofs.lemmas.List.Edits.{sets}
use Rattle.theory.specs.Kind.{Kind}
use Rattle.theory.specs.Settings.{FeatureList, Valid}
use Rattle.theory.specs.Functions.{Fun, zero_fun}
use Rattle.theory.specs.Diagrams.{Branch, Node, at}
use Rattle.theory.specs.Build.{table}
use Rattle.table_words.specs.Table.{Table}
use Rattle.table_words.specs.Words.{kind}
use Rattle.promises.specs.Words.{head, word, capacity, features, size, count, sizes, bound, feature, body, link, bucket, hash_of, last_of, Zeros}

module _ {K : Kind} (T : Table K) where
  abbrev pub node_hash : List (Node K) → ℕ → ℕ
  node_hash N i = hash_of (at N i).feature (T.body_of (at N i))

  -- the words show the capacity, the sizes, the roots R and the nodes N, and nothing else
  pub record Shows (cap : ℕ) (S : List ℕ) (R : List (Branch K)) (N : List (Node K)) (w : List ℕ) : Type 0 where
    pub long : bound cap ≤ length w
    pub kind_is : kind w ≡ T.number
    pub room : capacity w ≡ cap
    pub many : features w ≡ length S
    pub sizes_are : (k : ℕ) → k < 16 → size w k ≡ get_or S k 0
    pub used : count w ≡ length N
    pub shares : (j : ℕ) → j < 2 → head w (20 + j) ≡ T.share j
    pub unused : Zeros w 22 32
    pub roots_are : (p : ℕ) → p < 32 → head w (32 + p) ≡ T.root_of R p
    pub middle : Zeros w 64 4096
    pub heads : (h : ℕ) → h < 4096 → bucket w h ≡ last_of (node_hash N) h (length N)
    pub tests : (i : ℕ) → i < length N → feature w i ≡ (at N i).feature
    pub bodies : (i v : ℕ) → i < length N → v < 12 → body w i v ≡ T.body_of (at N i) v
    pub links : (i : ℕ) → i < length N → link w i ≡ last_of (node_hash N) (node_hash N i) i
    pub spare : (i j : ℕ) → i < length N → j < 2 → word w i (14 + j) ≡ T.spare_of S N i j
    pub clean : Zeros w (8192 + 16 * length N) (bound cap)

  -- the picture of the functions gs: the nodes are those that building them in turn gives
  abbrev pub Pictures : ℕ → List ℕ → List (Fun K) → List ℕ → Type 0
  Pictures cap S gs w = Shows cap S (table S gs).0 (table S gs).1 w

  -- what a table can hold: a function for each place, in range at every setting, no more distinct rests than the capacity, what its shares ask
  pub record Proper (cap : ℕ) (S : List ℕ) (gs : List (Fun K)) : Type 0 where
    pub some : 1 ≤ cap
    pub most : cap ≤ 4096
    pub list : FeatureList S
    pub places : length gs ≡ T.places
    pub range : (p : ℕ) → p < T.places → (s : List ℕ) → Valid S s → T.InRange (get_or gs p zero_fun s)
    pub fits : length (table S gs).1 ≤ cap
    pub shared : T.Shared cap S gs

  -- the words are a table's: the picture of some functions
  pub record IsTable (w : List ℕ) : Type 0 where
    pub cap : ℕ
    pub sizes : List ℕ
    pub places : List (Fun K)
    pub proper : Proper cap sizes places
    pub pictures : Pictures cap sizes places w

  -- w' is w with the functions gs in the places from p on: the picture of the functions so changed; the words past the table are kept
  pub record Becomes (p : ℕ) (gs : List (Fun K)) (w w' : List ℕ) : Type 0 where
    pub long : length w' ≡ length w
    pub proper : Proper (capacity w) (sizes w) (sets (T.said w) p gs)
    pub pictures : Pictures (capacity w) (sizes w) (sets (T.said w) p gs) w'
    pub past : (j : ℕ) → bound (capacity w) ≤ j → get_or w' j 0 ≡ get_or w j 0
