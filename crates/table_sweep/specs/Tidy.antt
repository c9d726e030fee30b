-- Contract between layers: what a table is where place p may be changed, and what tidying makes of it, for every kind. Assumes nothing.
use Rattle.std.specs.Prelude.{◌≡◌, List, ℕ, ◌+◌, ◌*◌, ◌≤◌, ◌<◌, length, get_or}
use Rattle.theory.specs.Build.{Ext, table}
use Rattle.theory.specs.Kind.{Kind}
use Rattle.theory.specs.Settings.{FeatureList}
use Rattle.theory.specs.WellFormed.{Ok, WellFormed}
use Rattle.table_words.specs.Table.{Table, Spared, nodes, fun_at}
use Rattle.table_words.specs.Picture.{Pictures, Proper}
use Rattle.table_words.specs.Words.{kind}
use Rattle.promises.specs.Tab.{tab}
use Rattle.promises.specs.Words.{head, capacity, features, size, count, sizes, bound, feature, body, link, bucket, hash_at, last_of, Zeros}

module _ {K : Kind} (T : Table K) where
  -- the roots of the first p places and the front of the nodes are those of their functions built in turn
  pub record Begun (p : ℕ) (w : List ℕ) : Type 0 where
    pub roots : (table (sizes w) (tab (fun_at T w) p)).0 ≡ tab (T.root_at w) p
    pub front : Ext (table (sizes w) (tab (fun_at T w) p)).1 (nodes T w)

  -- a table in whose places branches of its nodes stand; behind those of the first p places the nodes' order, and which of them are reached, are free
  pub record Untidy (p : ℕ) (w : List ℕ) : Type 0 where
    pub room : bound (capacity w) ≤ length w
    pub some : 1 ≤ capacity w
    pub most : capacity w ≤ 4096
    pub kind_is : kind w ≡ T.number
    pub list : FeatureList (sizes w)
    pub past_sizes : Zeros w (3 + features w) 19
    pub within : count w ≤ capacity w
    pub shares : (j : ℕ) → j < 2 → head w (20 + j) ≡ T.share j
    pub unused : Zeros w 22 32
    pub middle : Zeros w 64 4096
    pub clean : Zeros w (8192 + 16 * count w) (bound (capacity w))
    pub wf : WellFormed (sizes w) (nodes T w)
    pub spared : Spared T w
    pub padded : (i : ℕ) → i < count w → T.Padded (size w (feature w i)) (body w i)
    pub links : (i : ℕ) → i < count w → link w i ≡ last_of (hash_at w) (hash_at w i) i
    pub heads : (h : ℕ) → h < 4096 → bucket w h ≡ last_of (hash_at w) h (count w)
    pub rooted : (q : ℕ) → q < T.places → Ok (nodes T w) 0 (T.root_at w q)
    pub begun : Begun p w

  -- w' is the picture of the functions that w holds; the words past the table are kept
  pub record Tidied (w w' : List ℕ) : Type 0 where
    pub proper : Proper T (capacity w) (sizes w) (T.said w)
    pub pictures : Pictures T (capacity w) (sizes w) (T.said w) w'
    pub long : length w' ≡ length w
    pub past : (j : ℕ) → bound (capacity w) ≤ j → get_or w' j 0 ≡ get_or w j 0
