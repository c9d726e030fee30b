-- Contract between layers: what a table of any kind is while its nodes are copied, and what copying makes of it, up to the whole collection. Assumes nothing.
use Rattle.std.specs.Prelude.{◌≡◌, List, ℕ, ◌+◌, ◌*◌, ◌≤◌, ◌<◌, length, get_or}
use Rattle.theory.specs.Build.{table}
use Rattle.theory.specs.Copying.{Copies, Half, Lists, marked}
use Rattle.theory.specs.Diagrams.{Branch, Node, Target}
use Rattle.theory.specs.Kind.{Kind}
use Rattle.theory.specs.Settings.{FeatureList}
use Rattle.theory.specs.WellFormed.{Ok, Under, WellFormed}
use Rattle.table_words.specs.Table.{Table, Spared, branches, node_at, nodes, roots_of, fun_at, funs_of}
use Rattle.table_words.specs.Words.{listed}
use Rattle.table_sweep.specs.Marks.{kept, done, spot, mark}
use Rattle.promises.specs.Tab.{tab}
use Rattle.promises.specs.Words.{head, word, capacity, size, count, sizes, bound, feature, body, link, bucket, Zeros}

-- w' is w but for the places, the links, the chain heads, the far records and what is noted of them
pub record Steady (w w' : List ℕ) : Type 0 where
  pub long : length w' ≡ length w
  pub low : (j : ℕ) → j < 30 → head w' j ≡ head w j
  pub middle : (j : ℕ) → 64 ≤ j → j < 4096 → head w' j ≡ head w j
  pub near : (i j : ℕ) → i < capacity w → j < 16 → (j ≡ 13 → ⊥) → word w' i j ≡ word w i j
  pub free : (j : ℕ) → 8192 + 16 * count w ≤ j → j < 8192 + 16 * capacity w → get_or w' j 0 ≡ get_or w j 0
  pub past : (j : ℕ) → bound (capacity w) ≤ j → get_or w' j 0 ≡ get_or w j 0

-- as many nodes stay, with their links and the chain heads
pub record Firm (w w' : List ℕ) : Type 0 where
  pub stay : kept w' ≡ kept w
  pub heads : (h : ℕ) → h < 4096 → bucket w' h ≡ bucket w h
  pub links : (i : ℕ) → i < kept w → link w' i ≡ link w i

module _ {K : Kind} (T : Table K) where
  -- the nodes that stay and those that the far records hold
  unfoldable pub copies : List ℕ → List (Node K)
  copies w = tab (λ i. node_at T w (spot w i)) (done w)

  -- the header's numbers, and a well-formed node list with its spare words
  pub record Framed (w : List ℕ) : Type 0 where
    pub room : bound (capacity w) ≤ length w
    pub most : capacity w ≤ 4096
    pub within : count w ≤ capacity w
    pub list : FeatureList (sizes w)
    pub wf : WellFormed (sizes w) (nodes T w)
    pub spared : Spared T w

  -- a root may go there
  abbrev pub Good : List ℕ → Target K → Type 0
  Good w t = Under (nodes T w) (length (nodes T w)) 0 t

  -- the copies are of the marked nodes with their spare words, 0 past each body, before the first far one and past the last
  pub record Ready (w : List ℕ) : Type 0 where
    pub framed : Framed w
    pub half : Half (sizes w) (nodes T w) (copies w) (mark w)
    pub tallied : done w ≡ marked (mark w) (count w)
    pub padded : (i : ℕ) → i < done w → T.Padded (size w (feature w (spot w i))) (body w (spot w i))
    pub spared : (i j : ℕ) → i < done w → j < 2 → word w (spot w i) (14 + j) ≡ T.spare_of (sizes w) (copies w) i j
    pub stay : kept w ≤ done w
    pub before : Zeros w (8192 + 16 * capacity w) (8192 + 16 * (capacity w + kept w))
    pub clean : Zeros w (8192 + 16 * (capacity w + done w)) (bound (capacity w))

  -- more may be copied, and the places are as they were
  pub record Still (w w' : List ℕ) : Type 0 where
    pub steady : Steady w w'
    pub ready : Ready w'
    pub places_kept : (p : ℕ) → p < 32 → head w' (32 + p) ≡ head w (32 + p)

  -- what goes to t copied: it goes to t' now. A node that t does not reach keeps its mark
  pub record Moved (w w' : List ℕ) (t t' : Target K) : Type 0 where
    pub still : Still w w'
    pub moved : Copies (sizes w) (nodes T w) t (copies w) t' (copies w')
    pub later : (x : ℕ) → x < count w → Under (nodes T w) x 0 t → mark w' x ≡ mark w x

  -- the first v branches of node i copied: they are bs
  pub record Turning (w w' : List ℕ) (i v : ℕ) (bs : List (Branch K)) : Type 0 where
    pub still : Still w w'
    pub turned : Lists (sizes w) (nodes T w) i (copies w) v bs (copies w')
    pub later : (x : ℕ) → x < count w → i ≤ x → mark w' x ≡ mark w x

  -- and the list is a body that says them
  pub record Moving (w w' : List ℕ) (i v : ℕ) (l : List ℕ) : Type 0 where
    pub turning : Turning w w' i v (branches T v (listed l))
    pub pad : T.Padded v (listed l)

  -- only the nodes that stay have copies: themselves, and they are those of the functions of the first p places built in turn
  pub record Loose (p : ℕ) (w : List ℕ) : Type 0 where
    pub framed : Framed w
    pub rooted : (q : ℕ) → q < T.places → Ok (nodes T w) 0 (T.root_at w q)
    pub nothing : done w ≡ kept w
    pub few : kept w ≤ count w
    pub unmarked : (i : ℕ) → kept w ≤ i → i < count w → link w i ≡ 0
    pub padded : (i : ℕ) → i < kept w → T.Padded (size w (feature w i)) (body w i)
    pub begun : table (sizes w) (tab (fun_at T w) p) ≡ (tab (T.root_at w) p, copies w)
    pub clean : Zeros w (8192 + 16 * count w) (bound (capacity w))

  -- all roots copied: roots and copies are those of the functions built in turn from nothing
  pub record Rooted (w w' : List ℕ) : Type 0 where
    pub steady : Steady w w'
    pub ready : Ready w'
    pub holds : table (sizes w) (funs_of T w) ≡ (roots_of T w', copies w')

  -- the same of the nodes; every word that shows none of them is 0 or kept
  pub record Collected (w w' : List ℕ) : Type 0 where
    pub long : length w' ≡ length w
    pub low : (j : ℕ) → j < 32 → (j ≡ 19 → ⊥) → head w' j ≡ head w j
    pub middle : (j : ℕ) → 64 ≤ j → j < 4096 → head w' j ≡ head w j
    pub holds : table (sizes w) (funs_of T w) ≡ (roots_of T w', nodes T w')
    pub fewer : count w' ≤ count w
    pub padded : (i : ℕ) → i < count w' → T.Padded (size w' (feature w' i)) (body w' i)
    pub spared : (i j : ℕ) → i < count w' → j < 2 → word w' i (14 + j) ≡ T.spare_of (sizes w) (nodes T w') i j
    pub clean : Zeros w' (8192 + 16 * count w') (bound (capacity w))
    pub past : (j : ℕ) → bound (capacity w) ≤ j → get_or w' j 0 ≡ get_or w j 0
