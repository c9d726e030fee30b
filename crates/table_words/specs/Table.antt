-- Contract between layers: A TABLE: how the tables of a kind are read and drawn, the nodes, roots and functions that their words say so, and what that must obey. Assumes nothing.
use Rattle.std.specs.Prelude.{◌≡◌, List, ℕ, ◌+◌, ◌≤◌, ◌<◌, length, get_or}
use Rattle.theory.specs.Copying.{Twin}
use Rattle.theory.specs.Kind.{Kind}
use Rattle.theory.specs.Diagrams.{Branch, Node, Target, at, leaf, meaning, node}
use Rattle.theory.specs.Functions.{Agree, Amount, Fun, zero_fun}
use Rattle.promises.specs.Tab.{tab}
use Rattle.promises.specs.Words.{body, count, feature, head, size, sizes, word}
use Rattle.promises.specs.Words as W

pub record Table (K : Kind) : Type 1 where
  -- the kind word
  pub number : ℕ
  -- how many places there are
  pub places : ℕ
  -- branch words below it end, the others say nodes
  pub first : ℕ
  -- the branch word v of a body
  pub word : (ℕ → ℕ) → ℕ → ℕ
  -- where a branch word goes
  pub goal : ℕ → Target K
  -- branch v that the body words f say
  pub arm : (ℕ → ℕ) → ℕ → Branch K
  -- past m branches the body words f say nothing: they are 0
  pub Padded : ℕ → (ℕ → ℕ) → Type 0
  -- body word v of a node
  pub body_of : Node K → ℕ → ℕ
  -- word p of the 32 that say the roots
  pub root_of : List (Branch K) → ℕ → ℕ
  -- the branch of place p
  pub root_at : List ℕ → ℕ → Branch K
  -- spare word j of node i, of the sizes and the node list
  pub spare_of : List ℕ → List (Node K) → ℕ → ℕ → ℕ
  -- word 20 + j of the header
  pub share : ℕ → ℕ
  -- what these words ask of the functions, given capacity and sizes
  pub Shared : ℕ → List ℕ → List (Fun K) → Type 0
  -- what a place may give a setting
  pub InRange : Amount K → Type 0
  -- the functions that the words say
  pub said : List ℕ → List (Fun K)

module _ {K : Kind} (T : Table K) where
  -- the branches that the body words f say for a feature of m values
  abbrev pub branches : ℕ → (ℕ → ℕ) → List (Branch K)
  branches m f = tab (T.arm f) m

  -- node i: its feature, and as many branches as that feature has values
  abbrev pub node_at : List ℕ → ℕ → Node K
  node_at w i = W.node_at T.arm w i

  abbrev pub nodes : List ℕ → List (Node K)
  nodes w = W.nodes_by T.arm w

  -- the spare words of the records in use are those of their nodes
  abbrev pub Spared : List ℕ → Type 0
  Spared w = (i j : ℕ) → i < count w → j < 2 → word w i (14 + j) ≡ T.spare_of (sizes w) (nodes w) i j

  -- the branches of all places, and the functions that they mean
  abbrev pub roots_of : List ℕ → List (Branch K)
  roots_of w = tab (T.root_at w) T.places

  abbrev pub fun_at : List ℕ → ℕ → Fun K
  fun_at w p = meaning (nodes w) (T.root_at w p)

  abbrev pub funs_of : List ℕ → List (Fun K)
  funs_of w = tab (fun_at w) T.places

-- WHAT A TABLE MUST OBEY
pub record Regular {K : Kind} (T : Table K) : Type 0 where
  -- a branch goes where its word goes: to an end, or to the nodes in turn
  pub arms : (f : ℕ → ℕ) (v : ℕ) → (T.arm f v).to ≡ T.goal (T.word f v)
  pub ends : (x : ℕ) → x < T.first → (e : K.End) × (T.goal x ≡ leaf e)
  pub indices : (i : ℕ) → T.goal (T.first + i) ≡ node i
  -- nothing is read but the 12 body words, and the branches tell them all
  pub reads : (f g : ℕ → ℕ) (v : ℕ) → v < 8 → ((u : ℕ) → u < 12 → f u ≡ g u) → T.arm f v ≡ T.arm g v
  pub padded : (m : ℕ) (f g : ℕ → ℕ) → ((u : ℕ) → u < 12 → f u ≡ g u) → T.Padded m f → T.Padded m g
  pub told : (m : ℕ) (f g : ℕ → ℕ) → m ≤ 8 → ((v : ℕ) → v < m → T.arm f v ≡ T.arm g v) → T.Padded m f → T.Padded m g → (u : ℕ) → u < 12 → f u ≡ g u
  -- the spare words of nodes that mean the same are the same
  pub spared : (S : List ℕ) (N M : List (Node K)) (i n j : ℕ) → Twin S N M i n → T.spare_of S N i j ≡ T.spare_of S M n j
  -- padded bodies are drawn as they are read
  pub bodies : (w : List ℕ) → ((i : ℕ) → i < count w → T.Padded (size w (feature w i)) (body w i))
      → (i v : ℕ) → i < count w → v < 12 → body w i v ≡ T.body_of (at (nodes T w) i) v
  -- the places are read from the words 32 to 63, place p goes where word 32 + p goes, and they are drawn as they are read
  pub places : (w w' : List ℕ) → ((p : ℕ) → p < 32 → head w' (32 + p) ≡ head w (32 + p)) → (p : ℕ) → p < T.places → T.root_at w' p ≡ T.root_at w p
  pub tops : (w : List ℕ) (p : ℕ) → (T.root_at w p).to ≡ T.goal (head w (32 + p))
  pub roots : (w : List ℕ) (p : ℕ) → p < 32 → head w (32 + p) ≡ T.root_of (roots_of T w) p
  -- what the shares ask, they ask of functions that agree alike
  pub shared : (cap : ℕ) (S : List ℕ) (gs hs : List (Fun K)) → length gs ≡ length hs → ((p : ℕ) → p < length gs → Agree S (get_or gs p zero_fun) (get_or hs p zero_fun))
      → T.Shared cap S gs → T.Shared cap S hs
  -- what the words say is what the branches of the places mean
  pub said : (w : List ℕ) → T.said w ≡ funs_of T w
