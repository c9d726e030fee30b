-- The walk as code goes: from a node's own feature, no feature that waits is looked at; branches in turn. Assumes nothing.
use mathlib.Core.Path.{◌≡◌, refl, sym, ap, ◌∙◌, subst}
use mathlib.Core.Option.{Option, none, some}
use mathlib.Core.List.{List, [], ◌∷◌, ◌++◌}
use Prim.Native.Nat.{ℕ, zero, suc, ◌+◌, ◌-◌, ◌≤◌, ◌<◌}
use native.Mathlib.Nat.{add-zero, le_refl}
use native.Mathlib.Decide.{ℕ_discrete}
use native.Mathlib.Numerals.{add-one}
use native.Mathlib.Omega.{arith}
use lib.ListN.{length, get_or, drop, drop_of_length-le}
use lib.Seq.{drop-cons}
use Rattle.theory.specs.Kind.{Kind}
use Rattle.theory.specs.Diagrams.{Branch, Node, Target, at, blank, leaf, node}
use Rattle.theory.specs.WellFormed.{Under, WellFormed}
use Rattle.theory.specs.Walk.{bind, close, finish, scan, scans, step}
use Rattle.theory.proofs.Walking.{scan_cons}
use Rattle.theory.proofs.Ordering.{step_close, step_done, step_wait}

-- a node that is not met in its turn
pub close_none : (i : ℕ) → close i none ≡ none
unfolding close
close_none i = refl

pub close_other : (i d : ℕ) → ¬ (d ≡ i) → close i (some d) ≡ none
unfolding close finish
close_other i d h = go (ℕ_discrete d i)
  where
    go : (e : Dec (d ≡ i)) → finish i d e ≡ none
    go (yes e) = absurd (h e)
    go (no e) = refl

bind_some : (o : Option ℕ) → bind o (λ d. some d) ≡ o
unfolding bind
bind_some none = refl
bind_some (some d) = refl

bind_then : (o : Option ℕ) (f g h : ℕ → Option ℕ) → ((d : ℕ) → f d ≡ bind (g d) h) → bind o f ≡ bind (bind o g) h
unfolding bind
bind_then none f g h e = refl
bind_then (some d) f g h e = e d

module _ {K : Kind} where
  -- a leaf meets no node
  pub scan_leaf : (N : List (Node K)) (k : ℕ) (ns : List ℕ) (e : K.End) (c : ℕ) → scan N k ns (leaf e) c ≡ some c
  unfolding scan
  scan_leaf N k [] e c = refl
  scan_leaf N k (n ∷ ns) e c = scan_leaf N (suc k) ns e c

  scan_jump : (S : List ℕ) (N : List (Node K)) (i c k d : ℕ) → k + d ≤ length S → Under N (length N) (k + d) (node i) →
      scan N k (drop k S) (node i) c ≡ scan N (k + d) (drop (k + d) S) (node i) c
  scan_jump S N i c k zero h o = rw add-zero refl
  scan_jump S N i c k (suc d) h o =
      let e : k + suc d ≡ suc k + d = omega arith in
      ap (λ (ns : List ℕ). scan N k ns (node i) c) (drop-cons S k 0 (omega arith))
      ∙ scan_cons N k (get_or S k 0) (drop (suc k) S) (node i) c
      ∙ step_wait N k (scan N (suc k) (drop (suc k) S)) (node i) c (o.0, omega (arith, o.1))
      ∙ rw e (scan_jump S N i c (suc k) d (omega arith) (subst (λ (j : ℕ). Under N (length N) j (node i)) e o))

  -- a node of a known feature is walked from every feature as from its own
  pub scan_known : (S : List ℕ) (N : List (Node K)) (i c k : ℕ) → (at N i).feature < length S → Under N (length N) k (node i) →
      scan N k (drop k S) (node i) c ≡ scan N (at N i).feature (drop (at N i).feature S) (node i) c
  scan_known S N i c k l o =
      let e : k + ((at N i).feature - k) ≡ (at N i).feature = omega (arith, o.1) in
      scan_jump S N i c k ((at N i).feature - k) (omega arith) (rw e (o.0, le_refl _))
      ∙ ap (λ (j : ℕ). scan N j (drop j S) (node i) c) e

  pub scan_from : (S : List ℕ) (N : List (Node K)) → WellFormed S N → (i c k : ℕ) → Under N (length N) k (node i) →
      scan N k (drop k S) (node i) c ≡ scan N (at N i).feature (drop (at N i).feature S) (node i) c
  scan_from S N w i c k o = scan_known S N i c k (w.fits i o.0).known o

  module _ (S : List ℕ) (N : List (Node K)) (i c : ℕ) (known : (at N i).feature < length S) where
    abbrev own : ℕ
    own = (at N i).feature

    abbrev further : Target K → ℕ → Option ℕ
    further = scan N (suc (at N i).feature) (drop (suc (at N i).feature) S)

    scan_own : scan N own (drop own S) (node i) c ≡ step N own further (node i) c
    scan_own = ap (λ (ns : List ℕ). scan N own ns (node i) c) (drop-cons S own 0 known) ∙ scan_cons N own (get_or S own 0) (drop (suc own) S) (node i) c

    -- a node that was met
    pub scan_done : i < c → scan N (at N i).feature (drop (at N i).feature S) (node i) c ≡ some c
    scan_done h = scan_own ∙ step_done N own further i c refl h

    -- a node that was not: its branches first
    pub scan_close : ¬ (i < c) →
        scan N (at N i).feature (drop (at N i).feature S) (node i) c ≡ close i (scans (scan N (suc (at N i).feature) (drop (suc (at N i).feature) S)) (at N i).branches c)
    scan_close h = scan_own ∙ step_close N own further i c refl h

  -- branches in turn
  pub scans_nil : (f : Target K → ℕ → Option ℕ) (c : ℕ) → scans f [] c ≡ some c
  unfolding scans
  scans_nil f c = refl

  scans_snoc : (f : Target K → ℕ → Option ℕ) (bs : List (Branch K)) (b : Branch K) (c : ℕ) → scans f (bs ++ (b ∷ [])) c ≡ bind (scans f bs c) (f b.to)
  unfolding scans bind
  scans_snoc f [] b c = bind_some (f b.to c)
  scans_snoc f (x ∷ bs) b c = bind_then (f x.to c) (λ d. scans f (bs ++ (b ∷ [])) d) (λ d. scans f bs d) (f b.to) (λ d. scans_snoc f bs b d)

  -- one branch more, after a walk that answered and after one that was lost
  pub scans_step : (f : Target K → ℕ → Option ℕ) (bs : List (Branch K)) (b : Branch K) (c d : ℕ) → scans f bs c ≡ some d → scans f (bs ++ (b ∷ [])) c ≡ f b.to d
  unfolding bind
  scans_step f bs b c d e = scans_snoc f bs b c ∙ ap (λ (o : Option ℕ). bind o (f b.to)) e

  pub scans_lost : (f : Target K → ℕ → Option ℕ) (bs : List (Branch K)) (b : Branch K) (c : ℕ) → scans f bs c ≡ none → scans f (bs ++ (b ∷ [])) c ≡ none
  unfolding bind
  scans_lost f bs b c e = scans_snoc f bs b c ∙ ap (λ (o : Option ℕ). bind o (f b.to)) e

  -- the branches from the v-th on: none is left; one that is met; one that is lost
  pub scans_end : (f : Target K → ℕ → Option ℕ) (bs : List (Branch K)) (v c : ℕ) → length bs ≤ v → scans f (drop v bs) c ≡ some c
  scans_end f bs v c h = ap (λ (l : List (Branch K)). scans f l c) (drop_of_length-le bs {i = v} h) ∙ scans_nil f c

  scans_next : (f : Target K → ℕ → Option ℕ) (bs : List (Branch K)) (v c : ℕ) → v < length bs → scans f (drop v bs) c ≡ bind (f (get_or bs v blank).to c) (λ d. scans f (drop (v + 1) bs) d)
  unfolding scans
  scans_next f bs v c h =
      ap (λ (l : List (Branch K)). scans f l c) (drop-cons bs v blank h)
      ∙ ap (λ (u : ℕ). bind (f (get_or bs v blank).to c) (λ d. scans f (drop u bs) d)) (sym (add-one v))

  pub scans_met : (f : Target K → ℕ → Option ℕ) (bs : List (Branch K)) (v c d : ℕ) → v < length bs → f (get_or bs v blank).to c ≡ some d → scans f (drop v bs) c ≡ scans f (drop (v + 1) bs) d
  unfolding bind
  scans_met f bs v c d h e = scans_next f bs v c h ∙ ap (λ (o : Option ℕ). bind o (λ x. scans f (drop (v + 1) bs) x)) e

  pub scans_none : (f : Target K → ℕ → Option ℕ) (bs : List (Branch K)) (v c : ℕ) → v < length bs → f (get_or bs v blank).to c ≡ none → scans f (drop v bs) c ≡ none
  unfolding bind
  scans_none f bs v c h e = scans_next f bs v c h ∙ ap (λ (o : Option ℕ). bind o (λ x. scans f (drop (v + 1) bs) x)) e

  pub scans_one : (f : Target K → ℕ → Option ℕ) (b : Branch K) (c : ℕ) → scans f (b ∷ []) c ≡ f b.to c
  unfolding scans
  scans_one f b c = bind_some (f b.to c)
