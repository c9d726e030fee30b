-- The walk with a counter sees of a node list its shape alone: features, and where branches go. So lists of one shape are walked alike, of whatever kinds they are. Assumes nothing.
use mathlib.Core.Path.{◌≡◌, refl, sym, ap, ◌∙◌}
use mathlib.Core.Option.{Option, none, some}
use mathlib.Core.List.{List, [], ◌∷◌}
use Prim.Native.Nat.{ℕ, suc, ◌<◌}
use native.Mathlib.Decide.{ℕ_discrete, dec_lt}
use Rattle.theory.specs.Kind.{Kind}
use Rattle.theory.specs.Diagrams.{Branch, Node, Target, at, leaf, node}
use Rattle.theory.specs.Walk.{bind, close, scan, scans, step, visit}

-- one walk after the other, the second told in two ways
bind_ext : (o : Option ℕ) {f g : ℕ → Option ℕ} → ((d : ℕ) → f d ≡ g d) → bind o f ≡ bind o g
unfolding bind
bind_ext none e = refl
bind_ext (some d) e = e d

module _ {K M : Kind} where
  -- two targets end, or go to one node
  abbrev pub SameTo : Target K → Target M → Type 0
  SameTo (leaf e) (leaf f) = Unit {0}
  SameTo (leaf e) (node j) = ⊥
  SameTo (node i) (leaf f) = ⊥
  SameTo (node i) (node j) = i ≡ j

  -- so do the branches of two lists, one by one
  abbrev pub SameTos : List (Branch K) → List (Branch M) → Type 0
  SameTos [] [] = Unit {0}
  SameTos [] (c ∷ cs) = ⊥
  SameTos (b ∷ bs) [] = ⊥
  SameTos (b ∷ bs) (c ∷ cs) = SameTo b.to c.to × SameTos bs cs

  -- two node lists of one shape
  pub record SameShape (N : List (Node K)) (P : List (Node M)) : Type 0 where
    pub features : (i : ℕ) → (at N i).feature ≡ (at P i).feature
    pub branches : (i : ℕ) → SameTos (at N i).branches (at P i).branches

  -- walks that agree wherever two targets are the same
  abbrev Agreeing : (Target K → ℕ → Option ℕ) → (Target M → ℕ → Option ℕ) → Type 0
  Agreeing f g = (t : Target K) (u : Target M) → SameTo t u → (c : ℕ) → f t c ≡ g u c

  pub scans_shape : (f : Target K → ℕ → Option ℕ) (g : Target M → ℕ → Option ℕ) → Agreeing f g → (bs : List (Branch K)) (cs : List (Branch M)) → SameTos bs cs → (c : ℕ)
      → scans f bs c ≡ scans g cs c
  unfolding scans
  scans_shape f g e [] [] s c = refl
  scans_shape f g e [] (x ∷ cs) s c = absurd s
  scans_shape f g e (b ∷ bs) [] s c = absurd s
  scans_shape f g e (b ∷ bs) (x ∷ cs) s c =
      ap (λ (o : Option ℕ). bind o (λ d. scans f bs d)) (e b.to x.to s.0 c) ∙ bind_ext (g x.to c) (λ d. scans_shape f g e bs cs s.1 d)

  visit_shape : (x : Node K) (y : Node M) (k i c : ℕ) (f : Target K → ℕ → Option ℕ) (g : Target M → ℕ → Option ℕ) → x.feature ≡ y.feature → SameTos x.branches y.branches
      → Agreeing f g → (p : Dec (x.feature ≡ k)) (q : Dec (y.feature ≡ k)) (h : Dec (i < c)) → visit x k i c f p h ≡ visit y k i c g q h
  unfolding visit
  visit_shape x y k i c f g e s a (yes p) (yes q) (yes h) = refl
  visit_shape x y k i c f g e s a (yes p) (yes q) (no h) = ap (close i) (scans_shape f g a x.branches y.branches s c)
  visit_shape x y k i c f g e s a (yes p) (no q) h = absurd (q (sym e ∙ p))
  visit_shape x y k i c f g e s a (no p) (yes q) h = absurd (p (e ∙ q))
  visit_shape x y k i c f g e s a (no p) (no q) h = a (node i) (node i) refl c

  step_shape : {N : List (Node K)} {P : List (Node M)} → SameShape N P → (k : ℕ) (f : Target K → ℕ → Option ℕ) (g : Target M → ℕ → Option ℕ) → Agreeing f g
      → (t : Target K) (u : Target M) → SameTo t u → (c : ℕ) → step N k f t c ≡ step P k g u c
  unfolding step
  step_shape s k f g a (leaf e) (leaf d) o c = a (leaf e) (leaf d) tt c
  step_shape s k f g a (leaf e) (node j) o c = absurd o
  step_shape s k f g a (node i) (leaf d) o c = absurd o
  step_shape {N} {P} s k f g a (node i) (node j) o c =
      visit_shape (at N i) (at P i) k i c f g (s.features i) (s.branches i) a (ℕ_discrete (at N i).feature k) (ℕ_discrete (at P i).feature k) (dec_lt i c)
      ∙ ap (λ (n : ℕ). step P k g (node n) c) o

  -- THEOREM: lists of one shape are walked alike
  pub scan_shape : {N : List (Node K)} {P : List (Node M)} → SameShape N P → (k : ℕ) (S : List ℕ) (t : Target K) (u : Target M) → SameTo t u → (c : ℕ) → scan N k S t c ≡ scan P k S u c
  unfolding scan
  scan_shape s k [] t u o c = refl
  scan_shape {N} {P} s k (n ∷ ns) t u o c = step_shape s k (scan N (suc k) ns) (scan P (suc k) ns) (λ t' u' o' d. scan_shape s (suc k) ns t' u' o' d) t u o c
