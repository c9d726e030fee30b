-- Offsets put on and taken off: amounts, branches, lists of branches, nodes. Assumes nothing.
use mathlib.Core.Path.{◌≡◌, refl, sym, ap, ◌∙◌}
use mathlib.Core.List.{List, [], ◌∷◌, map}
use Prim.Native.Nat.{ℕ, zero, suc, ◌<◌}
use native.Mathlib.Nat.{not-suc-le-zero}
use native.Mathlib.Omega.{arith}
use lib.ListN.{length, get_or, length-map}
use Rattle.theory.specs.Kind.{Kind}
use Rattle.theory.specs.Deciding.{Alike}
use Rattle.theory.specs.Functions.{Amount, lift}
use Rattle.theory.specs.Diagrams.{Branch, Node, base, blank, less, node, node_of, up}
use Rattle.theory.proofs.Lists.{get_or_map_in, map_undo}

module _ {K : Kind} where
  up_less : (a : K.Off) (b : Branch K) → up a (less a b) ≡ b
  up_less a b = λ i. record {
    adds = (sym (K.group.plus_assoc a (K.neg a) b.adds) ∙ ap (λ (c : K.Off). K.plus c b.adds) (K.group.plus_neg a)
        ∙ K.group.nil_plus b.adds) i;
    to = b.to;
  }

  pub less_up : (a : K.Off) (b : Branch K) → less a (up a b) ≡ b
  less_up a b = λ i. record {
    adds = (sym (K.group.plus_assoc (K.neg a) a b.adds) ∙ ap (λ (c : K.Off). K.plus c b.adds) (K.group.neg_plus a)
        ∙ K.group.nil_plus b.adds) i;
    to = b.to;
  }

  -- the node's branch v, with the base put back
  pub base_back : (bs : List (Branch K)) (v : ℕ) → v < length bs → up (base bs) (get_or (map (less (base bs)) bs) v blank) ≡ get_or bs v blank
  base_back bs v h = ap (up (base bs)) (get_or_map_in (less (base bs)) blank blank bs v h) ∙ up_less (base bs) (get_or bs v blank)

  -- taking the base off keeps branches apart
  pub less_alike : (bs : List (Branch K)) → Alike blank (map (less (base bs)) bs) → Alike blank bs
  less_alike [] a i h = absurd (not-suc-le-zero h)
  less_alike (b ∷ bs) a i h =
      sym (base_back (b ∷ bs) i h) ∙ ap (up b.adds) (a i (omega (arith, length-map (b ∷ bs) (less b.adds)))) ∙ up_less b.adds b

  pub base_zero : (bs : List (Branch K)) → base (map (less (base bs)) bs) ≡ K.nil
  base_zero [] = refl
  base_zero (b ∷ bs) = K.group.neg_plus b.adds

  pub less_to : (a : K.Off) (bs : List (Branch K)) (v : ℕ) → (get_or (map (less a) bs) v blank).to ≡ (get_or bs v blank).to
  less_to a [] v = refl
  less_to a (b ∷ bs) zero = refl
  less_to a (b ∷ bs) (suc v) = less_to a bs v

  -- a node's branches, an offset put on each
  module _ (bs : List (Branch K)) (a : K.Off) (z : base bs ≡ K.nil) (l : 0 < length bs) where
    pub base_up : base (map (up a) bs) ≡ a
    base_up = ap (λ (b : Branch K). b.adds) (get_or_map_in (up a) blank blank bs 0 l) ∙ ap (K.plus a) z ∙ K.group.plus_nil a

    pub node_of_up : (k : ℕ) → record { feature = k; branches = bs } ≡ node_of k (map (up a) bs)
    node_of_up k =
        let e : map (less (base (map (up a) bs))) (map (up a) bs) ≡ bs =
        ap (λ (c : K.Off). map (less c) (map (up a) bs)) base_up ∙ map_undo (up a) (less a) (less_up a) bs in
        λ i. record { feature = k; branches = sym e i }

    pub up_alike : Alike blank (map (up a) bs) → Alike blank bs
    up_alike h i hi =
        let e : up a (get_or bs i blank) ≡ up a (get_or bs 0 blank) =
        sym (get_or_map_in (up a) blank blank bs i hi) ∙ h i (omega (arith, length-map bs (up a))) ∙ get_or_map_in (up a) blank blank bs 0 l in
        sym (less_up a (get_or bs i blank)) ∙ ap (less a) e ∙ less_up a (get_or bs 0 blank)

  pub lift_undo : (a : K.Off) (x : Amount K) → lift (K.neg a) (lift a x) ≡ x
  lift_undo a x = λ i. record {
    off = (sym (K.group.plus_assoc (K.neg a) a x.off) ∙ ap (λ (c : K.Off). K.plus c x.off) (K.group.neg_plus a)
        ∙ K.group.nil_plus x.off) i;
    end = x.end;
  }

  pub lift_redo : (a : K.Off) (x : Amount K) → lift a (lift (K.neg a) x) ≡ x
  lift_redo a x = λ i. record {
    off = (sym (K.group.plus_assoc a (K.neg a) x.off) ∙ ap (λ (c : K.Off). K.plus c x.off) (K.group.plus_neg a)
        ∙ K.group.nil_plus x.off) i;
    end = x.end;
  }

  less_both : (a c : K.Off) (b : Branch K) → less (K.plus a c) (up a b) ≡ less c b
  less_both a c b =
      let y : K.Off = K.plus (K.neg c) b.adds in
      let e : b.adds ≡ K.plus c y = sym (ap (λ (z : K.Off). K.plus z b.adds) (K.group.plus_neg c) ∙ K.group.nil_plus b.adds) ∙ K.group.plus_assoc c (K.neg c) b.adds in
      let f : K.plus a b.adds ≡ K.plus (K.plus a c) y = ap (K.plus a) e ∙ sym (K.group.plus_assoc a c y) in
      let g : K.plus (K.neg (K.plus a c)) (K.plus (K.plus a c) y) ≡ y =
      sym (K.group.plus_assoc (K.neg (K.plus a c)) (K.plus a c) y) ∙ ap (λ (z : K.Off). K.plus z y) (K.group.neg_plus (K.plus a c)) ∙ K.group.nil_plus y in
      λ i. record { adds = (ap (K.plus (K.neg (K.plus a c))) f ∙ g) i; to = b.to }

  pub map_less_both : (a c : K.Off) (bs : List (Branch K)) → map (less (K.plus a c)) (map (up a) bs) ≡ map (less c) bs
  map_less_both a c [] = refl
  map_less_both a c (b ∷ bs) = λ i. less_both a c b i ∷ map_less_both a c bs i

  less_nil : (b : Branch K) → less K.nil b ≡ b
  less_nil b =
      let n : K.neg K.nil ≡ K.nil = sym (K.group.plus_nil (K.neg K.nil)) ∙ K.group.neg_plus K.nil in
      λ i. record { adds = (ap (λ (a : K.Off). K.plus a b.adds) n ∙ K.group.nil_plus b.adds) i; to = b.to }

  map_less_nil : (bs : List (Branch K)) → map (less K.nil) bs ≡ bs
  map_less_nil [] = refl
  map_less_nil (b ∷ bs) = λ i. less_nil b i ∷ map_less_nil bs i

  -- a list whose branch 0 adds nothing is its node's list (of rules every list: refl)
  abbrev pub Level : List (Branch K) → Type 0
  Level bs = base bs ≡ K.nil

  abbrev pub node_with : ℕ → List (Branch K) → Node K
  node_with k bs = record { feature = k; branches = bs }

  abbrev pub branch_to : ℕ → Branch K
  branch_to i = record { adds = K.nil; to = node i }

  pub level_node : (k : ℕ) (bs : List (Branch K)) → Level bs → node_of k bs ≡ node_with k bs
  level_node k bs e = ap (node_with k) (ap (λ (a : K.Off). map (less a) bs) e ∙ map_less_nil bs)
