-- The diagram of lawful bytes is loose, that of lawful and canonical bytes is tidy; and where it is tidy the bytes are canonical. Assumes nothing.
use mathlib.Core.Path.{◌≡◌, sym, ap, subst, ◌∙◌}
use mathlib.Core.List.{List}
use mathlib.Core.Option.{Option, some}
use Prim.Native.Nat.{ℕ, suc, ◌≤◌, ◌<◌}
use native.Mathlib.Nat.{le_refl}
use native.Mathlib.Decide.{dec_lt, ℕ_discrete}
use native.Mathlib.Omega.{arith}
use lib.ListN.{length, get_or}
use Rattle.theory.specs.Kind.{Kind}
use Rattle.theory.specs.Diagrams.{Branch, Node, at, blank}
use Rattle.theory.specs.WellFormed.{AllOk, Ok, Under, WellFormed}
use Rattle.theory.specs.Walk.{Tidy}
use Rattle.theory.proofs.WellFormed.{all_ok_of, under_weaken}
use Rattle.sheet_bytes.specs.Frame.{Frame, Opens, Lower, Lawful, Alike, Canonical, features, sizes_of, count, feature, width, branch, node_of, nodes_of, heads, root, roots_of}
use Rattle.sheet_bytes.proofs.Framing.{sizes_length, sizes_at, size_least, nodes_length, nodes_at, feature_at, width_at, branch_at_lem, branches_all, roots_length, roots_at}

-- a node list but for what canonical form asks: a branch for each value of a known feature, each ends or goes to an earlier node of a higher feature
pub record Loose {K : Kind} (S : List ℕ) (N : List (Node K)) : Type 0 where
  pub known : (i : ℕ) → i < length N → (at N i).feature < length S
  pub full : (i : ℕ) → i < length N → length (at N i).branches ≡ get_or S (at N i).feature 0
  pub lower : (i v : ℕ) → Under N i (suc (at N i).feature) (get_or (at N i).branches v blank).to

module _ {K : Kind} {F : Frame K} {s : List ℕ} (o : Opens F s) (known : (i : ℕ) → i < count F s → feature F s i < features F s) where
  wide : (i : ℕ) → i < count F s → 2 ≤ width F s i
  wide i h = size_least o (feature F s i) (known i h)

  inside : (i : ℕ) → i < length (nodes_of F s) → i < count F s
  inside i h = omega (arith, nodes_length F s)

  -- ---- lawful nodes
  module _ (low : (i : ℕ) → i < count F s → Lower F s i) where
    pub nodes_loose : Loose (sizes_of F s) (nodes_of F s)
    nodes_loose =
        record {
          known = λ i h. omega (arith, feature_at F s i (inside i h), sizes_length o, known i (inside i h));
          full = λ i h. width_at F s i (inside i h)
              ∙ sym (ap (λ (k : ℕ). get_or (sizes_of F s) k 0) (feature_at F s i (inside i h)) ∙ sizes_at o (feature F s i) (known i (inside i h)));
          lower = branches_all F s (λ i b. Under (nodes_of F s) i (suc (at (nodes_of F s) i).feature) b.to) (λ i. tt)
              (λ i v h l. subst (λ (f : ℕ). Under (nodes_of F s) i (suc f) (branch F s i v).to) (sym (feature_at F s i h)) ((low i h).lower v l).under);
        }

    -- ---- and canonical ones
    module _ (differ : (i : ℕ) → i < count F s → Alike F s i → ⊥) (zeroed : (i : ℕ) → i < count F s → (branch F s i 0).adds ≡ K.nil)
        (once : (i j : ℕ) → i < j → j < count F s → node_of F s i ≡ node_of F s j → ⊥) where
      apart : (i j : ℕ) → i < count F s → j < count F s → node_of F s i ≡ node_of F s j → Dec (i ≡ j) → Dec (i < j) → i ≡ j
      apart i j hi hj e (yes q) d = q
      apart i j hi hj e (no q) (yes l) = absurd (once i j l hj e)
      apart i j hi hj e (no q) (no l) = absurd (once j i (omega arith) hi (sym e))

      pub nodes_wf : WellFormed (sizes_of F s) (nodes_of F s)
      nodes_wf =
          record {
            fits = λ i n.
                let h = inside i n in
                let z : 0 < width F s i = omega (arith, wide i h) in
                record {
                  known = nodes_loose.known i n;
                  full = nodes_loose.full i n;
                  differ = λ a. differ i h (record { alike = λ v l. sym (branch_at_lem F s i v h l) ∙ a v (omega (arith, width_at F s i h)) ∙ branch_at_lem F s i 0 h z });
                  zeroed = ap (λ (b : Branch K). b.adds) (branch_at_lem F s i 0 h z) ∙ zeroed i h;
                  lower = nodes_loose.lower i;
                };
            once = λ i j hi hj e. apart i j (inside i hi) (inside j hj) (sym (nodes_at F s i (inside i hi)) ∙ e ∙ nodes_at F s j (inside j hj)) (ℕ_discrete i j) (dec_lt i j);
          }

  -- ---- the bytes of a tidy diagram are canonical
  pub tidy_canonical : Tidy (sizes_of F s) (roots_of F s) (nodes_of F s) → Canonical F s
  tidy_canonical t =
      record {
        differ = λ i h a. (t.well.fits i (omega (arith, nodes_length F s))).differ
            (λ v l. let q : v < width F s i = omega (arith, width_at F s i h) in branch_at_lem F s i v h q ∙ a.alike v q ∙ sym (branch_at_lem F s i 0 h (omega (arith, wide i h))));
        zeroed = λ i h. ap (λ (b : Branch K). b.adds) (sym (branch_at_lem F s i 0 h (omega (arith, wide i h)))) ∙ (t.well.fits i (omega (arith, nodes_length F s))).zeroed;
        once = λ i j l h e.
            let q : i ≡ j = t.well.once i j (omega (arith, nodes_length F s)) (omega (arith, nodes_length F s)) (nodes_at F s i (omega arith) ∙ e ∙ sym (nodes_at F s j h)) in
            omega arith;
        order = t.in_order ∙ ap (λ (m : ℕ). let x : Option ℕ = some m in x) (nodes_length F s);
      }

module _ {K : Kind} {F : Frame K} {s : List ℕ} {n rest : ℕ} (L : Lawful F s n rest) where
  -- LAWFUL FORM alone
  pub lawful_loose : Loose (sizes_of F s) (nodes_of F s)
  lawful_loose = nodes_loose L.opens L.lays.known L.nodes

  pub lawful_roots : AllOk (nodes_of F s) (roots_of F s)
  lawful_roots = all_ok_of (nodes_of F s) (roots_of F s) (λ r l. root_ok r (omega (arith, roots_length F s)))
    where
      root_ok : (r : ℕ) → r < heads F s → Ok (nodes_of F s) 0 (get_or (roots_of F s) r blank)
      root_ok r l =
          subst (Ok (nodes_of F s) 0) (sym (roots_at F s r l))
          (under_weaken (nodes_of F s) (count F s) (length (nodes_of F s)) 0 0 (root F s r).to (omega (arith, nodes_length F s)) (le_refl _) (L.roots r (omega (arith, L.lays.tops))).under)

  -- with CANONICAL FORM
  pub lawful_tidy : Canonical F s → Tidy (sizes_of F s) (roots_of F s) (nodes_of F s)
  lawful_tidy C =
      record {
        well = nodes_wf L.opens L.lays.known L.nodes C.differ C.zeroed C.once;
        roots_ok = lawful_roots;
        in_order = C.order ∙ ap (λ (m : ℕ). let x : Option ℕ = some m in x) (sym (nodes_length F s));
      }
