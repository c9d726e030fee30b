-- What stands in the bytes of a diagram's sheet is that diagram: each section read from where the one before it ends; the bytes are lawful and canonical, and bytes. Assumes nothing.
use mathlib.Core.Path.{◌≡◌, refl, sym, ap, subst, ◌∙◌}
use mathlib.Core.List.{List, ◌++◌}
use Prim.Native.Nat.{ℕ, suc, ◌+◌, ◌≤◌, ◌<◌}
use native.Mathlib.Decide.{dec_lt}
use native.Mathlib.Omega.{arith}
use lib.ListN.{length, get_or, take, drop, length-drop, get_or-eq_default}
use lib.Seq.{ext_get_or, take_at}
use Rattle.theory.specs.Kind.{Kind}
use Rattle.theory.specs.Settings.{FeatureList}
use Rattle.theory.specs.Diagrams.{Branch, Node, at, blank, empty}
use Rattle.theory.specs.WellFormed.{Ok, Under}
use Rattle.theory.specs.Walk.{Tidy}
use Rattle.theory.proofs.WellFormed.{all_ok_at}
use Rattle.promises.specs.Sheet.{pair}
use Rattle.sheet_bytes.specs.Sections.{section, branches_bytes, node_bytes, nodes_bytes, sheet_byte_list}
use Rattle.sheet_bytes.specs.Hand.{Fair}
use Rattle.sheet_bytes.specs.Frame.{Frame, Regular, Opens, Lays, Stands, Lawful, Canonical, features, size, sizes_of, count, feature, width, spot_of}
use Rattle.sheet_bytes.specs.Frame.{branch, node_of, nodes_of, end, heads, root_spot, root, roots_of, after}
use Rattle.sheet_bytes.proofs.Sections.{Bytes, bytes_more, bytes_section, items_bytes, rest_head, rest_tail, rest_over, rest_at, moved, slid, section_at, items_rest}
use Rattle.sheet_bytes.proofs.Hands.{Smalls, branches_rest, branches_inside}
use Rattle.sheet_bytes.proofs.Framing.{front_inside, sizes_length, nodes_length, nodes_at, node_eq, node_feature, feature_at, branches_length, branches_at, branch_at_lem, roots_length, roots_at}
use Rattle.sheet_bytes.proofs.Forms.{tidy_canonical}
use Rattle.sheet_bytes.proofs.Framed.{roots_on, nodes_on, sizes_on, sheet_parts}

-- s is the sheet of a tidy diagram whose branches have bytes: E in the first section, the sizes S, the nodes N, the roots; then the tail
pub record Drawn {K : Kind} (F : Frame K) (E S : List ℕ) (N : List (Node K)) (roots : List (Branch K)) (tail s : List ℕ) : Type 0 where
  pub bytes : sheet_byte_list F.hand.bytes E S N roots ++ tail ≡ s
  pub first : length E ≡ F.first
  pub list : FeatureList S
  pub tidy : Tidy S roots N
  pub small : (i : ℕ) → i < length N → Smalls F.hand (at N i).branches
  pub roots_small : Smalls F.hand roots

module _ {K : Kind} {F : Frame K} (R : Regular F) {E S : List ℕ} {N : List (Node K)} {roots : List (Branch K)} {tail s : List ℕ} (d : Drawn F E S N roots tail s) where
  -- ---- the bytes from the roots, the nodes, the sizes on
  abbrev last : List ℕ
  last = roots_on F.hand.bytes E S N roots tail

  abbrev bytes_of : List (Node K) → List ℕ
  bytes_of = nodes_bytes F.hand.bytes

  start : (pair s 0 ≡ length E) × (drop 2 s ≡ E ++ sizes_on F.hand.bytes E S N roots tail)
  start = section_at s 0 (length E) E _ (sym d.bytes ∙ sheet_parts F.hand.bytes E S N roots tail)

  pub first_read : take F.first (drop 2 s) ≡ E
  first_read = ap (take F.first) start.1 ∙ take_at E _ F.first d.first

  sizes_from : (features F s ≡ length S) × (drop (4 + F.first) s ≡ S ++ nodes_on F.hand.bytes E S N roots tail)
  sizes_from =
      let t = section_at s (2 + F.first) (length S) S _ (moved s (2 + length E) (2 + F.first) _ (omega (arith, d.first)) (rest_over s 2 E _ start.1)) in
      (t.0, moved s (2 + F.first + 2) (4 + F.first) _ (omega arith) t.1)

  pub sizes_read : sizes_of F s ≡ S
  unfolding sizes_of
  sizes_read = ap (take (features F s)) sizes_from.1 ∙ take_at S _ (features F s) (sym sizes_from.0)

  size_read : (k : ℕ) → k < length S → size F s k ≡ get_or S k 0
  size_read k h = rest_at s (4 + F.first) S _ sizes_from.1 k h

  nodes_from : (count F s ≡ length N) × (drop (4 + F.first + features F s + 2) s ≡ bytes_of N ++ last)
  nodes_from =
      section_at s (4 + F.first + features F s) (length N) (bytes_of N) last
      (moved s (4 + F.first + length S) (4 + F.first + features F s) _ (omega (arith, sizes_from.0)) (rest_over s (4 + F.first) S _ sizes_from.1))

  -- ---- the nodes
  Reads : ℕ → Type 0
  Reads i = (node_of F s i ≡ at N i) × ((v : ℕ) → v < width F s i → F.hand.Fine s (spot_of F s i v))

  node_rest : (i : ℕ) → i < length N → (r : List ℕ) → drop (F.place s i) s ≡ node_bytes F.hand.bytes (at N i) ++ r → Reads i × (drop (F.place s (suc i)) s ≡ r)
  unfolding Reads node_bytes
  node_rest i h r p =
      let x = at N i in
      let a : feature F s i ≡ x.feature = rest_head s (F.place s i) _ _ p in
      let u = branches_rest R.fair s x.branches (F.place s i + 1) r (d.small i h) (rest_tail s (F.place s i) _ _ p) in
      let y = d.tidy.well.fits i h in
      let z : width F s i ≡ length x.branches = ap (size F s) a ∙ size_read x.feature y.known ∙ sym y.full in
      let b = ext_get_or blank (node_of F s i).branches x.branches (branches_length F s i ∙ z)
      (λ v l. branches_at F s i v (omega (arith, branches_length F s i)) ∙ (u.0 v (omega (arith, branches_length F s i))).0) in
      ((node_eq (node_feature F s i ∙ a) b, λ v l. (u.0 v (omega arith)).1), slid s (F.place s (suc i)) (spot_of F s i (length x.branches)) (R.next s i ∙ ap (spot_of F s i) z) ∙ u.1)

  nodes_rest : ((i : ℕ) → i < length N → Reads i) × (drop (F.place s (length N)) s ≡ last)
  unfolding nodes_bytes
  nodes_rest =
      items_rest (node_bytes F.hand.bytes) bytes_of refl (λ x l. refl) s (F.place s) Reads empty N last
      (moved s (4 + F.first + features F s + 2) (F.place s 0) _ (omega (arith, R.front s)) nodes_from.1) node_rest

  pub nodes_read : nodes_of F s ≡ N
  unfolding Reads
  nodes_read =
      let c = nodes_from.0 in
      ext_get_or empty (nodes_of F s) N (nodes_length F s ∙ c)
      (λ i h. let l : i < count F s = omega (arith, nodes_length F s) in nodes_at F s i l ∙ (nodes_rest.0 i (omega arith)).0)

  -- ---- the roots
  end_from : drop (end F s) s ≡ last
  end_from = ap (λ (i : ℕ). drop (F.place s i) s) nodes_from.0 ∙ nodes_rest.1

  roots_from : (heads F s ≡ length roots) × (drop (end F s + 2) s ≡ branches_bytes F.hand.bytes roots ++ tail)
  roots_from = section_at s (end F s) (length roots) (branches_bytes F.hand.bytes roots) tail end_from

  roots_rest : ((r : ℕ) → r < length roots → (root F s r ≡ get_or roots r blank) × F.hand.Fine s (root_spot F s r)) × (drop (root_spot F s (length roots)) s ≡ tail)
  roots_rest = branches_rest R.fair s roots (end F s + 2) tail d.roots_small roots_from.1

  pub roots_read : roots_of F s ≡ roots
  roots_read =
      let c = roots_from.0 in
      ext_get_or blank (roots_of F s) roots (roots_length F s ∙ c) (λ r h. roots_at F s r (omega (arith, roots_length F s)) ∙ (roots_rest.0 r (omega (arith, roots_length F s))).0)

  pub tail_read : drop (after F s) s ≡ tail
  tail_read = slid s (after F s) (root_spot F s (length roots)) (ap (root_spot F s) roots_from.0) ∙ roots_rest.1

  -- ---- the forms
  tidy_read : Tidy (sizes_of F s) (roots_of F s) (nodes_of F s)
  tidy_read =
      subst (λ (T : List ℕ). Tidy T (roots_of F s) (nodes_of F s)) (sym sizes_read)
      (subst (λ (bs : List (Branch K)). Tidy S bs (nodes_of F s)) (sym roots_read) (subst (Tidy S roots) (sym nodes_read) d.tidy))

  -- the roots' section is there
  long : end F s + 2 ≤ length s
  unfolding section
  long = let l : length (drop (end F s) s) ≡ length last = ap length end_from in omega (arith, length-drop (end F s) s)

  opens : Opens F s
  opens = record { start = start.0 ∙ d.first; long = omega (arith, long, front_inside R s); list = subst FeatureList (sym sizes_read) d.list }

  known : (i : ℕ) → i < count F s → feature F s i < features F s
  known i h = omega (arith, feature_at F s i h, sizes_length opens, (tidy_read.well.fits i (omega (arith, nodes_length F s))).known)

  pub drawn_canonical : Canonical F s
  drawn_canonical = tidy_canonical opens known tidy_read

  module _ (B : Bytes s) where
    lays : Lays F s (length roots) (length tail)
    lays =
        let c = roots_from.0 in
        let m : after F s ≤ length s = branches_inside R.fair s B (end F s + 2) (heads F s) long (λ r l. (roots_rest.0 r (omega arith)).1) in
        let l : length (drop (after F s) s) ≡ length tail = ap length tail_read in
        record { known = known; tops = c; ends = omega (arith, length-drop (after F s) s) }

    stands : (i : ℕ) → i < count F s → (v : ℕ) → v < width F s i → Stands F s i (suc (feature F s i)) (spot_of F s i v)
    unfolding Reads
    stands i h v l =
        record {
          fine = (nodes_rest.0 i (omega (arith, nodes_from.0))).1 v l;
          under = subst (λ (f : ℕ). Under (nodes_of F s) i (suc f) (branch F s i v).to) (feature_at F s i h)
              (subst (λ (b : Branch K). Under (nodes_of F s) i (suc (at (nodes_of F s) i).feature) b.to) (branch_at_lem F s i v h l)
              ((tidy_read.well.fits i (omega (arith, nodes_length F s))).lower v));
        }

    top : (r : ℕ) → r < heads F s → Under (nodes_of F s) (count F s) 0 (root F s r).to
    top r h =
        subst (λ (m : ℕ). Under (nodes_of F s) m 0 (root F s r).to) (nodes_length F s)
        (subst (Ok (nodes_of F s) 0) (roots_at F s r h) (all_ok_at (nodes_of F s) (roots_of F s) r tidy_read.roots_ok))

    pub drawn_lawful : Lawful F s (length roots) (length tail)
    drawn_lawful =
        record {
          opens = opens;
          lays = lays;
          nodes = λ i h. record { lower = stands i h };
          roots = λ r h. record { fine = (roots_rest.0 r h).1; under = top r (omega (arith, roots_from.0)) };
        }

-- ---- the numbers are bytes
bytes_sizes : (S : List ℕ) → FeatureList S → Bytes S
bytes_sizes S f k = go (dec_lt k (length S))
  where
    go : Dec (k < length S) → get_or S k 0 < 256
    go (yes h) = omega (arith, f.most k h)
    go (no h) = let e : get_or S k 0 ≡ 0 = get_or-eq_default S 0 (omega arith) in omega arith

pub drawn_bytes : {K : Kind} {F : Frame K} → Fair F.hand → {E S : List ℕ} {N : List (Node K)} {roots : List (Branch K)} {tail s : List ℕ} → Drawn F E S N roots tail s →
    length E < 65536 → length N < 65536 → length roots < 65536 → Bytes E → Bytes tail → Bytes s
unfolding branches_bytes node_bytes nodes_bytes
drawn_bytes {K} {F} f {E} {S} {N} {roots} {tail} d e n r a t =
    subst Bytes (sym (sheet_parts F.hand.bytes E S N roots tail) ∙ d.bytes)
    (bytes_section (length E) E _ e a
    (bytes_section (length S) S _ (omega (arith, d.list.few)) (bytes_sizes S d.list)
    (bytes_section (length N) (nodes_bytes F.hand.bytes N) _ n (items_bytes (node_bytes F.hand.bytes) (nodes_bytes F.hand.bytes) refl (λ x l. refl) empty N node)
    (bytes_section (length roots) (branches_bytes F.hand.bytes roots) tail r (branches roots d.roots_small) t))))
  where
    branches : (bs : List (Branch K)) → Smalls F.hand bs → Bytes (branches_bytes F.hand.bytes bs)
    branches bs h = items_bytes F.hand.bytes (branches_bytes F.hand.bytes) refl (λ b l. refl) blank bs (λ v l. f.narrow (get_or bs v blank) (h v l))

    node : (i : ℕ) → i < length N → Bytes (node_bytes F.hand.bytes (at N i))
    node i h =
        bytes_more (at N i).feature (branches_bytes F.hand.bytes (at N i).branches) (omega (arith, (d.tidy.well.fits i h).known, d.list.few)) (branches (at N i).branches (d.small i h))
