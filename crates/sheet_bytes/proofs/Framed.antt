-- Lawful bytes of any kind written again, section after section, are the same. Assumes nothing.
use mathlib.Core.Path.{◌≡◌, refl, sym, ap, ◌∙◌}
use mathlib.Core.List.{List, ◌∷◌, ◌++◌, append_assoc}
use Prim.Native.Nat.{ℕ, suc, ◌+◌, ◌≤◌, ◌<◌}
use native.Mathlib.Nat.{zero-add}
use native.Mathlib.Omega.{arith}
use lib.ListN.{length, take, drop, length-take, length-drop, take-append-drop}
use lib.Seq.{drop-drop}
use Rattle.theory.specs.Kind.{Kind}
use Rattle.theory.specs.Diagrams.{Branch, Node}
use Rattle.promises.specs.Sheet.{row}
use Rattle.sheet_bytes.specs.Sections.{section, branches_bytes, node_bytes, nodes_bytes, sheet_byte_list}
use Rattle.sheet_bytes.specs.Frame.{Frame, Regular, Lawful, features, sizes_of, count, feature, width, spot_of, branch, node_of, nodes_of, end, heads, roots_of, after}
use Rattle.sheet_bytes.proofs.Sections.{Bytes, slid, cut, section_back, items_back}
use Rattle.sheet_bytes.proofs.Hands.{branches_back}
use Rattle.sheet_bytes.proofs.Framing.{node_inside, roots_inside, sizes_length, nodes_length, roots_length}

-- the four sections and what follows them
module _ {K : Kind} (bytes : Branch K → List ℕ) (E S : List ℕ) (N : List (Node K)) (roots : List (Branch K)) (tail : List ℕ) where
  abbrev pub roots_on : List ℕ
  roots_on = section (length roots) (branches_bytes bytes roots) ++ tail

  abbrev pub nodes_on : List ℕ
  nodes_on = section (length N) (nodes_bytes bytes N) ++ roots_on

  abbrev pub sizes_on : List ℕ
  sizes_on = section (length S) S ++ nodes_on

  pub sheet_parts : sheet_byte_list bytes E S N roots ++ tail ≡ section (length E) E ++ sizes_on
  unfolding sheet_byte_list
  sheet_parts =
      append_assoc (section (length E) E) _ tail
      ∙ ap (λ (r : List ℕ). section (length E) E ++ r)
      (append_assoc (section (length S) S) _ tail ∙ ap (λ (r : List ℕ). section (length S) S ++ r) (append_assoc (section (length N) (nodes_bytes bytes N)) _ tail))

-- n bytes from p on
part_back : (s : List ℕ) (p n : ℕ) → drop p s ≡ take n (drop p s) ++ drop (p + n) s
part_back s p n = sym (take-append-drop n (drop p s)) ∙ ap (λ (r : List ℕ). take n (drop p s) ++ r) (drop-drop n p s)

module _ {K : Kind} {F : Frame K} (R : Regular F) {s : List ℕ} (B : Bytes s) {n rest : ℕ} (L : Lawful F s n rest) where
  abbrev bytes : Branch K → List ℕ
  bytes = F.hand.bytes

  long : end F s + 2 ≤ length s
  long = omega (arith, roots_inside R s, L.lays.ends)

  node_back : (i : ℕ) → i < count F s → drop (F.place s i) s ≡ node_bytes bytes (node_of F s i) ++ drop (F.place s (suc i)) s
  unfolding node_of node_bytes
  node_back i l =
      cut s (F.place s i) (omega (arith, node_inside R s i l, long))
      ∙ ap (λ (r : List ℕ). feature F s i ∷ r)
      (branches_back R.fair s B (F.place s i + 1) (width F s i) (λ v d. ((L.nodes i l).lower v d).fine)
      ∙ ap (λ (r : List ℕ). branches_bytes bytes (row 0 (width F s i) (branch F s i)) ++ r) (slid s (spot_of F s i (width F s i)) (F.place s (suc i)) (sym (R.next s i))))

  roots_back : drop (end F s) s ≡ roots_on bytes (take F.first (drop 2 s)) (sizes_of F s) (nodes_of F s) (roots_of F s) (drop (after F s) s)
  unfolding roots_of
  roots_back =
      section_back s B (end F s) (length (roots_of F s)) (branches_bytes bytes (roots_of F s)) (drop (after F s) s) (omega (arith, long)) (sym (roots_length F s))
      (branches_back R.fair s B (end F s + 2) (heads F s) (λ v d. (L.roots v (omega (arith, L.lays.tops))).fine))

  nodes_again : drop (4 + F.first + features F s) s ≡ nodes_on bytes (take F.first (drop 2 s)) (sizes_of F s) (nodes_of F s) (roots_of F s) (drop (after F s) s)
  unfolding nodes_of nodes_bytes
  nodes_again =
      section_back s B (4 + F.first + features F s) (length (nodes_of F s)) (nodes_bytes bytes (nodes_of F s)) _ (omega (arith, L.opens.long)) (sym (nodes_length F s))
      (slid s (4 + F.first + features F s + 2) (F.place s 0) (omega (arith, R.front s))
      ∙ items_back (node_bytes bytes) (nodes_bytes bytes) refl (λ x l. refl) s (F.place s) (node_of F s) (count F s) 0 (count F s) (zero-add (count F s)) node_back
      ∙ ap (λ (r : List ℕ). nodes_bytes bytes (nodes_of F s) ++ r) roots_back)

  sizes_back : drop (2 + F.first) s ≡ sizes_on bytes (take F.first (drop 2 s)) (sizes_of F s) (nodes_of F s) (roots_of F s) (drop (after F s) s)
  unfolding sizes_of
  sizes_back =
      section_back s B (2 + F.first) (length (sizes_of F s)) (sizes_of F s) _ (omega (arith, L.opens.long)) (sym (sizes_length L.opens))
      (slid s (2 + F.first + 2) (4 + F.first) (omega arith) ∙ part_back s (4 + F.first) (features F s) ∙ ap (λ (r : List ℕ). sizes_of F s ++ r) nodes_again)

  -- LAWFUL BYTES are the sheet of what they say, and what follows it
  pub lawful_back : s ≡ sheet_byte_list bytes (take F.first (drop 2 s)) (sizes_of F s) (nodes_of F s) (roots_of F s) ++ drop (after F s) s
  lawful_back =
      section_back s B 0 (length (take F.first (drop 2 s))) (take F.first (drop 2 s)) _ (omega (arith, L.opens.long)) (L.opens.start ∙ sym first)
      (part_back s 2 F.first ∙ ap (λ (r : List ℕ). take F.first (drop 2 s) ++ r) sizes_back)
      ∙ sym (sheet_parts bytes (take F.first (drop 2 s)) (sizes_of F s) (nodes_of F s) (roots_of F s) (drop (after F s) s))
    where
      first : length (take F.first (drop 2 s)) ≡ F.first
      first = simp (length-take, length-drop) (omega (arith, L.opens.long))
