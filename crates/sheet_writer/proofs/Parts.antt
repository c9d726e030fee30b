-- The parts of a place's sheet: its nodes by their numbers, its front and its back; and the whole laid over the output. Assumes nothing.
use mathlib.Core.Path.{◌≡◌, refl, sym, ap, ◌∙◌}
use mathlib.Core.Logic.{⊎_elim}
use mathlib.Core.List.{List, [], ◌∷◌, ◌++◌, append_assoc, append-nil}
use Prim.Native.Nat.{ℕ, zero, suc, ◌+◌, ◌*◌, ◌≤◌, ◌<◌}
use native.Mathlib.Omega.{arith}
use lib.ListN.{length, drop, length-append}
use lib.Seq.{sets, sets-eq}
use Rattle.theory.specs.Rules.{Branch, Built, Node, Rule}
use Rattle.theory.specs.Build.{build}
use Rattle.table_words.proofs.Tab.{split, tab_none, length_tab}
use Rattle.table_words.proofs.Words.{length_sizes}
use Rattle.rule_words.specs.Words.{branches}
use Rattle.sheet_bytes.specs.Sections.{two, section, branches_bytes, node_bytes, nodes_bytes, sheet_byte_list}
use Rattle.sheet_bytes.specs.Sheet.{branch_bytes, sheet_of}
use Rattle.sheet_laying.specs.Laid.{Laid, Puts}
use Rattle.sheet_laying.specs.declared.bytes.Cursor.{Cursor}
use Rattle.std.specs.Prelude as rattle
use Rattle.std.specs.Prelude.{Some, None}
use Rattle.rule_numbering.specs.declared.Notes.{Notes}
use Rattle.rule_numbering.specs.Numbering.{member, renumbered, node_in, numbered}
use Rattle.sheet_laying.proofs.Putting.{puts_same}
use Rattle.sheet_writer.proofs.Joining.{branches_snoc, length_branches, nodes_snoc, length_node}
use Rattle.promises.specs.Words.{features, size, sizes, feature, body}
use Rattle.promises.specs.RuleWords.{decode}

-- ---- the first v branches of a node
unfoldable pub begun : List ℕ → Notes → ℕ → ℕ → List ℕ
begun w n i v = branches_bytes branch_bytes (branches v (λ u. renumbered n (body w i u)))

module _ (w : List ℕ) (n : Notes) (i : ℕ) where
  pub begun_none : [] ≡ begun w n i 0
  unfolding begun branches_bytes
  begun_none = rw tab_none

  pub begun_more : (v : ℕ) → begun w n i v ++ branch_bytes (decode (renumbered n (body w i v))) ≡ begun w n i (v + 1)
  unfolding begun
  begun_more v =
      branches_snoc (λ u. decode (renumbered n (body w i u))) v
      ∙ ap (λ (m : ℕ). branches_bytes branch_bytes (branches m (λ u. renumbered n (body w i u)))) (let e : suc v ≡ v + 1 = omega arith in e)

  pub begun_all : (feature w i ∷ []) ++ begun w n i (size w (feature w i)) ≡ node_bytes branch_bytes (node_in w n i)
  unfolding begun node_bytes
  begun_all = refl

  pub length_begun : (v : ℕ) → length (begun w n i v) ≡ 3 * v
  unfolding begun
  length_begun v =
      omega (arith, length_branches (branches v (λ u. renumbered n (body w i u))), length_tab (λ u. decode (renumbered n (body w i u))) v)

  pub length_in : length (node_bytes branch_bytes (node_in w n i)) ≡ 1 + 3 * size w (feature w i)
  length_in = omega (arith, length_node (node_in w n i), length_tab (λ u. decode (renumbered n (body w i u))) (size w (feature w i)))

-- ---- the nodes by their numbers
module _ (w : List ℕ) (n : Notes) where
  pub bytes_none : nodes_bytes branch_bytes (numbered w n 0) ≡ []
  unfolding numbered nodes_bytes
  bytes_none = rw tab_none

  pub bytes_more : (j : ℕ) → nodes_bytes branch_bytes (numbered w n j) ++ node_bytes branch_bytes (node_in w n (member n j)) ≡ nodes_bytes branch_bytes (numbered w n (j + 1))
  unfolding numbered
  bytes_more j =
      nodes_snoc (λ k. node_in w n (member n k)) j
      ∙ ap (λ (m : ℕ). nodes_bytes branch_bytes (numbered w n m)) (let e : suc j ≡ j + 1 = omega arith in e)

  pub length_more : (j : ℕ) → length (nodes_bytes branch_bytes (numbered w n (j + 1))) ≡ length (nodes_bytes branch_bytes (numbered w n j)) + (1 + 3 * size w (feature w (member n j)))
  length_more j =
      omega (
        arith,
        ap length (bytes_more j),
        length-append (nodes_bytes branch_bytes (numbered w n j)) (node_bytes branch_bytes (node_in w n (member n j))),
        length_in w n (member n j),
      )

  -- fewer nodes have no more bytes
  pub length_fewer : (j c : ℕ) → j ≤ c → length (nodes_bytes branch_bytes (numbered w n j)) ≤ length (nodes_bytes branch_bytes (numbered w n c))
  length_fewer j zero h =
      let e : j ≡ 0 = omega arith in
      omega (arith, ap (λ (m : ℕ). length (nodes_bytes branch_bytes (numbered w n m))) e)
  length_fewer j (suc c) h = go (λ l. length_fewer j c l)
    where
      go : (j ≤ c → length (nodes_bytes branch_bytes (numbered w n j)) ≤ length (nodes_bytes branch_bytes (numbered w n c))) →
          length (nodes_bytes branch_bytes (numbered w n j)) ≤ length (nodes_bytes branch_bytes (numbered w n (suc c)))
      go ih = ⊎_elim
          (λ l.
          let e : c + 1 ≡ suc c = omega arith in
          omega (arith, ih (omega arith), length_more c, ap (λ (m : ℕ). length (nodes_bytes branch_bytes (numbered w n m))) e))
          (λ l. let e : j ≡ suc c = omega arith in omega (arith, ap (λ (m : ℕ). length (nodes_bytes branch_bytes (numbered w n m))) e))
          (split j (suc c))

-- ---- the front and the back
abbrev pub front : List ℕ → List ℕ
front S = section 1 (1 ∷ []) ++ section (length S) S

abbrev pub back : List Node → Branch → List ℕ
back N b = section (length N) (nodes_bytes branch_bytes N) ++ section 1 (branches_bytes branch_bytes (b ∷ []))

length_section : (n : ℕ) (l : List ℕ) → length (section n l) ≡ 2 + length l
unfolding section two
length_section n l = omega arith

pub length_front : (w : List ℕ) → length (front (sizes w)) ≡ 5 + features w
length_front w =
    omega (
      arith,
      length-append (section 1 (1 ∷ [])) (section (length (sizes w)) (sizes w)),
      length_section 1 (1 ∷ []),
      length_section (length (sizes w)) (sizes w),
      length_sizes w,
    )

length_back : (N : List Node) (b : Branch) → length (back N b) ≡ 7 + length (nodes_bytes branch_bytes N)
length_back N b =
    omega (
      arith,
      length-append (section (length N) (nodes_bytes branch_bytes N)) (section 1 (branches_bytes branch_bytes (b ∷ []))),
      length_section (length N) (nodes_bytes branch_bytes N),
      length_section 1 (branches_bytes branch_bytes (b ∷ [])),
      length_branches (b ∷ []),
    )

pub root_bytes : (b : Branch) → branch_bytes b ≡ branches_bytes branch_bytes (b ∷ [])
unfolding branches_bytes
root_bytes b = sym (append-nil (branch_bytes b))

-- ---- the whole
module _ (w : List ℕ) (g : Rule) (N : List Node) (b : Branch) (e : build 0 (sizes w) g [] ≡ (b, N)) where
  sheet_is : sheet_of (sizes w) g ≡ front (sizes w) ++ back N b
  unfolding sheet_of sheet_byte_list
  sheet_is =
      ap (λ (r : Built). sheet_byte_list branch_bytes (1 ∷ []) (sizes w) r.1 (r.0 ∷ [])) e
      ∙ sym (append_assoc (section 1 (1 ∷ [])) (section (length (sizes w)) (sizes w)) (back N b))

  sheet_long : length (sheet_of (sizes w) g) ≡ 12 + features w + length (nodes_bytes branch_bytes N)
  sheet_long = omega (arith, ap length sheet_is, length-append (front (sizes w)) (back N b), length_front w, length_back N b)

  pub laid_short : {out : List ℕ} → length out < 12 + features w + length (nodes_bytes branch_bytes N) → Laid (sheet_of (sizes w) g) out out None
  laid_short {out} h = record { short = λ l. (refl, refl); fits = λ l. absurd (omega (arith, sheet_long)) }

  -- and out' is what the output is once the cursor d is gone
  pub laid_whole : {c d : Cursor} {out' : List ℕ} → c.at ≡ 0 → 12 + features w + length (nodes_bytes branch_bytes N) ≤ length c.out.now →
      Puts (front (sizes w) ++ back N b) c d → out' ≡ d.out.now → Laid (sheet_of (sizes w) g) c.out.now out' (Some d.at)
  laid_whole {c} {d} z h p o =
      let q = puts_same (sym sheet_is) p in
      let l : 0 + length (sheet_of (sizes w) g) ≤ length c.out.now = omega (arith, sheet_long) in
      record {
        short = λ x. absurd (omega (arith, sheet_long));
        fits = λ x. (
          (let e : d.at ≡ length (sheet_of (sizes w) g) = omega (arith, q.ends) in ap (λ (n : ℕ). let o : rattle.Option ℕ = Some n in o) e),
          o ∙ q.bytes ∙ ap (λ (n : ℕ). sets c.out.now n (sheet_of (sizes w) g)) z ∙ sets-eq (sheet_of (sizes w) g) c.out.now 0 l
              ∙ ap (λ (k : ℕ). sheet_of (sizes w) g ++ drop k c.out.now) (let y : 0 + length (sheet_of (sizes w) g) ≡ length (sheet_of (sizes w) g) = omega arith in y),
        );
      }

-- none is answered only where the output is too short, and a number only where it is not
pub none_tells : {s out out' : List ℕ} → Laid s out out' None → length out < length s
none_tells {s} {out} l = ⊎_elim (λ q. q) (λ q. let z : ◌≡◌ {A = ℕ} 0 1 = (let e = (l.fits q).0 in cc) in absurd (omega arith)) (split (length out) (length s))

pub some_tells : {s out out' : List ℕ} {r : ℕ} → Laid s out out' (Some r) → length s ≤ length out
some_tells {s} {out} l = ⊎_elim (λ q. let z : ◌≡◌ {A = ℕ} 0 1 = (let e = (l.short q).0 in cc) in absurd (omega arith)) (λ q. q) (split (length out) (length s))
