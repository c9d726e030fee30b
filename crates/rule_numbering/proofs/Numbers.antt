-- Numbering the nodes that a branch reaches: a phrase, a node that has a number, the branches of a node in turn, a node that gets one. Assumes nothing.
use Rattle.std.specs.Prelude.{Option, Some, None}
use Rattle.std.specs.Option.{is_some}
use mathlib.Core.Bool.{true, false}
use mathlib.Core.Path.{◌≡◌, refl, sym, ap, ap₂, subst, ◌∙◌}
use mathlib.Core.Logic.{⊎_elim}
use mathlib.Core.List.{List, [], ◌∷◌, ◌++◌}
use Prim.Native.Nat.{ℕ, suc, ◌+◌, ◌-◌, ◌≤◌, ◌<◌}
use native.Mathlib.Omega.{arith}
use borrow.Author.Tests.{lt-ltb, le-ltb}
use lib.ListN.{length, get_or, set, length-set}
use lib.Seq.{get_or-set_same, get_or-set_other}
use Rattle.theory.specs.Copying.{Copies, Half, Lists, Twin}
use Rattle.theory.specs.Diagrams as D
use Rattle.theory.specs.Diagrams.{at}
use Rattle.theory.specs.Rules.{Branch, Node}
use Rattle.theory.specs.Settings.{Pos}
use Rattle.theory.specs.WellFormed.{Under}
use Rattle.theory.proofs.Copying.{copies_leaf, copies_twin, copies_new, lists_none, lists_more, half_none, half_new, marked_le, marked_lt, marked_more, marked_none}
use Rattle.theory.proofs.Lists.{pos_of}
use Rattle.theory.proofs.WellFormed.{under_weaken}
use Rattle.table_words.proofs.Tab.{split, tab_none, tab_snoc, tab_ext, length_tab}
use Rattle.table_words.proofs.Words.{length_sizes, at_sizes}
use Rattle.rule_words.specs.Words.{branches}
use Rattle.table_words.proofs.Reading.{goal_below}
use Rattle.rule_words.proofs.Reading.{decode_phrase, decode_index, length_nodes, at_nodes, branch_at_lem}
use Rattle.rule_words.proofs.Regular.{regular}
use Rattle.rule_numbering.specs.declared.Notes.{Notes}
use Rattle.rule_numbering.specs.Walkable.{Walkable, Stands}
use Rattle.rule_numbering.specs.Numbering.{marking, mark, member, renumbered, Has, node_in, numbered, Noted, Numbers, Numbering}
use Rattle.rule_numbering.specs.Running.{Blank}
use Rattle.promises.specs.Tab.{tab}
use Rattle.promises.specs.Words.{features, size, count, sizes, feature, body}
use Rattle.promises.specs.RuleWords.{decode, rule_node_list as nodes}

-- ---- words renumbered
pub renumbered_phrase : (n : Notes) (b : ℕ) → b < 65536 → renumbered n b ≡ b
unfolding renumbered
renumbered_phrase n b h = rw (lt-ltb b 65536 h)

pub renumbered_node : (n : Notes) (b : ℕ) → 65536 ≤ b → renumbered n b ≡ 65535 + mark n (b - 65536)
unfolding renumbered
renumbered_node n b h = rw (le-ltb b 65536 h)

-- the test whether a node has a number
pub some_marked : (o : Option ℕ) → true ≡ is_some o → 0 < marking o
some_marked (Some j) e = omega arith
some_marked None e = let z : true ≡ false = e in cc

pub none_marked : (o : Option ℕ) → false ≡ is_some o → marking o ≡ 0
none_marked (Some j) e = let z : false ≡ true = e in cc
none_marked None e = refl

-- a node that has a number, and one that has none
pub renumbered_some : (n : Notes) (b : ℕ) {j : ℕ} → 65536 ≤ b → get_or n.numbers (b - 65536) None ≡ Some j → renumbered n b ≡ 65536 + j
renumbered_some n b h e = omega (arith, renumbered_node n b h, ap marking e)

pub renumbered_none : (n : Notes) (b : ℕ) → 65536 ≤ b → get_or n.numbers (b - 65536) None ≡ None → renumbered n b ≡ 65535
renumbered_none n b h e = omega (arith, renumbered_node n b h, ap marking e)

-- a node that keeps its number keeps its word
pub renumbered_kept : (n n' : Notes) (b : ℕ) → (65536 ≤ b → mark n' (b - 65536) ≡ mark n (b - 65536)) → renumbered n' b ≡ renumbered n b
renumbered_kept n n' b k = ⊎_elim
    (λ h. renumbered_phrase n' b h ∙ sym (renumbered_phrase n b h))
    (λ h. renumbered_node n' b h ∙ ap (λ (x : ℕ). 65535 + x) (k h) ∙ sym (renumbered_node n b h))
    (split b 65536)

pub numbered_none : (w : List ℕ) (n : Notes) → numbered w n 0 ≡ []
unfolding numbered
numbered_none w n = tab_none (λ j. node_in w n (member n j))

pub length_numbered : (w : List ℕ) (n : Notes) (c : ℕ) → length (numbered w n c) ≡ c
unfolding numbered
length_numbered w n c = length_tab (λ j. node_in w n (member n j)) c

-- ---- a table that can be walked
module _ {w : List ℕ} (s : Walkable w) where
  pub positive : Pos (sizes w)
  positive = pos_of (sizes w) (λ k h. omega (arith, s.list.least k h))

  pub few : features w ≤ 16
  few = omega (arith, s.list.few, length_sizes w)

  pub known : (i : ℕ) → i < count w → feature w i < features w
  known i h =
      let k = (s.wf.fits i (omega (arith, length_nodes w))).known in
      omega (arith, ap (λ (x : Node). x.feature) (at_nodes w i h), length_sizes w)

  pub size_most : (k : ℕ) → k < features w → size w k ≤ 8
  size_most k h = omega (arith, s.list.most k (omega (arith, length_sizes w)), at_sizes w k h)

  pub sized : (i : ℕ) → i < count w → size w (feature w i) ≤ 8
  sized i h = size_most (feature w i) (known i h)

  -- a word that says a branch of the table is below the words past its nodes
  pub stands_below : (b : ℕ) → Stands w b → b < 65536 + count w
  stands_below b o = omega (arith, goal_below regular (nodes w) (length (nodes w)) 0 b o, length_nodes w)

  -- the node that it says is one of the table's
  pub node_below : {b : ℕ} → 65536 ≤ b → Stands w b → b - 65536 < count w
  node_below {b} h o = omega (arith, stands_below b o)

  branch_under : (i v : ℕ) → i < count w → v < size w (feature w i) → Under (nodes w) i (suc (at (nodes w) i).feature) (decode (body w i v)).to
  branch_under i v h hv =
      subst (λ (b : Branch). Under (nodes w) i (suc (at (nodes w) i).feature) b.to) (branch_at_lem w i v h hv) ((s.wf.fits i (omega (arith, length_nodes w))).lower v)

  -- branch v of node i says a node before i
  pub branch_below : (i v : ℕ) → i < count w → v < size w (feature w i) → body w i v < 65536 + i
  branch_below i v h hv = goal_below regular (nodes w) i (suc (at (nodes w) i).feature) (body w i v) (branch_under i v h hv)

  pub branch_stands : (i v : ℕ) → i < count w → v < size w (feature w i) → Stands w (body w i v)
  branch_stands i v h hv =
      under_weaken (nodes w) i (length (nodes w)) (suc (at (nodes w) i).feature) 0 (decode (body w i v)).to (omega (arith, length_nodes w)) (omega arith) (branch_under i v h hv)

  module _ {n : Notes} {c : ℕ} (d : Noted w n c) where
    pub noted_most : c ≤ count w
    noted_most = omega (arith, d.tallied, marked_le (mark n) (count w))

    mark_most : (i : ℕ) → i < count w → mark n i ≤ c
    mark_most i h = ⊎_elim
        (λ l. let e : mark n i ≡ suc (mark n i - 1) = omega arith in
        let t : Twin (sizes w) (nodes w) (numbered w n c) i (mark n i - 1) = d.half.twin i (mark n i - 1) (omega (arith, length_nodes w)) e in
        omega (arith, t.mean.ok.0, length_numbered w n c))
        (λ l. omega arith)
        (split 0 (mark n i))

    -- words by numbers fit three bytes
    pub word_small : (b : ℕ) → b < 65536 + count w → renumbered n b < 131072
    word_small b h = ⊎_elim
        (λ l. omega (arith, renumbered_phrase n b l))
        (λ l. omega (arith, renumbered_node n b l, mark_most (b - 65536) (omega arith), noted_most, s.most))
        (split b 65536)

    -- ---- a phrase, and a node that has a number
    pub numbers_phrase : (b : ℕ) → b < 65536 → Numbers w n n b c c
    numbers_phrase b h =
        record {
          noted = d;
          copied = rw (renumbered_phrase n b h, decode_phrase b h) (copies_leaf positive d.half.wf);
          has = λ l. absurd (omega arith);
          kept = λ x hx l. refl;
          later = λ x hx l. refl;
        }

    pub numbers_done : (b i : ℕ) → i < count w → b ≡ 65536 + i → 0 < mark n i → Numbers w n n b c c
    numbers_done b i h e p =
        let q : mark n i ≡ suc (mark n i - 1) = omega arith in
        let t : Twin (sizes w) (nodes w) (numbered w n c) i (mark n i - 1) = d.half.twin i (mark n i - 1) (omega (arith, length_nodes w)) q in
        let y : b - 65536 ≡ i = omega arith in
        let z : renumbered n b ≡ 65536 + (mark n i - 1) = renumbered_node n b (omega arith) ∙ ap (λ (x : ℕ). 65535 + mark n x) y
        ∙ (let u : 65535 + mark n i ≡ 65536 + (mark n i - 1) = omega arith in u) in
        record {
          noted = d;
          copied = rw (decode_index b i e, decode_index (renumbered n b) (mark n i - 1) z) (copies_twin positive s.wf d.half.wf t);
          has = λ l. rw y p;
          kept = λ x hx l. refl;
          later = λ x hx l. refl;
        }

    -- ---- the branches of a node in turn
    pub numbering_none : (i : ℕ) → Numbering w n n i 0 c c
    numbering_none i =
        record { noted = d; listed = rw tab_none lists_none; has = λ u h. absurd (omega arith); kept = λ x hx l. refl; later = λ x hx l. refl }

  module _ {n t t' : Notes} {i v c d r : ℕ} (h : i < count w) (hv : v < size w (feature w i)) (m : Numbering w n t i v c d) (e : Numbers w t t' (body w i v) d r) where
    -- a branch word of node i that has a number keeps it
    word_kept : (u : ℕ) → u < v → renumbered t' (body w i u) ≡ renumbered t (body w i u)
    word_kept u hu = renumbered_kept t t' (body w i u) (λ l. e.kept (body w i u - 65536) (omega (arith, branch_below i u h (omega arith))) (m.has u hu l))

    list_more : branches v (λ u. renumbered t (body w i u)) ++ (decode (renumbered t' (body w i v)) ∷ []) ≡ branches (suc v) (λ u. renumbered t' (body w i u))
    list_more =
        ap (λ (bs : List Branch). bs ++ (decode (renumbered t' (body w i v)) ∷ []))
        (tab_ext (λ u. decode (renumbered t (body w i u))) (λ u. decode (renumbered t' (body w i u))) v (λ u hu. ap decode (sym (word_kept u hu))))
        ∙ sym (tab_snoc (λ u. decode (renumbered t' (body w i u))) v)

    has_more : (u : ℕ) → u < suc v → Has t' (body w i u)
    has_more u hu l = ⊎_elim
        (λ g. let y = m.has u g l in
        omega (arith, e.kept (body w i u - 65536) (omega (arith, branch_below i u h (omega arith))) y))
        (λ g. let y : u ≡ v = omega arith in subst (Has t') (ap (body w i) (sym y)) e.has l)
        (split u v)

    pub numbering_more : Numbering w n t' i (suc v) c r
    numbering_more =
        record {
          noted = e.noted;
          listed = subst (λ (bs : List Branch). Lists (sizes w) (nodes w) i (numbered w n c) (suc v) bs (numbered w t' r)) list_more
              (lists_more s.wf (omega (arith, length_nodes w)) m.listed refl (rw (branch_at_lem w i v h hv) e.copied));
          has = has_more;
          kept = λ x hx l. let y = m.kept x hx l in e.kept x hx (omega arith) ∙ y;
          later = λ x hx l. e.later x hx (omega (arith, branch_below i v h hv)) ∙ m.later x hx l;
        }

  -- ---- a node that gets a number
  -- while it has none there is one left
  pub room_left : {n t : Notes} {i v c d : ℕ} → i < count w → mark n i ≡ 0 → Numbering w n t i v c d → d < 4096
  room_left {n} {t} {i} h none m = omega (arith, m.noted.tallied, marked_lt (mark t) (count w) i h (m.later i h (omega arith) ∙ none), s.most)

  module _ {n t : Notes} {i c d : ℕ} (h : i < count w) (was : Noted w n c) (none : mark n i ≡ 0) (m : Numbering w n t i (size w (feature w i)) c d) where
    unmarked : mark t i ≡ 0
    unmarked = m.later i h (omega arith) ∙ none

    abbrev now_notes : Notes
    now_notes = record { numbers = set t.numbers i (Some d); nodes = set t.nodes d i; count = d + 1 }

    mark_new : mark now_notes i ≡ suc d
    mark_new = ap marking (get_or-set_same t.numbers i (Some d) None (let q = s.most in omega (arith, m.noted.long))) ∙ (let e : 1 + d ≡ suc d = omega arith in e)

    mark_other : (x : ℕ) → x < count w → (x ≡ i → ⊥) → mark now_notes x ≡ mark t x
    mark_other x hx p = ap marking (get_or-set_other t.numbers i x (Some d) None p)

    member_new : member now_notes d ≡ i
    member_new = let l = room_left h none m in get_or-set_same t.nodes d i 0 (omega (arith, m.noted.wide))

    member_old : (j : ℕ) → j < d → member now_notes j ≡ member t j
    member_old j hj = get_or-set_other t.nodes d j i 0 (omega arith)

    -- what had a number keeps it
    mark_kept : (x : ℕ) → x < count w → 0 < mark t x → mark now_notes x ≡ mark t x
    mark_kept x hx p = mark_other x hx (λ e. let z : mark t x ≡ 0 = ap (mark t) e ∙ unmarked in omega arith)

    has_kept : (b : ℕ) → b < 65536 + count w → Has t b → Has now_notes b
    has_kept b hb p l = let y = p l in omega (arith, mark_kept (b - 65536) (omega arith) y)

    word_stays : (b : ℕ) → b < 65536 + count w → Has t b → renumbered now_notes b ≡ renumbered t b
    word_stays b hb p = renumbered_kept t now_notes b (λ l. mark_kept (b - 65536) (omega arith) (p l))

    node_stays : (x : ℕ) → x < count w → ((v : ℕ) → v < size w (feature w x) → Has t (body w x v)) → node_in w now_notes x ≡ node_in w t x
    node_stays x hx p =
        let e : branches (size w (feature w x)) (λ v. renumbered now_notes (body w x v)) ≡ branches (size w (feature w x)) (λ v. renumbered t (body w x v)) =
        tab_ext (λ v. decode (renumbered now_notes (body w x v))) (λ v. decode (renumbered t (body w x v))) (size w (feature w x))
        (λ v hv. ap decode (word_stays (body w x v) (omega (arith, branch_below x v hx hv)) (p v hv))) in
        λ j. record { feature = feature w x; branches = e j }

    abbrev new : Node
    new = record { feature = (at (nodes w) i).feature; branches = branches (size w (feature w i)) (λ v. renumbered t (body w i v)) }

    new_is : node_in w now_notes (member now_notes d) ≡ new
    new_is =
        ap (node_in w now_notes) member_new
        ∙ node_stays i h m.has
        ∙ ap (λ (k : ℕ). let x : Node = record { feature = k; branches = branches (size w (feature w i)) (λ v. renumbered t (body w i v)) } in x)
        (sym (ap (λ (x : Node). x.feature) (at_nodes w i h)))

    numbered_more : numbered w now_notes (d + 1) ≡ numbered w t d ++ (new ∷ [])
    unfolding numbered
    numbered_more =
        ap (tab (λ j. node_in w now_notes (member now_notes j))) (let e : d + 1 ≡ suc d = omega arith in e)
        ∙ tab_snoc (λ j. node_in w now_notes (member now_notes j)) d
        ∙ ap₂ (λ (N : List Node) (x : Node). N ++ (x ∷ []))
        (tab_ext (λ j. node_in w now_notes (member now_notes j)) (λ j. node_in w t (member t j)) d
        (λ j hj. ap (node_in w now_notes) (member_old j hj) ∙ node_stays (member t j) (m.noted.inside j hj) (λ v hv. m.noted.whole j v hj hv)))
        new_is

    there : i < length (nodes w)
    there = omega (arith, length_nodes w)

    all_listed : Lists (sizes w) (nodes w) i (numbered w n c) (length (at (nodes w) i).branches) (branches (size w (feature w i)) (λ v. renumbered t (body w i v))) (numbered w t d)
    all_listed =
        subst (λ (k : ℕ). Lists (sizes w) (nodes w) i (numbered w n c) k (branches (size w (feature w i)) (λ v. renumbered t (body w i v))) (numbered w t d))
        (sym (ap (λ (x : Node). length x.branches) (at_nodes w i h) ∙ length_tab (λ v. decode (body w i v)) (size w (feature w i))))
        m.listed

    now_copied : Copies (sizes w) (nodes w) (D.node i) (numbered w n c) (D.node (length (numbered w t d))) (numbered w t d ++ (new ∷ []))
    now_copied = copies_new positive s.wf was.half.wf there m.noted.half unmarked all_listed

    now_half : Half (sizes w) (nodes w) (numbered w t d ++ (new ∷ [])) (mark now_notes)
    now_half =
        half_new positive s.wf was.half.wf there m.noted.half unmarked all_listed
        (mark_new ∙ ap suc (sym (length_numbered w t d))) (λ x hx p. mark_other x (omega (arith, length_nodes w)) p)

    now_inside : (j : ℕ) → j < d + 1 → member now_notes j < count w
    now_inside j hj = ⊎_elim
        (λ l. omega (arith, member_old j l, m.noted.inside j l))
        (λ l. let e : j ≡ d = omega arith in omega (arith, ap (member now_notes) e, member_new))
        (split j d)

    now_whole : (j v : ℕ) → j < d + 1 → v < size w (feature w (member now_notes j)) → Has now_notes (body w (member now_notes j) v)
    now_whole j v hj = ⊎_elim
        (λ l. subst (λ (x : ℕ). v < size w (feature w x) → Has now_notes (body w x v)) (sym (member_old j l))
        (λ hv. has_kept (body w (member t j) v) (omega (arith, branch_below (member t j) v (m.noted.inside j l) hv, m.noted.inside j l)) (m.noted.whole j v l hv)))
        (λ l. let e : j ≡ d = omega arith in
        subst (λ (x : ℕ). v < size w (feature w x) → Has now_notes (body w x v)) (sym (ap (member now_notes) e ∙ member_new))
        (λ hv. has_kept (body w i v) (omega (arith, branch_below i v h hv)) (m.has v hv)))
        (split j d)

    now_noted : Noted w now_notes (d + 1)
    now_noted =
        record {
          long = length-set t.numbers i (Some d) ∙ m.noted.long;
          wide = length-set t.nodes d i ∙ m.noted.wide;
          half = subst (λ (M : List Node). Half (sizes w) (nodes w) M (mark now_notes)) (sym numbered_more) now_half;
          tallied = omega (arith, m.noted.tallied, marked_more (mark t) (mark now_notes) (count w) i d h unmarked mark_new mark_other);
          inside = now_inside;
          whole = now_whole;
        }

    pub numbers_new : (b : ℕ) → b ≡ 65536 + i → Numbers w n now_notes b c (d + 1)
    numbers_new b e =
        let y : b - 65536 ≡ i = omega arith in
        let z : renumbered now_notes b ≡ 65536 + d = renumbered_node now_notes b (omega arith) ∙ ap (λ (x : ℕ). 65535 + mark now_notes x) y
        ∙ (let u : 65535 + mark now_notes i ≡ 65536 + d = omega (arith, mark_new) in u) in
        record {
          noted = now_noted;
          copied = rw (decode_index b i e, decode_index (renumbered now_notes b) (length (numbered w t d)) (z ∙ ap (λ (x : ℕ). 65536 + x) (sym (length_numbered w t d))), numbered_more) now_copied;
          has = λ l. rw y (omega (arith, mark_new));
          kept = λ x hx l. let k = m.kept x hx l in mark_kept x hx (omega arith) ∙ k;
          later = λ x hx l. mark_other x hx (omega arith) ∙ m.later x hx (omega arith);
        }

  -- ---- before the first
  pub noted_none : {n : Notes} → Blank n → Noted w n 0
  noted_none {n} b =
      let q = s.most in
      let y : (x : ℕ) → x < count w → mark n x ≡ 0 = λ x hx. ap marking (b.none x (omega arith)) in
      record {
        long = b.long;
        wide = b.wide;
        half = rw numbered_none (half_none (λ x hx. y x (omega (arith, length_nodes w))));
        tallied = sym (marked_none (mark n) (count w) y);
        inside = λ j hj. absurd (omega arith);
        whole = λ j v hj. absurd (omega arith);
      }
