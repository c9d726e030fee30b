-- The cases of a copy: a leaf, a node that has a copy, a node that has none and whose branches are copied. How many nodes have one. Assumes nothing.
use mathlib.Core.Path.{◌≡◌, refl, sym, ap, ◌∙◌, subst}
use mathlib.Core.List.{List, [], ◌∷◌, ◌++◌}
use Prim.Native.Nat.{ℕ, zero, suc, ◌+◌, ◌-◌, ◌≤◌, ◌<◌}
use native.Mathlib.Nat.{not-suc-le-zero, zero-add, le_refl}
use native.Mathlib.Decide.{ℕ_discrete, dec_lt}
use native.Mathlib.Omega.{arith}
use lib.ListN.{length, get_or, take, drop, take-append-drop}
use lib.Seq.{drop-cons, get_or-append_seam, get_or-take, length-take-le}
use Rattle.theory.specs.Kind.{Kind}
use Rattle.theory.specs.Deciding.{Alike, In}
use Rattle.theory.specs.Settings.{Pos, zeros}
use Rattle.theory.specs.Functions.{Amount, Fun, held, lift, parts, zero_fun}
use Rattle.theory.specs.Diagrams.{Branch, Node, Target, at, base, blank, empty, ending, leaf, node, plain, up, value}
use Rattle.theory.specs.WellFormed.{Mean, Under, WellFormed}
use Rattle.theory.specs.Build.{Built, Ext, build, each, make}
use Rattle.theory.specs.Copying.{Copies, Half, Lists, Twin, counted, marked}
use Rattle.theory.proofs.Lists.{pos_drop}
use Rattle.theory.proofs.Ranges.{zeros_valid}
use Rattle.theory.proofs.Offsets.{Level, level_node}
use Rattle.theory.proofs.Growing.{build_cons, each_last, parts_snoc}
use Rattle.theory.proofs.WellFormed.{at_more, length_snoc, under_weaken, wf_empty, wf_take}
use Rattle.theory.proofs.Values.{mean_more, means_at, means_length, node_mean, value_ending, value_ext, value_here, value_plain, value_zeros}
use Rattle.theory.proofs.Meaning.{Right, Rights, build_right, each_right}
use Rattle.theory.proofs.Making.{make_last}
use Rattle.theory.proofs.Canonical.{build_agree, canonical, canonical_unique}
use Rattle.theory.proofs.Operations.{build_jump}
use Rattle.theory.proofs.Lifting.{build_lift}

module _ {K : Kind} where
  -- a leaf is its own copy
  pub copies_leaf : {S : List ℕ} {O M : List (Node K)} {e : K.End} → Pos S → WellFormed S M → Copies S O (leaf e) M (leaf e) M
  copies_leaf {S} {O} {M} {e} pos w =
      record {
        built = λ k a o.
            let x : Amount K = record { off = a; end = e } in
            canonical S k (drop k S) refl (pos_drop k S pos) M w (ending x) (value O k (ending x))
            (record { ok = tt; says = λ s v. value_ending M k x s ∙ sym (value_ending O k x s) });
      }

  -- node i, as a branch that adds a, is built alike from every feature up to its own
  to_own : {S : List ℕ} {O M : List (Node K)} → Pos S → WellFormed S O → WellFormed S M → (i k : ℕ) (a : K.Off) → Under O (length O) k (node i) →
      build k (drop k S) (value O k (record { adds = a; to = node i })) M
      ≡ build (at O i).feature (drop (at O i).feature S) (value O (at O i).feature (record { adds = a; to = node i })) M
  to_own {S} {O} {M} pos wO w i k a o =
      let b : Branch K = record { adds = a; to = node i } in
      let e : k + ((at O i).feature - k) ≡ (at O i).feature = omega (arith, o.1) in
      let l : (at O i).feature < length S = (wO.fits i o.0).known in
      build_jump S pos (λ l. get_or l 0 (zero_fun [])) O M w (b ∷ []) k ((at O i).feature - k) (omega arith) (rw e (o.0, le_refl _), tt)
      ∙ ap (λ (j : ℕ). build j (drop j S) (value O j b) M) e

  -- a node that has a copy already
  pub copies_twin : {S : List ℕ} {O M : List (Node K)} {i j : ℕ} → Pos S → WellFormed S O → WellFormed S M → Twin S O M i j → Copies S O (node i) M (node j) M
  copies_twin {S} {O} {M} {i} {j} pos wO w t =
      record {
        built = λ k a o.
            to_own pos wO w i k a o
            ∙ canonical S (at O i).feature (drop (at O i).feature S) refl (pos_drop (at O i).feature S pos) M w
            (record { adds = a; to = node j }) (value O (at O i).feature (record { adds = a; to = node i }))
            (record {
              ok = t.mean.ok;
              says = λ s x. value_plain M (at O i).feature j a s ∙ ap (lift a) (t.mean.says s x) ∙ sym (value_plain O (at O i).feature i a s);
            });
      }

  -- branch v of a node means the node's function held at v
  branch_mean : {S : List ℕ} {O : List (Node K)} → WellFormed S O → (i v : ℕ) → i < length O →
      Mean O (suc (at O i).feature) (drop (suc (at O i).feature) S) (get_or (at O i).branches v blank) (held v (value O (at O i).feature (plain i)))
  branch_mean {S} {O} wO i v h =
      record {
        ok = under_weaken O i (length O) (suc k) (suc k) b.to (omega arith) (le_refl _) ((wO.fits i h).lower v);
        says = λ s x.
            sym (value_here O k i v K.nil s refl
            ∙ ap (λ (a : K.Off). value O (suc k) (record { adds = a; to = b.to }) s) (K.group.nil_plus b.adds));
      }
    where
      k : ℕ
      k = (at O i).feature

      b : Branch K
      b = get_or (at O i).branches v blank

  -- a node's branches in turn: none, and one more, which adds what it added
  pub lists_none : {S : List ℕ} {O M : List (Node K)} {i : ℕ} → Lists S O i M 0 [] M
  lists_none = record { lists = refl }

  pub lists_more : {S : List ℕ} {O M M' M'' : List (Node K)} {i v : ℕ} {bs : List (Branch K)} {b : Branch K} → WellFormed S O → i < length O →
      Lists S O i M v bs M' → b.adds ≡ (get_or (at O i).branches v blank).adds → Copies S O (get_or (at O i).branches v blank).to M' b.to M'' → Lists S O i M (suc v) (bs ++ (b ∷ [])) M''
  lists_more {S} {O} {M} {M'} {M''} {i} {v} {bs} {b} wO h l e c =
      record {
        lists =
            ap (λ (gs : List (Fun K)). each (build (suc k) rest) gs M) (parts_snoc g 0 v)
            ∙ each_last (build (suc k) rest) (parts 0 v g) (held (0 + v) g) M M' M'' bs b l.lists
            (rw zero-add
            (build_agree (suc k) rest (held v g) (value O (suc k) old) (λ s x. sym (m.says s x)) M'
            ∙ c.built (suc k) old.adds m.ok
            ∙ ap (λ (a : K.Off). let t : Built K = (record { adds = a; to = b.to }, M'') in t) (sym e)));
      }
    where
      k : ℕ
      k = (at O i).feature

      rest : List ℕ
      rest = drop (suc (at O i).feature) S

      g : Fun K
      g = value O (at O i).feature (plain i)

      old : Branch K
      old = get_or (at O i).branches v blank

      m : Mean O (suc k) rest old (held v g)
      m = branch_mean wO i v h

  -- a node that has no copy yet: its branches done, it is new
  module _ {S : List ℕ} {O M M' : List (Node K)} {i : ℕ} {f : ℕ → ℕ} {bs : List (Branch K)} (pos : Pos S) (wO : WellFormed S O) (w : WellFormed S M) (h : i < length O) (half : Half S O M' f) (none : f i ≡ 0)
      (l : Lists S O i M (length (at O i).branches) bs M') where
    abbrev own : ℕ
    own = (at O i).feature

    abbrev size : ℕ
    size = length (at O i).branches

    abbrev rest : List ℕ
    rest = drop (suc (at O i).feature) S

    abbrev says : Fun K
    says = value O (at O i).feature (plain i)

    sizes : drop own S ≡ size ∷ rest
    sizes = drop-cons S own 0 (wO.fits i h).known ∙ ap (λ (n : ℕ). n ∷ rest) (sym (wO.fits i h).full)

    some : 0 < size
    some = let p : Pos (size ∷ rest) = subst Pos sizes (pos_drop own S pos) in p.0

    rights : Rights S (suc own) rest (parts 0 size says) M (bs, M')
    rights = subst (λ (r : List (Branch K) × List (Node K)). Rights S (suc own) rest (parts 0 size says) M r) l.lists
        (each_right S (suc own) rest (build (suc own) rest) (build_right S (suc own) rest refl) (parts 0 size says) M w)

    count : length bs ≡ size
    count = means_length M' (suc own) rest bs 0 size says rights.means

    mean_new : (v : ℕ) → v < size → Mean M' (suc own) rest (get_or bs v blank) (held v says)
    mean_new v hv = rw zero-add at (means_at M' (suc own) rest bs 0 size says rights.means v hv)

    mean_self : Mean O own (drop own S) (plain i) says
    mean_self = record { ok = (h, le_refl _); says = λ s x. refl }

    -- branch 0 adds none, as in O
    level : Level bs
    level =
        sym (value_zeros S M' rights.wfs (suc own) rest (get_or bs 0 blank) (mean_new 0 some).ok)
        ∙ ap (λ (x : Amount K). x.off) ((mean_new 0 some).says (zeros rest) (zeros_valid rest (pos_drop (suc own) S pos)))
        ∙ value_zeros S O wO own (size ∷ rest) (plain i) (h, le_refl _)

    differ : ¬ Alike blank bs
    differ a = (wO.fits i h).differ same
      where
        same : Alike blank (at O i).branches
        same v hv =
            canonical_unique S (suc own) rest refl (pos_drop (suc own) S pos) O wO (get_or (at O i).branches v blank) (get_or (at O i).branches 0 blank) (held 0 says)
            (record {
              ok = (branch_mean wO i v h).ok;
              says = λ s x.
                  (branch_mean wO i v h).says s x
                  ∙ sym ((mean_new v hv).says s x)
                  ∙ ap (λ (b : Branch K). value M' (suc own) b s) (a v (omega (arith, count)))
                  ∙ (mean_new 0 some).says s x;
            })
            (branch_mean wO i 0 h)

    abbrev copy : Node K
    copy = record { feature = (at O i).feature; branches = bs }

    fresh : ¬ In empty copy M'
    fresh (j, hj, e) =
        let u = half.from j hj in
        let t : Twin S O M' u.0 j = half.twin u.0 j u.1 u.2 in
        let q : (at O u.0).feature ≡ own = sym t.alike ∙ ap (λ (x : Node K). x.feature) e in
        let m : Mean M' own (drop own S) (plain j) (value O own (plain u.0)) = subst (λ (k : ℕ). Mean M' k (drop k S) (plain j) (value O k (plain u.0))) q t.mean in
        let n : Mean M' own (drop own S) (record { adds = base bs; to = node j }) says =
        rw sizes (node_mean M' own size rest says bs count j hj (e ∙ sym (level_node own bs level)) mean_new) in
        let p : Mean M' own (drop own S) (plain j) says = subst (λ (a : K.Off). Mean M' own (drop own S) (record { adds = a; to = node j }) says) level n in
        let o : Mean O own (drop own S) (plain u.0) says = record { ok = (u.1, omega arith); says = λ s x. sym (m.says s x) ∙ p.says s x } in
        let z : ◌≡◌ {A = Target K} (node u.0) (node i) =
        ap (λ (b : Branch K). b.to) (canonical_unique S own (drop own S) refl (pos_drop own S pos) O wO (plain u.0) (plain i) says o mean_self) in
        let y : u.0 ≡ i = cc in
        let x : f i ≡ suc j = subst (λ (k : ℕ). f k ≡ suc j) y u.2 in
        omega arith

    built_new : build own (drop own S) says M ≡ (plain (length M'), M' ++ (copy ∷ []))
    built_new =
        ap (λ (ns : List ℕ). build own ns says M) sizes
        ∙ build_cons own size rest says M
        ∙ ap (λ (r : List (Branch K) × List (Node K)). make own r.0 r.1) l.lists
        ∙ make_last own bs M' level differ fresh

    -- the copy has the node's feature, and the copies of its branches
    pub copies_new : Copies S O (node i) M (node (length M')) (M' ++ (record { feature = (at O i).feature; branches = bs } ∷ []))
    copies_new =
        record {
          built = λ k a o.
              to_own pos wO w i k a o
              ∙ build_agree own (drop own S) (value O own (record { adds = a; to = node i })) (λ s. lift a (says s)) (λ s x. value_plain O own i a s) M
              ∙ build_lift S own (drop own S) refl (pos_drop own S pos) a says M w
              ∙ ap (λ (r : Built K). let t : Built K = (up a r.0, r.1) in t) built_new
              ∙ ap (λ (c : K.Off). let t : Built K = (record { adds = c; to = node (length M') }, M' ++ (copy ∷ [])) in t) (K.group.plus_nil a);
        }

    right : Right S own (drop own S) says M (plain (length M'), M' ++ (copy ∷ []))
    right = subst (λ (r : Built K). Right S own (drop own S) says M r) built_new (build_right S own (drop own S) refl says M w)

    twin_new : Twin S O (M' ++ (copy ∷ [])) i (length M')
    twin_new = record { alike = ap (λ (x : Node K). x.feature) (get_or-append_seam M' copy [] empty); mean = right.mean }

    twin_kept : (x j : ℕ) → Twin S O M' x j → Twin S O (M' ++ (copy ∷ [])) x j
    twin_kept x j t =
        record {
          alike = ap (λ (y : Node K). y.feature) (at_more M' (copy ∷ []) j t.mean.ok.0) ∙ t.alike;
          mean = mean_more S half.wf (record { more = copy ∷ []; ends = refl }) t.mean;
        }

    -- with the new node noted
    pub half_new : {f' : ℕ → ℕ} → f' i ≡ suc (length M') → ((x : ℕ) → x < length O → ¬ (x ≡ i) → f' x ≡ f x) → Half S O (M' ++ (record { feature = (at O i).feature; branches = bs } ∷ [])) f'
    half_new {f'} e others =
        record { wf = right.wf; twin = λ x j hx q. twin x j hx q (ℕ_discrete x i); from = λ j hj. from j hj (dec_lt j (length M')) }
      where
        twin : (x j : ℕ) → x < length O → f' x ≡ suc j → Dec (x ≡ i) → Twin S O (M' ++ (copy ∷ [])) x j
        twin x j hx q (yes p) =
            let a : f' i ≡ suc j = subst (λ (k : ℕ). f' k ≡ suc j) p q in
            let b : j ≡ length M' = omega arith in
            rw (p, b) twin_new
        twin x j hx q (no p) = twin_kept x j (half.twin x j hx (sym (others x hx p) ∙ q))

        from : (j : ℕ) → j < length (M' ++ (copy ∷ [])) → Dec (j < length M') → (x : ℕ) × (x < length O) × (f' x ≡ suc j)
        from j hj (yes p) =
            let u = half.from j p in
            (u.0, u.1, others u.0 u.1 (λ q. let a : f i ≡ suc j = subst (λ (k : ℕ). f k ≡ suc j) q u.2 in omega arith) ∙ u.2)
        from j hj (no p) = let b : j ≡ length M' = omega (arith, length_snoc M' copy) in (i, h, rw b e)

  -- before the first copy
  pub half_none : {S : List ℕ} {O : List (Node K)} {f : ℕ → ℕ} → ((i : ℕ) → i < length O → f i ≡ 0) → Half S O [] f
  half_none {S} z = record { wf = wf_empty S; twin = λ i j h e. absurd (let q = z i h in omega arith); from = λ j h. absurd (not-suc-le-zero h) }

  -- or the first a nodes are their own copies, and the others have none
  pub half_kept : {S : List ℕ} {O : List (Node K)} {f : ℕ → ℕ} (a : ℕ) → WellFormed S O → a ≤ length O → ((i : ℕ) → i < a → f i ≡ suc i) → ((i : ℕ) → a ≤ i → i < length O → f i ≡ 0)
      → Half S O (take a O) f
  half_kept {S} {O} {f} a w h own none =
      record { wf = wf_take S O a w; twin = λ i j hi e. twin i j hi e (dec_lt i a); from = λ j hj. (j, omega (arith, long), own j (omega (arith, long))) }
    where
      long : length (take a O) ≡ a
      long = length-take-le a O h

      ext : Ext (take a O) O
      ext = record { more = drop a O; ends = sym (take-append-drop a O) }

      self : (i : ℕ) → i < a → Twin S O (take a O) i i
      self i l =
          let e : (at (take a O) i).feature ≡ (at O i).feature = ap (λ (x : Node K). x.feature) (get_or-take a O i empty l) in
          let ok : Under (take a O) (length (take a O)) (at O i).feature (node i) = (omega (arith, long), omega arith) in
          record { alike = e; mean = record { ok = ok; says = λ s x. sym (value_ext S (take a O) O (at O i).feature (plain i) s (wf_take S O a w) ext ok) } }

      twin : (i j : ℕ) → i < length O → f i ≡ suc j → Dec (i < a) → Twin S O (take a O) i j
      twin i j hi e (yes l) = let q : j ≡ i = omega (arith, own i l) in rw q (self i l)
      twin i j hi e (no l) = absurd (omega (arith, none i (omega arith) hi))

-- how many nodes have a copy
counted_le : (x : ℕ) → counted x ≤ 1
counted_le zero = omega arith
counted_le (suc x) = omega arith

pub marked_le : (f : ℕ → ℕ) (n : ℕ) → marked f n ≤ n
unfolding marked
marked_le f zero = omega arith
marked_le f (suc n) = omega (arith, marked_le f n, counted_le (f n))

pub marked_same : (f g : ℕ → ℕ) (n : ℕ) → ((x : ℕ) → x < n → g x ≡ f x) → marked g n ≡ marked f n
unfolding marked
marked_same f g zero e = refl
marked_same f g (suc n) e = omega (arith, marked_same f g n (λ x h. e x (omega arith)), ap counted (e n (omega arith)))

pub marked_none : (f : ℕ → ℕ) (n : ℕ) → ((x : ℕ) → x < n → f x ≡ 0) → marked f n ≡ 0
unfolding marked
marked_none f zero e = refl
marked_none f (suc n) e = omega (arith, marked_none f n (λ x h. e x (omega arith)), ap counted (e n (omega arith)))

marked_all : (f : ℕ → ℕ) (n : ℕ) → ((x : ℕ) → x < n → f x ≡ suc x) → marked f n ≡ n
unfolding marked
marked_all f zero e = refl
marked_all f (suc n) e = omega (arith, marked_all f n (λ x h. e x (omega arith)), ap counted (e n (omega arith)))

-- the first a have, the others have none
pub marked_kept : (f : ℕ → ℕ) (a n : ℕ) → a ≤ n → ((x : ℕ) → x < a → f x ≡ suc x) → ((x : ℕ) → a ≤ x → x < n → f x ≡ 0) → marked f n ≡ a
unfolding marked
marked_kept f a zero h own none = omega arith
marked_kept f a (suc n) h own none = go (dec_lt n a) (λ l. marked_kept f a n l own (λ x g k. none x g (omega arith)))
  where
    go : Dec (n < a) → (a ≤ n → marked f n ≡ a) → marked f n + counted (f n) ≡ a
    go (yes l) ih = let e : a ≡ suc n = omega arith in omega (arith, marked_all f n (λ x k. own x (omega arith)), ap counted (own n l))
    go (no l) ih = omega (arith, ih (omega arith), ap counted (none n (omega arith) (omega arith)))

-- one copy more
pub marked_more : (f g : ℕ → ℕ) (n i j : ℕ) → i < n → f i ≡ 0 → g i ≡ suc j → ((x : ℕ) → x < n → ¬ (x ≡ i) → g x ≡ f x) → marked g n ≡ suc (marked f n)
unfolding marked
marked_more f g zero i j h z e o = absurd (not-suc-le-zero h)
marked_more f g (suc n) i j h z e o = go (ℕ_discrete i n) (λ l. marked_more f g n i j l z e (λ x hx. o x (omega arith)))
  where
    go : Dec (i ≡ n) → (i < n → marked g n ≡ suc (marked f n)) → marked g n + counted (g n) ≡ suc (marked f n + counted (f n))
    go (yes p) ih =
        let a : f n ≡ 0 = subst (λ (x : ℕ). f x ≡ 0) p z in
        let b : g n ≡ suc j = subst (λ (x : ℕ). g x ≡ suc j) p e in
        omega (arith, marked_same f g n (λ x hx. o x (omega arith) (λ q. omega arith)), ap counted a, ap counted b)
    go (no p) ih = omega (arith, ih (omega arith), ap counted (o n (omega arith) (λ q. p (sym q))))

-- a node without a copy leaves room for one
pub marked_lt : (f : ℕ → ℕ) (n i : ℕ) → i < n → f i ≡ 0 → marked f n < n
unfolding marked
marked_lt f zero i h z = absurd (not-suc-le-zero h)
marked_lt f (suc n) i h z = go (ℕ_discrete i n) (λ l. marked_lt f n i l z)
  where
    go : Dec (i ≡ n) → (i < n → marked f n < n) → marked f n + counted (f n) < suc n
    go (yes p) ih = omega (arith, marked_le f n, ap counted (subst (λ (x : ℕ). f x ≡ 0) p z))
    go (no p) ih = omega (arith, ih (omega arith), counted_le (f n))
