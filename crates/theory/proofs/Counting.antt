-- `tally` is the number of distinct rests as docs/SCOPE.md defines them. Assumes nothing.
use mathlib.Core.Path.{◌≡◌, refl, sym, ap, ◌∙◌, subst}
use mathlib.Core.Logic.{◌⊎◌, inl, inr}
use mathlib.Core.List.{List, [], ◌∷◌, ◌++◌, Memᴰ}
use Prim.Native.Nat.{ℕ, zero, suc, ◌+◌, ◌≤◌, ◌<◌}
use native.Mathlib.Nat.{le_of_suc-le-suc, not-suc-le-zero, zero-add, add-zero}
use native.Mathlib.Decide.{dec_lt}
use native.Mathlib.Omega.{arith}
use lib.ListN.{length, get_or, take, drop, length-append, get_or-append}
use lib.Seq.{get_or-append_seam}
use Rattle.theory.specs.Kind.{Kind}
use Rattle.theory.specs.Settings.{Pos, Valid, zeros}
use Rattle.theory.specs.Functions.{Agree, Fun, held, lift, parts, zero_fun}
use Rattle.theory.specs.Rests.{Counts, Depends, Equal, Free, IsRest, OfSome, Rest, Seen, after, no_rest, norm}
use Rattle.theory.specs.Tally.{add, flat, free_decided, gather, own, rests, seen_decided, tally}
use Rattle.theory.specs.Build.{build, each}
use Rattle.theory.proofs.Lists.{pigeons}
use Rattle.theory.proofs.Offsets.{lift_undo}
use Rattle.theory.proofs.Rests.{equal_sym, equal_trans, nodes_tally, rests_cons, rests_nil}

module _ {K : Kind} where
  -- fewer functions, or the same ones in another order, have no more rests
  pub counts_le : (S : List ℕ) (gs hs : List (Fun K)) (c d : ℕ) → ((x : Rest K) → OfSome S gs x → OfSome S hs x) → Counts S gs c → Counts S hs d → c ≤ d
  counts_le S gs hs c d sub a b =
      rw (sym a.number) (rw (sym b.number) (pigeons (length b.list) (length a.list) f into one))
    where
      go : (i : ℕ) → Dec (i < length a.list) → ℕ
      go i (yes h) = (b.complete (get_or a.list i no_rest) (sub (get_or a.list i no_rest) (a.sound i h))).0
      go i (no h) = 0

      f : ℕ → ℕ
      f i = go i (dec_lt i (length a.list))

      go_into : (i : ℕ) → i < length a.list → (e : Dec (i < length a.list)) → (go i e < length b.list) × Equal S (get_or b.list (go i e) no_rest) (get_or a.list i no_rest)
      go_into i h (yes e) = let r = b.complete (get_or a.list i no_rest) (sub (get_or a.list i no_rest) (a.sound i e)) in (r.1, r.2)
      go_into i h (no e) = absurd (e h)

      into : (i : ℕ) → i < length a.list → f i < length b.list
      into i h = (go_into i h (dec_lt i (length a.list))).0

      here : (i : ℕ) → i < length a.list → Equal S (get_or b.list (f i) no_rest) (get_or a.list i no_rest)
      here i h = (go_into i h (dec_lt i (length a.list))).1

      one : (i j : ℕ) → i < length a.list → j < length a.list → f i ≡ f j → i ≡ j
      one i j hi hj q = a.apart i j hi hj (equal_trans (equal_sym (here i hi)) (subst (λ (k : ℕ). Equal S (get_or b.list k no_rest) (get_or a.list j no_rest)) (sym q) (here j hj)))

  -- there is one such number
  pub counts_unique : (S : List ℕ) (gs : List (Fun K)) (c d : ℕ) → Counts S gs c → Counts S gs d → c ≡ d
  counts_unique S gs c d a b =
      let p : c ≤ d = counts_le S gs gs c d (λ x h. h) a b in
      let q : d ≤ c = counts_le S gs gs d c (λ x h. h) b a in
      omega arith

  free_norm_down : (n : ℕ) (ns : List ℕ) (a : K.Off) (g : Fun K) → Free n ns (λ s. lift a (g s)) → Free n ns g
  unfolding Free
  free_norm_down n ns a g f v h s x = sym (lift_undo a (g (v ∷ s))) ∙ ap (lift (K.neg a)) (f v h s x) ∙ lift_undo a (g (0 ∷ s))

  -- what `rests` lists, from level k
  record From (k : ℕ) (ns : List ℕ) (g : Fun K) (x : Rest K) : Type 0 where
    more : ℕ
    values : List ℕ
    at_level : x.level ≡ k + more
    good : Valid (take more ns) values
    is : x.function ≡ norm (drop more ns) (after values g)
    deep : Depends (drop more ns) x.function

  parts_out : (rs : Fun K → List (Rest K)) (x : Rest K) (u n : ℕ) (g : Fun K) → Memᴰ x (flat rs (parts u n g)) → (v : ℕ) × (v < n) × Memᴰ x (rs (held (u + v) g))
  parts_out rs x u zero g m = absurd (mathlib.Core.List.Memᴰ.not-nil m)
  parts_out rs x u (suc n) g m = go (parts_out rs x (suc u) n g) (mathlib.Core.List.Memᴰ.append_cases (rs (held u g)) m)
    where
      go : (Memᴰ x (flat rs (parts (suc u) n g)) → (v : ℕ) × (v < n) × Memᴰ x (rs (held (suc u + v) g))) →
          Memᴰ x (rs (held u g)) ⊎ Memᴰ x (flat rs (parts (suc u) n g)) → (v : ℕ) × (v < suc n) × Memᴰ x (rs (held (u + v) g))
      go ih (inl m') = (0, omega arith, rw add-zero m')
      go ih (inr m') =
          let r = ih m' in
          let e : suc u + r.0 ≡ u + suc r.0 = omega arith in
          (suc r.0, omega (arith, r.1), subst (λ (w : ℕ). Memᴰ x (rs (held w g))) e r.2)

  parts_in : (rs : Fun K → List (Rest K)) (x : Rest K) (u n : ℕ) (g : Fun K) (v : ℕ) → v < n → Memᴰ x (rs (held (u + v) g)) → Memᴰ x (flat rs (parts u n g))
  parts_in rs x u zero g v h m = absurd (not-suc-le-zero h)
  parts_in rs x u (suc n) g zero h m = mathlib.Core.List.Memᴰ.append_left (flat rs (parts (suc u) n g)) (rw add-zero at m)
  parts_in rs x u (suc n) g (suc v) h m =
      let e : u + suc v ≡ suc u + v = omega arith in
      mathlib.Core.List.Memᴰ.append_right (rs (held u g)) (parts_in rs x (suc u) n g v (le_of_suc-le-suc h) (rw e at m))

  own_out : (k n : ℕ) (ns : List ℕ) (g : Fun K) (x : Rest K) (d : Dec (Free n ns g)) → Memᴰ x (own k n ns g d) → (x ≡ record { level = k; function = norm (n ∷ ns) g }) × ¬ Free n ns g
  unfolding own
  own_out k n ns g x (yes f) m = absurd (mathlib.Core.List.Memᴰ.not-nil m)
  own_out k n ns g x (no f) m = (mathlib.Core.List.Memᴰ.eq_of_singleton m, f)

  own_in : (k n : ℕ) (ns : List ℕ) (g : Fun K) (d : Dec (Free n ns g)) → ¬ Free n ns g → Memᴰ (record { level = k; function = norm (n ∷ ns) g }) (own k n ns g d)
  unfolding own
  own_in k n ns g (yes f) h = absurd (h f)
  own_in k n ns g (no f) h = mathlib.Core.List.Memᴰ.head refl

  from_part : {k n v : ℕ} {ns : List ℕ} {g : Fun K} {x : Rest K} → v < n → From (suc k) ns (held v g) x → From k (n ∷ ns) g x
  from_part {v = v} h f =
      record {
        more = suc f.more;
        values = v ∷ f.values;
        at_level = let e = f.at_level in omega arith;
        good = (h, f.good);
        is = f.is;
        deep = f.deep;
      }

  rests_out : (k : ℕ) (ns : List ℕ) (g : Fun K) (x : Rest K) → Memᴰ x (rests k ns g) → From k ns g x
  rests_out k [] g x m = absurd (mathlib.Core.List.Memᴰ.not-nil (rw rests_nil at m))
  rests_out k (n ∷ ns) g x m =
      go (λ v. rests_out (suc k) ns (held v g) x) (mathlib.Core.List.Memᴰ.append_cases (flat (rests (suc k) ns) (parts 0 n g)) (rw rests_cons at m))
    where
      go : ((v : ℕ) → Memᴰ x (rests (suc k) ns (held v g)) → From (suc k) ns (held v g) x) →
          Memᴰ x (flat (rests (suc k) ns) (parts 0 n g)) ⊎ Memᴰ x (own k n ns g (free_decided n ns g)) → From k (n ∷ ns) g x
      go ih (inl m') = let r = parts_out (rests (suc k) ns) x 0 n g m' in from_part r.1 (ih r.0 (rw zero-add at r.2))
      go ih (inr m') =
          let r = own_out k n ns g x (free_decided n ns g) m' in
          record {
            more = 0;
            values = [];
            at_level = ap (λ (y : Rest K). y.level) r.0 ∙ sym (add-zero k);
            good = tt;
            is = ap (λ (y : Rest K). y.function) r.0;
            deep = subst (λ (y : Rest K). ¬ Free n ns y.function) (sym r.0) (λ f. r.1 (free_norm_down n ns (K.neg (g (zeros (n ∷ ns))).off) g f));
          }

  rests_in : (k : ℕ) (ns : List ℕ) (g : Fun K) (j : ℕ) (p : List ℕ) → Valid (take j ns) p → Depends (drop j ns) (after p g)
      → Memᴰ (record { level = k + j; function = norm (drop j ns) (after p g) }) (rests k ns g)
  rests_in k [] g zero p h d = absurd d
  rests_in k [] g (suc j) p h d = absurd d
  rests_in k (n ∷ ns) g zero [] h d =
      rw (rests_cons, add-zero) (mathlib.Core.List.Memᴰ.append_right (flat (rests (suc k) ns) (parts 0 n g)) (own_in k n ns g (free_decided n ns g) d))
  rests_in k (n ∷ ns) g zero (v ∷ p) h d = absurd h
  rests_in k (n ∷ ns) g (suc j) [] h d = absurd h
  rests_in k (n ∷ ns) g (suc j) (v ∷ p) h d =
      let e : k + suc j ≡ suc k + j = omega arith in
      rw (rests_cons, e)
      (mathlib.Core.List.Memᴰ.append_left (own k n ns g (free_decided n ns g))
      (parts_in (rests (suc k) ns) (record { level = suc k + j; function = norm (drop j ns) (after p (held v g)) }) 0 n g v h.0 (rw zero-add (rests_in (suc k) ns (held v g) j p h.1 d))))

  Apart : List ℕ → List (Rest K) → Type 0
  Apart S l = (i j : ℕ) → i < length l → j < length l → Equal S (get_or l i no_rest) (get_or l j no_rest) → i ≡ j

  equal_refl : (S : List ℕ) (x : Rest K) → Equal S x x
  equal_refl S x = record { levels = refl; functions = λ s h. refl }

  seen_more : (S : List ℕ) (x : Rest K) (l m : List (Rest K)) → Seen S x l → Seen S x (l ++ m)
  seen_more S x l m w = (w.0, omega (arith, w.1, length-append l m), rw (get_or-append l m no_rest w.0 w.1) w.2)

  add_keeps : (S : List ℕ) (x y : Rest K) (l : List (Rest K)) (d : Dec (Seen S y l)) → Seen S x l → Seen S x (add S l y d)
  unfolding add
  add_keeps S x y l (yes w) h = h
  add_keeps S x y l (no w) h = seen_more S x l (y ∷ []) h

  add_has : (S : List ℕ) (y : Rest K) (l : List (Rest K)) (d : Dec (Seen S y l)) → Seen S y (add S l y d)
  unfolding add
  add_has S y l (yes w) = w
  add_has S y l (no w) = (length l, omega (arith, length-append l (y ∷ [])), rw get_or-append_seam (equal_refl S y))

  add_apart : (S : List ℕ) (y : Rest K) (l : List (Rest K)) (d : Dec (Seen S y l)) → Apart S l → Apart S (add S l y d)
  unfolding add Apart
  add_apart S y l (yes w) a = a
  add_apart S y l (no w) a = λ i j hi hj e. go i j (dec_lt i (length l)) (dec_lt j (length l)) hi hj e
    where
      old : (i : ℕ) → i < length l → get_or (l ++ (y ∷ [])) i no_rest ≡ get_or l i no_rest
      old i h = get_or-append l (y ∷ []) no_rest i h

      is_last : (i : ℕ) → i < length (l ++ (y ∷ [])) → ¬ (i < length l) → i ≡ length l
      is_last i h n = omega (arith, length-append l (y ∷ []))

      new : (i : ℕ) → i ≡ length l → get_or (l ++ (y ∷ [])) i no_rest ≡ y
      new i e = rw e (get_or-append_seam l y [] no_rest)

      go : (i j : ℕ) → Dec (i < length l) → Dec (j < length l) → i < length (l ++ (y ∷ [])) → j < length (l ++ (y ∷ [])) →
          Equal S (get_or (l ++ (y ∷ [])) i no_rest) (get_or (l ++ (y ∷ [])) j no_rest) → i ≡ j
      go i j (yes p) (yes q) hi hj e = a i j p q (rw (old i p, old j q) at e)
      go i j (yes p) (no q) hi hj e = absurd (w (i, p, (rw (old i p, new j (is_last j hj q)) at e)))
      go i j (no p) (yes q) hi hj e = absurd (w (j, q, equal_sym (rw (old j q, new i (is_last i hi p)) at e)))
      go i j (no p) (no q) hi hj e = is_last i hi p ∙ sym (is_last j hj q)

  add_all : (S : List ℕ) (P : Rest K → Type 0) (y : Rest K) (l : List (Rest K)) (d : Dec (Seen S y l)) → P y → ((i : ℕ) → i < length l → P (get_or l i no_rest)) →
      (i : ℕ) → i < length (add S l y d) → P (get_or (add S l y d) i no_rest)
  unfolding add
  add_all S P y l (yes w) py a i h = a i h
  add_all S P y l (no w) py a i h = go (dec_lt i (length l))
    where
      go : Dec (i < length l) → P (get_or (l ++ (y ∷ [])) i no_rest)
      go (yes p) = rw (get_or-append l (y ∷ []) no_rest i p) (a i p)
      go (no p) = let e : i ≡ length l = omega (arith, length-append l (y ∷ [])) in rw (e, get_or-append_seam) py

  gather_keeps : (S : List ℕ) (x : Rest K) (l xs : List (Rest K)) → Seen S x l → Seen S x (gather S l xs)
  unfolding gather
  gather_keeps S x l [] h = h
  gather_keeps S x l (y ∷ xs) h = gather_keeps S x (add S l y (seen_decided S y l)) xs (add_keeps S x y l (seen_decided S y l) h)

  gather_has : (S : List ℕ) (x : Rest K) (l xs : List (Rest K)) → Memᴰ x xs → Seen S x (gather S l xs)
  unfolding gather
  gather_has S x l [] m = absurd (mathlib.Core.List.Memᴰ.not-nil m)
  gather_has S x l (y ∷ xs) m = go (gather_has S x (add S l y (seen_decided S y l)) xs) (mathlib.Core.List.Memᴰ.cases_cons m)
    where
      l' : List (Rest K)
      l' = add S l y (seen_decided S y l)

      go : (Memᴰ x xs → Seen S x (gather S l' xs)) → (x ≡ y) ⊎ Memᴰ x xs → Seen S x (gather S l' xs)
      go ih (inl e) = subst (λ (z : Rest K). Seen S z (gather S l' xs)) (sym e) (gather_keeps S y l' xs (add_has S y l (seen_decided S y l)))
      go ih (inr m') = ih m'

  gather_apart : (S : List ℕ) (l xs : List (Rest K)) → Apart S l → Apart S (gather S l xs)
  unfolding gather
  gather_apart S l [] a = a
  gather_apart S l (y ∷ xs) a = gather_apart S (add S l y (seen_decided S y l)) xs (add_apart S y l (seen_decided S y l) a)

  gather_all : (S : List ℕ) (P : Rest K → Type 0) (l xs : List (Rest K)) → ((i : ℕ) → i < length l → P (get_or l i no_rest)) → ((y : Rest K) → Memᴰ y xs → P y) →
      (i : ℕ) → i < length (gather S l xs) → P (get_or (gather S l xs) i no_rest)
  unfolding gather
  gather_all S P l [] a h i hi = a i hi
  gather_all S P l (y ∷ xs) a h i hi =
      gather_all S P (add S l y (seen_decided S y l)) xs (add_all S P y l (seen_decided S y l) (h y (mathlib.Core.List.Memᴰ.head refl)) a) (λ z m. h z (mathlib.Core.List.Memᴰ.tail m)) i hi

  flat_out : (rs : Fun K → List (Rest K)) (x : Rest K) (gs : List (Fun K)) → Memᴰ x (flat rs gs) → (j : ℕ) × (j < length gs) × Memᴰ x (rs (get_or gs j zero_fun))
  flat_out rs x [] m = absurd (mathlib.Core.List.Memᴰ.not-nil m)
  flat_out rs x (g ∷ gs) m = go (flat_out rs x gs) (mathlib.Core.List.Memᴰ.append_cases (rs g) m)
    where
      go : (Memᴰ x (flat rs gs) → (j : ℕ) × (j < length gs) × Memᴰ x (rs (get_or gs j zero_fun))) → Memᴰ x (rs g) ⊎ Memᴰ x (flat rs gs) →
          (j : ℕ) × (j < suc (length gs)) × Memᴰ x (rs (get_or (g ∷ gs) j zero_fun))
      go ih (inl m') = (0, omega arith, m')
      go ih (inr m') = let r = ih m' in (suc r.0, omega (arith, r.1), r.2)

  flat_in : (rs : Fun K → List (Rest K)) (x : Rest K) (gs : List (Fun K)) (j : ℕ) → j < length gs → Memᴰ x (rs (get_or gs j zero_fun)) → Memᴰ x (flat rs gs)
  flat_in rs x [] j h m = absurd (not-suc-le-zero h)
  flat_in rs x (g ∷ gs) zero h m = mathlib.Core.List.Memᴰ.append_left (flat rs gs) m
  flat_in rs x (g ∷ gs) (suc j) h m = mathlib.Core.List.Memᴰ.append_right (rs g) (flat_in rs x gs j (le_of_suc-le-suc h) m)

  depends_agree : (ns : List ℕ) (r q : Fun K) → Agree ns r q → Depends ns r → Depends ns q
  unfolding Free
  depends_agree [] r q a d = d
  depends_agree (n ∷ ns) r q a d = λ f. d (λ v h s x. a (v ∷ s) (h, x) ∙ f v h s x ∙ sym (a (0 ∷ s) (omega arith, x)))

  depends_norm : (ns : List ℕ) (a : K.Off) (g : Fun K) → Depends ns (λ s. lift a (g s)) → Depends ns g
  unfolding Free
  depends_norm [] a g d = d
  depends_norm (n ∷ ns) a g d = λ f. d (λ v h s x. ap (lift a) (f v h s x))

  from_rest : (S : List ℕ) (g : Fun K) (x : Rest K) → From 0 S g x → IsRest S g x
  from_rest S g x f =
      let e : f.more ≡ x.level = sym (f.at_level ∙ zero-add f.more) in
      record {
        fixed = f.values;
        valid = subst (λ (j : ℕ). Valid (take j S) f.values) e f.good;
        remains = λ s h. ap (λ (q : Fun K). q s) f.is ∙ ap (λ (j : ℕ). norm (drop j S) (after f.values g) s) e;
        depends = subst (λ (j : ℕ). Depends (drop j S) x.function) e f.deep;
      }

  sound_rest : (S : List ℕ) (gs : List (Fun K)) (x : Rest K) → Memᴰ x (flat (rests 0 S) gs) → OfSome S gs x
  sound_rest S gs x m =
      let r = flat_out (rests 0 S) x gs m in
      let g : Fun K = get_or gs r.0 zero_fun in
      record { place = r.0; there = r.1; is_rest = from_rest S g x (rests_out 0 S g x r.2) }

  complete_rest : (S : List ℕ) (gs : List (Fun K)) (x : Rest K) → OfSome S gs x → Seen S x (gather S [] (flat (rests 0 S) gs))
  complete_rest S gs x o =
      let g : Fun K = get_or gs o.place zero_fun in
      let h : Fun K = after o.is_rest.fixed g in
      let y : Rest K = record { level = 0 + x.level; function = norm (drop x.level S) h } in
      let m : Memᴰ y (rests 0 S g) = rests_in 0 S g x.level o.is_rest.fixed o.is_rest.valid
      (depends_norm (drop x.level S) (K.neg (h (zeros (drop x.level S))).off) h
      (depends_agree (drop x.level S) x.function (norm (drop x.level S) h) o.is_rest.remains o.is_rest.depends)) in
      let w : Seen S y (gather S [] (flat (rests 0 S) gs)) = gather_has S y [] (flat (rests 0 S) gs) (flat_in (rests 0 S) y gs o.place o.there m) in
      let q : Equal S x y = record { levels = sym (zero-add x.level); functions = o.is_rest.remains } in
      (w.0, w.1, equal_trans w.2 (equal_sym q))

  -- `tally` is the number of distinct rests, as the document defines them
  pub tally_counts : (S : List ℕ) (gs : List (Fun K)) → Counts S gs (tally S gs)
  unfolding tally Apart
  tally_counts S gs =
      record {
        list = gather S [] (flat (rests 0 S) gs);
        number = refl;
        apart = gather_apart S [] (flat (rests 0 S) gs) (λ i j h. absurd (not-suc-le-zero h));
        sound = gather_all S (OfSome S gs) [] (flat (rests 0 S) gs) (λ i h. absurd (not-suc-le-zero h)) (sound_rest S gs);
        complete = complete_rest S gs;
      }

  -- the nodes of functions built in turn are as many as their distinct rests
  pub nodes_count : (S : List ℕ) → Pos S → (gs : List (Fun K)) → Counts S gs (length (each (build 0 S) gs []).1)
  nodes_count S pos gs = rw nodes_tally (tally_counts S gs)
