-- The laws that every walk shares, for every kind and every layout: a result is built branch by branch. The function g is any. Assumes nothing.
use mathlib.Core.Path.{◌≡◌, refl, sym, ap, ap₂, subst, ◌∙◌}
use mathlib.Core.Option.{Option, none, some}
use mathlib.Core.List.{List, [], ◌∷◌, ◌++◌, append-nil, append_assoc, map}
use Prim.Native.Nat.{ℕ, zero, suc, ◌+◌, ◌-◌, ◌≤◌, ◌<◌}
use native.Mathlib.Numerals.{add-one}
use native.Mathlib.Omega.{arith}
use lib.ListN.{length, get_or, take, drop}
use lib.Seq.{take_all, take-append-add, drop-cons}
use Rattle.theory.proofs.Canonical.{build_agree, canonical, build_skips}
use Rattle.theory.proofs.Growing.{ext_le, make_grows, build_grows, each_grows, build_cons, take_ext, each_append, parts_snoc, each_snoc}
use Rattle.theory.proofs.Lifting.{make_lift}
use Rattle.theory.proofs.Lists.{pos_drop}
use Rattle.theory.proofs.Meaning.{each_right, build_right, Rights}
use Rattle.theory.proofs.Values.{means_at}
use Rattle.theory.specs.Build.{Built, make, build, Ext}
use Rattle.theory.specs.Diagrams.{Branch, Node, blank, value, up}
use Rattle.theory.specs.Functions.{Fun, held, parts}
use Rattle.theory.specs.Kind.{Kind}
use Rattle.theory.specs.Rests.{Free}
use Rattle.theory.specs.Settings.{Pos}
use Rattle.theory.specs.WellFormed.{Mean, Ok}
use Rattle.table_words.specs.Holding.{Layout, Lawful, Holds, Grown, Gives, built, Result, each_to, Filled, Stopped}

module _ {K : Kind} where
  -- an offset on an answer
  abbrev pub raised : K.Off → Option (Branch K) → Option (Branch K)
  raised a (some b) = some (up a b)
  raised a none = none

module _ {K : Kind} {T : Layout K} (L : Lawful T) where
  pub grown_nodes : (w t : List ℕ) (N : List (Node K)) → Grown T w t N → length N ≤ T.capacity w → T.nodes t ≡ N
  grown_nodes w t N g h = g.holds ∙ take_all (T.capacity w) N h

  pub grown_refl : (w : List ℕ) → Holds T w → Grown T w w (T.nodes w)
  grown_refl w ok = record { kept = L.kept_refl w; well = ok; holds = sym (take_all (T.capacity w) (T.nodes w) (L.within w ok.laid)) }

  pub grown_trans : (w t t' : List ℕ) (M N : List (Node K)) → Grown T w t M → Grown T t t' N → Grown T w t' N
  grown_trans w t t' M N p q = record {
    kept = L.kept_trans w t t' p.kept q.kept;
    well = q.well;
    holds = q.holds ∙ ap (λ (c : ℕ). take c N) (L.kept_capacity w t p.kept);
  }

  -- a list that is full already decides what is held of every longer one
  pub grown_over : (w t : List ℕ) (M N : List (Node K)) → Grown T w t M → T.capacity w < length M → Ext M N → Grown T w t N
  grown_over w t M N g h e = record { kept = g.kept; well = g.well; holds = g.holds ∙ sym (take_ext (T.capacity w) e (omega arith)) }

  -- the nodes of w come first in t, also where there was no room for all of N
  pub grown_ext : (w t : List ℕ) (N : List (Node K)) → Holds T w → Grown T w t N → Ext (T.nodes w) N → Ext (T.nodes w) (T.nodes t)
  grown_ext w t N ok g e =
      let h : length (T.nodes w) + (T.capacity w - length (T.nodes w)) ≡ T.capacity w = omega (arith, L.within w ok.laid) in
      record {
        more = take (T.capacity w - length (T.nodes w)) e.more;
        ends = g.holds ∙ ap (take (T.capacity w)) e.ends ∙ ap (λ (c : ℕ). take c (T.nodes w ++ e.more)) (sym h)
            ∙ take-append-add (T.nodes w) e.more (T.capacity w - length (T.nodes w));
      }

  pub built_ext : (w : List ℕ) (k : ℕ) (g : Fun K) → Ext (T.nodes w) (built T w k g).1
  unfolding built
  built_ext w k g = build_grows k (drop k (T.sizes w)) g (T.nodes w)

  pub filled_ext : (w t : List ℕ) (k : ℕ) (g : Fun K) (v : ℕ) (bs : List (Branch K)) → Holds T w → Filled T w t k g v bs → Ext (T.nodes w) (T.nodes t)
  unfolding each_to
  filled_ext w t k g v bs ok f =
      grown_ext w t _ ok f.grown (each_grows (build (suc k) (drop (suc k) (T.sizes w))) (build_grows (suc k) (drop (suc k) (T.sizes w))) (parts 0 v g) (T.nodes w))

  pub gives_eq : {w t : List ℕ} {r q : Built K} {a : Option (Branch K)} → r ≡ q → Gives T w t q a → Gives T w t r a
  gives_eq {w} {t} {r} {q} {a} e g = rw e g

  pub result_agree : (w t : List ℕ) (k : ℕ) (g h : Fun K) (a : Option (Branch K)) → ((s : List ℕ) → g s ≡ h s) → Result T w t k h a → Result T w t k g a
  unfolding built
  result_agree w t k g h a e r = gives_eq (build_agree k (drop k (T.sizes w)) g h (λ s v. e s) (T.nodes w)) r

  -- the branch is there already
  pub result_there : (w : List ℕ) (k : ℕ) (b : Branch K) (g : Fun K) → Holds T w → built T w k g ≡ (b, T.nodes w) → Result T w w k g (some b)
  result_there w k b g ok e = gives_eq e (record { grown = grown_refl w ok; answers = (refl, L.within w ok.laid) })

  pub sizes_from : (w : List ℕ) (k : ℕ) → k < length (T.sizes w) → drop k (T.sizes w) ≡ get_or (T.sizes w) k 0 ∷ drop (suc k) (T.sizes w)
  sizes_from w k h = drop-cons (T.sizes w) k 0 h

  -- a function that does not depend on feature k is built at the next
  pub built_skip : (w : List ℕ) (k : ℕ) (g h : Fun K) → Holds T w → k < length (T.sizes w) → ((v : ℕ) → v < get_or (T.sizes w) k 0 → (s : List ℕ) → g (v ∷ s) ≡ h s)
      → built T w k g ≡ built T w (k + 1) h
  unfolding built Free
  built_skip w k g h ok hk e =
      let c : drop k (T.sizes w) ≡ get_or (T.sizes w) k 0 ∷ drop (suc k) (T.sizes w) = sizes_from w k hk in
      let p : Pos (get_or (T.sizes w) k 0 ∷ drop (suc k) (T.sizes w)) = subst Pos c (pos_drop k (T.sizes w) (L.positive w ok.laid)) in
      ap (λ (ns : List ℕ). build k ns g (T.nodes w)) c
      ∙ build_skips (T.sizes w) k (get_or (T.sizes w) k 0) (drop (suc k) (T.sizes w)) c p (T.nodes w) ok.wf g (λ v l s x. e v l s ∙ sym (e 0 p.0 s))
      ∙ build_agree (suc k) (drop (suc k) (T.sizes w)) (held 0 g) h (λ s x. e 0 p.0 s) (T.nodes w)
      ∙ ap (λ (j : ℕ). build j (drop j (T.sizes w)) h (T.nodes w)) (sym (add-one k))

  -- a branch that means the function is what is built
  pub built_there : (w : List ℕ) (k : ℕ) (b : Branch K) (g : Fun K) → Holds T w → Ok (T.nodes w) k b → ((s : List ℕ) → value (T.nodes w) k b s ≡ g s) → built T w k g ≡ (b, T.nodes w)
  unfolding built
  built_there w k b g ok o e =
      canonical (T.sizes w) k (drop k (T.sizes w)) refl (pos_drop k (T.sizes w) (L.positive w ok.laid)) (T.nodes w) ok.wf b g (record { ok = o; says = λ s v. e s })

  -- ---- results remembered
  -- what a result tells may be remembered
  pub result_mean : (w t : List ℕ) (k : ℕ) (g : Fun K) (b : Branch K) → Holds T w → Result T w t k g (some b) → Mean (T.nodes t) k (drop k (T.sizes w)) b g
  unfolding built
  result_mean w t k g b ok r =
      let n : T.nodes t ≡ (built T w k g).1 = grown_nodes w t (built T w k g).1 r.grown r.answers.1 in
      rw (n, r.answers.0) (build_right (T.sizes w) k (drop k (T.sizes w)) refl g (T.nodes w) ok.wf).mean

  -- and what is remembered is the result
  pub mean_result : (w : List ℕ) (k : ℕ) (g : Fun K) (b : Branch K) → Holds T w → Mean (T.nodes w) k (drop k (T.sizes w)) b g → Result T w w k g (some b)
  unfolding built
  mean_result w k g b ok m =
      result_there w k b g ok (canonical (T.sizes w) k (drop k (T.sizes w)) refl (pos_drop k (T.sizes w) (L.positive w ok.laid)) (T.nodes w) ok.wf b g m)

  -- the node is made of a levelled list, and the offset put on its branch
  pub gives_lift : (t t' : List ℕ) (k : ℕ) (a : K.Off) (cs : List (Branch K)) (o : Option (Branch K)) → Holds T t → 0 < length cs → Gives T t t' (make k cs (T.nodes t)) o
      → Gives T t t' (make k (map (up a) cs) (T.nodes t)) (raised a o)
  gives_lift t t' k a cs (some b) ok l g = rw (make_lift (T.sizes t) k a cs (T.nodes t) ok.wf l) (record { grown = g.grown; answers = (ap (up a) g.answers.0, g.answers.1) })
  gives_lift t t' k a cs none ok l g = rw (make_lift (T.sizes t) k a cs (T.nodes t) ok.wf l) (record { grown = g.grown; answers = g.answers })

module _ {K : Kind} {T : Layout K} (L : Lawful T) (w : List ℕ) (k : ℕ) (g : Fun K) (ok : Holds T w) (hk : k < length (T.sizes w)) where
  abbrev S : List ℕ
  S = T.sizes w

  abbrev n : ℕ
  n = get_or S k 0

  sub : Fun K → List (Node K) → Built K
  sub = build (suc k) (drop (suc k) S)

  pub fill_start : Filled T w w k g 0 []
  unfolding each_to
  fill_start = record { grown = grown_refl L w ok; fits = L.within w ok.laid; says = refl }

  -- what a call for branch v gives is what `each` goes on with
  step : (t t' : List ℕ) (v : ℕ) (bs : List (Branch K)) (h : Fun K) (a : Option (Branch K)) → Filled T w t k g v bs → ((s : List ℕ) → held v g s ≡ h s) → Result T t t' (k + 1) h a
      → Gives T t t' (sub (held v g) (each_to T w k g v).1) a
  unfolding built sub
  step t t' v bs h a f e r =
      let m : T.nodes t ≡ (each_to T w k g v).1 = grown_nodes L w t (each_to T w k g v).1 f.grown f.fits in
      let s : T.sizes t ≡ S = L.kept_sizes w t ok.laid f.grown.kept in
      gives_eq L
      (build_agree (suc k) (drop (suc k) S) (held v g) h (λ q x. e q) (each_to T w k g v).1
      ∙ sym (ap (λ (j : ℕ). build j (drop j (T.sizes t)) h (T.nodes t)) (add-one k)
      ∙ ap₂ (λ (Z : List ℕ) (N : List (Node K)). build (suc k) (drop (suc k) Z) h N) s m)) r

  snoc : (v : ℕ) → each_to T w k g (suc v) ≡ ((each_to T w k g v).0 ++ ((sub (held v g) (each_to T w k g v).1).0 ∷ []), (sub (held v g) (each_to T w k g v).1).1)
  unfolding each_to sub
  snoc v = each_snoc sub g v (T.nodes w)

  pub fill_more : (t t' : List ℕ) (v : ℕ) (bs : List (Branch K)) (h : Fun K) (b : Branch K) → Filled T w t k g v bs → ((s : List ℕ) → held v g s ≡ h s)
      → Result T t t' (k + 1) h (some b) → Filled T w t' k g (v + 1) (bs ++ (b ∷ []))
  fill_more t t' v bs h b f e r =
      let y = step t t' v bs h (some b) f e r in
      let c : T.capacity t ≡ T.capacity w = L.kept_capacity w t f.grown.kept in
      rw add-one
      (record {
        grown = rw (snoc v) (grown_trans L w t t' _ _ f.grown y.grown);
        fits = rw (snoc v) (omega (arith, y.answers.1));
        says = ap₂ (λ (p : List (Branch K)) (q : Branch K). p ++ (q ∷ [])) f.says y.answers.0 ∙ sym (ap (λ (q : List (Branch K) × List (Node K)). q.0) (snoc v));
      })

  parts_split : (u m d : ℕ) → parts u (m + d) g ≡ parts u m g ++ parts (u + m) d g
  parts_split u m zero = let e : m + 0 ≡ m = omega arith in rw (e, append-nil (parts u m g))
  parts_split u m (suc d) =
      let e : m + suc d ≡ suc (m + d) = omega arith in
      rw e (parts_snoc g u (m + d) ∙ ap (λ (x : List (Fun K)). x ++ (held (u + (m + d)) g ∷ [])) (parts_split u m d)
      ∙ append_assoc (parts u m g) (parts (u + m) d g) (held (u + (m + d)) g ∷ [])
      ∙ ap (λ (x : List (Fun K)). parts u m g ++ x) (let q : u + (m + d) ≡ u + m + d = omega arith in rw q (sym (parts_snoc g (u + m) d))))

  each_ext : (v m : ℕ) → v ≤ m → Ext (each_to T w k g v).1 (each_to T w k g m).1
  unfolding each_to sub
  each_ext v m h =
      let e : v + (m - v) ≡ m = omega arith in
      subst (λ (j : ℕ). Ext (each_to T w k g v).1 (each_to T w k g j).1) e
      (rw (parts_split 0 v (m - v), each_append sub (parts 0 v g) (parts (0 + v) (m - v) g) (T.nodes w))
      (each_grows sub (build_grows (suc k) (drop (suc k) S)) (parts (0 + v) (m - v) g) (each_to T w k g v).1))

  pub fill_stop : (t t' : List ℕ) (v : ℕ) (bs : List (Branch K)) (h : Fun K) → Filled T w t k g v bs → v < n → ((s : List ℕ) → held v g s ≡ h s)
      → Result T t t' (k + 1) h none → Stopped T w t' k g n
  fill_stop t t' v bs h f lt e r =
      let y = step t t' v bs h none f e r in
      let c : T.capacity t ≡ T.capacity w = L.kept_capacity w t f.grown.kept in
      let gr : Grown T w t' (each_to T w k g (suc v)).1 = rw (snoc v) (grown_trans L w t t' _ _ f.grown y.grown) in
      let ov : T.capacity w < length (each_to T w k g (suc v)).1 = rw (snoc v) (omega (arith, y.answers)) in
      let x : Ext (each_to T w k g (suc v)).1 (each_to T w k g n).1 = each_ext (suc v) n (omega arith) in
      record { grown = grown_over L w t' _ _ gr ov x; over = omega (arith, ext_le x) }

  -- the whole of `build` at feature k
  pub whole : built T w k g ≡ make k (each_to T w k g n).0 (each_to T w k g n).1
  unfolding built each_to
  whole = rw (drop-cons S k 0 hk) (build_cons k n (drop (suc k) S) g (T.nodes w))

  pub stop_result : (t : List ℕ) → Stopped T w t k g n → Result T w t k g none
  stop_result t s =
      let x : Ext (each_to T w k g n).1 (make k (each_to T w k g n).0 (each_to T w k g n).1).1 = make_grows k _ _ in
      rw whole (record { grown = grown_over L w t _ _ s.grown s.over x; answers = omega (arith, s.over, ext_le x) })

  -- `make` may be asked
  pub fill_ok : (t : List ℕ) (bs : List (Branch K)) → Filled T w t k g n bs → (v : ℕ) → v < n → Ok (T.nodes t) (suc k) (get_or bs v blank)
  unfolding each_to sub
  fill_ok t bs f v lt =
      let m : T.nodes t ≡ (each_to T w k g n).1 = grown_nodes L w t _ f.grown f.fits in
      let q : Rights S (suc k) (drop (suc k) S) (parts 0 n g) (T.nodes w) (each_to T w k g n) =
      each_right S (suc k) (drop (suc k) S) sub (build_right S (suc k) (drop (suc k) S) refl) (parts 0 n g) (T.nodes w) ok.wf in
      rw (m, f.says) (means_at (each_to T w k g n).1 (suc k) (drop (suc k) S) (each_to T w k g n).0 0 n g q.means v lt).ok

  pub fill_make : (t t' : List ℕ) (bs : List (Branch K)) (a : Option (Branch K)) → Filled T w t k g n bs → Gives T t t' (make k bs (T.nodes t)) a → Result T w t' k g a
  fill_make t t' bs a f r =
      let m : T.nodes t ≡ (each_to T w k g n).1 = grown_nodes L w t _ f.grown f.fits in
      let c : T.capacity t ≡ T.capacity w = L.kept_capacity w t f.grown.kept in
      let e : make k bs (T.nodes t) ≡ built T w k g = ap₂ (λ (b : List (Branch K)) (N : List (Node K)). make k b N) f.says m ∙ sym whole in
      let y : Gives T t t' (built T w k g) a = rw e at r in
      record { grown = grown_trans L w t t' _ _ f.grown y.grown; answers = rw c at y.answers }
