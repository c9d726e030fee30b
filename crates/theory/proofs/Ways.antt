-- The way of a setting from a root, from one node to the branch of its value: a lookup that passes over what is not tested, and counts what is. Assumes nothing.
use mathlib.Core.Path.{◌≡◌, refl, sym, ap, subst, ◌∙◌}
use mathlib.Core.List.{List, [], ◌∷◌, ◌++◌}
use Prim.Native.Nat.{ℕ, zero, suc, ◌+◌, ◌-◌, ◌≤◌, ◌<◌}
use native.Mathlib.Nat.{add-zero, le_of_suc-le-suc, le_refl, not-suc-le-zero}
use native.Mathlib.Omega.{arith}
use lib.ListN.{length, get_or, drop, take, take-append-drop}
use lib.Seq.{drop-cons}
use Rattle.theory.specs.Kind.{Kind}
use Rattle.theory.specs.Settings.{Pos, Valid}
use Rattle.theory.specs.Functions.{Amount, Fun}
use Rattle.theory.specs.Diagrams.{Branch, Node, at, blank, ending, node, up, value}
use Rattle.theory.specs.Rests.{Depends, after}
use Rattle.theory.specs.WellFormed.{Mean, Ok, WellFormed}
use Rattle.theory.specs.Asked.{Asks}
use Rattle.theory.specs.Questions.{asked, asks_decided, number_of}
use Rattle.theory.proofs.Lists.{pos_drop}
use Rattle.theory.proofs.Ranges.{valid_at, valid_drop, valid_length, valid_pos}
use Rattle.theory.proofs.WellFormed.{under_weaken}
use Rattle.theory.proofs.Values.{mean_here, mean_wait, value_ending}
use Rattle.theory.proofs.Asked.{mean_depends, mean_free, number_most, number_none, number_one, number_zero}

-- one more value of a setting before the rest
take_more : (k : ℕ) (t s : List ℕ) → k < length t → take k t ++ (get_or t k 0 ∷ s) ≡ take (suc k) t ++ s
take_more k [] s h = absurd (not-suc-le-zero h)
take_more zero (v ∷ t) s h = refl
take_more (suc k) (v ∷ t) s h = ap (λ (l : List ℕ). v ∷ l) (take_more k t s (le_of_suc-le-suc h))

module _ {K : Kind} (S : List ℕ) (N : List (Node K)) (g : Fun K) (t : List ℕ) where
  -- the branch b stands at feature k on the way of the setting t: it means what is left of g with the features below k fixed as in t,
  -- and c of these features were asked
  pub record At (k c : ℕ) (b : Branch K) : Type 0 where
    pub up_to : k ≤ length t
    pub means : Mean N k (drop k S) b (after (take k t) g)
    pub asks : c ≡ number_of (asks_decided S g t) k

  -- it stands there at some feature
  abbrev pub OnWay : ℕ → Branch K → Type 0
  OnWay c b = (k : ℕ) × At k c b

module _ {K : Kind} where
  -- a root stands on the way through what it means, and nothing was asked
  pub way_start : (S : List ℕ) (N : List (Node K)) (t : List ℕ) (b : Branch K) → Ok N 0 b → OnWay S N (value N 0 b) t 0 b
  way_start S N t b o = (0, record { up_to = omega arith; means = record { ok = o; says = λ s x. refl }; asks = sym (number_zero (asks_decided S (value N 0 b) t)) })

  module _ (S : List ℕ) (N : List (Node K)) (g : Fun K) (t : List ℕ) (valid : Valid S t) where
    -- an end is the end of the way
    pub way_end : (c : ℕ) (y : Amount K) → OnWay S N g t c (ending y) → y ≡ g t
    way_end c y o =
        sym (value_ending N o.0 y (drop o.0 t))
        ∙ o.1.means.says (drop o.0 t) (valid_drop o.0 S t valid)
        ∙ ap g (take-append-drop o.0 t)

    module _ (k : ℕ) (h : k < length t) where
      -- feature k has a size, and a value below it
      sized : drop k S ≡ get_or S k 0 ∷ drop (suc k) S
      sized = drop-cons S k 0 (omega (arith, valid_length S t valid))

      small : get_or t k 0 < get_or S k 0
      small = valid_at S t valid k (omega (arith, valid_length S t valid))

      -- what is left at feature k, by that feature's value
      left : {c : ℕ} {b : Branch K} → At S N g t k c b → Mean N k (get_or S k 0 ∷ drop (suc k) S) b (after (take k t) g)
      left {b = b} p = subst (λ (l : List ℕ). Mean N k l b (after (take k t) g)) sized p.means

      -- with that value fixed too
      fixed : {c : ℕ} {b : Branch K} → c ≡ number_of (asks_decided S g t) (suc k) → Mean N (suc k) (drop (suc k) S) b (λ s. g (take k t ++ (get_or t k 0 ∷ s))) → At S N g t (suc k) c b
      fixed e m = record { up_to = h; means = record { ok = m.ok; says = λ s x. m.says s x ∙ ap g (take_more k t s h) }; asks = e }

      -- a feature that the branch does not test is passed over, and not asked
      past : (c : ℕ) (b : Branch K) → Ok N (suc k) b → At S N g t k c b → At S N g t (suc k) c b
      past c b o p =
          fixed (p.asks ∙ sym (number_none (asks_decided S g t) k (λ d. mean_free (left p) o (subst (λ (l : List ℕ). Depends l (after (take k t) g)) sized d))))
          (mean_wait (left p) o (get_or t k 0) small)

      -- at a node of feature k that is asked, and the way goes on with the branch of its value
      on : WellFormed S N → (c : ℕ) (a : K.Off) (i : ℕ) → (at N i).feature ≡ k → At S N g t k c (record { adds = a; to = node i }) →
          At S N g t (suc k) (c + 1) (up a (get_or (at N i).branches (get_or t k 0) blank))
      on w c a i e p = fixed (ap (λ (m : ℕ). m + 1) p.asks ∙ sym (number_one (asks_decided S g t) k depends)) (mean_here S w (left p) e (get_or t k 0) small)
        where
          depends : Asks S g t k
          depends =
              subst (λ (l : List ℕ). Depends l (after (take k t) g)) (sym sized)
              (mean_depends S w sized (subst Pos sized (pos_drop k S (valid_pos S t valid))) (left p) e)

    -- features that the branch does not test are passed over
    along : (c : ℕ) (b : Branch K) (k d : ℕ) → Ok N (k + d) b → k + d ≤ length t → At S N g t k c b → At S N g t (k + d) c b
    along c b k zero o h p = rw add-zero p
    along c b k (suc d) o h p =
        let e : k + suc d ≡ suc k + d = omega arith in
        let q : Ok N (suc k + d) b = subst (λ (j : ℕ). Ok N j b) e o in
        rw e (along c b (suc k) d q (omega arith) (past k (omega arith) c b (under_weaken N (length N) (length N) (suc k + d) (suc k) b.to (le_refl _) (omega arith) q) p))

    -- at an end all was asked
    pub way_asked : (c : ℕ) (y : Amount K) → OnWay S N g t c (ending y) → c ≡ asked S g t
    unfolding asked
    way_asked c y o =
        (along c (ending y) o.0 (length t - o.0) tt (omega (arith, o.1.up_to)) o.1).asks
        ∙ ap (number_of (asks_decided S g t)) (let e : o.0 + (length t - o.0) ≡ length S = omega (arith, o.1.up_to, valid_length S t valid) in e)

    module _ (w : WellFormed S N) (c : ℕ) (a : K.Off) (i : ℕ) (o : OnWay S N g t c (record { adds = a; to = node i })) where
      pub way_node : i < length N
      way_node = o.1.means.ok.0

      pub way_feature : (at N i).feature < length t
      way_feature = omega (arith, (w.fits i way_node).known, valid_length S t valid)

      pub way_value : get_or t (at N i).feature 0 < length (at N i).branches
      way_value = omega (arith, (w.fits i way_node).full, valid_at S t valid (at N i).feature (w.fits i way_node).known)

      -- so the count stays below the number of features
      pub way_room : c < length S
      way_room = omega (arith, o.1.asks, number_most (asks_decided S g t) o.0, o.1.means.ok.1, (w.fits i way_node).known)

      -- what the code reads: the node's feature k, the setting's value v there, the branch d of that value
      pub way_on : (k v : ℕ) (d : Branch K) → (at N i).feature ≡ k → v ≡ get_or t k 0 → get_or (at N i).branches v blank ≡ d → OnWay S N g t (c + 1) (up a d)
      way_on k v d ek ev ed =
          (suc k, subst (λ (b : Branch K). At S N g t (suc k) (c + 1) (up a b)) (ap (λ (u : ℕ). get_or (at N i).branches u blank) (sym ev) ∙ ed) (on k h w c a i ek here))
        where
          h : k < length t
          h = omega (arith, way_feature, ek)

          jump : o.0 + (k - o.0) ≡ k
          jump = omega (arith, o.1.means.ok.1, ek)

          here : At S N g t k c (record { adds = a; to = node i })
          here =
              subst (λ (j : ℕ). At S N g t j c (record { adds = a; to = node i })) jump
              (along c (record { adds = a; to = node i }) o.0 (k - o.0) (way_node, omega (arith, ek, jump)) (omega (arith, jump, h)) o.1)
