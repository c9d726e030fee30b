-- A fresh table: the words that opening lays out are the picture of constants 0, and its promise is met. Assumes nothing.
use mathlib.Core.Path.{◌≡◌, refl, sym, ap, subst, ◌∙◌}
use mathlib.Core.Logic.{⊎_elim}
use mathlib.Core.List.{List, [], ◌∷◌, ◌++◌}
use Prim.Native.Nat.{ℕ, zero, suc, ◌+◌, ◌≤◌, ◌<◌}
use native.Mathlib.Omega.{arith}
use lib.ListN.{length, get_or, set, length-set, get_or-eq_default}
use lib.Seq.{get_or-set_same, get_or-set_other}
use Rattle.theory.specs.Kind.{Kind}
use Rattle.theory.specs.Settings.{FeatureList}
use Rattle.theory.specs.Functions.{Fun, zero_fun}
use Rattle.theory.specs.Diagrams.{Branch, Node, blank}
use Rattle.theory.specs.Build.{build, table}
use Rattle.theory.proofs.Canonical.{canonical}
use Rattle.theory.proofs.Growing.{each_append}
use Rattle.theory.proofs.Ranges.{features_pos}
use Rattle.theory.proofs.Values.{value_ending}
use Rattle.theory.proofs.WellFormed.{wf_empty}
use Rattle.settings.specs.Refusals.{Taken}
use Rattle.settings.proofs.Endings.{pass, not_refused}
use Rattle.table_words.specs.Table.{Table}
use Rattle.table_words.specs.Picture.{Shows, Pictures, Proper, node_hash}
use Rattle.table_words.proofs.Tab.{split, tab_none, tab_snoc, get_or_tab, length_tab}
use Rattle.table_words.proofs.Chains.{last_none}
use Rattle.table_calls.specs.Opening.{fresh, Opens, Cleared, Based, Sized, Named}
use Rattle.promises.specs.Tab.{tab}
use Rattle.promises.specs.Words.{head, word, bound}
use Rattle.promises.specs.TableDeeds.{Openable}

-- the words that the steps of opening leave
pub named : {S w u x w' : List ℕ} {cap b : ℕ} (k c n : ℕ) → Openable S cap (length w) → c ≡ cap → n ≡ length S → Cleared (bound cap) w u → Based b u x
    → Sized S (set (set (set x 0 k) 1 c) 2 n) w' → Named k b S cap w w'
named {S} {w} {u} {x} {w'} {cap} {b} k c n o ec en d f z =
    let few = o.list.few in
    let some = o.some in
    record {
      long = z.long ∙ length-set t₂ 2 n ∙ length-set t₁ 1 c ∙ length-set x 0 k ∙ f.long ∙ d.long;
      kind = z.before 0 (omega arith) ∙ get_or-set_other t₂ 2 0 n 0 (omega arith) ∙ get_or-set_other t₁ 1 0 c 0 (omega arith) ∙ get_or-set_same x 0 k 0 (omega (arith, f.long, d.long, o.room));
      capacity = z.before 1 (omega arith) ∙ get_or-set_other t₂ 2 1 n 0 (omega arith) ∙ get_or-set_same t₁ 1 c 0 (omega (arith, length-set x 0 k, f.long, d.long, o.room)) ∙ ec;
      features = z.before 2 (omega arith) ∙ get_or-set_same t₂ 2 n 0 (omega (arith, length-set t₁ 1 c, length-set x 0 k, f.long, d.long, o.room)) ∙ en;
      sizes = z.sizes;
      zero = λ j h g. thru j (omega arith) (z.past j h) ∙ f.before j g ∙ d.zero j (omega arith);
      bases = λ j h g. thru j (omega arith) (z.past j (omega arith)) ∙ f.bases j h g;
      clean = λ j h g. thru j (omega arith) (z.past j (omega arith)) ∙ f.past j h ∙ d.zero j g;
      past = λ j h. thru j (omega arith) (z.past j (omega arith)) ∙ f.past j (omega arith) ∙ d.past j h;
    }
  where
    t₁ : List ℕ
    t₁ = set x 0 k

    t₂ : List ℕ
    t₂ = set t₁ 1 c

    thru : (j : ℕ) → 3 ≤ j → get_or w' j 0 ≡ get_or (set t₂ 2 n) j 0 → get_or w' j 0 ≡ get_or x j 0
    thru j h e = e ∙ get_or-set_other t₂ 2 j n 0 (omega arith) ∙ get_or-set_other t₁ 1 j c 0 (omega arith) ∙ get_or-set_other x 0 j k 0 (omega arith)

module _ {K : Kind} where
  -- the branches of n constants 0
  abbrev pub ends : ℕ → List (Branch K)
  ends n = tab (λ p. blank) n

  -- no node
  zeros_built : (S : List ℕ) → FeatureList S → (n : ℕ) → table S (fresh n) ≡ (ends n, [])
  zeros_built S f zero = rw (tab_none, tab_none)
  zeros_built S f (suc n) =
      ap (table S) (tab_snoc (λ p. zero_fun) n)
      ∙ each_append (build 0 S) (fresh n) (zero_fun ∷ []) []
      ∙ ap (λ (q : List (Branch K) × List (Node K)). let r = build 0 S zero_fun q.1 in let t : List (Branch K) × List (Node K) = (q.0 ++ (r.0 ∷ []), r.1) in t) (zeros_built S f n)
      ∙ ap (λ (r : Branch K × List (Node K)). let t : List (Branch K) × List (Node K) = (ends n ++ (r.0 ∷ []), r.1) in t)
      (canonical S 0 S refl (features_pos S f) [] (wf_empty S) blank zero_fun (record { ok = tt; says = λ s v. value_ending [] 0 (zero_fun []) s }))
      ∙ ap (λ (l : List (Branch K)). let t : List (Branch K) × List (Node K) = (l, []) in t) (sym (tab_snoc (λ p. blank) n))

module _ {K : Kind} (T : Table K) {b : ℕ} {S : List ℕ} {cap : ℕ} {w w' : List ℕ} (o : Openable S cap (length w)) (n : Named T.number b S cap w w') where
  pub fresh_pictures : ((j : ℕ) → j < 2 → get_or w' (20 + j) 0 ≡ T.share j) → ((p : ℕ) → p < 32 → get_or w' (32 + p) 0 ≡ T.root_of (ends T.places) p) → Pictures T cap S (fresh T.places) w'
  unfolding head word
  fresh_pictures shares roots = subst (λ (q : List (Branch K) × List (Node K)). Shows T cap S q.0 q.1 w') (sym (zeros_built S o.list T.places)) shown
    where
      sizes : (k : ℕ) → k < 16 → get_or w' (3 + k) 0 ≡ get_or S k 0
      sizes k h = ⊎_elim
          (λ l. n.sizes k l)
          (λ l. n.zero (3 + k) (omega arith) (omega arith) ∙ sym (get_or-eq_default S 0 l))
          (split k (length S))

      shown : Shows T cap S (ends T.places) [] w'
      shown =
          let l = o.list.few in
          let c = o.some in
          record {
            long = omega (arith, o.room, n.long);
            kind_is = n.kind;
            room = n.capacity;
            many = n.features;
            sizes_are = λ k h. sizes k h;
            used = n.zero 19 (omega arith) (omega arith);
            shares = shares;
            unused = record { zeros = λ j h g. n.zero j (omega arith) (omega arith) };
            roots_are = roots;
            middle = record { zeros = λ j h g. n.clean j h (omega arith) };
            heads = λ h l. n.clean (4096 + h) (omega arith) (omega arith) ∙ sym (last_none (node_hash T []) h);
            tests = λ i h. absurd (omega arith);
            bodies = λ i v h. absurd (omega arith);
            links = λ i h. absurd (omega arith);
            spare = λ i j h. absurd (omega arith);
            clean = record { zeros = λ j h g. n.clean j (omega arith) g };
          }

  pub fresh_proper : ((s : List ℕ) → T.InRange (zero_fun s)) → T.Shared cap S (fresh T.places) → Proper T cap S (fresh T.places)
  fresh_proper range shared =
      record {
        some = o.some;
        most = o.most;
        list = o.list;
        places = length_tab (λ p. zero_fun) T.places;
        range = λ p h s v. subst (λ (g : Fun K). T.InRange (g s)) (sym (get_or_tab (λ q. zero_fun) T.places p zero_fun h)) (range s);
        fits = omega (arith, ap (λ (q : List (Branch K) × List (Node K)). length q.1) (zeros_built S o.list T.places), o.some);
        shared = shared;
      }

  -- the promise met
  pub opened : ((j : ℕ) → j < 2 → get_or w' (20 + j) 0 ≡ T.share j) → ((p : ℕ) → p < 32 → get_or w' (32 + p) 0 ≡ T.root_of (ends T.places) p)
      → ((s : List ℕ) → T.InRange (zero_fun s)) → T.Shared cap S (fresh T.places) → Opens T S cap w w' Taken
  opened shares roots range shared =
      record { ends = pass (λ q. q o) refl; long = n.long; proper = λ e. fresh_proper range shared; pictures = λ e. fresh_pictures shares roots; past = λ e. n.past; refused = λ x. not_refused }
