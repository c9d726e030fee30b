-- The descents: the places that hold a setting, completed feature by feature, and the answer. Assumes nothing.
use Rattle.std.specs.Prelude.{Some, None}
use Rattle.std.specs.Bool.{then_some}
use mathlib.Core.Path.{◌≡◌, sym, ap, subst, ◌∙◌}
use mathlib.Core.List.{List, [], ◌∷◌}
use Prim.Native.Nat.{ℕ, ◌+◌, ◌-◌, ◌≤◌, ◌<◌}
use native.Mathlib.Decide.{ℕ_discrete, dec_lt}
use native.Mathlib.Omega.{arith}
use lib.Dec.{eqb}
use lib.ListN.{length, get_or, take, drop, set, replicate}
use lib.Seq.{slice, slice_empty, drop-length}
use borrow.Author.Tests.{eq-eqb, ne_eqb}
use Rattle.theory.specs.Diagrams.{next}
use Rattle.theory.specs.First.{First, FirstFrom, NoneFrom}
use Rattle.theory.specs.Functions.{held}
use Rattle.theory.specs.Rules.{Rule}
use Rattle.theory.specs.Settings.{Valid}
use Rattle.theory.proofs.First.{first_end, first_from_end, none_end, given_end, first_smallest, first_same, first_greater, none_greater}
use Rattle.theory.proofs.Ranges.{valid_length}
use Rattle.table_words.proofs.Words.{length_sizes}
use Rattle.settings.specs.Step.{setting_of}
use Rattle.settings.proofs.Holding.{values_held, rest_held}
use Rattle.settings.proofs.Places.{keeps_all, keeps_less, keeps_set, places, set_place, held_first}
use Rattle.rule_next.specs.Marks.{Leads, Spot, Least, Smallest, rule_from}
use Rattle.rule_next.specs.Next.{Completes, Finds, Seeks, Answers}
use Rattle.rule_next.proofs.Stepping.{spot_is, rule_next_lem, sizes_left}
use Rattle.rule_next.proofs.Marking.{phrase_gives}
use Rattle.promises.specs.Words.{features, size, sizes}
use Rattle.promises.specs.RuleWords.{decode, rule_node_list as nodes, rule_root as root, rule_of}
use Rattle.promises.specs.RuleSound.{RuleSound as Sound}

module _ {w : List ℕ} {k b : ℕ} (s : Spot w k b) (x : ℕ) where
  few : features w ≤ 16
  few = s.sound.header.few

  -- ---- no feature is left: the branch is a phrase
  module _ (v : List ℕ) (end : features w ≤ k) (long : length v ≡ 16) where
    none_left : drop k (sizes w) ≡ []
    none_left = let e : k ≡ length (sizes w) = omega (arith, s.up_to, length_sizes w) in rw e (drop-length (sizes w))

    no_place : slice k (features w) v ≡ []
    no_place = let e : k ≡ features w = omega (arith, s.up_to) in rw e (slice_empty (features w) v)

    is_phrase : b < 65536
    is_phrase = go (dec_lt b 65536)
      where
        go : Dec (b < 65536) → b < 65536
        go (yes h) = h
        go (no h) = let p = spot_is s (omega arith) in absurd (omega (arith, p.1, (s.sound.nodes_ok.each (b - 65536) p.0).known))

    pub complete_end : Leads w x k b → Completes w x k b v v
    complete_end r =
        record {
          keeps = keeps_all (features w) k v long;
          first = rw (none_left, no_place) (first_end (rule_from w k b) x (given_end (rule_from w k b) x (rw none_left at r)));
        }

    pub seek_end : Seeks w x k b v (then_some (eqb b x) v)
    seek_end = go (ℕ_discrete b x)
      where
        go : Dec (b ≡ x) → Seeks w x k b v (then_some (eqb b x) v)
        go (yes e) =
            rw (eq-eqb b x e)
            (record { keeps = keeps_all (features w) k v long; first = rw (none_left, no_place) (first_from_end (rule_from w k b) x (phrase_gives w k b [] is_phrase ∙ e)) })
        go (no e) =
            rw (ne_eqb b x e, none_left, no_place) (none_end (rule_from w k b) x (λ p. e (sym (phrase_gives w k b [] is_phrase) ∙ p)))

  -- ---- feature k is next
  module _ (v : List ℕ) (more : k < features w) (long : length v ≡ 16) where
    abbrev ns : List ℕ
    ns = drop (k + 1) (sizes w)

    abbrev n : ℕ
    n = features w

    -- the value of feature k and the values after it
    pub seek_valid : Valid (drop k (sizes w)) (slice k n v) → (get_or v k 0 < size w k) × Valid ns (slice (k + 1) n v)
    seek_valid h = rw (sizes_left w k more, places k n v more few long) at h

    pub complete_more : (y c : ℕ) (r : List ℕ) → decode c ≡ next (nodes w) k (decode b) y → Least w x k b 0 y → Completes w x (k + 1) c (set v k y) r → Completes w x k b v r
    complete_more y c r e q z =
        record {
          keeps = keeps_set y more z.keeps;
          first = rw (sizes_left w k more, set_place v y more few long z.keeps)
              (first_smallest (size w k) ns (rule_from w k b) x y (slice (k + 1) n r) q.below (λ u l. q.none u (omega arith) l)
              (subst (λ (g : Rule). First ns g x (slice (k + 1) n r)) (rule_next_lem s y c e) z.first));
        }

    -- a is the value of feature k, and c its branch
    module _ (a c : ℕ) (ea : a ≡ get_or v k 0) (e : decode c ≡ next (nodes w) k (decode b) a) (h : Valid (drop k (sizes w)) (slice k n v)) where
      here : slice k n v ≡ a ∷ slice (k + 1) n v
      here = places k n v more few long ∙ ap (λ (z : ℕ). z ∷ slice (k + 1) n v) (sym ea)

      -- the same value of feature k
      pub seek_same : (r : List ℕ) → Finds w x (k + 1) c v r → Finds w x k b v r
      seek_same r z =
          record {
            keeps = keeps_less z.keeps;
            first = rw (sizes_left w k more, here, places k n r more few z.keeps.sized, z.keeps.front k (omega arith) ∙ sym ea)
                (first_same (size w k) ns (rule_from w k b) x a (slice (k + 1) n v) (slice (k + 1) n r) (omega (arith, ea, (seek_valid h).0))
                (subst (λ (g : Rule). FirstFrom ns g x (slice (k + 1) n v) (slice (k + 1) n r)) (rule_next_lem s a c e) z.first));
          }

      -- else a greater one
      module _ (z : Seeks w x (k + 1) c v None) where
        none_same : NoneFrom ns (held a (rule_from w k b)) x (slice (k + 1) n v)
        none_same = subst (λ (g : Rule). NoneFrom ns g x (slice (k + 1) n v)) (rule_next_lem s a c e) z

        pub seek_none : Smallest w x k b (a + 1) None → Seeks w x k b v None
        seek_none q =
            rw (sizes_left w k more, here)
            (none_greater (size w k) ns (rule_from w k b) x a (slice (k + 1) n v) none_same (λ u i o. q u i o))

        pub seek_greater : (y d : ℕ) (to : List ℕ) → Least w x k b (a + 1) y → decode d ≡ next (nodes w) k (decode b) y → Completes w x (k + 1) d (set v k y) to → Finds w x k b v to
        seek_greater y d to q i p =
            record {
              keeps = keeps_set y more p.keeps;
              first = rw (sizes_left w k more, here, set_place v y more few long p.keeps)
                  (first_greater (size w k) ns (rule_from w k b) x a (slice (k + 1) n v) none_same y (slice (k + 1) n to)
                  (seek_valid h).1 (omega (arith, q.from)) q.below (λ u j o. q.none u j o)
                  (subst (λ (g : Rule). First ns g x (slice (k + 1) n to)) (rule_next_lem s y d i) p.first));
            }

-- ---- the answer
module _ {w : List ℕ} (s : Sound w) (p x : ℕ) (l : List ℕ) (h : Valid (sizes w) l) where
  long : length l ≡ features w
  long = valid_length (sizes w) l h ∙ length_sizes w

  short : length l ≤ 16
  short = omega (arith, long, s.header.few)

  -- all places of the features hold the given setting
  start : slice 0 (features w) (setting_of l).values ≡ l
  start = subst (λ (n : ℕ). take n (setting_of l).values ≡ l) long (values_held l short)

  pub seek_start : Valid (drop 0 (sizes w)) (slice 0 (features w) (setting_of l).values)
  seek_start = rw start h

  rest : drop (features w) (setting_of l).values ≡ replicate (16 - features w) 0
  rest = subst (λ (n : ℕ). drop n (setting_of l).values ≡ replicate (16 - n) 0) long (rest_held l short)

  module _ (b : ℕ) (e : b ≡ root w p) where
    pub answer_none : Seeks w x 0 b (setting_of l).values None → Answers (sizes w) (rule_of w p) x l None
    answer_none z = rw start at (rw e at z)

    pub answer_some : (r : List ℕ) → Finds w x 0 b (setting_of l).values r → Answers (sizes w) (rule_of w p) x l (Some (record { count = length l; values = r }))
    answer_some r q = (take (features w) r, held_first (length l) (features w) r long s.header.few q.keeps.sized (q.keeps.back ∙ rest), rw start at (rw e at q.first))
