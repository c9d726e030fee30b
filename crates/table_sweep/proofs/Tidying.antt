-- The whole tidying: a collected table whose nodes are chained anew is the picture of what its places mean. Assumes nothing.
use mathlib.Core.Path.{◌≡◌, sym, ap, subst, ◌∙◌}
use mathlib.Core.List.{List}
use Prim.Native.Nat.{ℕ, ◌+◌, ◌<◌}
use native.Mathlib.Omega.{arith}
use lib.ListN.{length}
use Rattle.theory.specs.Build.{table}
use Rattle.theory.specs.Diagrams.{Branch, Node}
use Rattle.theory.specs.Functions.{Fun}
use Rattle.theory.specs.Kind.{Kind}
use Rattle.theory.specs.Settings.{Valid}
use Rattle.table_words.specs.Table.{Table, Regular, nodes, roots_of, fun_at}
use Rattle.table_words.specs.Picture.{node_hash, Shows, Proper}
use Rattle.table_words.proofs.Chains.{last_ext}
use Rattle.table_words.proofs.Reading.{length_nodes, at_nodes, length_said, at_said}
use Rattle.table_words.proofs.Picture.{hash_shown}
use Rattle.table_words.proofs.Words.{length_sizes, sizes_show}
use Rattle.table_sweep.specs.Sweeping.{Relinked}
use Rattle.table_sweep.specs.Collecting.{Collected}
use Rattle.table_sweep.specs.Tidy.{Untidy, Tidied}
use Rattle.promises.specs.Words.{head, capacity, count, sizes, hash_at, last_of}

module _ {K : Kind} {T : Table K} (L : Regular T) where
  -- in range at every setting, and as the shares ask
  module _ {p₀ : ℕ} {w t : List ℕ} (u : Untidy T p₀ w) (range : (p : ℕ) → p < T.places → (s : List ℕ) → Valid (sizes w) s → T.InRange (fun_at T w p s))
      (shared : T.Shared (capacity w) (sizes w) (T.said w)) (c : Collected T w t) where
    holds_said : table (sizes w) (T.said w) ≡ (roots_of T t, nodes T t)
    holds_said = ap (λ (gs : List (Fun K)). table (sizes w) gs) (L.said w) ∙ c.holds

    proper_now : Proper T (capacity w) (sizes w) (T.said w)
    proper_now =
        record {
          some = u.some;
          most = u.most;
          list = u.list;
          places = length_said L w;
          range = λ p h s x. subst (λ (g : Fun K). T.InRange (g s)) (sym (at_said L w p h)) (range p h s x);
          fits = omega (arith, ap (λ (q : List (Branch K) × List (Node K)). length q.1) holds_said, length_nodes T t, c.fewer, u.within);
          shared = shared;
        }

    module _ {w' : List ℕ} (r : Relinked t w') where
      abbrev N : List (Node K)
      N = nodes T t

      abbrev hash : ℕ → ℕ
      hash = node_hash T (nodes T t)

      front : (j : ℕ) → j < 32 → (j ≡ 19 → ⊥) → head w' j ≡ head w j
      front j h n = r.front j (omega arith) ∙ c.low j h n

      tested : (i : ℕ) → i < count t → hash_at t i ≡ hash i
      tested i h =
          hash_shown T N t i (sym (ap (λ (x : Node K). x.feature) (at_nodes T t i h))) (λ v hv. L.bodies t c.padded i v h hv)

      shows_now : Shows T (capacity w) (sizes w) (roots_of T t) N w'
      unfolding head
      shows_now =
          let n = length_nodes T t in
          record {
            long = omega (arith, u.room, c.long, r.long);
            kind_is = front 0 (omega arith) (omega arith) ∙ u.kind_is;
            room = front 1 (omega arith) (omega arith);
            many = front 2 (omega arith) (omega arith) ∙ sym (length_sizes w);
            sizes_are = λ k h. front (3 + k) (omega arith) (omega arith) ∙ sizes_show w u.past_sizes k h;
            used = r.front 19 (omega arith) ∙ sym n;
            shares = λ j h. front (20 + j) (omega arith) (omega arith) ∙ u.shares j h;
            unused = record { zeros = λ j h g. front j g (omega arith) ∙ u.unused.zeros j h g };
            roots_are = λ p h. r.front (32 + p) (omega arith) ∙ L.roots t p h;
            middle = record { zeros = λ j h g. r.front j g ∙ c.middle j h g ∙ u.middle.zeros j h g };
            heads = λ x h. r.heads x h ∙ last_ext (hash_at t) hash x (count t) tested ∙ ap (last_of hash x) (sym n);
            tests = λ i h.
                let l : i < count t = omega arith in
                r.words i 0 l (omega arith) (omega arith) ∙ sym (ap (λ (x : Node K). x.feature) (at_nodes T t i l));
            bodies = λ i v h g. let l : i < count t = omega arith in r.words i (1 + v) l (omega arith) (omega arith) ∙ L.bodies t c.padded i v l g;
            links = λ i h.
                let l : i < count t = omega arith in
                r.links i l ∙ ap (λ (x : ℕ). last_of (hash_at t) x i) (tested i l) ∙ last_ext (hash_at t) hash (hash i) i (λ j g. tested j (omega arith));
            spare = λ i j h g. let l : i < count t = omega arith in r.words i (14 + j) l (omega arith) (omega arith) ∙ c.spared i j l g;
            clean = record { zeros = λ j h g. r.after j (omega arith) ∙ c.clean.zeros j (omega arith) g };
          }

      pub tidied : Tidied T w w'
      tidied =
          record {
            proper = proper_now;
            pictures = subst (λ (q : List (Branch K) × List (Node K)). Shows T (capacity w) (sizes w) q.0 q.1 w') (sym holds_said) shows_now;
            long = r.long ∙ c.long;
            past = λ j h. r.after j (omega (arith, c.fewer, u.within)) ∙ c.past j h;
          }
