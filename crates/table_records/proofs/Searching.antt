-- The search along a chain misses no record. Assumes nothing.
use mathlib.Core.Path.{◌≡◌, sym, subst, ◌∙◌}
use mathlib.Core.Logic.{⊎_elim}
use mathlib.Core.List.{List}
use Prim.Native.Nat.{ℕ, ◌-◌, ◌≤◌, ◌<◌}
use native.Mathlib.Omega.{arith}
use Rattle.table_words.specs.Words.{listed}
use Rattle.table_words.proofs.Tab.{split, same}
use Rattle.table_words.proofs.Words.{hash_small}
use Rattle.table_words.proofs.Chains.{Last, last_is}
use Rattle.table_records.specs.Laid.{Laid}
use Rattle.table_records.specs.Changes.{RecordIs}
use Rattle.table_records.proofs.Laying.{hash_is}
use Rattle.promises.specs.Words.{count, link, bucket, hash_of, hash_at}

-- the search stands at the chain's word c: the records from c on are not it
pub record Searched (w : List ℕ) (k : ℕ) (l : List ℕ) (c : ℕ) : Type 0 where
  pub within : c ≤ count w
  pub hash : 0 < c → hash_at w (c - 1) ≡ hash_of k (listed l)
  pub none : (j : ℕ) → c ≤ j → j < count w → RecordIs w j k l → ⊥

module _ (w : List ℕ) (k : ℕ) (l : List ℕ) (ok : Laid w) where
  pub search_start : Searched w k l (bucket w (hash_of k (listed l)))
  search_start =
      let b : Last (hash_at w) (hash_of k (listed l)) (count w) (bucket w (hash_of k (listed l))) =
      rw (ok.heads (hash_of k (listed l)) (hash_small k (listed l))) (last_is (hash_at w) (hash_of k (listed l)) (count w)) in
      record { within = b.within; hash = b.hash; none = λ j lo hi q. b.gap j lo hi (hash_is w j k l q) }

  linked : (i : ℕ) → i < count w → Last (hash_at w) (hash_at w i) i (link w i)
  linked i h = rw (ok.links i h) (last_is (hash_at w) (hash_at w i) i)

  pub search_next : (c : ℕ) → 0 < c → Searched w k l c → (RecordIs w (c - 1) k l → ⊥) → Searched w k l (link w (c - 1))
  search_next c p s miss =
      let b = linked (c - 1) (omega (arith, s.within)) in
      let e = s.hash p in
      record {
        within = omega (arith, b.within, s.within);
        hash = λ q. b.hash q ∙ e;
        none = λ j lo hi q. ⊎_elim
            (λ u. ⊎_elim
            (λ d. miss (subst (λ (i : ℕ). RecordIs w i k l) d q))
            (λ n. b.gap j lo (omega (arith, n)) (hash_is w j k l q ∙ sym e))
            (same j (c - 1)))
            (λ u. s.none j u hi q)
            (split j c);
      }

  pub search_less : (c : ℕ) → 0 < c → Searched w k l c → link w (c - 1) < c
  search_less c p s = omega (arith, (linked (c - 1) (omega (arith, s.within))).within)
