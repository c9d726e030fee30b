-- Nodes chained in turn. Assumes nothing.
use mathlib.Core.Path.{◌≡◌, sym, ap, subst, ◌∙◌}
use mathlib.Core.Logic.{⊎_elim}
use mathlib.Core.List.{List}
use Prim.Native.Nat.{ℕ, ◌+◌, ◌*◌, ◌≤◌, ◌<◌}
use native.Mathlib.Omega.{arith}
use native.Mathlib.Numerals.{add-one}
use lib.ListN.{length, get_or, set, length-set}
use lib.Seq.{get_or-set_same, get_or-set_other}
use Rattle.table_words.proofs.Tab.{same}
use Rattle.table_words.proofs.Words.{hash_at_ext}
use Rattle.table_words.proofs.Chains.{last_here, last_not}
use Rattle.table_sweep.specs.Sweeping.{Bare}
use Rattle.promises.specs.Words.{word, head, count, bucket, link, hash_at, last_of}

-- the first i nodes are chained
pub record Relinking (w t : List ℕ) (i : ℕ) : Type 0 where
  pub long : length t ≡ length w
  pub front : (j : ℕ) → j < 4096 → head t j ≡ head w j
  pub words : (n r : ℕ) → n < count w → r < 16 → (r ≡ 13 → ⊥) → word t n r ≡ word w n r
  pub links : (n : ℕ) → n < i → link t n ≡ last_of (hash_at w) (hash_at w n) n
  pub heads : (h : ℕ) → h < 4096 → bucket t h ≡ last_of (hash_at w) h i
  pub after : (j : ℕ) → 8192 + 16 * count w ≤ j → get_or t j 0 ≡ get_or w j 0

module _ {w t : List ℕ} {a i : ℕ} (h x y : ℕ) (b : Bare w a) (k : Relinking w t i) (hi : i < count w) (eh : h ≡ hash_at t i) (hh : h < 4096) (ex : x ≡ bucket t h) (ey : y ≡ i + 1) where
  abbrev linked : List ℕ
  linked = set t (8192 + 16 * i + 13) x

  abbrev out : List ℕ
  out = set linked (4096 + h) y

  other : (j : ℕ) → (j ≡ 8192 + 16 * i + 13 → ⊥) → (j ≡ 4096 + h → ⊥) → get_or out j 0 ≡ get_or t j 0
  other j p q = get_or-set_other linked (4096 + h) j y 0 q ∙ get_or-set_other t (8192 + 16 * i + 13) j x 0 p

  own : h ≡ hash_at w i
  own = eh ∙ hash_at_ext w t i (λ j l. k.words i j hi (omega arith) (omega arith))

  inside : 8192 + 16 * i + 16 ≤ length t
  inside = omega (arith, b.room, b.within, k.long)

  pub relinking_more : Relinking w out (i + 1)
  unfolding word head
  relinking_more =
      let l = inside in
      record {
        long = length-set linked (4096 + h) y ∙ length-set t (8192 + 16 * i + 13) x ∙ k.long;
        front = λ j g. other j (omega arith) (omega arith) ∙ k.front j g;
        words = λ n r g u q. other (8192 + 16 * n + r) (omega (arith, q)) (omega arith) ∙ k.words n r g u q;
        links = λ n g. ⊎_elim
            (λ e. subst (λ (z : ℕ). get_or out (8192 + 16 * z + 13) 0 ≡ last_of (hash_at w) (hash_at w z) z) (sym e)
            (get_or-set_other linked (4096 + h) (8192 + 16 * i + 13) y 0 (omega arith)
            ∙ get_or-set_same t (8192 + 16 * i + 13) x 0 (omega arith) ∙ ex ∙ k.heads h hh ∙ ap (λ (z : ℕ). last_of (hash_at w) z i) own))
            (λ e. other (8192 + 16 * n + 13) (omega (arith, e)) (omega arith) ∙ k.links n (omega (arith, e)))
            (same n i);
        heads = λ g hg. ⊎_elim
            (λ e. rw e
            (get_or-set_same linked (4096 + h) y 0 (omega (arith, length-set t (8192 + 16 * i + 13) x)) ∙ ey ∙ sym (rw add-one (last_here (hash_at w) h i (sym own)))))
            (λ e. other (4096 + g) (omega arith) (omega (arith, e)) ∙ k.heads g hg ∙ sym (rw add-one (last_not (hash_at w) g i (λ z. e (sym (own ∙ z))))))
            (same g h);
        after = λ j g. other j (omega arith) (omega arith) ∙ k.after j g;
      }
