-- What a header says of its numbers and of the nodes' place, and the promise's header as that of a table whose shares are 0. Assumes nothing.
use mathlib.Core.Path.{◌≡◌, sym, ap, ◌∙◌}
use mathlib.Core.Logic.{⊎_elim}
use mathlib.Core.List.{List}
use Prim.Native.Nat.{ℕ, ◌+◌, ◌-◌, ◌≤◌, ◌<◌}
use native.Mathlib.Omega.{arith}
use lib.ListN.{get_or}
use Rattle.theory.specs.Kind.{Kind}
use Rattle.table_words.specs.Table.{Table}
use Rattle.table_words.proofs.Tab.{split}
use Rattle.table_checks.specs.Header.{Front, HeaderOf}
use Rattle.table_checks.specs.Chained.{Framed}
use Rattle.promises.specs.Words.{head}
use Rattle.promises.specs.Sound.{Header}

pub front : {k : ℕ} {w : List ℕ} → Header k w → Front k w
front h = record { kind = h.kind; some = h.some; most = h.most; room = h.room; one = h.one; few = h.few; within = h.within }

pub framed : {k : ℕ} {w : List ℕ} → Header k w → Framed w
framed h = record { most = h.most; room = h.room; within = h.within }

-- ---- the promise's header and that of a table whose shares are 0
module _ {K : Kind} (T : Table K) (none : (j : ℕ) → j < 2 → T.share j ≡ 0) {w : List ℕ} where
  pub header_of : Header T.number w → HeaderOf T w
  unfolding head
  header_of h =
      record {
        front = front h;
        fit = h.fit;
        past = h.past;
        shares = λ j l. h.shares.zeros (20 + j) (omega arith) (omega arith) ∙ sym (none j l);
        unused = record { zeros = λ j a b. h.shares.zeros j (omega arith) b };
        middle = h.middle;
        clean = h.clean;
      }

  pub header_from : HeaderOf T w → Header T.number w
  unfolding head
  header_from h =
      let f = h.front in
      record {
        kind = f.kind;
        some = f.some;
        most = f.most;
        room = f.room;
        one = f.one;
        few = f.few;
        within = f.within;
        fit = h.fit;
        past = h.past;
        shares = record { zeros = λ j a b. ⊎_elim (share j a) (λ l. h.unused.zeros j l b) (split j 22) };
        middle = h.middle;
        clean = h.clean;
      }
    where
      share : (j : ℕ) → 20 ≤ j → j < 22 → get_or w j 0 ≡ 0
      share j a b =
          let e : j ≡ 20 + (j - 20) = omega arith in
          ap (λ (x : ℕ). get_or w x 0) e ∙ h.shares (j - 20) (omega arith) ∙ none (j - 20) (omega arith)
