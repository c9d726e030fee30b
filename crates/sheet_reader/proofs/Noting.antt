-- The laws of the notes: none, nodes added, one more. Assumes nothing.
use mathlib.Core.Path.{◌≡◌, ◌∙◌}
use mathlib.Core.Logic.{⊎_elim}
use mathlib.Core.List.{List}
use Prim.Native.Nat.{ℕ, ◌+◌, ◌-◌, ◌≤◌, ◌<◌}
use native.Mathlib.Omega.{arith}
use lib.ListN.{length, get_or, set, length-set}
use lib.Seq.{get_or-set_same, get_or-set_other}
use Rattle.theory.specs.Build.{Ext}
use Rattle.theory.specs.WellFormed.{Mean}
use Rattle.theory.proofs.Values.{mean_more}
use Rattle.table_words.proofs.Tab.{same}
use Rattle.rule_nodes.specs.Nodes.{Holds}
use Rattle.sheet_reader.specs.Reader.{given, Noted}
use Rattle.promises.specs.Words.{sizes}
use Rattle.promises.specs.RuleWords.{decode, rule_node_list as nodes}
use Rattle.promises.specs.Sheet.{sheet_count as count}

pub noted_none : (w s n : List ℕ) → count s ≤ 4096 → length n ≡ 4096 → ((i : ℕ) → i < 4096 → get_or n i 0 ≡ 0) → Noted w s n
noted_none w s n few l z = record { long = l; right = λ i h p. absurd (omega (arith, z i (omega arith))) }

pub noted_grown : (w w' s n : List ℕ) → Holds w → sizes w' ≡ sizes w → Ext (nodes w) (nodes w') → Noted w s n → Noted w' s n
noted_grown w w' s n ok e x q = record { long = q.long; right = λ i h p. rw e (mean_more (sizes w) ok.wf x (q.right i h p)) }

pub noted_put : (w s n : List ℕ) (i r : ℕ) → i < 4096 → Noted w s n → Mean (nodes w) 0 (sizes w) (decode r) (given s 0 (65536 + i)) → Noted w s (set n i (r + 1))
noted_put w s n i r h q m =
    record {
      long = length-set n i (r + 1) ∙ q.long;
      right = λ j l p. ⊎_elim
          (λ (e : j ≡ i).
          let d : r + 1 - 1 ≡ r = omega arith in
          rw (e, get_or-set_same n i (r + 1) 0 (omega (arith, q.long)), d) m)
          (λ (e : j ≡ i → ⊥).
          let o = get_or-set_other n i j (r + 1) 0 e in
          rw o (q.right j l (omega arith)))
          (same j i);
    }
