-- A fresh rule table: its roots are the phrase 0. Assumes nothing.
use mathlib.Core.Path.{◌≡◌, sym, ap, ◌∙◌}
use mathlib.Core.Logic.{⊎_elim}
use mathlib.Core.List.{List}
use Prim.Native.Nat.{ℕ, ◌+◌, ◌<◌}
use native.Mathlib.Omega.{arith}
use lib.ListN.{length, get_or}
use Rattle.theory.specs.Diagrams.{blank}
use Rattle.settings.specs.Refusals.{Taken}
use Rattle.table_words.proofs.Tab.{split, get_or_tab}
use Rattle.table_calls.specs.Opening.{Opens, Named}
use Rattle.table_calls.proofs.Opened as C
use Rattle.rule_words.specs.Words.{encode}
use Rattle.rule_words.specs.Table.{rule_table}
use Rattle.promises.specs.TableDeeds.{Openable}

module _ {S : List ℕ} {cap : ℕ} {w w' : List ℕ} (o : Openable S cap (length w)) (n : Named 1 0 S cap w w') where
  root : (p : ℕ) → p < 32 → get_or w' (32 + p) 0 ≡ 0
  root p h = ⊎_elim (λ l. n.zero (32 + p) (omega (arith, o.list.few)) (omega arith)) (λ l. n.bases (32 + p) (omega arith) (omega arith)) (split p 16)

  pub opened : Opens rule_table S cap w w' Taken
  opened =
      C.opened rule_table o n (λ j h. n.zero (20 + j) (omega (arith, o.list.few)) (omega arith))
      (λ p h. root p h ∙ sym (ap encode (get_or_tab (λ q. blank) 32 p blank h))) (λ s. let z : 0 < 65536 = omega arith in z) tt
