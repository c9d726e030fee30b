-- A fresh cost table: its roots go to the end, its bases are the word of 0. Assumes nothing.
use mathlib.Core.Path.{◌≡◌, sym, ap, ◌∙◌}
use mathlib.Core.Logic.{⊎_elim}
use mathlib.Core.List.{List}
use Prim.Native.Nat.{ℕ, ◌+◌, ◌-◌, ◌≤◌, ◌<◌}
use native.Mathlib.Omega.{arith}
use lib.ListN.{length, get_or}
use Rattle.theory.specs.Costs.{costs}
use Rattle.theory.specs.Diagrams.{Branch, blank}
use Rattle.settings.specs.Refusals.{Taken}
use Rattle.theory_costs.specs.Integers.{word_for}
use Rattle.theory_costs.proofs.Integers.{fit_zero}
use Rattle.table_words.proofs.Tab.{split, get_or_tab}
use Rattle.table_calls.specs.Opening.{Opens, Named}
use Rattle.table_calls.proofs.Opened as C
use Rattle.table_calls.proofs.Opened.{ends}
use Rattle.cost_words.specs.Words.{target_word}
use Rattle.cost_words.specs.Table.{root_of, cost_table}
use Rattle.cost_words.proofs.Showing.{root_shows, base_shows}
use Rattle.promises.specs.Range.{cost_most}
use Rattle.promises.specs.TableDeeds.{Openable}

module _ {S : List ℕ} {cap : ℕ} {w w' : List ℕ} (o : Openable S cap (length w)) (n : Named 2 2147483648 S cap w w') where
  roots : (p : ℕ) → p < 32 → get_or w' (32 + p) 0 ≡ root_of (ends 16) p
  roots p h = ⊎_elim low high (split p 16)
    where
      low : p < 16 → get_or w' (32 + p) 0 ≡ root_of (ends 16) p
      low l =
          n.zero (32 + p) (omega (arith, o.list.few)) (omega arith)
          ∙ sym (root_shows (ends 16) p l ∙ ap (λ (b : Branch costs). target_word b.to) (get_or_tab (λ q. blank) 16 p blank l))

      high : 16 ≤ p → get_or w' (32 + p) 0 ≡ root_of (ends 16) p
      high l =
          let q : 16 + (p - 16) ≡ p = omega arith in
          n.bases (32 + p) (omega arith) (omega arith)
          ∙ sym (ap (root_of (ends 16)) (sym q) ∙ base_shows (ends 16) (p - 16) ∙ ap (λ (b : Branch costs). word_for b.adds) (get_or_tab (λ q. blank) 16 (p - 16) blank (omega arith)))

  pub opened : Opens cost_table S cap w w' Taken
  opened = C.opened cost_table o n (λ j h. n.zero (20 + j) (omega (arith, o.list.few)) (omega arith)) roots (λ s. fit_zero cost_most) tt
