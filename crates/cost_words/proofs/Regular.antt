-- A cost table is regular: its words are drawn as they are read. Assumes nothing.
use mathlib.Core.Path.{◌≡◌, refl, sym, ap, ap₂, subst, ◌∙◌}
use mathlib.Core.Logic.{⊎_elim}
use mathlib.Core.List.{List}
use Prim.Native.Nat.{ℕ, ◌+◌, ◌-◌, ◌≤◌, ◌<◌}
use native.Mathlib.Omega.{arith}
use Rattle.theory.specs.Costs.{costs}
use Rattle.theory.specs.Diagrams.{Branch}
use Rattle.theory_costs.specs.Integers.{word_for}
use Rattle.table_words.specs.Table.{Regular, roots_of}
use Rattle.table_words.proofs.Reading.{at_roots}
use Rattle.table_words.proofs.Tab.{split}
use Rattle.cost_words.specs.Table.{root_of, cost_table}
use Rattle.cost_words.specs.Words.{target_word}
use Rattle.cost_words.proofs.Packing.{target_end, target_node, target_word_lem, word_int, goes_same, body_told, pair_twin}
use Rattle.cost_words.proofs.Showing.{body_shows, root_shows, base_shows}
use Rattle.promises.specs.Words.{head}
use Rattle.promises.specs.CostWords.{cost_branch as branch, cost_root as root, cost_base as base, costs_of}

-- the 32 words of the places: 16 root words, then 16 bases
roots_shown : (w : List ℕ) (p : ℕ) → p < 32 → head w (32 + p) ≡ root_of (roots_of cost_table w) p
roots_shown w p h = ⊎_elim low high (split p 16)
  where
    R : List (Branch costs)
    R = roots_of cost_table w

    low : p < 16 → head w (32 + p) ≡ root_of R p
    low l = sym (root_shows R p l ∙ ap (λ (b : Branch costs). target_word b.to) (at_roots cost_table w p l) ∙ target_word_lem (root w p))

    high : 16 ≤ p → head w (32 + p) ≡ root_of R p
    high l =
        let e : 32 + p ≡ 48 + (p - 16) = omega arith in
        let q : 16 + (p - 16) ≡ p = omega arith in
        ap (head w) e
        ∙ sym (ap (root_of R) (sym q) ∙ base_shows R (p - 16) ∙ ap (λ (b : Branch costs). word_for b.adds) (at_roots cost_table w (p - 16) (omega arith))
        ∙ word_int (base w (p - 16)))

pub regular : Regular cost_table
unfolding costs_of
regular =
    record {
      arms = λ f v. refl;
      ends = λ x h. (tt, target_end x (omega arith));
      indices = λ i. target_node (1 + i) i (omega arith);
      reads = λ f g v h e. ap₂ branch (goes_same f g e v h) (e (4 + v) (omega arith));
      padded = λ m f g e p. record {
        targets = λ v l h. sym (goes_same f g e v h) ∙ p.targets v l h;
        addeds = λ v l h. sym (e (4 + v) (omega arith)) ∙ p.addeds v l h;
      };
      told = λ m f g l e p q. body_told m f g e p q;
      spared = pair_twin;
      bodies = body_shows;
      places = λ w w' e p h.
          let q : 32 + (16 + p) ≡ 48 + p = omega arith in
          ap₂ branch (e p (omega arith)) (subst (λ (j : ℕ). head w' j ≡ head w j) q (e (16 + p) (omega arith)));
      tops = λ w p. refl;
      roots = roots_shown;
      shared = λ cap S gs hs l e x. x;
      said = λ w. refl;
    }
