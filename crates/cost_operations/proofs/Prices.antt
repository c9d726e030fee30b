-- A price list is made of the words of its prices, where it fits a feature. Assumes nothing.
use mathlib.Core.Path.{◌≡◌, sym, subst, ◌∙◌}
use mathlib.Core.Logic.{◌⊎◌, inl, inr, ⊎_elim}
use mathlib.Core.List.{List, map}
use Prim.Native.Nat.{ℕ, suc, ◌≤◌, ◌<◌}
use native.Mathlib.Decide.{ℕ_discrete, dec_le}
use native.Mathlib.Omega.{arith}
use lib.IntN.{ℤ, pos, ◌-ℤ◌, +ℤ_idr}
use lib.ListN.{length, get_or, length-map}
use lib.Seq.{ext_get_or}
use Rattle.theory.specs.Costs.{costs, to_end}
use Rattle.theory.specs.Diagrams.{Branch, blank}
use Rattle.theory.specs.WellFormed.{Ok}
use Rattle.theory.proofs.Lists.{get_or_map_in}
use Rattle.theory_costs.specs.Extremes.{along}
use Rattle.theory_costs.specs.Narrow.{Narrow}
use Rattle.theory_costs.proofs.Integers.{fit_minus}
use Rattle.theory_costs.proofs.Prices.{build_priced}
use Rattle.table_words.specs.Holding.{built as builtOf}
use Rattle.table_words.proofs.Tab.{length_tab, get_or_tab}
use Rattle.table_words.proofs.Words.{length_sizes, at_sizes}
use Rattle.cost_words.proofs.Packing.{target_end}
use Rattle.cost_nodes.specs.Nodes.{Holds, Makes, Result, Armed, arms}
use Rattle.std.specs.Prelude.{Option}
use Rattle.cost_words.specs.Words.{tos, adding}
use Rattle.cost_words.specs.declared.Arm.{Arm}
use Rattle.cost_nodes.proofs.Reading.{lawful, holds_passed}
use Rattle.cost_operations.specs.Pricing.{Listed, Worded}
use Rattle.promises.specs.CostOperations.{priced}
use Rattle.promises.specs.Range.{add_most, cost_most}
use Rattle.promises.specs.Integers.{Fit, int}
use Rattle.promises.specs.Words.{features, size, sizes}
use Rattle.promises.specs.CostWords.{cost_branch as branch, cost_node_list as nodes}
use Rattle.promises.specs.CostSound.{kept}
use Rattle.promises.specs.CostDeeds.{Priced}

module _ (w : List ℕ) (f : ℕ) (l : List ℤ) (a : List Arm) (ok : Holds w) (d : Listed f l w) (words : Worded l a) where
  most : size w f ≤ 8
  most = (ok.laid.laid.large f d.known).1

  arm : (v : ℕ) → v < size w f → branch (tos a v) (adding a v) ≡ to_end (get_or l v (pos 0))
  arm v h = λ i. record { adds = words.each v (omega (arith, d.long)) i; to = target_end (tos a v) (words.ends v (omega (arith, most))) i }

  -- `make` may be asked
  pub price_armed : Narrow add_most (sizes w) (nodes w) → Armed w f a
  price_armed nr = record {
    each = λ v h. subst (Ok (nodes w) (suc f)) (sym (arm v h)) tt;
    pad = λ v m h. words.ends v h;
    near = λ v h. let hv : v < length l = omega (arith, d.long) in let h0 : 0 < length l = omega arith in
        rw (words.each v hv, words.each 0 h0) (fit_minus cost_most cost_most (get_or l v (pos 0)) (get_or l 0 (pos 0)) (d.priced.each v hv) (d.priced.each 0 h0));
    sums = λ up v h. let hv : v < length l = omega (arith, d.long) in let h0 : 0 < length l = omega arith in
        subst (λ (b : Branch costs). Fit add_most (along (kept up w) b -ℤ int (adding a 0))) (sym (arm v h))
        (subst (Fit add_most) (sym (λ i. +ℤ_idr (get_or l v (pos 0)) i -ℤ words.each 0 h0 i))
        (fit_minus cost_most cost_most (get_or l v (pos 0)) (get_or l 0 (pos 0)) (d.priced.each v hv) (d.priced.each 0 h0)));
    paired = holds_passed w ok nr;
  }

  -- the branches are the prices
  branches : arms (size w f) a ≡ map to_end l
  branches =
      ext_get_or blank (arms (size w f) a) (map to_end l) (length_tab _ (size w f) ∙ sym (length-map l to_end ∙ d.long))
      (λ v h. let hv : v < size w f = omega (arith, length_tab (λ u. branch (tos a u) (adding a u)) (size w f)) in
      get_or_tab (λ u. branch (tos a u) (adding a u)) (size w f) v blank hv ∙ arm v hv ∙ sym (get_or_map_in to_end (pos 0) blank l v (omega (arith, d.long))))

  -- and its answer is the price list
  pub price_made : (t : List ℕ) (o : Option Arm) → Makes w t f a o → Result w t 0 (priced f l) o
  unfolding builtOf
  price_made t o m =
      rw (build_priced (sizes w) (nodes w) ok.wf l (lawful.positive w ok.laid) f (omega (arith, length_sizes w, d.known)) (d.long ∙ sym (at_sizes w f d.known))) (rw branches at m)

-- ---- BAD ARGUMENT, of the words and as the promise says it
module _ (f : ℕ) (l : List ℤ) (w : List ℕ) where
  abbrev pub Unlisted : Type 0
  Unlisted = (length (sizes w) ≤ f) ⊎ ((length l ≡ get_or (sizes w) f 0 → ⊥) ⊎ (Priced l → ⊥))

  pub listed_good : Listed f l w → Unlisted → ⊥
  listed_good d = ⊎_elim (λ h. omega (arith, length_sizes w, d.known)) (⊎_elim (λ n. n (d.long ∙ sym (at_sizes w f d.known))) (λ n. n d.priced))

  pub listed_bad : (Listed f l w → ⊥) → Unlisted
  listed_bad n = go (dec_le (features w) f)
    where
      go : Dec (features w ≤ f) → Unlisted
      go (yes h) = inl (omega (arith, length_sizes w))
      go (no h) =
          let k : f < features w = omega arith in
          inr (of_length (ℕ_discrete (length l) (size w f)) k)
        where
          of_length : Dec (length l ≡ size w f) → f < features w → ((length l ≡ get_or (sizes w) f 0 → ⊥) ⊎ (Priced l → ⊥))
          of_length (yes e) k = inr (λ p. n (record { known = k; long = e; priced = p }))
          of_length (no d) k = inl (λ e. d (e ∙ at_sizes w f k))
