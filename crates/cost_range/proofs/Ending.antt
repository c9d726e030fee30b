-- The ends of a cost: of costs that agree, over a feature that it does not look at, value by value, with an offset. Assumes nothing.
use Rattle.std.specs.Prelude.{Option, Some, None}
use mathlib.Core.Bool.{Bool, true, false}
use mathlib.Core.Path.{◌≡◌, sym, ap, subst, ◌∙◌}
use mathlib.Core.List.{List, ◌∷◌}
use Prim.Native.Nat.{ℕ, zero, suc, ◌+◌, ◌<◌}
use native.Mathlib.Numerals.{add-one}
use native.Mathlib.Omega.{arith}
use lib.IntN.{ℤ, pos, ◌+ℤ◌, ◌-ℤ◌, +ℤ_idr}
use Rattle.theory.specs.Costs.{Cost}
use Rattle.theory.specs.Functions.{Agree, held, lift}
use Rattle.theory.specs.Settings.{Pos, zeros}
use Rattle.theory.proofs.Ranges.{zeros_valid}
use Rattle.theory_costs.specs.Narrow.{Spread}
use Rattle.theory_costs.proofs.Extremes.{low, high, across_one, across_more, extreme_agree, extreme_cons, extreme_lift, extreme_wait}
use Rattle.theory_costs.proofs.Integers.{minus_zero}
use Rattle.theory_costs.proofs.Range.{extreme_fits}
use Rattle.theory_costs.proofs.Relative.{offs}
use Rattle.theory_costs.proofs.Spreads.{within_agree, spread_agree, spread_held, spread_lower}
use Rattle.cost_words.specs.Sums.{Stands}
use Rattle.cost_words.proofs.Summing.{way}
use Rattle.cost_range.specs.Ends.{Spans, Reaches, Furthest, Folded, Folds}
use Rattle.cost_words.specs.declared.sides.Span.{Span}
use Rattle.promises.specs.CostSound.{across, extreme, side_of}
use Rattle.promises.specs.Integers.{Fit, int}
use Rattle.promises.specs.CostOperations.{smaller_of, larger_of}
use Rattle.promises.specs.Range.{Within, add_most}

-- ---- an answer by its case
pub ends_are : {ns : List ℕ} {f : Cost} {a : Span} (r : Option Span) → r ≡ Some a → Reaches ns f r → Spans ns f a.low a.high
ends_are {ns} {f} r e q = subst (Reaches ns f) e q

pub ends_lost : {ns : List ℕ} {f : Cost} (r : Option Span) → r ≡ None → Reaches ns f r → Reaches ns f None
ends_lost {ns} {f} r e q = subst (Reaches ns f) e q

-- ---- costs that agree
pub reaches_agree : (ns : List ℕ) (f g : Cost) → Agree ns f g → (r : Option Span) → Reaches ns g r → Reaches ns f r
reaches_agree ns f g e (Some a) q =
    record { lowest = q.lowest ∙ sym (extreme_agree smaller_of ns f g e); highest = q.highest ∙ sym (extreme_agree larger_of ns f g e) }
reaches_agree ns f g e None q = λ p w. q (spread_agree (λ s x. sym (e s x)) p) (within_agree (λ s x. sym (e s x)) w)

-- ---- one feature
module _ (n : ℕ) (ns : List ℕ) (f : Cost) where
  within_held : (v : ℕ) → v < n → Within add_most (n ∷ ns) f → Within add_most ns (held v f)
  within_held v h w = record { fits = λ s x. w.fits (v ∷ s) (h, x) }

  -- what is lost at a value is lost
  pub lost_held : (v : ℕ) → v < n → Reaches ns (held v f) None → Reaches (n ∷ ns) f None
  lost_held v h q = λ p w. q (spread_held f v h p) (within_held v h w)

  -- a feature that the cost does not look at
  pub reaches_wait : (g : Cost) → 0 < n → ((v : ℕ) → v < n → Agree ns (held v f) g) → (r : Option Span) → Reaches ns g r → Reaches (n ∷ ns) f r
  reaches_wait g h e (Some a) q =
      record { lowest = q.lowest ∙ sym (extreme_wait low n ns h f g e); highest = q.highest ∙ sym (extreme_wait high n ns h f g e) }
  reaches_wait g h e None q = lost_held 0 h (reaches_agree ns (held 0 f) g (e 0 h) None q)

  -- all values are passed
  pub folded_all : (l u : ℕ) → 0 < n → Folded false ns f n l → Folded true ns f n u → Spans (n ∷ ns) f l u
  folded_all l u h a b =
      record { lowest = a.folded h ∙ sym (extreme_cons smaller_of n ns f); highest = b.folded h ∙ sym (extreme_cons larger_of n ns f) }

module _ (up : Bool) (ns : List ℕ) (f : Cost) where
  abbrev each : ℕ → ℤ
  each u = extreme (side_of up) ns (held u f)

  -- the first value, and one more
  folded_one : (b : ℕ) → int b ≡ extreme (side_of up) ns (held 0 f) → Folded up ns f 1 b
  folded_one b e = record { folded = λ h. e ∙ sym (across_one (side_of up) each) }

  folded_more : (v a b r : ℕ) → 0 < v → Folded up ns f v a → int b ≡ extreme (side_of up) ns (held v f) → int r ≡ side_of up (int a) (int b) → Folded up ns f (v + 1) r
  folded_more zero a b r h p e q = absurd (omega arith)
  folded_more (suc v) a b r h p e q =
      record {
        folded =
            λ h. q ∙ (λ i. side_of up (p.folded (omega arith) i) (e i))
            ∙ sym (ap (across (side_of up) each) (add-one (suc v)) ∙ across_more (side_of up) each v);
      }

-- one value more on both sides
pub folds_more : (ns : List ℕ) (f : Cost) (v : ℕ) (a : Option Span) (b r : Span) → Folds ns f v a → Spans ns (held v f) b.low b.high → Furthest a b r → Folds ns f (v + 1) (Some r)
folds_more ns f v (Some a) b r p q h = (
  omega arith,
  folded_more false ns f v a.low b.low r.low p.0 p.1 q.lowest (h.wider false),
  folded_more true ns f v a.high b.high r.high p.0 p.2 q.highest (h.wider true),
)
folds_more ns f v None b r p q h =
    let g : Folds ns f 1 (Some b) = (
      omega arith,
      folded_one false ns f b.low (subst (λ (u : ℕ). int b.low ≡ extreme (side_of false) ns (held u f)) p q.lowest),
      folded_one true ns f b.high (subst (λ (u : ℕ). int b.high ≡ extreme (side_of true) ns (held u f)) p q.highest),
    ) in
    rw (h, p) g

-- ---- an offset: f has c on g, which is 0 where all features are 0
module _ (ns : List ℕ) (ps : Pos ns) (c : ℤ) (g f : Cost) (z : (g (zeros ns)).off ≡ pos 0) (e : Agree ns f (λ s. lift c (g s))) where
  spread_under : Spread add_most ns f → Spread add_most ns g
  spread_under p = spread_lower c g (spread_agree (λ s x. sym (e s x)) p)

  within_under : Spread add_most ns f → Within add_most ns g
  within_under p =
      record {
        fits = λ s x. subst (Fit add_most) (ap (λ (y : ℤ). (g s).off -ℤ y) z ∙ minus_zero (g s).off) ((spread_under p).apart s (zeros ns) x (zeros_valid ns ps));
      }

  -- the offset is lost
  pub base_lost : Stands c None → Reaches ns f None
  base_lost q = λ p w. q (subst (Fit add_most) (offs (e (zeros ns) (zeros_valid ns ps)) ∙ ap (λ (y : ℤ). c +ℤ y) z ∙ +ℤ_idr c) (w.fits (zeros ns) (zeros_valid ns ps)))

  -- what is below it is lost
  pub rest_lost : Reaches ns g None → Reaches ns f None
  rest_lost q = λ p w. q (spread_under p) (within_under p)

  module _ (up : Bool) (b l : ℕ) (eb : int b ≡ c) (el : int l ≡ extreme (side_of up) ns g) where
    end_sum : int b +ℤ int l ≡ extreme (side_of up) ns f
    end_sum = (λ i. eb i +ℤ el i) ∙ sym (extreme_agree (side_of up) ns f (λ s. lift c (g s)) e ∙ extreme_lift (way up) ns ps c g)

    -- their sum is lost, ..
    pub end_lost : Stands (int b +ℤ int l) None → Reaches ns f None
    end_lost q = λ p w. q (subst (Fit add_most) (sym end_sum) (extreme_fits (way up) ns ps f w))

    -- .. or has a word
    pub end_stands : (r : ℕ) → int r ≡ int b +ℤ int l → int r ≡ extreme (side_of up) ns f
    end_stands r q = q ∙ end_sum
