-- How far apart a cost's amounts lie: of a cost in range, under an offset, one feature on, at the branches of a result. Assumes nothing.
use mathlib.Core.Path.{◌≡◌, sym, subst}
use mathlib.Core.List.{List, ◌∷◌}
use Prim.Native.Nat.{ℕ, suc, ◌+◌, ◌<◌}
use lib.IntN.{ℤ, ◌-ℤ◌}
use lib.ListN.{drop}
use Rattle.theory.specs.Settings.{Pos, zeros}
use Rattle.theory.specs.Functions.{Agree, held, lift}
use Rattle.theory.specs.Diagrams.{Node}
use Rattle.theory.specs.WellFormed.{WellFormed}
use Rattle.theory.specs.Build.{build}
use Rattle.theory.specs.Costs.{Cost, costs}
use Rattle.theory.proofs.Lists.{drop_head}
use Rattle.theory.proofs.Ranges.{zeros_valid}
use Rattle.theory.proofs.Lifting.{build_adds}
use Rattle.theory_costs.specs.Narrow.{Spread}
use Rattle.theory_costs.proofs.Integers.{fit_minus, minus_both}
use Rattle.theory_costs.proofs.Walks.{Walk, Waits}
use Rattle.theory_costs.proofs.Relative.{offs}
use Rattle.promises.specs.Integers.{Fit}
use Rattle.promises.specs.Range.{Within}

pub within_spread : {B : ℕ} {ns : List ℕ} {f : Cost} → Within B ns f → Spread (B + B) ns f
within_spread {B} {f = f} h = record { apart = λ s r x y. fit_minus B B (f s).off (f r).off (h.fits s x) (h.fits r y) }

pub within_agree : {B : ℕ} {ns : List ℕ} {f g : Cost} → Agree ns f g → Within B ns g → Within B ns f
within_agree {B} e h = record { fits = λ s x. subst (Fit B) (sym (offs (e s x))) (h.fits s x) }

pub spread_agree : {D : ℕ} {ns : List ℕ} {f g : Cost} → Agree ns f g → Spread D ns g → Spread D ns f
spread_agree {D} e h = record { apart = λ s r x y. subst (Fit D) (sym (λ i. (e s x i).off -ℤ (e r y i).off)) (h.apart s r x y) }

-- an offset changes no difference
pub spread_lower : {D : ℕ} {ns : List ℕ} (a : ℤ) (f : Cost) → Spread D ns (λ s. lift a (f s)) → Spread D ns f
spread_lower {D} a f h = record { apart = λ s r x y. subst (Fit D) (minus_both a (f s).off (f r).off) (h.apart s r x y) }

pub spread_held : {D n : ℕ} {ns : List ℕ} (f : Cost) (v : ℕ) → v < n → Spread D (n ∷ ns) f → Spread D ns (held v f)
spread_held f v l h = record { apart = λ s r x y. h.apart (v ∷ s) (v ∷ r) (l, x) (l, y) }

-- the next states of a walk
pub walk_spread : (W : Walk) {D : ℕ} (k n : ℕ) (ns : List ℕ) (x : W.State) → Spread D (n ∷ ns) (W.run k x) → (v : ℕ) → v < n → Spread D ns (W.run (suc k) (W.goes k x v))
walk_spread W k n ns x h v l =
    spread_lower (W.gives k x v) (W.run (suc k) (W.goes k x v)) (spread_agree (λ s y. sym (W.steps k x v s)) (spread_held (W.run k x) v l h))

pub walk_spread_wait : (W : Walk) {D : ℕ} (k n : ℕ) (ns : List ℕ) → 0 < n → (x : W.State) → Waits W x k → Spread D (n ∷ ns) (W.run k x) → Spread D ns (W.run (suc k) x)
walk_spread_wait W k n ns p x e h = spread_agree (λ s y. sym (e 0 s)) (spread_held (W.run k x) 0 p h)

-- what the branches of one result add lies no further apart
pub adds_apart : {D : ℕ} (S : List ℕ) (k n : ℕ) (ns : List ℕ) → drop k S ≡ n ∷ ns → Pos (n ∷ ns) → (g : Cost) → Spread D (n ∷ ns) g → (v u : ℕ) → v < n → u < n →
    (N M : List (Node costs)) → WellFormed S N → WellFormed S M → Fit D ((build (suc k) ns (held v g) N).0.adds -ℤ (build (suc k) ns (held u g) M).0.adds)
adds_apart {D} S k n ns rest p g h v u lv lu N M wn wm =
    let d : drop (suc k) S ≡ ns = (drop_head S k n ns rest).2 in
    subst (Fit D)
    (sym (λ i. build_adds S (suc k) ns d p.1 (held v g) N wn i -ℤ build_adds S (suc k) ns d p.1 (held u g) M wm i))
    (h.apart (v ∷ zeros ns) (u ∷ zeros ns) (lv, zeros_valid ns p.1) (lu, zeros_valid ns p.1))
