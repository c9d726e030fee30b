-- Tables of refusals that say the same end a call the same. Assumes nothing.
use mathlib.Core.Path.{◌≡◌}
use Rattle.settings.specs.Refusals.{Cases, Ends, ◌when◌else◌, taken}
use Rattle.settings.specs.declared.refusals.Refusal.{Refusal}
use Rattle.settings.specs.Refusals.{Outcome}
use Rattle.settings.specs.Refusals.{Taken, Refused}
use Rattle.settings.proofs.Endings.{ends_unique, not_refused}

-- the same refusals in the same order, each later condition the same where the earlier ones fail
pub data Like : Cases → Cases → Type 1 where
  alike : Like taken taken
  more : (x : Refusal) {P Q : Type 0} {l m : Cases} → (P → Q) → (Q → P) → ((P → ⊥) → Like l m) → Like (x when P else l) (x when Q else m)

-- a condition that is the same in both
pub keep : (x : Refusal) {P : Type 0} {l m : Cases} → ((P → ⊥) → Like l m) → Like (x when P else l) (x when P else m)
keep x k = more x (λ p. p) (λ p. p) k

pub like_refl : (l : Cases) → Like l l
like_refl taken = alike
like_refl (x when P else l) = keep x (λ n. like_refl l)

pub like_ends : {l m : Cases} (o : Outcome) → Like l m → Ends m o → Ends l o
like_ends o alike e = e
like_ends o (more x f b k) e = (λ p. e.0 (f p), λ n. like_ends o (k n) (e.1 (λ q. n (b q))))

pub like_one : {l m : Cases} (o q : Outcome) → Like l m → Ends l o → Ends m q → o ≡ q
like_one {l} {m} o q k a b = ends_unique l o q a (like_ends q k b)

-- a taken call: the condition fails, and the rest is taken too. Stated on what `Ends` computes to
pub clear : {x : Refusal} {P Rest : Type 0} → (P → Taken ≡ Refused x) × ((P → ⊥) → Rest) → P → ⊥
clear e p = not_refused (e.0 p)

pub rest : {x : Refusal} {P Rest : Type 0} → (P → Taken ≡ Refused x) × ((P → ⊥) → Rest) → Rest
rest e = e.1 (λ p. not_refused (e.0 p))
