-- The marks: what they say of a branch, and of the values of a feature in turn. Assumes nothing.
use Rattle.std.specs.Prelude.{Option, Some, None}
use Rattle.std.specs.Option.{IsSome}
use mathlib.Core.Bool.{Bool}
use mathlib.Core.Path.{◌≡◌, refl, sym, subst}
use mathlib.Core.Logic.{⊎_elim}
use mathlib.Core.List.{List}
use Prim.Native.Nat.{ℕ, ◌+◌, ◌<◌}
use native.Mathlib.Nat.{le_refl}
use native.Mathlib.Omega.{arith}
use lib.ListN.{drop}
use Rattle.theory.specs.Counted.{Given}
use Rattle.theory.specs.Diagrams.{next}
use Rattle.theory.specs.Functions.{held}
use Rattle.theory.specs.Rules.{Rule}
use Rattle.theory.proofs.Counted.{meet_some}
use Rattle.theory.proofs.Rules.{value_phrase, numbers}
use Rattle.table_words.proofs.Tab.{split}
use Rattle.rule_words.proofs.Reading.{decode_phrase}
use Rattle.settings.specs.Tells.{Tells}
use Rattle.rule_count.specs.Figures.{answered}
use Rattle.rule_count.specs.declared.NodeAnswers.{NodeAnswers}
use Rattle.rule_count.specs.declared.Wanted.TheVariants.{Exactly}
use Rattle.rule_count.proofs.Asking.{answered_tells}
use Rattle.rule_next.specs.Marks.{Leads, Spot, Marks, rule_from, Smallest}
use Rattle.rule_next.proofs.Stepping.{spot_is, spot_next, rule_next_lem, sizes_left}
use Rattle.promises.specs.Words.{features, sizes, count}
use Rattle.promises.specs.RuleWords.{decode, rule_node_list as nodes}

-- ---- a branch word
-- a phrase means itself
pub phrase_gives : (w : List ℕ) (k b : ℕ) (u : List ℕ) → b < 65536 → (rule_from w k b u).end ≡ b
phrase_gives w k b u h = rw (decode_phrase b h) (numbers (value_phrase (nodes w) k b u))

pub spot_small : {w : List ℕ} {k b : ℕ} → Spot w k b → b < 65536 + count w
spot_small {w} {k} {b} s = ⊎_elim (λ h. omega (arith, h)) (λ h. omega (arith, h, (spot_is s h).0)) (split b 65536)

-- the marks tell whether a branch leads to x
marks_tell : {w : List ℕ} {k b : ℕ} {a : NodeAnswers} (x : ℕ) → Spot w k b → Marks w x a → Tells (answered a.met (Exactly x) b) (Leads w x k b)
marks_tell {w} {k} {b} {a} x s q = answered_tells s.sound (Exactly x) (count w) k b a.met (le_refl _) q.1 (record { below = spot_small s; above = λ h. (spot_is s h).1 })

-- ---- the values of a feature in turn
module _ {w : List ℕ} {k b : ℕ} (s : Spot w k b) (h : k < features w) (x : ℕ) where
  -- the marks tell whether a value leads to x
  pub value_tells : {a : NodeAnswers} (v c : ℕ) (r : Bool) → decode c ≡ next (nodes w) k (decode b) v → r ≡ answered a.met a.wanted c → Marks w x a
      → Tells r (Given (drop (k + 1) (sizes w)) (held v (rule_from w k b)) x)
  value_tells {a} v c r e t q =
      let p = spot_next s v c e h in
      rw (t, q.0) (subst (λ (g : Rule). Tells (answered a.met (Exactly x) c) (Given (drop (k + 1) (sizes w)) g x)) (rule_next_lem s v c e) (marks_tell x p q))

  -- the branch of a value that leads to x does
  pub leads_next : (v c : ℕ) → decode c ≡ next (nodes w) k (decode b) v → Given (drop (k + 1) (sizes w)) (held v (rule_from w k b)) x → Leads w x (k + 1) c
  leads_next v c e r = subst (λ (g : Rule). Given (drop (k + 1) (sizes w)) g x) (sym (rule_next_lem s v c e)) r

  -- some value does, if the branch does
  pub smallest_there : (r : Option ℕ) → Leads w x k b → Smallest w x k b 0 r → IsSome r
  smallest_there (Some v) l q = refl
  smallest_there None l q = let y = meet_some (rw (sizes_left w k h) at l) in absurd (q y.0 (omega arith) (omega (arith, y.1)) y.2)
