-- Stepping from all zeros meets every setting exactly once, and then ends. Assumes nothing.
use mathlib.Core.Path.{◌≡◌, refl, sym, ap, ◌∙◌, subst}
use mathlib.Core.Logic.{◌↔◌}
use mathlib.Core.Option.{Option, some, none}
use mathlib.Core.List.{List, [], ◌∷◌}
use Prim.Native.Nat.{ℕ, zero, suc, ◌+◌, ◌*◌, ◌≤◌, ◌<◌}
use native.Mathlib.Nat.{suc-mul}
use native.Mathlib.Numerals.{add-one}
use native.Mathlib.Decide.{dec_lt}
use native.Mathlib.Omega.{arith}
use lib.ListN.{length}
use borrow.Author.Tests.{lt-ltb, le-ltb}
use Rattle.theory.specs.Settings.{Valid, Pos, product}
use Rattle.theory.proofs.Ranges.{zeros_valid}
use Rattle.theory.proofs.Rank.{rank, rank_below, rank_one, rank_none, rank_zeros}
use Rattle.settings.specs.Step.{next_of, grow}
use Rattle.settings.specs.Visit.{onward, visited}
use Rattle.settings.proofs.Following.{next_valid}

-- the next setting has the next rank, and the last setting the last
abbrev Ranks : List ℕ → ℕ → Option (List ℕ) → Type 0
Ranks S k (some t) = rank S t ≡ k + 1
Ranks S k none = k + 1 ≡ product S

ranks_grown : (n v m k : ℕ) (ns : List ℕ) (w : Option (List ℕ)) → v < n → Ranks ns k w → Ranks (n ∷ ns) (v * product ns + k) (grow n v m w)
ranks_grown n v m k ns (some t) h r = omega arith
ranks_grown n v m k ns none h r = go (dec_lt (v + 1) n)
  where
    carried : (v + 1) * product ns ≡ v * product ns + k + 1
    carried = rw (add-one v) (omega (arith, suc-mul v (product ns)))

    go : Dec (v + 1 < n) → Ranks (n ∷ ns) (v * product ns + k) (grow n v m none)
    go (yes l) = rw (lt-ltb (v + 1) n l) (omega (arith, carried, rank_none ns m))
    go (no l) =
        let top : v + 1 ≡ n = omega arith in
        let over : n ≤ v + 1 = omega arith in
        rw (le-ltb (v + 1) n over) (sym carried ∙ ap (λ (x : ℕ). x * product ns) top)

ranks : (S s : List ℕ) → Valid S s → Ranks S (rank S s) (next_of S s)
unfolding next_of
ranks [] [] h = refl
ranks [] (v ∷ s) h = absurd h
ranks (n ∷ ns) [] h = absurd h
ranks (n ∷ ns) (v ∷ s) h = ranks_grown n v (length s) (rank ns s) ns (next_of ns s) h.0 (ranks ns s h.1)

-- what is met at step i is a setting of rank i
abbrev Met : List ℕ → ℕ → Option (List ℕ) → Type 0
Met S i (some t) = Valid S t × (rank S t ≡ i)
Met S i none = product S ≤ i

met_on : (S : List ℕ) (i : ℕ) (w : Option (List ℕ)) → Met S i w → Met S (suc i) (onward S w)
met_on S i none h = omega arith
met_on S i (some s) h = go (next_of S s) refl (ranks S s h.0)
  where
    go : (w : Option (List ℕ)) → next_of S s ≡ w → Ranks S (rank S s) w → Met S (suc i) (next_of S s)
    go (some t) e r = rw e (next_valid S s t h.0 e, omega (arith, r, h.1))
    go none e r = rw e (omega (arith, r, h.1))

module _ (S : List ℕ) (pos : Pos S) where
  met : (i : ℕ) → Met S i (visited S i)
  met zero = (zeros_valid S pos, rank_zeros S)
  met (suc i) = met_on S i (visited S i) (met i)

  met_some : (i : ℕ) (t : List ℕ) → visited S i ≡ some t → Met S i (some t)
  met_some i t e = subst (Met S i) e (met i)

  -- only settings are met
  pub visits_valid : (i : ℕ) (t : List ℕ) → visited S i ≡ some t → Valid S t
  visits_valid i t e = (met_some i t e).0

  -- no setting is met twice
  pub visits_once : (i j : ℕ) (t : List ℕ) → visited S i ≡ some t → visited S j ≡ some t → i ≡ j
  visits_once i j t d e = omega (arith, (met_some i t d).1, (met_some j t e).1)

  -- as many settings are met as there are, and nothing after them
  pub visits_all_then_ends : (i : ℕ) → ((t : List ℕ) × (visited S i ≡ some t)) ↔ (i < product S)
  visits_all_then_ends i = (λ e. let m : Met S i (some e.0) = met_some i e.0 e.1 in omega (arith, m.1, rank_below S e.0 m.0), λ l. go (visited S i) refl (met i) l)
    where
      go : (w : Option (List ℕ)) → visited S i ≡ w → Met S i w → i < product S → (t : List ℕ) × (visited S i ≡ some t)
      go (some t) e m l = (t, e)
      go none e m l = absurd (omega arith)

  -- every setting is met
  pub visits_each : (t : List ℕ) → Valid S t → (i : ℕ) × (i < product S) × (visited S i ≡ some t)
  visits_each t h = (rank S t, rank_below S t h, there ∙ ap some same)
    where
      found : (u : List ℕ) × (visited S (rank S t) ≡ some u)
      found = (visits_all_then_ends (rank S t)).1 (rank_below S t h)

      there : visited S (rank S t) ≡ some found.0
      there = found.1

      m : Met S (rank S t) (some found.0)
      m = met_some (rank S t) found.0 there

      same : found.0 ≡ t
      same = rank_one S found.0 t m.0 h m.1
