-- The promise of calls that write, for every kind: how it is met at each return, and that the place has its function. Assumes nothing.
use mathlib.Core.Path.{◌≡◌, refl, sym, ap, ◌∙◌}
use mathlib.Core.List.{List, [], ◌∷◌}
use Prim.Native.Nat.{ℕ, zero, suc, ◌<◌}
use native.Mathlib.Omega.{arith}
use lib.ListN.{get_or, set}
use lib.Seq.{get_or-set_same}
use Rattle.theory.specs.Functions.{Agree, Fun, zero_fun}
use Rattle.theory.specs.Kind.{Kind}
use Rattle.settings.specs.Refusals.{Cases, Ends, ◌when◌else◌, taken}
use Rattle.settings.specs.declared.refusals.Refusal.{Refusal}
use Rattle.settings.specs.declared.refusals.Refusal.TheVariants.{NoRoom}
use Rattle.std.specs.Prelude.{Ok, Err}
use Rattle.settings.specs.Refusals.{Outcome}
use Rattle.settings.specs.Refusals.{Taken, Refused}
use Rattle.settings.proofs.Endings.{pass, not_taken, not_refused}
use Rattle.table_words.specs.Table.{Table, Regular, fun_at}
use Rattle.table_words.specs.Picture.{Becomes}
use Rattle.table_words.proofs.Reading.{length_said, at_said}
use Rattle.table_calls.specs.Writing.{Agrees, Exceeds, Writes, Puts}
use Rattle.promises.specs.Words.{sizes}

-- how a call ended, taken apart
pub ended : {A : Type 0} (o : Outcome) → (o ≡ Taken → A) → ((x : Refusal) → o ≡ Refused x → A) → A
ended (Ok u) f g = f refl
ended (Err x) f g = g x refl

module _ {K : Kind} where
  -- ---- functions that agree one by one
  pub one_agrees : (S : List ℕ) (g h : Fun K) → Agree S g h → Agrees S (g ∷ []) (h ∷ [])
  one_agrees S g h e = record { long = refl; each = go }
    where
      go : (i : ℕ) → i < 1 → Agree S (get_or (g ∷ []) i zero_fun) (get_or (h ∷ []) i zero_fun)
      go zero l = e
      go (suc i) l = absurd (omega arith)

  pub agrees_trans : {S : List ℕ} {fs gs hs : List (Fun K)} → Agrees S fs gs → Agrees S gs hs → Agrees S fs hs
  agrees_trans a b = record { long = a.long ∙ b.long; each = λ i h x v. a.each i h x v ∙ b.each i (omega (arith, a.long)) x v }

module _ {K : Kind} {T : Table K} where
  -- ---- the promise met: a refusal that leaves everything, a call that is taken, a refusal more that does not apply
  pub write_refused : {l : Cases} {p : ℕ} {gs : List (Fun K)} {w : List ℕ} {x : Refusal} → Ends l (Refused x) → Writes T l p gs w w (Refused x)
  write_refused e = record { ends = e; becomes = not_taken; refused = λ y q. refl }

  pub write_taken : {l : Cases} {p : ℕ} {gs : List (Fun K)} {w w' : List ℕ} → Ends l Taken → Becomes T p gs w w' → Writes T l p gs w w' Taken
  write_taken e b = record { ends = e; becomes = λ q. b; refused = λ y. not_refused }

  pub write_pass : {l : Cases} {P : Type 0} {p : ℕ} {gs : List (Fun K)} {w w' : List ℕ} {o : Outcome} (x : Refusal) → (P → ⊥) → Writes T l p gs w w' o
      → Writes T (x when P else l) p gs w w' o
  write_pass x n r = record { ends = pass n r.ends; becomes = r.becomes; refused = r.refused }

  -- ---- one function: whichever way it is said
  pub puts_one : {p : ℕ} {g : Fun K} {w w' : List ℕ} {o : Outcome} → Puts T p (g ∷ []) w w' o → (h : Fun K) → Agree (sizes w) g h
      → Writes T (NoRoom when (Exceeds T w (h ∷ [])) else taken) p (h ∷ []) w w' o
  puts_one {g = g} {w = w} r h e = r.puts (h ∷ []) (one_agrees (sizes w) g h e)

  pub puts_agree : {p : ℕ} {g h : Fun K} {w w' : List ℕ} {o : Outcome} → Agree (sizes w) g h → Puts T p (g ∷ []) w w' o → Puts T p (h ∷ []) w w' o
  puts_agree {g = g} {h = h} {w = w} e r = record { puts = λ ks c. r.puts ks (agrees_trans (one_agrees (sizes w) g h e) c) }

module _ {K : Kind} {T : Table K} (L : Regular T) where
  -- ---- where the functions said are those before with that of place p replaced by g, place p has g
  module _ (p : ℕ) (g : Fun K) (w w' : List ℕ)
      (a : (q : ℕ) → q < T.places → Agree (sizes w) (get_or (T.said w') q zero_fun) (get_or (set (T.said w) p g) q zero_fun)) where
    now : (q : ℕ) → q < T.places → Agree (sizes w) (fun_at T w' q) (get_or (set (T.said w) p g) q zero_fun)
    now q h t v = ap (λ (f : Fun K). f t) (sym (at_said L w' q h)) ∙ a q h t v

    pub place_written : p < T.places → Agree (sizes w) (fun_at T w' p) g
    place_written h t v = now p h t v ∙ ap (λ (f : Fun K). f t) (get_or-set_same (T.said w) p g zero_fun (omega (arith, length_said L w)))
