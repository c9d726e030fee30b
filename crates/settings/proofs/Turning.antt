-- Laws of the stepper's inner loop, which turns the places from the last one down. Assumes nothing.
use mathlib.Core.Path.{◌≡◌, refl, sym, ap, ◌∙◌}
use mathlib.Core.Option.{Option, some, none}
use mathlib.Core.List.{List, [], ◌∷◌, ◌++◌, append_assoc}
use Prim.Native.Nat.{ℕ, zero, suc, ◌+◌, ◌-◌, ◌≤◌, ◌<◌}
use native.Mathlib.Omega.{arith}
use native.Mathlib.Nat.{sub_self}
use lib.ListN.{length, take, drop, set, get_or, replicate, length-take, length-drop, length-append, length-replicate, take-append-drop}
use lib.Seq.{drop-cons, get_or-take, take-take, take_at, drop_at, drop-length}
use borrow.Author.Tests.{lt-ltb, le-ltb}
use Rattle.settings.specs.Step.{next_of, grow}
use Rattle.std.specs.Prelude.{Some, None}
use Rattle.settings.specs.Odometer.{Turns}

back : (k : ℕ) (l r : List ℕ) (x : ℕ) → k < length l → set (take (suc k) l ++ r) k x ≡ take k l ++ (x ∷ r)
back k [] r x h = absurd (omega arith)
back zero (v ∷ l) r x h = refl
back (suc k) (v ∷ l) r x h = ap (λ (t : List ℕ). v ∷ t) (back k l r x (omega arith))

read : (k : ℕ) (l r : List ℕ) → k < length l → get_or (take (suc k) l ++ r) k 0 ≡ get_or l k 0
read k [] r h = absurd (omega arith)
read zero (v ∷ l) r h = refl
read (suc k) (v ∷ l) r h = read k l r (omega arith)

-- what stands before place k stays, where the rest has a next setting
prefix : (k : ℕ) (S s t : List ℕ) → k ≤ length S → k ≤ length s → next_of (drop k S) (drop k s) ≡ some t → next_of S s ≡ some (take k s ++ t)
unfolding next_of
prefix zero S s t a b h = h
prefix (suc k) [] s t a b h = absurd (omega arith)
prefix (suc k) (n ∷ S) [] t a b h = absurd (omega arith)
prefix (suc k) (n ∷ S) (v ∷ s) t a b h = rw (prefix k S s t (omega arith) (omega arith) h)

-- the places l with those from i up to n turned to 0
abbrev pub turned : ℕ → List ℕ → ℕ → List ℕ
turned n l i = take i l ++ (replicate (n - i) 0 ++ drop n l)

pub start : (n : ℕ) (l : List ℕ) → l ≡ turned n l n
start n l = sym (rw (sub_self n) (take-append-drop n l))

module _ (S vs : List ℕ) (k : ℕ) (below : k < length S) (fv : length S ≤ length vs) where
  pub at : (v : List ℕ) → v ≡ turned (length S) vs (suc k) → get_or v k 0 ≡ get_or vs k 0
  at v e = rw e (read k vs (replicate (length S - suc k) 0 ++ drop (length S) vs) (omega arith))

  more : length S - k ≡ suc (length S - suc k)
  more = omega arith

  pub back_to : (v : List ℕ) → v ≡ turned (length S) vs (suc k) → set v k 0 ≡ turned (length S) vs k
  back_to v e = rw (e, more) (back k vs (replicate (length S - suc k) 0 ++ drop (length S) vs) 0 (omega arith))

  here : (t : Option (List ℕ)) → next_of (drop (suc k) S) (drop (suc k) (take (length S) vs)) ≡ t
      → next_of (drop k S) (drop k (take (length S) vs)) ≡ grow (get_or S k 0) (get_or vs k 0) (length S - suc k) t
  unfolding next_of
  here t e =
      let lv : k < length (take (length S) vs) = simp length-take (omega arith) in
      let ll : length (drop (suc k) (take (length S) vs)) ≡ length S - suc k = simp (length-drop, length-take) (omega arith) in
      rw (drop-cons S k 0 below, drop-cons (take (length S) vs) k 0 lv, get_or-take (length S) vs k 0 below, e, ll)

  pub full : next_of (drop (suc k) S) (drop (suc k) (take (length S) vs)) ≡ none → get_or S k 0 ≤ get_or vs k 0 + 1 → next_of (drop k S) (drop k (take (length S) vs)) ≡ none
  full e h = rw (here none e, le-ltb (get_or vs k 0 + 1) (get_or S k 0) h)

  x : ℕ
  x = get_or vs k 0 + 1

  head : List ℕ
  head = take k vs ++ (x ∷ replicate (length S - suc k) 0)

  whole : (v : List ℕ) → v ≡ turned (length S) vs (suc k) → set v k (get_or vs k 0 + 1) ≡ head ++ drop (length S) vs
  unfolding head x
  whole v e = rw e (back k vs (replicate (length S - suc k) 0 ++ drop (length S) vs) x (omega arith)) ∙ sym (append_assoc (take k vs) (x ∷ replicate (length S - suc k) 0) (drop (length S) vs))

  long : length head ≡ length S
  unfolding head x
  long = simp (length-append, length-take, length-replicate) (omega arith)

  pub moves : (v : List ℕ) → v ≡ turned (length S) vs (suc k) → next_of (drop (suc k) S) (drop (suc k) (take (length S) vs)) ≡ none → get_or vs k 0 + 1 < get_or S k 0
      → Turns S vs (Some (set v k (get_or vs k 0 + 1)))
  unfolding head x
  moves v e z h = (
    there ∙ sym (rw (whole v e) (ap some (take_at head (drop (length S) vs) (length S) long))),
    rw (whole v e) (drop_at head (drop (length S) vs) (length S) long),
  )
    where
      grown : next_of (drop k S) (drop k (take (length S) vs)) ≡ some (x ∷ replicate (length S - suc k) 0)
      grown = here none z ∙ rw (lt-ltb (get_or vs k 0 + 1) (get_or S k 0) h)

      there : next_of S (take (length S) vs) ≡ some head
      there = prefix k S (take (length S) vs) (x ∷ replicate (length S - suc k) 0) (omega arith) (simp length-take (omega arith)) grown ∙ rw (take-take k (length S) vs (omega arith))

pub nothing : (S vs : List ℕ) → next_of (drop (length S) S) (drop (length S) (take (length S) vs)) ≡ none
unfolding next_of
nothing S vs = rw (drop-length S)

pub stays : (S vs : List ℕ) (i : ℕ) → i ≤ 0 → next_of (drop i S) (drop i (take (length S) vs)) ≡ none → Turns S vs None
stays S vs (suc i) z h = absurd (omega arith)
stays S vs zero z h = h
