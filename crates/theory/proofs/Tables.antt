-- Functions built in turn from nothing: roots, sameness, room. Assumes nothing.
use mathlib.Core.Path.{◌≡◌, refl, sym, ap, ◌∙◌, subst}
use mathlib.Core.Logic.{◌↔◌}
use mathlib.Core.List.{List, [], ◌∷◌, ◌++◌}
use Prim.Native.Nat.{ℕ, suc, ◌≤◌, ◌<◌}
use native.Mathlib.Decide.{ℕ_discrete}
use native.Mathlib.Omega.{arith}
use lib.ListN.{length, get_or, length-append, get_or-append, set, length-set}
use lib.Seq.{get_or-append_seam, get_or-set_same, get_or-set_other}
use Rattle.theory.specs.Kind.{Kind}
use Rattle.theory.specs.Settings.{Pos}
use Rattle.theory.specs.Functions.{Agree, Fun, zero_fun}
use Rattle.theory.specs.Diagrams.{Branch, Node, blank, value}
use Rattle.theory.specs.Rests.{IsRest, OfSome, Rest}
use Rattle.theory.specs.Tally.{tally}
use Rattle.theory.specs.WellFormed.{Mean, WellFormed}
use Rattle.theory.specs.Build.{Built, build, each, table}
use Rattle.theory.proofs.Growing.{each_append}
use Rattle.theory.proofs.WellFormed.{wf_empty}
use Rattle.theory.proofs.Values.{means_place}
use Rattle.theory.proofs.Meaning.{builds_right}
use Rattle.theory.proofs.Canonical.{build_agree, canonical_unique}
use Rattle.theory.proofs.Rests.{nodes_tally}
use Rattle.theory.proofs.Counting.{counts_le, tally_counts}

module _ {K : Kind} where
  pub table_wf : (S : List ℕ) (gs : List (Fun K)) → WellFormed S (table S gs).1
  table_wf S gs = (builds_right S gs [] (wf_empty S)).wfs

  -- each place's root means its rule
  pub table_mean : (S : List ℕ) (gs : List (Fun K)) (i : ℕ) → i < length gs → Mean (table S gs).1 0 S (get_or (table S gs).0 i blank) (get_or gs i zero_fun)
  table_mean S gs = means_place (table S gs).1 0 S (table S gs).0 gs (builds_right S gs [] (wf_empty S)).means

  -- SAME: two places have one root exactly if their rules agree
  pub same_root : (S : List ℕ) → Pos S → (gs : List (Fun K)) (i j : ℕ) → i < length gs → j < length gs →
      (Agree S (get_or gs i zero_fun) (get_or gs j zero_fun)) ↔ (get_or (table S gs).0 i blank ≡ get_or (table S gs).0 j blank)
  same_root S pos gs i j hi hj = (
    (λ a. canonical_unique S 0 S refl pos (table S gs).1 (table_wf S gs) (get_or (table S gs).0 i blank) (get_or (table S gs).0 j blank) (get_or gs j zero_fun)
        (record { ok = (table_mean S gs i hi).ok; says = λ s x. (table_mean S gs i hi).says s x ∙ a s x })
        (table_mean S gs j hj)),
    (λ e s x. sym ((table_mean S gs i hi).says s x) ∙ ap (λ (b : Branch K). value (table S gs).1 0 b s) e ∙ (table_mean S gs j hj).says s x),
  )

  -- tables of rules that agree, place by place, are one table: only functions decide it
  pub table_agree : (S : List ℕ) (gs hs : List (Fun K)) → length gs ≡ length hs → ((i : ℕ) → i < length gs → Agree S (get_or gs i zero_fun) (get_or hs i zero_fun)) →
      (N : List (Node K)) → each (build 0 S) gs N ≡ each (build 0 S) hs N
  table_agree S [] [] l a N = refl
  table_agree S [] (h ∷ hs) l a N = absurd (let z : 0 ≡ suc (length hs) = l in omega arith)
  table_agree S (g ∷ gs) [] l a N = absurd (let z : suc (length gs) ≡ 0 = l in omega arith)
  table_agree S (g ∷ gs) (h ∷ hs) l a N =
      ap (λ (r : Built K). let q = each (build 0 S) gs r.1 in let t : List (Branch K) × List (Node K) = (r.0 ∷ q.0, q.1) in t) (build_agree 0 S g h (a 0 (omega arith)) N)
      ∙ ap (λ (q : List (Branch K) × List (Node K)). let t : List (Branch K) × List (Node K) = ((build 0 S h N).0 ∷ q.0, q.1) in t)
      (table_agree S gs hs (omega arith) (λ i hi. a (suc i) (omega arith)) (build 0 S h N).1)

  -- ROOM: the result built onto the table's list has as many nodes as there are the distinct rests of all places before the call with those of the result
  pub room : (S : List ℕ) → Pos S → (gs : List (Fun K)) (g : Fun K) → length (build 0 S g (table S gs).1).1 ≡ tally S (gs ++ (g ∷ []))
  room S pos gs g = sym (ap (λ (q : List (Branch K) × List (Node K)). length q.1) (each_append (build 0 S) gs (g ∷ []) [])) ∙ nodes_tally S pos (gs ++ (g ∷ []))

  -- and the table with the result in its place has no more
  pub room_after : (S : List ℕ) (gs : List (Fun K)) (g : Fun K) (d : ℕ) → d < length gs → tally S (set gs d g) ≤ tally S (gs ++ (g ∷ []))
  room_after S gs g d hd =
      counts_le S (set gs d g) (gs ++ (g ∷ [])) (tally S (set gs d g)) (tally S (gs ++ (g ∷ []))) sub (tally_counts S (set gs d g)) (tally_counts S (gs ++ (g ∷ [])))
    where
      sub : (x : Rest K) → OfSome S (set gs d g) x → OfSome S (gs ++ (g ∷ [])) x
      sub x o = go (ℕ_discrete o.place d)
        where
          l : o.place < length gs
          l = omega (arith, o.there, length-set gs d g)

          go : Dec (o.place ≡ d) → OfSome S (gs ++ (g ∷ [])) x
          go (yes e) =
              record {
                place = length gs;
                there = omega (arith, length-append gs (g ∷ []));
                is_rest = subst (λ (r : Fun K). IsRest S r x) (ap (λ (i : ℕ). get_or (set gs d g) i zero_fun) e ∙ get_or-set_same gs d g zero_fun hd
                    ∙ sym (get_or-append_seam gs g [] zero_fun)) o.is_rest;
              }
          go (no e) =
              record {
                place = o.place;
                there = omega (arith, length-append gs (g ∷ []), l);
                is_rest = subst (λ (r : Fun K). IsRest S r x) (get_or-set_other gs d o.place g zero_fun e ∙ sym (get_or-append gs (g ∷ []) zero_fun o.place l)) o.is_rest;
              }
