-- A run of places numbered in turn: no place, one more, one place alone; how many nodes it reaches. Assumes nothing.
use mathlib.Core.Path.{◌≡◌, sym, ap, subst, ◌∙◌}
use mathlib.Core.Logic.{⊎_elim}
use mathlib.Core.List.{List, [], ◌∷◌, ◌++◌}
use Prim.Native.Nat.{ℕ, suc, ◌+◌, ◌-◌, ◌≤◌, ◌<◌}
use native.Mathlib.Nat.{add-zero}
use native.Mathlib.Omega.{arith}
use lib.ListN.{length, get_or}
use Rattle.theory.specs.Build.{build, table}
use Rattle.theory.specs.Diagrams.{blank}
use Rattle.theory.specs.Rules.{Branch, Built, Node, Rule}
use Rattle.theory.specs.Tally.{tally}
use Rattle.theory.proofs.Growing.{each_last}
use Rattle.theory.proofs.Rests.{nodes_tally}
use Rattle.table_words.proofs.Tab.{split, tab_none, tab_snoc, tab_ext}
use Rattle.rule_numbering.specs.declared.Notes.{Notes}
use Rattle.rule_numbering.specs.Walkable.{Walkable}
use Rattle.rule_numbering.specs.Numbering.{mark, renumbered, Has, numbered, Numbers}
use Rattle.rule_numbering.specs.Running.{run_rules, run_roots, Run, Blank, Ran}
use Rattle.rule_numbering.proofs.Numbers.{renumbered_kept, length_numbered, positive, stands_below, numbered_none, noted_none}
use Rattle.promises.specs.Tab.{tab}
use Rattle.promises.specs.Words.{sizes}
use Rattle.promises.specs.RuleWords.{decode, rule_root as root, rule_of}

module _ {w : List ℕ} (s : Walkable w) where
  pub ran_none : {n : Notes} (p : ℕ) → Blank n → Ran w n p 0 0
  ran_none {n} p b = record { noted = noted_none s b; holds = rw (tab_none, tab_none, numbered_none); has = λ q h. absurd (omega arith) }

  -- ---- one more
  module _ {t t' : Notes} {p m q c r : ℕ} (run : Run w p m) (h : q < m) (d : Ran w t p q c) (e : Numbers w t t' (root w (p + q)) c r) where
    -- a node that a root before says keeps its number
    kept : (u : ℕ) → u < q → (l : 65536 ≤ root w (p + u)) → mark t' (root w (p + u) - 65536) ≡ mark t (root w (p + u) - 65536)
    kept u hu l = e.kept (root w (p + u) - 65536) (omega (arith, stands_below s (root w (p + u)) (run.stand u (omega arith)))) (d.has u hu l)

    has_more : (u : ℕ) → u < suc q → Has t' (root w (p + u))
    has_more u hu l = ⊎_elim
        (λ g. let y = d.has u g l in omega (arith, kept u g l))
        (λ g. let y : u ≡ q = omega arith in subst (λ (x : ℕ). Has t' (root w (p + x))) (sym y) e.has l)
        (split u q)

    roots_more : run_roots w t p q ++ (decode (renumbered t' (root w (p + q))) ∷ []) ≡ run_roots w t' p (suc q)
    roots_more =
        ap (λ (bs : List Branch). bs ++ (decode (renumbered t' (root w (p + q))) ∷ []))
        (tab_ext (λ u. decode (renumbered t (root w (p + u)))) (λ u. decode (renumbered t' (root w (p + u)))) q
        (λ u hu. ap decode (sym (renumbered_kept t t' (root w (p + u)) (kept u hu)))))
        ∙ sym (tab_snoc (λ u. decode (renumbered t' (root w (p + u)))) q)

    pub ran_more : Ran w t' p (suc q) r
    ran_more =
        record {
          noted = e.noted;
          holds =
              ap (λ (gs : List Rule). table (sizes w) gs) (tab_snoc (λ u. rule_of w (p + u)) q)
              ∙ each_last (build 0 (sizes w)) (run_rules w p q) (rule_of w (p + q)) [] (numbered w t c) (numbered w t' r) (run_roots w t p q) (decode (renumbered t' (root w (p + q))))
              d.holds (e.copied.built 0 tt (run.stand q h))
              ∙ ap (λ (bs : List Branch). let x : List Branch × List Node = (bs, numbered w t' r) in x) roots_more;
          has = has_more;
        }

  -- THEOREM: the nodes that a run reaches are as many as the distinct rests of its rules
  pub reached_tally : {n : Notes} {p m r : ℕ} → Ran w n p m r → r ≡ tally (sizes w) (run_rules w p m)
  reached_tally {n} {p} {m} {r} d =
      sym (length_numbered w n r)
      ∙ ap (λ (x : List Branch × List Node). length x.1) (sym d.holds)
      ∙ nodes_tally (sizes w) (positive s) (run_rules w p m)

-- ---- one place alone
pub run_one : {w : List ℕ} {n : Notes} {p r : ℕ} → Ran w n p 1 r → build 0 (sizes w) (rule_of w p) [] ≡ (decode (renumbered n (root w p)), numbered w n r)
unfolding tab
run_one {w} {n} {p} {r} d =
    subst (λ (x : ℕ). build 0 (sizes w) (rule_of w x) [] ≡ (decode (renumbered n (root w x)), numbered w n r)) (add-zero p)
    (ap (λ (x : List Branch × List Node). let y : Built = (get_or x.0 0 blank, x.1) in y) d.holds)
