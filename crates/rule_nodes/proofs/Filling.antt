-- The laws of a result built branch by branch (those of every kind), for the list of words that the code fills. Assumes nothing.
use Rattle.std.specs.Prelude.{Option, None, Some}
use mathlib.Core.Path.{◌≡◌, refl, sym, ap, ap₂, subst, ◌∙◌}
use mathlib.Core.List.{List, [], ◌∷◌, ◌++◌}
use Prim.Native.Nat.{ℕ, zero, suc, ◌+◌, ◌≤◌, ◌<◌}
use native.Mathlib.Numerals.{add-one}
use native.Mathlib.Omega.{arith}
use lib.ListN.{length, get_or, drop, set, length-set}
use lib.Seq.{get_or-set_same, get_or-set_other}
use Rattle.theory.specs.Build.{make, Ext}
use Rattle.theory.specs.Diagrams.{blank, value}
use Rattle.theory.specs.Functions.{held}
use Rattle.theory.specs.Rules.{Branch, Rule, Built}
use Rattle.theory.specs.WellFormed.{Mean, Ok}
use Rattle.table_words.specs.Holding as H
use Rattle.table_words.specs.Holding.{built as builtOf}
use Rattle.table_words.specs.Words.{listed}
use Rattle.table_words.proofs.Filling as F
use Rattle.table_words.proofs.Tab.{tab_none, tab_snoc, tab_ext, get_or_tab}
use Rattle.table_words.proofs.Words.{length_sizes, at_sizes, kept_size}
use Rattle.rule_words.specs.Words.{branches}
use Rattle.rule_nodes.specs.Nodes.{layout, Holds, told, Gives, Makes, Result, built, Good, Listed, Place, Filling, Stopped, Fills}
use Rattle.rule_nodes.proofs.Reading.{lawful}
use Rattle.rule_nodes.proofs.Stepping.{place_ext}
use Rattle.promises.specs.Words.{features, size, sizes}
use Rattle.promises.specs.RuleWords.{decode, rule_node_list as nodes}

-- ---- answers
to : {w t : List ℕ} {r : Built} {a : Option ℕ} → Gives w t r a → H.Gives layout w t r (told a)
to g = record { grown = g.grown; answers = g.answers }

from : {w t : List ℕ} {r : Built} {a : Option ℕ} → H.Gives layout w t r (told a) → Gives w t r a
from g = record { grown = g.grown; answers = g.answers }

pub gives_eq : {w t : List ℕ} {r q : Built} {a : Option ℕ} → r ≡ q → Gives w t q a → Gives w t r a
gives_eq {w} {t} {r} {q} {a} e g = rw e g

pub gives_is : {w t : List ℕ} {r : Built} {a : Option ℕ} {x : ℕ} → a ≡ Some x → Gives w t r a → Gives w t r (Some x)
gives_is {w} {t} {r} e g = subst (λ (y : Option ℕ). Gives w t r y) e g

pub gives_none : {w t : List ℕ} {r : Built} {a : Option ℕ} → a ≡ None → Gives w t r a → Gives w t r None
gives_none {w} {t} {r} e g = subst (λ (y : Option ℕ). Gives w t r y) e g

-- the nodes of w are still the first after any answer
pub result_ext : (w t : List ℕ) (k : ℕ) (g : Rule) (a : Option ℕ) → Holds w → Result w t k g a → Ext (nodes w) (nodes t)
result_ext w t k g a ok r = F.grown_ext lawful w t (built w k g).1 ok r.grown (F.built_ext lawful w k g)

pub result_agree : (w t : List ℕ) (k : ℕ) (g h : Rule) (a : Option ℕ) → ((s : List ℕ) → g s ≡ h s) → Result w t k h a → Result w t k g a
result_agree w t k g h a e r = from (F.result_agree lawful w t k g h (told a) e (to r))

-- the branch is there already
pub result_there : (w : List ℕ) (k x : ℕ) (g : Rule) → Holds w → built w k g ≡ (decode x, nodes w) → Result w w k g (Some x)
result_there w k x g ok e = from (F.result_there lawful w k (decode x) g ok e)

-- ---- what is built
pub sizes_from : (w : List ℕ) (k : ℕ) → k < features w → drop k (sizes w) ≡ size w k ∷ drop (suc k) (sizes w)
sizes_from w k h = F.sizes_from lawful w k (omega (arith, length_sizes w)) ∙ ap (λ (n : ℕ). n ∷ drop (suc k) (sizes w)) (at_sizes w k h)

-- a rule that does not depend on feature k is built at the next
pub built_skip : (w : List ℕ) (k : ℕ) (g h : Rule) → Holds w → k < features w → ((v : ℕ) → v < size w k → (s : List ℕ) → g (v ∷ s) ≡ h s) → built w k g ≡ built w (k + 1) h
built_skip w k g h ok hk e = F.built_skip lawful w k g h ok (omega (arith, length_sizes w)) (λ v l s. e v (omega (arith, at_sizes w k hk)) s)

-- a branch that means the rule is what is built
pub built_there : (w : List ℕ) (k x : ℕ) (g : Rule) → Holds w → Good w k x → ((s : List ℕ) → value (nodes w) k (decode x) s ≡ g s) → built w k g ≡ (decode x, nodes w)
built_there w k x g ok o e = F.built_there lawful w k (decode x) g ok o e

-- rules that skip the features below k are built from k on
pub built_jump : (w : List ℕ) (k : ℕ) (G : ℕ → Rule) → Holds w → k ≤ features w → ((j : ℕ) → j < k → (v : ℕ) (s : List ℕ) → G j (v ∷ s) ≡ G (suc j) s) → built w 0 (G 0) ≡ built w k (G k)
built_jump w zero G ok h e = refl
built_jump w (suc k) G ok h e =
    built_jump w k G ok (omega arith) (λ j l. e j (omega arith)) ∙ built_skip w k (G k) (G (suc k)) ok (omega arith) (λ v l s. e k (omega arith) v s)
    ∙ ap (λ (j : ℕ). built w j (G (suc k))) (add-one k)

-- ---- results remembered
-- what a result tells may be remembered
pub result_mean : (w t : List ℕ) (k : ℕ) (g : Rule) (x : ℕ) → Holds w → Result w t k g (Some x) → Mean (nodes t) k (drop k (sizes w)) (decode x) g
result_mean w t k g x ok r = F.result_mean lawful w t k g (decode x) ok (to r)

-- and what is remembered is the result
pub mean_result : (w : List ℕ) (k : ℕ) (g : Rule) (x : ℕ) → Holds w → Mean (nodes w) k (drop k (sizes w)) (decode x) g → Result w w k g (Some x)
mean_result w k g x ok m = from (F.mean_result lawful w k g (decode x) ok m)

-- ---- branch by branch
module _ (w : List ℕ) (k : ℕ) (g : Rule) (ok : Holds w) (hk : k < features w) where
  hs : k < length (sizes w)
  hs = omega (arith, length_sizes w)

  pub fill_start : (l : List ℕ) → length l ≡ 12 → ((u : ℕ) → u < 12 → listed l u ≡ 0) → Filling w w k g 0 l
  fill_start l e z =
      record {
        filled = subst (H.Filled layout w w k g 0) (sym (tab_none (λ v. decode (listed l v)))) (F.fill_start lawful w k g ok hs);
        pad = λ u a b. z u b;
        long = e;
      }

  one_more : (v x : ℕ) (l : List ℕ) → v < length l → branches v (listed l) ++ (decode x ∷ []) ≡ branches (v + 1) (listed (set l v x))
  one_more v x l h =
      sym (ap (λ (j : ℕ). branches j (listed (set l v x))) (add-one v) ∙ tab_snoc (λ u. decode (listed (set l v x) u)) v
      ∙ ap₂ (λ (p : List Branch) (q : Branch). p ++ (q ∷ []))
      (tab_ext (λ u. decode (listed (set l v x) u)) (λ u. decode (listed l u)) v (λ u b. ap decode (get_or-set_other l v u x 0 (omega arith))))
      (ap decode (get_or-set_same l v x 0 h)))

  -- the call for branch v answered x
  pub fill_more : (t t' : List ℕ) (v x : ℕ) (l : List ℕ) (h : Rule) (a : Option ℕ) → Filling w t k g v l → v < size w k → ((s : List ℕ) → held v g s ≡ h s)
      → Result t t' (k + 1) h a → a ≡ Some x → Filling w t' k g (v + 1) (set l v x)
  fill_more t t' v x l h a f lt e r is =
      let m : v < 12 = omega (arith, ok.laid.laid.large k hk) in
      record {
        filled = subst (H.Filled layout w t' k g (v + 1)) (one_more v x l (omega (arith, f.long)))
            (F.fill_more lawful w k g ok hs t t' v (branches v (listed l)) h (decode x) f.filled e (to (gives_is is r)));
        pad = λ u b b'. get_or-set_other l v u x 0 (omega arith) ∙ f.pad u (omega arith) b';
        long = length-set l v x ∙ f.long;
      }

  -- it found no room
  pub fill_stop : (t t' : List ℕ) (v : ℕ) (l : List ℕ) (h : Rule) (a : Option ℕ) → Filling w t k g v l → v < size w k → ((s : List ℕ) → held v g s ≡ h s)
      → Result t t' (k + 1) h a → a ≡ None → Stopped w t' k g
  fill_stop t t' v l h a f lt e r is =
      F.fill_stop lawful w k g ok hs t t' v (branches v (listed l)) h f.filled (omega (arith, at_sizes w k hk)) e (to (gives_none is r))

  pub stop_result : (t : List ℕ) → Stopped w t k g → Result w t k g None
  stop_result t s = from (F.stop_result lawful w k g ok hs t s)

  full : (t l : List ℕ) → Filling w t k g (size w k) l → H.Filled layout w t k g (get_or (sizes w) k 0) (branches (size w k) (listed l))
  full t l f = rw (at_sizes w k hk) f.filled

  -- `make` may be asked
  pub fill_listed : (t : List ℕ) (l : List ℕ) → Filling w t k g (size w k) l → Listed t k l
  fill_listed t l f =
      let s : size t k ≡ size w k = kept_size w t f.filled.grown.kept ok.laid.laid.few k hk in
      record {
        each = λ v h.
            subst (Ok (nodes t) (suc k)) (get_or_tab (λ u. decode (listed l u)) (size w k) v blank (omega arith))
            (F.fill_ok lawful w k g ok hs t (branches (size w k) (listed l)) (full t l f) v (omega (arith, at_sizes w k hk)));
        pad = λ v a b. f.pad v (omega arith) b;
      }

  -- and its answer is the result
  pub fill_make : (t t' : List ℕ) (l : List ℕ) (a : Option ℕ) → Filling w t k g (size w k) l → Makes t t' k l a → Result w t' k g a
  fill_make t t' l a f m =
      let s : size t k ≡ size w k = kept_size w t f.filled.grown.kept ok.laid.laid.few k hk in
      let y : Gives t t' (make k (branches (size w k) (listed l)) (nodes t)) a = rw s at m in
      from (F.fill_make lawful w k g ok hs t t' (branches (size w k) (listed l)) (told a) (full t l f) (to y))

  -- meanwhile the nodes and the places of w are as they were
  pub filling_ext : (t : List ℕ) (v : ℕ) (l : List ℕ) → Filling w t k g v l → Ext (nodes w) (nodes t)
  filling_ext t v l f = F.filled_ext lawful w t k g v (branches v (listed l)) ok f.filled

  pub filling_place : (t : List ℕ) (v : ℕ) (l : List ℕ) (j b : ℕ) → Filling w t k g v l → Place w j b → Place t j b
  filling_place t v l j b f p = place_ext w t j b p f.filled.grown.kept f.filled.grown.well (filling_ext t v l f)

-- what a function that fills the list answered
pub filled : (w t : List ℕ) (k : ℕ) (g : Rule) (r : Option (Unit {0})) (l : List ℕ) → r ≡ Some tt → Fills w t k g r l → Filling w t k g (size w k) l
filled w t k g r l e f = subst (λ (b : Option (Unit {0})). Fills w t k g b l) e f

pub not_filled : (w t : List ℕ) (k : ℕ) (g : Rule) (r : Option (Unit {0})) (l : List ℕ) → r ≡ None → Fills w t k g r l → Stopped w t k g
not_filled w t k g r l e f = subst (λ (b : Option (Unit {0})). Fills w t k g b l) e f
