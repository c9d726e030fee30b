-- The joint rule at the root, in the documents' words: apply, CASE and forget. Assumes nothing.
use mathlib.Core.Path.{◌≡◌, refl, sym, ap, ap₂, ◌∙◌}
use mathlib.Core.List.{List}
use Prim.Native.Nat.{ℕ, ◌+◌, ◌-◌, ◌≤◌, ◌<◌}
use native.Mathlib.Omega.{arith}
use lib.ListN.{length, drop, set, length-drop}
use lib.Seq.{get_or-drop, ext_get_or}
use borrow.Author.Tests.{le-ltb}
use Rattle.theory.specs.Functions.{Agree}
use Rattle.theory.specs.Rules.{says, number}
use Rattle.theory.specs.Settings.{Valid}
use Rattle.table_words.specs.Words.{listed}
use Rattle.table_words.proofs.Tab.{length_tab, get_or_tab, tab_ext}
use Rattle.rule_engine.specs.Joint.{spread, joint}
use Rattle.rule_operators.proofs.Operating.{op_pair, op_case, op_forget}
use Rattle.rule_engine.proofs.Joining.{spread_none}
use Rattle.promises.specs.Tab.{tab}
use Rattle.promises.specs.Words.{features, sizes}
use Rattle.promises.specs.RuleWords.{decode, rule_node_list as nodes}
use Rattle.promises.specs.Operators.{pair_of, case_of, forgotten_of}

-- at the root each operand has the forgotten feature at its own index
spread_root : (f j : ℕ) (s : List ℕ) → spread f 0 j s ≡ set s f j
unfolding spread
spread_root f j s = let z : f - 0 ≡ f = omega arith in rw (le-ltb f 0 (omega arith), z) refl

-- nothing is forgotten
unspread : (w : List ℕ) (f j : ℕ) (s : List ℕ) → features w ≤ f → Valid (sizes w) s → spread f 0 j s ≡ s
unspread w f j s h v = spread_none w f 0 j s h (omega arith) v

-- the number that the branch word b gives a setting
abbrev at_root : List ℕ → ℕ → List ℕ → ℕ
at_root w b s = number (nodes w) 0 (decode b) s

-- apply: the operator of the two branches' numbers
pub joint_apply : (w : List ℕ) (o f : ℕ) (l : List ℕ) → o < 6 → features w ≤ f
    → Agree (sizes w) (joint w o f 2 0 l) (λ s. says (pair_of o (number (nodes w) 0 (decode (listed l 0)) s) (number (nodes w) 0 (decode (listed l 1)) s)))
unfolding joint
joint_apply w o f l h none s v =
    ap says (op_pair o 2 (λ j. at_root w (listed l j) (spread f 0 j s)) (omega arith) h
    ∙ ap₂ (pair_of o) (ap (at_root w (listed l 0)) (unspread w f 0 s none v)) (ap (at_root w (listed l 1)) (unspread w f 1 s none v)))

-- a list without its first
tab_rest : (f : ℕ → ℕ) (m : ℕ) → drop 1 (tab f (m + 1)) ≡ tab (λ j. f (1 + j)) m
tab_rest f m =
    let e : length (drop 1 (tab f (m + 1))) ≡ m = omega (arith, length-drop 1 (tab f (m + 1)), length_tab f (m + 1)) in
    ext_get_or 0 (drop 1 (tab f (m + 1))) (tab (λ j. f (1 + j)) m) (e ∙ sym (length_tab (λ j. f (1 + j)) m))
    (λ i h. get_or-drop 1 (tab f (m + 1)) i 0 ∙ get_or_tab f (m + 1) (1 + i) 0 (omega arith) ∙ sym (get_or_tab (λ j. f (1 + j)) m i 0 (omega arith)))

-- CASE: the first branch is the selector, the m others are chosen among
pub joint_case : (w : List ℕ) (f m : ℕ) (l : List ℕ) → features w ≤ f
    → Agree (sizes w) (joint w 6 f (m + 1) 0 l)
    (λ s. says (case_of (number (nodes w) 0 (decode (listed l 0)) s) (tab (λ j. number (nodes w) 0 (decode (listed l (1 + j))) s) m)))
unfolding joint
joint_case w f m l none s v =
    let F : ℕ → ℕ = λ j. at_root w (listed l j) (spread f 0 j s) in
    ap says (op_case 6 (m + 1) F (omega arith) refl
    ∙ ap₂ case_of (ap (at_root w (listed l 0)) (unspread w f 0 s none v))
    (tab_rest F m ∙ tab_ext _ _ m (λ j h. ap (at_root w (listed l (1 + j))) (unspread w f (1 + j) s none v))))

-- forget: the operands are one branch, once for each value of feature f; its numbers at f = 0, 1, .., n - 1
pub joint_forgotten : (w : List ℕ) (f n b : ℕ) (l : List ℕ) → ((j : ℕ) → j < n → listed l j ≡ b)
    → Agree (sizes w) (joint w 7 f n 0 l) (λ s. says (forgotten_of (tab (λ j. number (nodes w) 0 (decode b) (set s f j)) n)))
unfolding joint
joint_forgotten w f n b l e s v =
    ap says (op_forget 7 n (λ j. at_root w (listed l j) (spread f 0 j s)) (omega arith)
    ∙ ap forgotten_of (tab_ext _ _ n (λ j h. ap₂ (at_root w) (e j h) (spread_root f j s))))
