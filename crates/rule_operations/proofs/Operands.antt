-- What apply, CASE, forget and restrict hand to the engine and to the walk, and that the rule they build is that of their deed. Assumes nothing.
use mathlib.Core.Path.{◌≡◌, refl, sym, ap, ap₂, subst, ◌∙◌}
use mathlib.Core.Bool.{Bool}
use mathlib.Core.Logic.{⊎_elim}
use mathlib.Core.List.{List}
use Prim.Native.Nat.{ℕ, ◌+◌, ◌-◌, ◌≤◌, ◌<◌}
use native.Mathlib.Omega.{arith}
use lib.ListN.{length, get_or, get_or-eq_default}
use Rattle.theory.specs.Functions.{Agree}
use Rattle.theory.specs.Diagrams.{meaning}
use Rattle.theory.specs.Counted.{Reaches}
use Rattle.theory.specs.Operations.{restricted}
use Rattle.theory.specs.Rules.{Rule, says, number}
use Rattle.theory.proofs.Rules.{numbers}
use Rattle.settings.specs.Tells.{Tells}
use Rattle.table_words.specs.Words.{listed}
use Rattle.table_words.proofs.Tab.{same, split, length_tab, get_or_tab}
use Rattle.table_words.proofs.Words.{at_sizes}
use Rattle.table_notes.specs.Plain.{Resting}
use Rattle.rule_words.proofs.Reading.{decode_phrase, at_rules}
use Rattle.rule_nodes.specs.Nodes.{Good}
use Rattle.rule_restrict.specs.Restrict.{Holding, restr}
use Rattle.rule_restrict.proofs.Restricting.{restr_whole}
use Rattle.rule_engine.specs.Joint.{joint, Operands}
use Rattle.rule_engine.proofs.Applying.{joint_apply, joint_case, joint_forgotten}
use Rattle.rule_operators.specs.Operators.{number_of, forgotten_by}
use Rattle.rule_operators.specs.declared.Operator.{Operator}
use Rattle.rule_operators.specs.declared.Operator.TheVariants.{Smaller, Larger, Equal, Less, Differ, Case, Forget}
use Rattle.rule_calls.proofs.Sounding.{sound_root}
use Rattle.table_calls.proofs.Drawn.{placed}
use Rattle.rule_calls.proofs.Edge.{drawn}
use Rattle.rule_settling.proofs.Settling.{sound_holds}
use Rattle.promises.specs.Tab.{tab}
use Rattle.promises.specs.Words.{features, size, sizes}
use Rattle.promises.specs.RuleWords.{decode, rule_node_list as nodes, rule_root as root, rule_of}
use Rattle.promises.specs.RuleSound.{RuleSound as Sound}
use Rattle.promises.specs.Operators.{pair_of, case_of}
use Rattle.promises.specs.State.{on, Places}
use Rattle.promises.specs.Table.{state_of}
use Rattle.promises.specs.RuleDeeds.{looked, ruled, case_rule, applied, without}
use Rattle.rule_operations.specs.Joining.{Handed, Lined}

-- the number that the branch word b gives a setting
abbrev said : List ℕ → List ℕ → ℕ → ℕ
said w s b = number (nodes w) 0 (decode b) s

-- apply's operators forget no feature
none_forgotten : (o : Operator) → number_of o ≤ 5 → forgotten_by o ≡ 16
none_forgotten Smaller h = refl
none_forgotten Larger h = refl
none_forgotten Equal h = refl
none_forgotten Less h = refl
none_forgotten Differ h = refl
none_forgotten Case h = refl
none_forgotten (Forget f) h = absurd (omega arith)

-- CASE looks only at the number that is chosen
case_ext : (f g : ℕ → ℕ) (n i : ℕ) → (i < n → f i ≡ g i) → case_of i (tab f n) ≡ case_of i (tab g n)
unfolding case_of
case_ext f g n i h = ⊎_elim
    (λ l. get_or_tab f n i 0 l ∙ h l ∙ sym (get_or_tab g n i 0 l))
    (λ l. get_or-eq_default (tab f n) 0 (omega (arith, length_tab f n)) ∙ sym (get_or-eq_default (tab g n) 0 (omega (arith, length_tab g n))))
    (split i n)

module _ {w : List ℕ} (s : Sound w) where
  -- a root word is a branch of the table
  pub good_root : (q x : ℕ) → q < 32 → x ≡ root w q → Good w 0 x
  good_root q x h e = rw e (sound_root s q h)

  -- feature 16 is none
  no_feature : features w ≤ 16
  no_feature = s.header.few

  -- the table is at rest
  pub at_rest : Resting w
  at_rest = record {
    roomy = record { room = s.header.room; most = (sound_holds s).laid.laid.most };
    some = s.header.some;
    empty = record { zeros = λ j h l. s.header.clean.zeros j (omega (arith, s.header.within)) l };
  }

  -- ---- APPLY
  module _ (a b : ℕ) (l : List ℕ) (ea : listed l 0 ≡ root w a) (eb : listed l 1 ≡ root w b) where
    pub apply_operands : (o : Operator) → number_of o ≤ 5 → a < 32 → b < 32 → Operands w (forgotten_by o) 2 0 l
    apply_operands o h ha hb = rw (none_forgotten o h) (record {
      holds = sound_holds s;
      two = omega arith;
      nine = omega arith;
      up_to = omega arith;
      each = λ j h. ⊎_elim
          (λ z. rw z (good_root a (listed l 0) ha ea))
          (λ z. let e : j ≡ 1 = omega (arith, z) in rw e (good_root b (listed l 1) hb eb))
          (same j 0);
      forget = λ h. absurd (omega (arith, no_feature));
    })

    pub apply_agrees : (o : Operator) (n : ℕ) → number_of o ≡ n → n ≤ 5 → a < 32 → b < 32
        → Agree (sizes w) (joint w (number_of o) (forgotten_by o) 2 0 l) (applied n (on (state_of ruled w) a) (on (state_of ruled w) b))
    apply_agrees o n e h ha hb x v =
        joint_apply w (number_of o) (forgotten_by o) l (omega arith) (omega (arith, no_feature, none_forgotten o (omega arith))) x v
        ∙ ap (λ (m : ℕ). says (pair_of m (said w x (listed l 0)) (said w x (listed l 1)))) e
        ∙ ap₂ (λ (y z : ℕ). says (pair_of n y z)) (ap (said w x) ea ∙ numbers (placed looked drawn w a ha x v)) (ap (said w x) eb ∙ numbers (placed looked drawn w b hb x v))

  -- ---- CASE
  -- what is handed on for a branch is a branch of the table, phrase 0 too
  good_handed : (q j p x : ℕ) → p < 32 → Handed w q j p x → Good w 0 x
  good_handed q j p x h = ⊎_elim (good_root p x h) (λ n. rw (n.1, decode_phrase 0 (omega arith)) tt)

  module _ (q : ℕ) (l r : List ℕ) (e : Lined w q l r) where
    pub case_operands : q < 32 → Places 32 l → 1 ≤ length l → length l ≤ 8 → Operands w 16 (length l + 1) 0 r
    case_operands hq p some few = record {
      holds = sound_holds s;
      two = omega arith;
      nine = omega arith;
      up_to = omega arith;
      each = λ j h. ⊎_elim
          (λ z. rw z (good_root q (listed r 0) hq e.first))
          (λ z.
          let i : 1 + (j - 1) ≡ j = omega (arith, z) in
          subst (λ (y : ℕ). Good w 0 (listed r y)) i (good_handed q (j - 1) (get_or l (j - 1) 0) (listed r (1 + (j - 1))) (p.each (j - 1) (omega (arith, z))) (e.others (j - 1) (omega (arith, z)))))
          (same j 0);
      forget = λ h. absurd (omega (arith, no_feature));
    }

    pub case_agrees : q < 32 → Places 32 l → Agree (sizes w) (joint w 6 16 (length l + 1) 0 r) (case_rule (state_of ruled w) q l)
    case_agrees hq p x v =
        joint_case w 16 (length l) r no_feature x v
        ∙ ap (λ (y : ℕ). says (case_of (said w x y) (tab (λ j. said w x (listed r (1 + j))) (length l)))) e.first
        ∙ ap says (case_ext (λ j. said w x (listed r (1 + j))) numbered (length l) i is)
        ∙ ap (λ (y : ℕ). says (case_of y (tab numbered (length l)))) (numbers (placed looked drawn w q hq x v))
      where
        -- the selector's number, and those of the branches
        i : ℕ
        i = said w x (root w q)

        numbered : ℕ → ℕ
        numbered j = (on (state_of ruled w) (get_or l j 0) x).end

        is : i < length l → said w x (listed r (1 + i)) ≡ numbered i
        is h = ⊎_elim (ap (said w x)) (λ n. absurd (n.0 (record { setting = x; valid = v; holds = refl }))) (e.others i h) ∙ numbers (placed looked drawn w (get_or l i 0) (p.each i h) x v)

  -- ---- FORGET
  module _ (q f m : ℕ) (l : List ℕ) (hf : f < features w) (em : m ≡ size w f) (e : (j : ℕ) → j < 9 → listed l j ≡ root w q) where
    pub forget_operands : q < 32 → Operands w f m 0 l
    forget_operands hq =
        let z = s.header.fit.large f hf in
        record {
          holds = sound_holds s;
          two = omega (arith, z.0);
          nine = omega (arith, z.1);
          up_to = omega arith;
          each = λ j h. good_root q (listed l j) hq (e j (omega (arith, z.1)));
          forget = λ h. omega arith;
        }

    pub forget_agrees : q < 32 → Agree (sizes w) (joint w 7 f m 0 l) (without f (get_or (sizes w) f 0) (on (state_of ruled w) q))
    forget_agrees hq x v =
        let z = s.header.fit.large f hf in
        joint_forgotten w f m (root w q) l (λ j h. e j (omega (arith, z.1))) x v
        ∙ ap₂ (λ (n : ℕ) (g : Rule). without f n g x) (em ∙ sym (at_sizes w f hf)) (sym (at_rules w q hq))

  -- ---- RESTRICT
  module _ (q f x b : ℕ) (e : b ≡ root w q) where
    pub restrict_holding : q < 32 → f < features w → x < size w f → Holding w b f x
    restrict_holding hq hf hx = record {
      holds = sound_holds s;
      good = good_root q b hq e;
      known = hf;
      value = hx;
      room = at_rest.roomy.room;
      rest = at_rest.empty;
    }

    pub restrict_agrees : Agree (sizes w) (restr w 0 b f x) (restricted f x (rule_of w q))
    restrict_agrees t v = ap (λ (g : Rule). g t) (restr_whole w b f x) ∙ ap (λ (y : ℕ). restricted f x (meaning (nodes w) (decode y)) t) e

-- ---- said of the words and of the functions: whether a rule reaches a number, and the restricted rule
pub reaches_on : (w : List ℕ) (q n : ℕ) (b : Bool) → q < 32 → Tells b (Reaches (sizes w) (rule_of w q) n) → Tells b (Reaches (sizes w) (on (state_of ruled w) q) n)
reaches_on w q n b h r = subst (λ (g : Rule). Tells b (Reaches (sizes w) g n)) (sym (at_rules w q h)) r

pub restricted_on : (w : List ℕ) (q f x : ℕ) → q < 32 → Agree (sizes w) (restricted f x (rule_of w q)) (restricted f x (on (state_of ruled w) q))
restricted_on w q f x h t v = ap (λ (g : Rule). restricted f x g t) (sym (at_rules w q h))
