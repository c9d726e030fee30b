-- What the calls of the rule table write and answer: the constant, the copy, whether two roots are one. Assumes nothing.
use mathlib.Core.Path.{◌≡◌, refl, sym, ap, subst, ◌∙◌}
use mathlib.Core.List.{List}
use Prim.Native.Nat.{ℕ, ◌<◌}
use lib.Dec.{eqb}
use Rattle.theory.specs.Functions.{Agree}
use Rattle.theory.specs.Diagrams.{meaning}
use Rattle.theory.specs.Rules.{Rule, says}
use Rattle.theory.proofs.Canonical.{canonical_unique}
use Rattle.theory.proofs.Rules.{value_phrase}
use Rattle.settings.specs.Tells.{Tells}
use Rattle.settings.proofs.Answers.{tells_eqb}
pub use Rattle.table_calls.proofs.Theorems.{write_refused, write_taken}
use Rattle.rule_words.specs.Picture.{Becomes}
use Rattle.rule_words.proofs.Reading.{decode_phrase, decode_inj, at_rules}
use Rattle.promises.specs.State.{on}
use Rattle.promises.specs.Table.{state_of}
use Rattle.promises.specs.RuleDeeds.{ruled}
use Rattle.rule_calls.proofs.Sounding.{sound_pos, sound_wf, sound_root}
use Rattle.promises.specs.Words.{sizes}
use Rattle.promises.specs.RuleWords.{decode, rule_node_list as nodes, rule_root as root, rule_of}
use Rattle.promises.specs.RuleSound.{RuleSound as Sound}

-- ---- calls that write
-- the branch of a phrase means the constant
pub constant_becomes : {p x : ℕ} {w w' : List ℕ} → x < 65536 → Becomes p (meaning (nodes w) (decode x)) w w' → Becomes p (λ s. says x) w w'
constant_becomes {p} {x} {w} {w'} h b =
    subst (λ (g : Rule). Becomes p g w w') (ap (meaning (nodes w)) (decode_phrase x h) ∙ (λ i s. value_phrase (nodes w) 0 x s i)) b

-- the branch of a root means the rule of its place
pub copy_becomes : {p x : ℕ} {w w' : List ℕ} (q : ℕ) → x ≡ root w q → Becomes p (meaning (nodes w) (decode x)) w w' → Becomes p (rule_of w q) w w'
copy_becomes {p} {x} {w} {w'} q e b = subst (λ (y : ℕ). Becomes p (meaning (nodes w) (decode y)) w w') e b

-- SAME: two places hold the same root word exactly if their rules agree at every setting
module _ {w : List ℕ} (s : Sound w) (p q : ℕ) (hp : p < 32) (hq : q < 32) where
  pub roots_agree : root w p ≡ root w q → Agree (sizes w) (rule_of w p) (rule_of w q)
  roots_agree e t v = ap (λ (x : ℕ). meaning (nodes w) (decode x) t) e

  pub agree_roots : Agree (sizes w) (rule_of w p) (rule_of w q) → root w p ≡ root w q
  agree_roots a =
      decode_inj (root w p) (root w q)
      (canonical_unique (sizes w) 0 (sizes w) refl (sound_pos s) (nodes w) (sound_wf s) (decode (root w p)) (decode (root w q)) (rule_of w q)
      (record { ok = sound_root s p hp; says = a })
      (record { ok = sound_root s q hq; says = λ t v. refl }))

  pub same_tells : (x y : ℕ) → x ≡ root w p → y ≡ root w q → Tells (eqb x y) (Agree (sizes w) (on (state_of ruled w) p) (on (state_of ruled w) q))
  same_tells x y ex ey =
      subst (λ (f : Rule). Tells (eqb x y) (Agree (sizes w) f (on (state_of ruled w) q))) (sym (at_rules w p hp))
      (subst (λ (f : Rule). Tells (eqb x y) (Agree (sizes w) (rule_of w p) f)) (sym (at_rules w q hq))
      (tells_eqb x y (λ e. roots_agree (sym ex ∙ e ∙ ey)) (λ a. ex ∙ agree_roots a ∙ sym ey)))
