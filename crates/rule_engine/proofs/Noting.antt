-- The words with notes: where the walk starts from, and what it ends with. Assumes nothing.
use Rattle.std.specs.Prelude.{Option}
use mathlib.Core.Path.{◌≡◌, sym, subst, ◌∙◌}
use mathlib.Core.List.{List}
use Prim.Native.Nat.{ℕ}
use native.Mathlib.Omega.{arith}
use Rattle.table_notes.specs.Plain.{Resting, plain}
use Rattle.table_notes.proofs.Plain.{plain_of}
use Rattle.rule_notes.proofs.Reading.{plain_head}
use Rattle.rule_nodes.specs.Nodes.{Result}
use Rattle.rule_engine.specs.Joint.{joint, Operands}
use Rattle.promises.specs.Words.{features}

-- the features are those of the words without notes
pub plain_features : (w : List ℕ) → features w ≡ features (plain w)
plain_features w = sym (plain_head w 2 (omega arith))

-- ---- from rest the walk starts with the words without notes, which are those of the table ..
pub operands_plain : (w v : List ℕ) (f n k : ℕ) (l : List ℕ) → Operands w f n k l → Resting w → plain v ≡ plain w → Operands (plain v) f n k l
operands_plain w v f n k l p r e = subst (λ (u : List ℕ). Operands u f n k l) (sym (e ∙ plain_of w r.empty)) p

-- .. and its result, with the far records 0 again, is that of the table
pub joint_cleared : (w v t u : List ℕ) (o f n k : ℕ) (l : List ℕ) (r : Option ℕ) → Resting w → plain v ≡ plain w → u ≡ plain t → Result (plain v) (plain t) k (joint (plain v) o f n k l) r
    → Result w u k (joint w o f n k l) r
joint_cleared w v t u o f n k l r z q e g =
    subst (λ (x : List ℕ). Result w x k (joint w o f n k l) r) (sym e)
    (subst (λ (x : List ℕ). Result x (plain t) k (joint x o f n k l) r) (q ∙ plain_of w z.empty) g)
