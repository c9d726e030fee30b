-- What a cost table says is what its words without notes say, and `make` adds to these. Assumes nothing.
use Rattle.std.specs.Prelude.{Option}
use mathlib.Core.Bool.{Bool, true, false}
use mathlib.Core.Path.{◌≡◌, refl, sym, ap, subst, ◌∙◌}
use mathlib.Core.List.{List}
use Prim.Native.Nat.{ℕ, zero, suc, ◌≤◌, ◌<◌}
use native.Mathlib.Omega.{arith}
use lib.IntN.{ℤ, ◌+ℤ◌, ◌-ℤ◌}
use lib.ListN.{length}
use Rattle.theory_costs.specs.Extremes.{Passed, kept_at}
use Rattle.theory_costs.proofs.Passing.{own_ext}
use Rattle.table_records.specs.Laid.{Laid}
use Rattle.table_notes.specs.Plain.{plain}
use Rattle.table_notes.proofs.Alike.{Like, plain_like, like_head, like_sym, like_size, like_record, like_nodes, like_laid, like_holds, plain_grown}
use Rattle.cost_words.specs.Sides.{Keeps}
use Rattle.cost_words.proofs.Reading.{length_nodes}
use Rattle.cost_words.proofs.Regular.{regular}
use Rattle.cost_nodes.specs.Nodes.{Holds, Armed, Makes, top, Place}
use Rattle.cost_words.specs.Words.{tos, adding}
use Rattle.cost_words.specs.declared.Arm.{Arm}
use Rattle.cost_nodes.proofs.Reading.{ok_small}
use Rattle.promises.specs.Integers.{Fit, int}
use Rattle.promises.specs.Range.{add_most}
use Rattle.promises.specs.Words.{head, features, size, sizes, count}
use Rattle.promises.specs.CostSound.{kept, side_of}
use Rattle.promises.specs.CostWords.{target, cost_node_list as nodes}

-- words alike past the near records
module _ {w u : List ℕ} (e : Like w u) where
  like_top : Laid w → (x : ℕ) → x ≤ count w → top u x ≡ top w x
  unfolding top
  like_top d zero h = like_head e 2 (omega arith)
  like_top d (suc i) h = like_record e d i 0 (omega arith) (omega arith)

  like_place : (k x : ℕ) → Place w k x → Place u k x
  like_place k x p =
      let n = like_nodes e p.holds.laid.laid regular in
      record { holds = like_holds e regular p.holds; good = rw n p.good; up_to = omega (arith, p.up_to, like_head e 2 (omega arith)) }

  -- what is kept for the nodes is the same
  like_kept : Laid w → (up : Bool) (i : ℕ) → i < count w → kept up u i ≡ kept up w i
  like_kept d true i h = ap int (like_record e d i 15 h (omega arith))
  like_kept d false i h = ap int (like_record e d i 14 h (omega arith))

  like_at : Laid w → (up : Bool) (x : ℕ) → x ≤ count w → kept_at (kept up u) (target x) ≡ kept_at (kept up w) (target x)
  unfolding target
  like_at d up zero h = refl
  like_at d up (suc i) h = like_kept d up i h

  like_passed : Holds w → (up : Bool) → Passed (side_of up) (nodes w) (length (nodes w)) (kept up w) → Passed (side_of up) (nodes w) (length (nodes w)) (kept up u)
  like_passed ok up q =
      record {
        each = λ i h. like_kept ok.laid.laid up i (omega (arith, length_nodes w)) ∙ q.each i h
            ∙ sym (own_ext (side_of up) (sizes w) (nodes w) ok.wf (kept up w) (kept up u) i h (λ j l. like_kept ok.laid.laid up j (omega (arith, length_nodes w))));
      }

  like_armed : (k : ℕ) (b : List Arm) → Holds w → k < features w → Armed w k b → Armed u k b
  like_armed k b ok h r =
      let n = like_nodes e ok.laid.laid regular in
      let s : size u k ≡ size w k = like_size e ok.laid.laid k h in
      record {
        each = λ v l. rw n (r.each v (omega arith));
        pad = λ v l h. r.pad v (omega arith) h;
        near = λ v l. r.near v (omega arith);
        sums = λ up v l.
            let y : v < size w k = omega arith in
            subst (λ (z : ℤ). Fit add_most ((int (adding b v) +ℤ z) -ℤ int (adding b 0)))
            (sym (like_at ok.laid.laid up (tos b v) (ok_small w (suc k) (tos b v) (adding b v) (r.each v y)))) (r.sums up v y);
        paired = λ up. rw n (like_passed ok up (r.paired up));
      }

-- ---- without notes
module _ (w : List ℕ) where
  with_notes : Like (plain w) w
  with_notes = like_sym (plain_like w)

  pub plain_head : (j : ℕ) → j < 4096 → head (plain w) j ≡ head w j
  plain_head j h = like_head (plain_like w) j (omega arith)

  pub noted_laid : Laid (plain w) → Laid w
  noted_laid d = like_laid with_notes d

  pub noted_holds : Holds (plain w) → Holds w
  noted_holds ok = like_holds with_notes regular ok

  pub noted_top : Laid (plain w) → (x : ℕ) → x ≤ count (plain w) → top w x ≡ top (plain w) x
  noted_top d x h = like_top with_notes d x h

  pub noted_place : (k x : ℕ) → Place (plain w) k x → Place w k x
  noted_place k x p = like_place with_notes k x p

  pub noted_keeps : Laid (plain w) → (x a b : ℕ) → x ≤ count (plain w) → Keeps w x a b → Keeps (plain w) x a b
  noted_keeps d x a b h k = record { keeps = λ up. k.keeps up ∙ like_at with_notes d up x h }

  pub noted_nodes : Laid (plain w) → nodes w ≡ nodes (plain w)
  noted_nodes d = like_nodes with_notes d regular

  pub noted_armed : (k : ℕ) (b : List Arm) → Holds (plain w) → k < features (plain w) → Armed (plain w) k b → Armed w k b
  noted_armed k b ok h r = like_armed with_notes k b ok h r

-- `make` on a table is `make` on its words without notes
pub plain_makes : (t t' : List ℕ) (k : ℕ) (b : List Arm) (o : Option Arm) → Holds (plain t) → k < features (plain t) → Makes t t' k b o → Makes (plain t) (plain t') k b o
plain_makes t t' k b o ok h m =
    let n : nodes t ≡ nodes (plain t) = noted_nodes t ok.laid.laid in
    let s : size t k ≡ size (plain t) k = like_size (like_sym (plain_like t)) ok.laid.laid k h in
    let c = like_head (plain_like t) 1 (omega arith) in
    rw (← n, ← s) (record { grown = plain_grown regular t t' _ m.grown; answers = rw c m.answers })
