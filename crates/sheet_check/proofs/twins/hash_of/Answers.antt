-- `sheet_check::twins::hash_of` meets its contract: the number is the hash of the branches passed. Assumes nothing.
use Rattle.std.proofs.Common.{ℕ, ◌+◌, ◌*◌, ◌/◌, ◌%◌, sym, ap, arith, rules, ◌∙◌}
use Rattle.sheet_check.proofs.Hashing.{hash_zero, hash_next, hash_all}
use Rattle.sheet_check.proofs.twins.hash_of.Goals as goal

pub loop-v-init : goal.loop-v-init
loop-v-init c = record { hashed = c.feature-h.ensures.0 ∙ sym (hash_zero c.args.laid.bytes.now c.args.i); small = omega (arith, c.feature-h.ensures.1) }

pub loop-v-preserved : goal.loop-v-preserved
loop-v-preserved c =
    let l = c.loop-v in let a = c.args in record {
      hashed = (λ k. (l.invariant.hashed k * 2654435761 + c.branch-h.ensures.0 k) % 4294967296) ∙ sym (hash_next a.laid.bytes.now a.i l.v);
      small = search rules;
    }

pub returns : goal.returns
returns c =
    let l = c.loop-v in let a = c.args in
    (ap (λ (x : ℕ). x / 1048576) l.invariant.hashed ∙ hash_all a.laid.bytes.now a.i l.v (omega (arith, l.auto.v-end, c.width-v-end.ensures.0)), search rules)
