-- A cost table is as the collector asks; a root word and a base set set their place. Assumes nothing.
use mathlib.Core.Path.{refl, ap, ap₂, ◌∙◌}
use mathlib.Core.List.{List}
use Prim.Native.Nat.{ℕ, ◌+◌, ◌/◌, ◌≤◌, ◌<◌}
use native.Mathlib.Omega.{arith}
use lib.ListN.{length, set, length-set}
use lib.Seq.{get_or-set_same, get_or-set_other}
use Rattle.table_words.proofs.Halves.{half_zero}
use Rattle.cost_words.specs.Table.{cost_table}
use Rattle.table_sweep.proofs.Placing.{Placed, Replaced, replaced_set}
use Rattle.table_collect.specs.Laying.{Laying}
use Rattle.promises.specs.Words.{head}
use Rattle.promises.specs.CostWords.{cost_branch as branch, half}

pub laying : Laying cost_table
unfolding head
laying =
    record {
      least = omega arith;
      many = omega arith;
      ways = λ f v. refl;
      here = λ s. ap₂ branch (s.halves refl).here (s.adds refl).here;
      others = λ s u h g. ap₂ branch ((s.halves refl).others u (omega arith) (omega arith)) ((s.adds refl).others u (omega arith) (omega arith));
      none = λ g z. record { targets = λ v l h. ap (λ (y : ℕ). half y v) (z (v / 2) (omega arith)) ∙ half_zero v; addeds = λ v l h. z (4 + v) (omega arith) };
      padded = λ s p. record {
        targets = λ v l h. (s.halves refl).others v h (omega arith) ∙ p.targets v (omega arith) h;
        addeds = λ v l h. (s.adds refl).others v h (omega arith) ∙ p.addeds v (omega arith) h;
      };
      root = λ w p r h l. ap₂ branch (get_or-set_same w (32 + p) r 0 (omega arith)) (get_or-set_other w (32 + p) (48 + p) r 0 (omega arith));
      roots = λ w p q r h g n. ap₂ branch (get_or-set_other w (32 + p) (32 + q) r 0 (omega (arith, n))) (get_or-set_other w (32 + p) (48 + q) r 0 (omega arith));
    }

pub both_placed : (w : List ℕ) (p x a : ℕ) → p < 16 → 64 ≤ length w → Placed cost_table w (set (set w (32 + p) x) (48 + p) a) p (branch x a)
unfolding head
both_placed w p x a h l =
    let t : Replaced w (set w (32 + p) x) = replaced_set w (32 + p) x (omega arith) (omega arith) in
    let u : Replaced (set w (32 + p) x) (set (set w (32 + p) x) (48 + p) a) = replaced_set (set w (32 + p) x) (48 + p) a (omega arith) (omega arith) in
    record {
      replaced = record { long = u.long ∙ t.long; low = λ j g. u.low j g ∙ t.low j g; rest = λ j g. u.rest j g ∙ t.rest j g };
      here =
          ap₂ branch (get_or-set_other (set w (32 + p) x) (48 + p) (32 + p) a 0 (omega arith) ∙ get_or-set_same w (32 + p) x 0 (omega arith))
          (get_or-set_same (set w (32 + p) x) (48 + p) a 0 (omega (arith, length-set w (32 + p) x)));
      others = λ q g n.
          ap₂ branch (get_or-set_other (set w (32 + p) x) (48 + p) (32 + q) a 0 (omega arith)) (get_or-set_other (set w (32 + p) x) (48 + p) (48 + q) a 0 (omega (arith, n)))
          ∙ laying.roots w p q x h g n;
    }
