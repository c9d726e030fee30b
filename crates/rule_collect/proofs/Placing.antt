-- A rule table is as the collector asks. Assumes nothing.
use mathlib.Core.Path.{refl, ap, ◌∙◌}
use Prim.Native.Nat.{◌+◌}
use native.Mathlib.Omega.{arith}
use lib.Seq.{get_or-set_same, get_or-set_other}
use Rattle.rule_words.specs.Table.{rule_table}
use Rattle.table_collect.specs.Laying.{Laying}
use Rattle.promises.specs.Words.{head}
use Rattle.promises.specs.RuleWords.{decode}

pub laying : Laying rule_table
unfolding head
laying =
    record {
      least = omega arith;
      many = omega arith;
      ways = λ f v. refl;
      here = λ s. ap decode (s.whole (omega arith)).here;
      others = λ s u h g. ap decode ((s.whole (omega arith)).others u (omega arith) (omega arith));
      none = λ g z v l h. z v h;
      padded = λ s p v l h. (s.whole (omega arith)).others v h (omega arith) ∙ p v (omega arith) h;
      root = λ w p r h l. ap decode (get_or-set_same w (32 + p) r 0 (omega arith));
      roots = λ w p q r h g n. ap decode (get_or-set_other w (32 + p) (32 + q) r 0 (omega (arith, n)));
    }
