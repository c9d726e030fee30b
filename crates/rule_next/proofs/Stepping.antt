-- Steps down a sound rule table: the branch for a value, and what it means. Assumes nothing.
use mathlib.Core.Path.{◌≡◌, sym, ap, subst, ◌∙◌}
use mathlib.Core.List.{List, ◌∷◌}
use Prim.Native.Nat.{ℕ, suc, ◌+◌, ◌-◌, ◌≤◌, ◌<◌}
use native.Mathlib.Numerals.{add-one}
use native.Mathlib.Omega.{arith}
use lib.ListN.{drop}
use lib.Seq.{drop-cons}
use Rattle.theory.specs.Diagrams.{next}
use Rattle.theory.specs.Functions.{held}
use Rattle.theory.specs.Rules.{node}
use Rattle.theory.specs.WellFormed.{Ok, WellFormed}
use Rattle.theory.proofs.First.{held_next}
use Rattle.theory.proofs.Values.{next_ok}
use Rattle.table_words.proofs.Words.{length_sizes, at_sizes}
use Rattle.rule_words.proofs.Reading.{decode_node, length_nodes}
use Rattle.rule_sound.proofs.Sitting.{sits_ok}
use Rattle.rule_sound.proofs.Pictures.{sound_tidy, sound_tested}
use Rattle.table_calls.proofs.Sounding.{tested_holds}
use Rattle.rule_words.proofs.Regular.{regular}
use Rattle.rule_nodes.specs.Nodes.{Place}
use Rattle.rule_count.proofs.Counts.{tests}
use Rattle.rule_next.specs.Marks.{Spot, rule_from}
use Rattle.promises.specs.Words.{features, size, sizes, count, feature}
use Rattle.promises.specs.RuleWords.{decode, rule_node_list as nodes, rule_root as root}
use Rattle.promises.specs.RuleSound.{RuleSound as Sound}

-- ---- a sound table
module _ {w : List ℕ} (s : Sound w) where
  pub sound_well : WellFormed (sizes w) (nodes w)
  sound_well = (sound_tidy s).well

  -- the root of a place
  pub spot_root : (p b : ℕ) → p < 32 → b ≡ root w p → Spot w 0 b
  spot_root p b h e = record { sound = s; good = rw e (sits_ok (s.roots_ok.rooted p h)); up_to = omega arith }

-- the sizes that are left, one by one
pub sizes_left : (w : List ℕ) (k : ℕ) → k < features w → drop k (sizes w) ≡ size w k ∷ drop (k + 1) (sizes w)
sizes_left w k h =
    rw add-one (drop-cons (sizes w) k 0 (omega (arith, length_sizes w)) ∙ ap (λ (n : ℕ). n ∷ drop (suc k) (sizes w)) (at_sizes w k h))

-- ---- branches
module _ {w : List ℕ} {k b : ℕ} (s : Spot w k b) where
  -- what is not a phrase is a node of feature k or higher
  pub spot_is : 65536 ≤ b → (b - 65536 < count w) × (k ≤ feature w (b - 65536))
  spot_is h =
      let o : Ok (nodes w) k (node (b - 65536)) = subst (Ok (nodes w) k) (decode_node b h) s.good in
      let l : b - 65536 < count w = omega (arith, o.0, length_nodes w) in
      (l, omega (arith, o.1, tests w (b - 65536) l))

  -- it is a place of the diagram
  pub spot_place : Place w k b
  spot_place = record { holds = tested_holds regular (sound_tested s.sound); good = s.good; up_to = s.up_to }

  module _ (v c : ℕ) (e : decode c ≡ next (nodes w) k (decode b) v) where
    pub spot_next : k < features w → Spot w (k + 1) c
    spot_next h =
        record {
          sound = s.sound;
          good = rw (add-one k, e) (next_ok (sizes w) (nodes w) (sound_well s.sound) k (decode b) v s.good);
          up_to = omega arith;
        }

    -- the branch with feature k held at v
    pub rule_next_lem : rule_from w (k + 1) c ≡ held v (rule_from w k b)
    rule_next_lem = rw (add-one k, e) (sym (held_next (nodes w) k (decode b) v))
