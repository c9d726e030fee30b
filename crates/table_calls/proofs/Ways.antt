-- The way of a setting through the records of a table, for what the code reads: a node, its feature, the setting's value there, the branch of that value, the count. Assumes nothing.
use mathlib.Core.Path.{◌≡◌, sym, ap, subst, ◌∙◌}
use mathlib.Core.List.{List}
use Prim.Native.Nat.{ℕ, suc, ◌+◌, ◌<◌}
use native.Mathlib.Omega.{arith}
use lib.ListN.{length, get_or}
use Rattle.theory.specs.Kind.{Kind}
use Rattle.theory.specs.Settings.{Valid}
use Rattle.theory.specs.Functions.{Fun}
use Rattle.theory.specs.Diagrams.{Branch, Node, at, blank, node, up}
use Rattle.theory.specs.WellFormed.{Under, WellFormed}
use Rattle.theory.proofs.Ranges.{valid_at}
use Rattle.theory.proofs.Ways.{OnWay, way_node, way_feature, way_room, way_on}
use Rattle.table_words.specs.Table.{Table, nodes}
use Rattle.table_words.proofs.Words.{length_sizes, at_sizes}
use Rattle.table_words.proofs.Reading.{length_nodes, at_nodes, branch_at_lem}
use Rattle.promises.specs.Words.{features, count, size, sizes, feature, body}

module _ {K : Kind} (T : Table K) (w : List ℕ) (wf : WellFormed (sizes w) (nodes T w)) (g : Fun K) (s : List ℕ) (valid : Valid (sizes w) s) (n : ℕ) (a : K.Off) (i : ℕ)
    (o : OnWay (sizes w) (nodes T w) g s n (record { adds = a; to = node i })) where
  there : i < length (nodes T w)
  there = way_node (sizes w) (nodes T w) g s valid wf n a i o

  pub read_node : i < count w
  read_node = omega (arith, there, length_nodes T w)

  -- n features were asked, and there is one more
  pub read_room : n < features w
  read_room = omega (arith, way_room (sizes w) (nodes T w) g s valid wf n a i o, length_sizes w)

  module _ (k : ℕ) (ek : k ≡ feature w i) where
    same_feature : (at (nodes T w) i).feature ≡ k
    same_feature = ap (λ (x : Node K). x.feature) (at_nodes T w i read_node) ∙ sym ek

    pub read_known : k < features w
    read_known = omega (arith, (wf.fits i there).known, length_sizes w, same_feature)

    pub read_feature : k < length s
    read_feature = omega (arith, way_feature (sizes w) (nodes T w) g s valid wf n a i o, same_feature)

    module _ (v : ℕ) (ev : v ≡ get_or s k 0) where
      pub read_value : v < size w k
      read_value = omega (arith, valid_at (sizes w) s valid k (omega (arith, length_sizes w, read_known)), ev, at_sizes w k read_known)

      read_branch : get_or (at (nodes T w) i).branches v blank ≡ T.arm (body w i) v
      read_branch = branch_at_lem T w i v read_node (subst (λ (j : ℕ). v < size w j) ek read_value)

      -- the branch ends or goes to an earlier node
      pub read_under : Under (nodes T w) i (suc k) (T.arm (body w i) v).to
      read_under =
          subst (λ (j : ℕ). Under (nodes T w) i (suc j) (T.arm (body w i) v).to) same_feature
          (subst (λ (b : Branch K). Under (nodes T w) i (suc (at (nodes T w) i).feature) b.to) read_branch ((wf.fits i there).lower v))

      -- and the way goes on with it, one feature more asked
      pub read_on : OnWay (sizes w) (nodes T w) g s (n + 1) (up a (T.arm (body w i) v))
      read_on = way_on (sizes w) (nodes T w) g s valid wf n a i o k v (T.arm (body w i) v) same_feature ev read_branch
