-- The words of a cost table read: what is tested of every kind, and how narrow the nodes of costs in range are. Assumes nothing.
use mathlib.Core.Path.{refl, sym, subst}
use mathlib.Core.List.{List}
use Prim.Native.Nat.{ℕ, ◌<◌}
use native.Mathlib.Omega.{arith}
use Rattle.theory.specs.Settings.{Pos}
use Rattle.theory.specs.Diagrams.{Branch, Node}
use Rattle.theory.specs.Costs.{costs}
use Rattle.theory_costs.specs.Narrow.{Spread, Narrow}
use Rattle.theory_costs.proofs.Narrow.{table_narrow}
use Rattle.theory_costs.proofs.Spreads.{within_spread}
use Rattle.table_words.proofs.Words.{pos_sizes}
use Rattle.cost_words.specs.Table.{cost_table}
use Rattle.cost_words.proofs.Regular.{regular}
use Rattle.cost_words.proofs.Pairing.{pairs_spared}
use Rattle.cost_words.proofs.Reading.{length_costs, at_costs}
use Rattle.table_checks.proofs.Framing.{header_of, header_from}
use Rattle.table_checks.proofs.Pictures.{Tested, tested_table}
use Rattle.table_checks.proofs.Sitting.{nodes_wf}
use Rattle.theory.specs.WellFormed.{WellFormed}
use Rattle.cost_sound.specs.Paired.{Shaped}
use Rattle.cost_sound.proofs.Sitting.{node_fits}
use Rattle.promises.specs.Range.{add_most, cost_most}
use Rattle.promises.specs.Words.{sizes}
use Rattle.promises.specs.CostWords.{cost_node_list as nodes, cost_roots as roots, costs_of}
use Rattle.promises.specs.CostSound.{Pairs, Ranged, CostSound as Sound}
use Rattle.promises.specs.Sound.{Header}

pub sound_shaped : {w : List ℕ} → Sound w → Shaped w
sound_shaped s = record { header = s.header; nodes_ok = s.nodes_ok; chained = s.chained; roots_ok = s.roots_ok; in_order = s.in_order }

pub sizes_pos : {w : List ℕ} → Header 2 w → Pos (sizes w)
sizes_pos {w} h = pos_sizes w (λ k l. omega (arith, (h.fit.large k l).0))

pub shaped_wf : {w : List ℕ} → Shaped w → WellFormed (sizes w) (nodes w)
shaped_wf {w} s = nodes_wf regular w s.header.fit (node_fits (record { header = s.header; nodes_ok = s.nodes_ok; chained = s.chained })) s.chained

pub shaped_tested : {w : List ℕ} → Shaped w → Pairs w → Tested cost_table w
unfolding roots
shaped_tested {w} s q =
    record {
      header = header_of cost_table (λ j h. refl) s.header;
      nodes_ok = node_fits (record { header = s.header; nodes_ok = s.nodes_ok; chained = s.chained });
      spared = pairs_spared w q;
      chained = s.chained;
      roots_ok = s.roots_ok.rooted;
      in_order = s.in_order;
    }

pub tested_header : {w : List ℕ} → Tested cost_table w → Header 2 w
tested_header t = header_from cost_table (λ j h. refl) t.header

-- costs in range: the sums below every node lie within ±2,000,000,000 of each other
pub ranged_narrow : {w : List ℕ} → Tested cost_table w → Ranged w → Narrow add_most (sizes w) (nodes w)
ranged_narrow {w} t r =
    subst (λ (q : List (Branch costs) × List (Node costs)). Narrow add_most (sizes w) q.1) (tested_table regular t)
    (table_narrow (sizes w) (costs_of w)
    (λ p h. let l : p < 16 = omega (arith, length_costs w) in
    subst (Spread add_most (sizes w)) (sym (at_costs w p l)) (within_spread {B = cost_most} (r.ranged p l))))
