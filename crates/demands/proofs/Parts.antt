-- EVERY PART KEEPS ITS WORD: the demands hold of all calls. Assumes nothing.
use Rattle.demands.specs.RuleCalls.{on_rules}
use Rattle.demands.specs.CostCalls.{on_costs}
use Rattle.demands.specs.BothCalls.{on_both}
use Rattle.demands.specs.ByteCalls.{on_bytes}
use Rattle.demands.proofs.Effects.{on_none}
use Rattle.demands.proofs.Frame.{no_table_frame}
use Rattle.demands.proofs.Demands.{Kept}
use Rattle.demands.proofs.RuleLaws as R
use Rattle.demands.proofs.CostLaws as C
use Rattle.demands.proofs.BothLaws as B
use Rattle.demands.proofs.Bytes as Y

pub rules_kept : Kept on_rules
rules_kept = record { effects = R.effects; frame = R.frame; lawful = R.lawful }

pub costs_kept : Kept on_costs
costs_kept = record { effects = C.effects; frame = C.frame; lawful = C.lawful }

pub both_kept : Kept on_both
both_kept = record { effects = B.effects; frame = B.frame; lawful = B.lawful }

pub bytes_kept : Kept on_bytes
bytes_kept = record { effects = on_none; frame = no_table_frame; lawful = Y.lawful }
