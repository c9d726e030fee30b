-- Branch words of a rule table that sit, and the nodes of tested words: they are a well-formed node list. Assumes nothing.
use mathlib.Core.Path.{◌≡◌, refl}
use mathlib.Core.List.{List}
use Prim.Native.Nat.{ℕ, ◌+◌, ◌*◌, ◌≤◌, ◌<◌}
use native.Mathlib.Nat.{le_refl}
use native.Mathlib.Omega.{arith}
use Rattle.theory.specs.WellFormed.{Ok, WellFormed}
use Rattle.rule_words.specs.Table.{rule_table}
use Rattle.rule_words.proofs.Regular.{regular}
use Rattle.rule_words.proofs.Reading.{decode_inj}
use Rattle.table_checks.proofs.Sitting as C
use Rattle.table_checks.proofs.Sitting.{NodeFits, nodes_wf}
use Rattle.rule_sound.specs.Sound.{Sits}
use Rattle.rule_sound.specs.Walk.{Ordered}
use Rattle.promises.specs.Words.{word, size, count, sizes, feature, body}
use Rattle.promises.specs.RuleWords.{decode, rule_node_list as nodes}
use Rattle.promises.specs.RuleSound.{RuleNodeOk as NodeOk}

-- a word that sits below node m sits below every later one, and lower features are no harder
pub sits_more : (w : List ℕ) (m m' k k' b : ℕ) → m ≤ m' → k' ≤ k → Sits w m k b → Sits w m' k' b
sits_more w m m' k k' b h l s = C.sits_more w m m' k k' b h l s

-- a branch that sits among the nodes in use is good there
pub sits_good : (w : List ℕ) (m k b : ℕ) → m ≤ count w → Sits w m k b → Ok (nodes w) k (decode b)
sits_good w m k b h s = C.sits_good regular w m k b h s

pub sits_ok : {w : List ℕ} {b : ℕ} → Sits w (count w) 0 b → Ok (nodes w) 0 (decode b)
sits_ok {w} {b} s = sits_good w (count w) 0 b (le_refl _) s

module _ {w : List ℕ} (o : Ordered w) where
  abbrev node_ok : (i : ℕ) → i < count w → NodeOk w i
  node_ok = o.nodes_ok.each

  -- past the size all words of the body are 0
  pub pad_zero : (i v : ℕ) → i < count w → size w (feature w i) ≤ v → v < 12 → body w i v ≡ 0
  unfolding word
  pad_zero i v h hs hv = (node_ok i h).padded.zeros (8192 + 16 * i + (1 + v)) (omega arith) (omega arith)

  pub node_fits : (i : ℕ) → i < count w → NodeFits rule_table w i
  node_fits i h =
      let n = node_ok i h in
      record {
        known = n.known;
        lower = n.lower.lower;
        differ = λ a. n.differ (record { alike = λ v hv. decode_inj (body w i v) (body w i 0) (a v hv) });
        level = refl;
        padded = λ v hs hv. pad_zero i v h hs hv;
      }

  pub ordered_wf : WellFormed (sizes w) (nodes w)
  ordered_wf = nodes_wf regular w o.header.fit node_fits o.chained
