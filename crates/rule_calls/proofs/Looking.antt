-- The way from a root to a phrase, by the words that the code reads. Assumes nothing.
use mathlib.Core.Path.{◌≡◌, sym, ap, subst, ◌∙◌}
use mathlib.Core.List.{List}
use Prim.Native.Nat.{ℕ, suc, ◌+◌, ◌-◌, ◌≤◌, ◌<◌}
use native.Mathlib.Omega.{arith}
use lib.ListN.{length, get_or}
use Rattle.theory.specs.Settings.{Valid}
use Rattle.theory.specs.Rules.{Phrase, node, phrase, says}
use Rattle.theory.specs.Questions.{asked}
use Rattle.theory.proofs.Ways as W
use Rattle.table_calls.proofs.Ways as C
use Rattle.rule_words.specs.Table.{rule_table}
use Rattle.table_words.proofs.Reading.{goal_below}
use Rattle.rule_words.proofs.Reading.{decode_phrase, decode_node}
use Rattle.rule_words.proofs.Regular.{regular}
use Rattle.rule_calls.proofs.Sounding.{sound_wf, sound_root}
use Rattle.promises.specs.Words.{features, count, sizes, feature, body}
use Rattle.promises.specs.RuleWords.{decode, rule_node_list as nodes, rule_root as root, rule_of}
use Rattle.promises.specs.RuleSound.{RuleSound as Sound}

-- the branch word b stands on the way of the setting s from the root of place p, where n features were asked
abbrev pub OnWay : List ℕ → ℕ → List ℕ → ℕ → ℕ → Type 0
OnWay w p s n b = W.OnWay (sizes w) (nodes w) (rule_of w p) s n (decode b)

module _ (w s : List ℕ) (p : ℕ) (ok : Sound w) (hp : p < 32) (valid : Valid (sizes w) s) where
  pub way_start : (b : ℕ) → b ≡ root w p → OnWay w p s 0 b
  way_start b e = rw e (W.way_start (sizes w) (nodes w) s (decode (root w p)) (sound_root ok p hp))

  -- a phrase is the end of the way
  module _ (n b : ℕ) (h : b < 65536) (o : OnWay w p s n b) where
    ending : W.OnWay (sizes w) (nodes w) (rule_of w p) s n (phrase b)
    ending = subst (W.OnWay (sizes w) (nodes w) (rule_of w p) s n) (decode_phrase b h) o

    pub way_end : b ≡ (rule_of w p s).end
    way_end = ap (λ (x : Phrase). x.end) (W.way_end (sizes w) (nodes w) (rule_of w p) s valid n (says b) ending)

    pub way_asked : n ≡ asked (sizes w) (rule_of w p) s
    way_asked = W.way_asked (sizes w) (nodes w) (rule_of w p) s valid n (says b) ending

  -- a node goes on: i from b, its feature k, the setting's value v there, and the next word c
  module _ (n b i : ℕ) (h : 65536 ≤ b) (o : OnWay w p s n b) (ei : i ≡ b - 65536) where
    here : W.OnWay (sizes w) (nodes w) (rule_of w p) s n (node i)
    here = subst (W.OnWay (sizes w) (nodes w) (rule_of w p) s n) (decode_node b h ∙ ap node (sym ei)) o

    pub read_node : i < count w
    read_node = C.read_node rule_table w (sound_wf ok) (rule_of w p) s valid n tt i here

    pub read_room : n < features w
    read_room = C.read_room rule_table w (sound_wf ok) (rule_of w p) s valid n tt i here

    module _ (k : ℕ) (ek : k ≡ feature w i) where
      pub read_feature : k < length s
      read_feature = C.read_feature rule_table w (sound_wf ok) (rule_of w p) s valid n tt i here k ek

      module _ (v : ℕ) (ev : v ≡ get_or s k 0) where
        pub read_value : v < 8
        read_value =
            omega (
              arith,
              C.read_value rule_table w (sound_wf ok) (rule_of w p) s valid n tt i here k ek v ev,
              (ok.header.fit.large k (C.read_known rule_table w (sound_wf ok) (rule_of w p) s valid n tt i here k ek)).1,
            )

        module _ (c : ℕ) (ec : c ≡ body w i v) where
          pub read_on : OnWay w p s (n + 1) c
          read_on = rw ec (C.read_on rule_table w (sound_wf ok) (rule_of w p) s valid n tt i here k ek v ev)

          pub read_less : c < b
          read_less = omega (arith, goal_below regular (nodes w) i (suc k) (body w i v) (C.read_under rule_table w (sound_wf ok) (rule_of w p) s valid n tt i here k ek v ev))
