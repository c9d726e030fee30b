-- What a rule table says is what its words without notes say, and `make` adds to these. Assumes nothing.
use Rattle.std.specs.Prelude.{Option}
use mathlib.Core.Path.{◌≡◌, sym, ◌∙◌}
use mathlib.Core.Logic.{⊎_elim}
use mathlib.Core.List.{List}
use Prim.Native.Nat.{ℕ, ◌+◌, ◌-◌, ◌<◌}
use native.Mathlib.Omega.{arith}
use Rattle.table_words.proofs.Tab.{split}
use Rattle.table_records.specs.Laid.{Laid}
use Rattle.table_notes.specs.Plain.{plain}
use Rattle.table_notes.proofs.Alike as N
use Rattle.table_notes.proofs.Alike.{Like, plain_like, like_sym, like_head, like_laid, like_size, like_record, plain_grown}
use Rattle.rule_words.proofs.Regular.{regular}
use Rattle.rule_nodes.specs.Nodes.{Holds, Makes, Listed, Place, top}
use Rattle.rule_nodes.proofs.Stepping.{top_phrase, top_node}
use Rattle.promises.specs.Words.{head, capacity, features, size, count}
use Rattle.promises.specs.RuleWords.{rule_node_list as nodes}

module _ {w u : List ℕ} (e : Like w u) where
  pub like_holds : Holds w → Holds u
  like_holds ok = N.like_holds e regular ok

  pub like_top : Laid w → (b : ℕ) → b < 65536 + count w → top u b ≡ top w b
  like_top d b h = ⊎_elim
      (λ l. top_phrase u b l ∙ like_head e 2 (omega arith) ∙ sym (top_phrase w b l))
      (λ l. top_node u b l ∙ like_record e d (b - 65536) 0 (omega arith) (omega arith) ∙ sym (top_node w b l))
      (split b 65536)

  module _ (ok : Holds w) where
    pub like_nodes : nodes u ≡ nodes w
    like_nodes = N.like_nodes e ok.laid.laid regular

    pub like_place : (k b : ℕ) → Place w k b → Place u k b
    like_place k b p = let n = like_nodes in record { holds = like_holds ok; good = rw n p.good; up_to = omega (arith, p.up_to, like_head e 2 (omega arith)) }

    pub like_listed : (k : ℕ) (l : List ℕ) → k < features w → Listed w k l → Listed u k l
    like_listed k l h li =
        let n = like_nodes in
        let s = like_size e ok.laid.laid k h in
        record { each = λ v a. rw n (li.each v (omega arith)); pad = λ v a b. li.pad v (omega arith) b }

-- ---- without notes
module _ (w : List ℕ) where
  with_notes : Like (plain w) w
  with_notes = like_sym (plain_like w)

  pub plain_head : (j : ℕ) → j < 4096 → head (plain w) j ≡ head w j
  plain_head j h = like_head (plain_like w) j (omega arith)

  pub noted_laid : Laid (plain w) → Laid w
  noted_laid d = like_laid with_notes d

  pub noted_holds : Holds (plain w) → Holds w
  noted_holds ok = like_holds with_notes ok

  pub noted_nodes : Holds (plain w) → nodes w ≡ nodes (plain w)
  noted_nodes ok = like_nodes with_notes ok

  pub noted_top : Laid (plain w) → (b : ℕ) → b < 65536 + count (plain w) → top w b ≡ top (plain w) b
  noted_top d b h = like_top with_notes d b h

  pub noted_place : (k b : ℕ) → Place (plain w) k b → Place w k b
  noted_place k b p = like_place with_notes p.holds k b p

  pub noted_listed : (k : ℕ) (l : List ℕ) → Holds (plain w) → k < features (plain w) → Listed (plain w) k l → Listed w k l
  noted_listed k l ok h li = like_listed with_notes ok k l h li

-- ---- what adds nodes adds them to the words without notes
pub plain_makes : (t t' : List ℕ) (k : ℕ) (l : List ℕ) (a : Option ℕ) → Holds t → k < features t → Makes t t' k l a → Makes (plain t) (plain t') k l a
plain_makes t t' k l a ok h g =
    let n = like_nodes (plain_like t) ok in
    let s : size (plain t) k ≡ size t k = like_size (plain_like t) ok.laid.laid k h in
    let c : capacity (plain t) ≡ capacity t = like_head (plain_like t) 1 (omega arith) in
    rw (n, s) (record { grown = plain_grown regular t t' _ g.grown; answers = rw c g.answers })
