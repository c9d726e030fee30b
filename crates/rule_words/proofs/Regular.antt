-- A rule table is regular: its words are drawn as they are read. Assumes nothing.
use mathlib.Core.Path.{◌≡◌, refl, sym, ap, ◌∙◌}
use mathlib.Core.Logic.{⊎_elim}
use mathlib.Core.List.{List}
use Prim.Native.Nat.{ℕ, ◌+◌, ◌<◌}
use native.Mathlib.Omega.{arith}
use Rattle.theory.specs.Diagrams.{at}
use Rattle.table_words.specs.Table.{Regular}
use Rattle.table_words.proofs.Reading.{past_at, at_roots}
use Rattle.table_words.proofs.Tab.{split}
use Rattle.rule_words.specs.Table.{body_of, rule_table}
use Rattle.rule_words.specs.Words.{encode}
use Rattle.rule_words.proofs.Reading.{decode_phrase, decode_index, decode_inj, encode_decode, branch_at_lem}
use Rattle.promises.specs.Words.{count, size, feature, body}
use Rattle.promises.specs.RuleWords.{decode, rule_node_list as nodes, rule_root as root, rules_of}

body_shows : (w : List ℕ) → ((i : ℕ) → i < count w → rule_table.Padded (size w (feature w i)) (body w i)) → (i v : ℕ) → i < count w → v < 12 → body w i v ≡ body_of (at (nodes w) i) v
body_shows w padded i v h hv = ⊎_elim
    (λ l. sym (encode_decode (body w i v)) ∙ ap encode (sym (branch_at_lem w i v h l)))
    (λ l. padded i h v l hv ∙ ap encode (sym (past_at rule_table w i v h l)))
    (split v (size w (feature w i)))

pub regular : Regular rule_table
unfolding rules_of
regular =
    record {
      arms = λ f v. refl;
      ends = λ x h. (x, ap (λ b. b.to) (decode_phrase x h));
      indices = λ i. ap (λ b. b.to) (decode_index (65536 + i) i refl);
      reads = λ f g v h e. ap decode (e v (omega arith));
      padded = λ m f g e p v l h. sym (e v h) ∙ p v l h;
      told = λ m f g l e p q v h. ⊎_elim (λ s. decode_inj (f v) (g v) (e v s)) (λ s. p v s h ∙ sym (q v s h)) (split v m);
      spared = λ S N M i n j t. refl;
      bodies = body_shows;
      places = λ w w' e p h. ap decode (e p h);
      tops = λ w p. refl;
      roots = λ w p h. sym (ap encode (at_roots rule_table w p h) ∙ encode_decode (root w p));
      shared = λ cap S gs hs l e x. x;
      said = λ w. refl;
    }
