-- Contract between layers: A RULE TABLE: how its words are read and drawn. Assumes nothing.
use Rattle.std.specs.Prelude.{◌≡◌, ℕ, ◌≤◌, ◌<◌, get_or}
use Rattle.theory.specs.Diagrams.{blank}
use Rattle.theory.specs.Rules.{rules, Node}
use Rattle.table_words.specs.Table.{Table}
use Rattle.rule_words.specs.Words.{encode}
use Rattle.promises.specs.RuleWords.{decode, rule_root, rules_of}

-- body word v of a node: its branch words, 0 past its size
abbrev pub body_of : Node → ℕ → ℕ
body_of x v = encode (get_or x.branches v blank)

-- kind word 1, 32 places; a body word for each branch and a root word for each place, from 65,536 on it says a node; phrase numbers up to 65,535
abbrev pub rule_table : Table rules
rule_table =
    record {
      number = 1;
      places = 32;
      first = 65536;
      word = λ f v. f v;
      goal = λ x. (decode x).to;
      arm = λ f v. decode (f v);
      Padded = λ m f. (v : ℕ) → m ≤ v → v < 12 → f v ≡ 0;
      body_of = body_of;
      root_of = λ R p. encode (get_or R p blank);
      root_at = λ w p. decode (rule_root w p);
      spare_of = λ S N i j. 0;
      share = λ j. 0;
      Shared = λ cap S gs. Unit {0};
      InRange = λ x. x.end < 65536;
      said = rules_of;
    }
