-- A sound table is the picture of its rules, and every picture is a sound table. Assumes nothing.
use mathlib.Core.Path.{◌≡◌, refl, ap, ◌∙◌}
use mathlib.Core.List.{List, []}
use Prim.Native.Nat.{ℕ, ◌+◌, ◌-◌, ◌*◌, ◌<◌}
use native.Mathlib.Omega.{arith}
use lib.ListN.{length, get_or, get_or-eq_default}
use Rattle.theory.specs.Functions.{Agree, zero_fun}
use Rattle.theory.specs.Diagrams.{at, blank}
use Rattle.theory.specs.Build.{table}
use Rattle.theory.specs.Walk.{Tidy}
use Rattle.theory.specs.Rules.{Rule}
use Rattle.theory.proofs.Bounded.{Results, empty_bounded, rules_bounded}
use Rattle.table_words.specs.Words.{kind}
use Rattle.rule_words.specs.Words.{encode}
use Rattle.rule_words.specs.Table.{rule_table}
use Rattle.rule_words.specs.Picture.{Pictures, Proper, IsTable}
use Rattle.rule_words.proofs.Regular.{regular}
use Rattle.rule_words.proofs.Bounding.{decode_encode, rules_small}
use Rattle.table_checks.proofs.Framing.{header_of, header_from}
use Rattle.table_checks.proofs.Pictures as C
use Rattle.table_checks.proofs.Pictures.{Tested}
use Rattle.rule_sound.specs.Walk.{Ordered}
use Rattle.rule_sound.proofs.Sitting.{node_fits}
use Rattle.promises.specs.Words.{word, capacity, size, sizes, feature, body, Zeros}
use Rattle.promises.specs.RuleWords.{decode, rule_node_list as nodes, rule_root as root, rule_roots as roots, rules_of}
use Rattle.promises.specs.RuleSound.{RuleSound as Sound}

-- ---- a sound table is tested, and the other way round
pub ordered : {w : List ℕ} → Sound w → Ordered w
ordered s = record { header = s.header; nodes_ok = s.nodes_ok; chained = s.chained }

pub sound_tested : {w : List ℕ} → Sound w → Tested rule_table w
unfolding word roots
sound_tested s =
    record {
      header = header_of rule_table (λ j h. refl) s.header;
      nodes_ok = node_fits (ordered s);
      spared = λ i j h g. (s.nodes_ok.each i h).spare.zeros (8192 + 16 * i + (14 + j)) (omega arith) (omega arith);
      chained = s.chained;
      roots_ok = s.roots_ok.rooted;
      in_order = s.in_order;
    }

zeros_past : (w : List ℕ) (i : ℕ) → rule_table.Padded (size w (feature w i)) (body w i) → Zeros w (8192 + 16 * i + 1 + size w (feature w i)) (8192 + 16 * i + 13)
unfolding word
zeros_past w i pad =
    record {
      zeros = λ j h g.
          let e : j ≡ 8192 + 16 * i + (1 + (j - (8192 + 16 * i + 1))) = omega arith in
          ap (λ (x : ℕ). get_or w x 0) e ∙ pad (j - (8192 + 16 * i + 1)) (omega arith) (omega arith);
    }

zeros_spare : (w : List ℕ) (i : ℕ) → ((j : ℕ) → j < 2 → word w i (14 + j) ≡ 0) → Zeros w (8192 + 16 * i + 14) (8192 + 16 * i + 16)
unfolding word
zeros_spare w i z =
    record {
      zeros = λ j h g.
          let e : j ≡ 8192 + 16 * i + (14 + (j - (8192 + 16 * i + 14))) = omega arith in
          ap (λ (x : ℕ). get_or w x 0) e ∙ z (j - (8192 + 16 * i + 14)) (omega arith);
    }

tested_sound : {w : List ℕ} → Tested rule_table w → Sound w
unfolding roots
tested_sound {w} t =
    record {
      header = header_from rule_table (λ j h. refl) t.header;
      nodes_ok = record {
        each = λ i h. let n = t.nodes_ok i h in record {
          known = n.known;
          lower = record { lower = n.lower };
          differ = λ a. n.differ (λ v hv. ap decode (a.alike v hv));
          padded = zeros_past w i n.padded;
          spare = zeros_spare w i (λ j g. t.spared i j h g);
        };
      };
      chained = t.chained;
      roots_ok = record { rooted = t.roots_ok };
      in_order = t.in_order;
    }

-- THEOREM: the kind word is 1, that of a sound cost table 2
pub sound_kind : {w : List ℕ} → Sound w → kind w ≡ 1
sound_kind s = s.header.kind

-- ---- THEOREMS: a sound table's roots and nodes are those of its rules in turn, its words their picture
pub sound_tidy : {w : List ℕ} → Sound w → Tidy (sizes w) (roots w) (nodes w)
unfolding roots
sound_tidy s = C.tested_tidy regular (sound_tested s)

pub sound_table : {w : List ℕ} → Sound w → table (sizes w) (rules_of w) ≡ (roots w, nodes w)
unfolding roots
sound_table s = C.tested_table regular (sound_tested s)

pub sound_pictures : {w : List ℕ} → Sound w → Pictures (capacity w) (sizes w) (rules_of w) w
sound_pictures s = C.tested_pictures regular (sound_tested s)

pub sound_proper : {w : List ℕ} → Sound w → Proper (capacity w) (sizes w) (rules_of w)
sound_proper {w} s = C.tested_proper regular (sound_tested s) (λ p h t x. rules_small w p h t) tt

pub sound_is : {w : List ℕ} → Sound w → IsTable w
sound_is {w} s = record { cap = capacity w; sizes = sizes w; places = rules_of w; proper = sound_proper s; pictures = sound_pictures s }

-- ---- a picture is a sound table
module _ {cap : ℕ} {S : List ℕ} {gs : List Rule} {w : List ℕ} (p : Proper cap S gs) (d : Pictures cap S gs w) where
  bounded : Results 65536 (table S gs)
  bounded = rules_bounded 65536 (omega arith) S gs (λ i h t x. p.range i (omega (arith, p.places)) t x) [] (empty_bounded 65536 (omega arith))

  arms : (i v : ℕ) → i < length (table S gs).1 → v < length (at (table S gs).1 i).branches
      → decode (encode (get_or (at (table S gs).1 i).branches v blank)) ≡ get_or (at (table S gs).1 i).branches v blank
  arms i v h hv = decode_encode (get_or (at (table S gs).1 i).branches v blank) ((bounded.list.node i).branch v)

  pads : (i : ℕ) → i < length (table S gs).1 → rule_table.Padded (length (at (table S gs).1 i).branches) (rule_table.body_of (at (table S gs).1 i))
  pads i h v l hv = ap encode (get_or-eq_default (at (table S gs).1 i).branches blank l)

  tops : (q : ℕ) → q < 32 → decode (root w q) ≡ get_or (table S gs).0 q blank
  tops q h = ap decode (d.roots_are q h) ∙ decode_encode (get_or (table S gs).0 q blank) (bounded.roots.branch q)

  -- THEOREM
  pub picture_sound : Sound w
  picture_sound = tested_sound (C.picture_tested regular p d arms pads tops)

  -- THEOREM: what the words say are the capacity, the feature list and the rules that they picture
  pub picture_rules : (capacity w ≡ cap) × (sizes w ≡ S) × ((q : ℕ) → q < 32 → Agree S (get_or (rules_of w) q zero_fun) (get_or gs q zero_fun))
  picture_rules = C.picture_said regular p d arms pads tops

pub is_sound : {w : List ℕ} → IsTable w → Sound w
is_sound t = picture_sound t.proper t.pictures
