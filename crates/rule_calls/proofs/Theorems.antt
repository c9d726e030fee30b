-- What writing into a place adds up to: the table is sound, and the place has its rule; a copy always fits. Assumes nothing.
use mathlib.Core.Path.{◌≡◌, refl, ap, ◌∙◌}
use mathlib.Core.List.{List, [], ◌∷◌, ◌++◌}
use Prim.Native.Nat.{ℕ, ◌≤◌, ◌<◌}
use native.Mathlib.Omega.{arith}
use lib.ListN.{length}
use Rattle.theory.specs.Functions.{Agree}
use Rattle.theory.specs.Build.{build, table}
use Rattle.theory.specs.Tally.{tally}
use Rattle.theory.specs.WellFormed.{Mean}
use Rattle.theory.specs.Rules.{Rule, Branch, Node}
use Rattle.theory.proofs.Canonical.{canonical}
use Rattle.theory.proofs.Tables.{room}
pub use Rattle.table_calls.proofs.Theorems.{ended}
use Rattle.table_calls.proofs.Theorems as C
use Rattle.rule_words.specs.Picture.{Becomes}
use Rattle.rule_words.proofs.Reading.{length_nodes}
use Rattle.rule_words.proofs.Regular.{regular}
use Rattle.rule_sound.proofs.Pictures.{sound_table, picture_sound, picture_rules}
use Rattle.rule_calls.proofs.Sounding.{sound_pos, sound_wf, sound_root}
use Rattle.promises.specs.Words.{capacity, count, sizes}
use Rattle.promises.specs.RuleWords.{decode, rule_node_list as nodes, rule_root as root, rule_of, rules_of}
use Rattle.promises.specs.RuleSound.{RuleSound as Sound}

-- ---- SOUND: a table that a call wrote
pub becomes_sound : {p : ℕ} {g : Rule} {w w' : List ℕ} → Becomes p g w w' → Sound w'
becomes_sound b = picture_sound b.proper b.pictures

-- ---- a call gives the place that it writes its rule, and keeps capacity and list
module _ {p : ℕ} {g : Rule} {w w' : List ℕ} (b : Becomes p g w w') where
  pub place_written : p < 32 → Agree (sizes w) (rule_of w' p) g
  place_written h = C.place_written regular p g w w' (picture_rules b.proper b.pictures).2 h

  pub frame_kept : (capacity w' ≡ capacity w) × (sizes w' ≡ sizes w)
  frame_kept = ((picture_rules b.proper b.pictures).0, (picture_rules b.proper b.pictures).1)

-- ---- there is room for a rule that the table has a branch for, so for that of each place
pub there_fits : {w : List ℕ} (b : Branch) (g : Rule) → Sound w → Mean (nodes w) 0 (sizes w) b g → tally (sizes w) (rules_of w ++ (g ∷ [])) ≤ capacity w
there_fits {w} b g s m =
    let e : length (build 0 (sizes w) g (table (sizes w) (rules_of w)).1).1 ≡ tally (sizes w) (rules_of w ++ (g ∷ [])) = room (sizes w) (sound_pos s) (rules_of w) g in
    let n : (table (sizes w) (rules_of w)).1 ≡ nodes w = ap (λ (q : List Branch × List Node). q.1) (sound_table s) in
    let c : build 0 (sizes w) g (nodes w) ≡ (b, nodes w) = canonical (sizes w) 0 (sizes w) refl (sound_pos s) (nodes w) (sound_wf s) b g m in
    let l : length (build 0 (sizes w) g (table (sizes w) (rules_of w)).1).1 ≡ count w =
    ap (λ (N : List Node). length (build 0 (sizes w) g N).1) n ∙ ap (λ (q : Branch × List Node). length q.1) c ∙ length_nodes w in
    omega (arith, s.header.within)

pub copy_fits : {w : List ℕ} (q : ℕ) → q < 32 → Sound w → tally (sizes w) (rules_of w ++ (rule_of w q ∷ [])) ≤ capacity w
copy_fits {w} q h s = there_fits (decode (root w q)) (rule_of w q) s (record { ok = sound_root s q h; says = λ t v. refl })
