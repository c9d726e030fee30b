-- The rule table at the edge: what its layers draw is what its promises say. Assumes nothing.
use Rattle.promises.specs.RuleWords.{rule_of}
use Rattle.promises.specs.RuleSound.{RuleSound}
use Rattle.table_calls.proofs.Drawn.{Drawn}
use Rattle.rule_words.specs.Table.{rule_table}
use Rattle.rule_words.proofs.Reading.{length_rules, at_rules}
use Rattle.rule_sound.proofs.Pictures.{sound_pictures, sound_proper, picture_sound, picture_rules}

pub drawn : Drawn rule_table rule_of RuleSound
drawn = record { at_said = at_rules; length_said = length_rules; pictures = λ w s. sound_pictures s; proper = λ w s. sound_proper s; sound = picture_sound; says = picture_rules }
