-- The cost table at the edge: what its layers draw is what its promises say. Assumes nothing.
use Rattle.promises.specs.CostWords.{cost_of}
use Rattle.promises.specs.CostSound.{CostSound}
use Rattle.table_calls.proofs.Drawn.{Drawn}
use Rattle.cost_words.specs.Table.{cost_table}
use Rattle.cost_words.proofs.Reading.{length_costs, at_costs}
use Rattle.cost_sound.proofs.Pictures.{sound_pictures, sound_proper, picture_sound, picture_costs}

pub drawn : Drawn cost_table cost_of CostSound
drawn = record { at_said = at_costs; length_said = length_costs; pictures = λ w s. sound_pictures s; proper = λ w s. sound_proper s; sound = picture_sound; says = picture_costs }
