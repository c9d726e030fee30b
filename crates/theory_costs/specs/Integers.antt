-- Means of proof: how far an integer lies from 0, and the words that stand for integers. Assumes nothing.
use Rattle.std.specs.Prelude.{ℕ, ◌+◌, ◌-◌, ℤ}
use Rattle.promises.specs.Integers.{rise, fall, bias}

-- the word that stands for z
abbrev pub word_for : ℤ → ℕ
word_for z = rise z + (bias - fall z)
