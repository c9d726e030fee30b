-- `table_calls::opening::write_bases` meets its contract: a part of the slice is filled. Assumes nothing.
use Rattle.std.proofs.Common.{rules, arith, length, get_or, ℕ, ◌-◌, ◌<◌, ◌≡◌, ◌∙◌}
use Rattle.table_calls.proofs.Parts.{part_inside, part_before, part_after}
use Rattle.table_calls.proofs.opening.write_bases.Goals as goal

pub returns : goal.returns
returns c =
    let w = c.args.t.now in
    let f = c.fill.new.self in
    let n : length f ≡ 16 = search rules in
    let all : (i : ℕ) → i < length f → get_or f i 0 ≡ c.args.base = search rules in
    record {
      long = search rules;
      bases = λ j h g. part_inside 48 16 w f n c.requires j h g ∙ all (j - 48) (omega arith);
      before = λ j h. part_before 48 16 w f n c.requires j h;
      past = λ j h. part_after 48 16 w f n c.requires j h;
    }
