-- What rule and cost diagrams differ in: a branch adds an offset and ends at an end. Rules: no offset, phrases. Costs: integers, one end. Assumes nothing.
use Rattle.std.specs.Prelude.{◌≡◌}

-- the offsets are a group
pub record Group (Off : Type 0) (nil : Off) (plus : Off → Off → Off) (neg : Off → Off) : Type 0 where
  pub plus_assoc : (a b c : Off) → plus (plus a b) c ≡ plus a (plus b c)
  pub nil_plus : (a : Off) → plus nil a ≡ a
  pub plus_nil : (a : Off) → plus a nil ≡ a
  pub neg_plus : (a : Off) → plus (neg a) a ≡ nil
  pub plus_neg : (a : Off) → plus a (neg a) ≡ nil

-- offsets and ends, both told apart; end0 stands where nothing is said
pub record Kind : Type 1 where
  pub Off : Type 0
  pub End : Type 0
  pub off_discrete : Discrete Off
  pub end_discrete : Discrete End
  pub nil : Off
  pub plus : Off → Off → Off
  pub neg : Off → Off
  pub end0 : End
  pub group : Group Off nil plus neg
