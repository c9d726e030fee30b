-- When two tables, as plain functions, say the same. Assumes nothing.
use Rattle.std.specs.Prelude.{◌≡◌, List, ℕ, length, get_or}
use Rattle.theory.specs.Kind.{Kind}
use Rattle.theory.specs.Settings.{FeatureList}
use Rattle.theory.specs.Functions.{Agree, Fun, zero_fun}
use Rattle.promises.specs.State.{State}

module _ {K : Kind} where
  -- as many functions over the feature list S, agreeing place by place
  pub record Matches (S : List ℕ) (gs hs : List (Fun K)) : Type 0 where
    pub features : FeatureList S
    pub many : length gs ≡ length hs
    pub each : (p : ℕ) → Agree S (get_or gs p zero_fun) (get_or hs p zero_fun)

  -- two states that say the same
  pub record Agrees (z y : State K) : Type 0 where
    pub capacities : y.capacity ≡ z.capacity
    pub lists : y.list ≡ z.list
    pub functions : Matches z.list z.places y.places
