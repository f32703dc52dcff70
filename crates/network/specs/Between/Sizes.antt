-- Beside specs/Sizes: what contracts between the crates and proofs use, and no promise reaches.
-- Assumes nothing: these are definitions.
use Rattle.std.specs.Prelude.{ℕ, ◌≤◌}
use Rattle.network.specs.Sizes.{max_inputs, max_outputs, max_gates, max_pins}

-- each size is within its limit: "Each limit is inclusive"
pub record WithinSizes (i o g p : ℕ) : Type 0 where
  -- "256 inputs"
  pub inputs : i ≤ max_inputs
  -- "256 outputs"
  pub outputs : o ≤ max_outputs
  -- "1,024 gates"
  pub gates : g ≤ max_gates
  -- "16,384 pins"
  pub pins : p ≤ max_pins
