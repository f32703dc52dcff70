-- Beside specs/Handed: what contracts between the crates and proofs use, and no promise reaches.
-- Assumes nothing: these are definitions.
use Rattle.std.specs.Prelude.{◌≡◌, ℕ, ◌≤◌, Result, Ok}
use Rattle.network.specs.Between.Sizes.{WithinSizes}
use Rattle.network.specs.declared.Counts.{Counts}
use Rattle.blif_text.specs.Lines.{max_text}
use Rattle.refusals.specs.declared.Refusal.{Refusal}

-- an answer of reading whose counts are within document 01's sizes, so that 32 bits hold each
pub record CountsFit (a : Result Counts Refusal) : Type 0 where
  -- whatever was read is within the sizes
  pub fits : (c : Counts) → a ≡ Ok c → WithinSizes c.inputs c.outputs c.gates c.pins

-- an answer of writing whose length is within document 01's sizes, so that 32 bits hold it
pub record LengthFits (a : Result ℕ Refusal) : Type 0 where
  -- whatever was written is within the sizes
  pub fits : (n : ℕ) → a ≡ Ok n → n ≤ max_text
