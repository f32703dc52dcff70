-- A model that reading accepts (document 01, "Reading refuses, in order", 10 to 14). Assumes nothing: these are definitions.
use Rattle.lists.specs.Lists.{Bytes}
use Rattle.network.specs.Net.{Loop}
use Rattle.blif_meaning.specs.Model.{Model}
use Rattle.blif_meaning.specs.WellFormed.{WellFormed}
use Rattle.blif_reading.specs.Lookup.{lookup}
use Rattle.blif_reading.specs.Build.{build}

-- no refusal 10, 11, 12 or 13, and no loop among the gates as built (14)
pub record Accepts (m : Model Bytes) : Type 0 where
  -- no name is defined twice (10), every name used is defined (11), every cover's lines are good and agree in output (12, 13)
  pub formed : WellFormed m
  -- no loop (14)
  pub free : Loop (build (lookup m) m) → ⊥
