-- The stored checks, by one computed test over their list. Assumes nothing.
use lib.Dec.{T}
use Rattle.lists.specs.Lists.{all}
use Rattle.worked_cases.proofs.Cases.{computed}
use Rattle.worked_cases.specs.Checks.{holds}
use Rattle.worked_cases.specs.Stored.{stored}

-- every text is read and every network written as by Quaigh
pub stored-hold : T (all holds stored)
unfolding computed stored
stored-hold = tt
