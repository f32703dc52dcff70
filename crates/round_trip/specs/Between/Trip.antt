-- Beside specs/Trip: what contracts between the crates and proofs use, and no promise reaches.
-- Assumes nothing: these are definitions.
use Rattle.std.specs.Prelude.{◌≡◌, ℕ}
use Rattle.network.specs.Cells.{Lent, net_of}
use Rattle.blif_read.specs.Into.{Lengths}
use Rattle.round_trip.specs.Trip.{TripOutcome, trip_into, RoundTripConditions, ReadsBack}

-- ---- demand 3

-- the contract of `write_then_read`
pub record WritesThenReads (l : Lent) (n : ℕ) (m : Lengths) (o : TripOutcome) : Type 0 where
  -- the answer and every cell and byte are determined, whatever is lent
  pub determined : o ≡ trip_into l n m
  -- demand 3
  pub demand : RoundTripConditions l n m → ReadsBack (net_of l) o
