-- Demands 2 and 3, as a reviewer would read them; the definitions are in specs/Trip.antt. Assumes nothing.
use Rattle.std.specs.Prelude.{Ok}
use mathlib.Core.Path.{◌≡◌}
use mathlib.Core.Bool.{Bool}
use mathlib.Core.List.{List}
use mathlib.Core.Logic.{◌↔◌}
use Prim.Native.Nat.{ℕ}
use lib.ListN.{length}
use Rattle.network.specs.Net.{Net}
use Rattle.network.specs.Cells.{Lent, net_of, Words}
use Rattle.network.specs.Settle.{run}
use Rattle.blif_meaning.specs.Model.{BlifRuns}
use Rattle.blif_writing.specs.Text.{text_of}
use Rattle.blif_reading.specs.TextModel.{model_of_text}
use Rattle.blif_reading.specs.Read.{read_text}
use Rattle.round_trip.specs.Conditions.{RoundTripNet}
use Rattle.blif_read.specs.Into.{Lengths}
use Rattle.round_trip.specs.Trip.{trip_into, RoundTripConditions, ReadsBack}
use Rattle.round_trip.proofs.Demand as demand
use Rattle.round_trip.proofs.ReadBack as back
use Rattle.round_trip.proofs.WrittenMeans as writing
use Rattle.blif_writing.specs.WrittenModel.{written}
use Rattle.blif_writing.specs.Names.{name_bytes}
use Rattle.blif_writing.proofs.NamesDiffer.{unname, unname-name}
use Rattle.blif_reading.specs.Accepts.{Accepts}
use Rattle.network.specs.Net.{Valid, Formed, Loop}
use Rattle.network.specs.Settle.{SameOutputs}
use Rattle.blif_reading.specs.Read.{too_large}
use Rattle.blif_text.specs.Decls.{decls_of}
use Rattle.blif_text.specs.Lines.{max_text}
use Prim.Native.Nat.{◌≤◌}
use mathlib.Core.Bool.{false}

-- demand 3: whatever is lent, where the conditions hold the network is written and read back with as many inputs and outputs, and for every
-- list of rows, the empty one too, the two give equal outputs at every clock, each from its start values, by the function and by the relation.
-- `Words` says that the lent cells are 32-bit numbers, which the slices give
pub demand-three : (l : Lent) (n : ℕ) (m : Lengths) → Words l → RoundTripConditions l n m → ReadsBack (net_of l) (trip_into l n m)
demand-three l n m w c = demand.demand-three w c

-- so two such networks that differ in their numbers of inputs or outputs, or at an output for some list of rows, never share a text
pub never-shared : (a b : Net) → RoundTripNet a → RoundTripNet b → text_of a ≡ text_of b → SameOutputs a b
never-shared = back.never-shared

-- the model written for a network gives the network's outputs and no others, whatever enables and resets its flip-flops have
pub written-means : (net : Net) → Valid net → (Loop net → ⊥) → Formed net → (rows outs : List (List Bool))
    → BlifRuns (written name_bytes net) rows outs ↔ (outs ≡ run net rows)
written-means net valid free formed = writing.written-means name_bytes unname unname-name net valid free formed

-- and it is one that reading accepts
pub written-accepted : (net : Net) → Valid net → (Loop net → ⊥) → Formed net → Accepts (written name_bytes net)
written-accepted net valid free formed = writing.written-accepts name_bytes unname unname-name net valid free formed

-- the text written for a network of demand 3 is parsed as the model written for it
pub written-parses : (net : Net) → RoundTripNet net → model_of_text (text_of net) ≡ written name_bytes net
written-parses = back.round-trip-parses

-- what is written for "a valid, loop-free network with no exclusive gate over 12 inputs and plain flip-flops" is read, where it
-- is within our sizes, as a network with as many inputs and outputs and equal outputs at every clock
pub read_back : (net : Net) → RoundTripNet net → length (text_of net) ≤ max_text → too_large (decls_of (text_of net)) ≡ false
    → (new : Net) × (read_text (text_of net) ≡ Ok new) × SameOutputs new net
read_back = back.read_back
