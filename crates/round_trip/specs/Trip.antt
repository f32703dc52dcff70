-- Demand 3, write then read: a valid, loop-free network with no exclusive gate over 12 inputs and plain flip-flops, whose written text is
-- within the sizes, is written and read back with as many inputs and outputs, and for every list of input rows the two give equal outputs
-- at every clock, each from its start values ("Demand 3 is one claim over every list of rows, the empty one too, not one for each clock"). Assumes nothing:
-- these are definitions.
use Rattle.std.specs.Prelude.{◌≡◌, true, false, List, ℕ, length, take, Result, Ok, Err}
use Rattle.lists.specs.Lists.{Bytes, zeros, overwrite}
use Rattle.network.specs.Net.{Net}
use Rattle.network.specs.Cells.{Lent, lent, net_of}
use Rattle.network.specs.Settle.{SameOutputs}
use Rattle.network.specs.declared.Counts.{Counts}
use Rattle.blif_writing.specs.Text.{text_of}
use Rattle.blif_reading.specs.Read.{too_large}
use Rattle.blif_text.specs.Decls.{decls_of}
use Rattle.blif_read.specs.Into.{Lengths, enough, read_into}
use Rattle.blif_write.specs.Into.{write_into}
use Rattle.round_trip.specs.Conditions.{PlainNet, WrittenFrom}
use Rattle.round_trip.specs.declared.Returned.{Returned}
use Rattle.round_trip.specs.declared.TripRefusal.{TripRefusal}
use Rattle.round_trip.specs.declared.TripRefusal.TheVariants.{NotWritten, NotRead}
use Rattle.refusals.specs.declared.Refusal.{Refusal}

-- ---- what is answered, whatever is lent

-- how much was written: nothing where writing was refused
abbrev pub written_length : Result ℕ Refusal → ℕ
written_length (Ok n) = n
written_length (Err r) = 0

-- the reader's refusal of a text of n bytes, or its length with the counts of the network read back
abbrev pub read_answer : ℕ → Result Counts Refusal → Result Returned TripRefusal
read_answer n (Err r) = Err (NotRead r)
read_answer n (Ok counts) = Ok (record { length = n; counts = counts })

-- the writer's refusal, or the reader's answer
abbrev pub answer_of : Result ℕ Refusal → Result Counts Refusal → Result Returned TripRefusal
answer_of (Err r) a = Err (NotWritten r)
answer_of (Ok n) a = read_answer n a

-- an answer, and what the slices to be filled hold then
pub record TripOutcome : Type 0 where
  -- what was answered
  pub answer : Result Returned TripRefusal
  -- the text's slice
  pub text : Bytes
  -- the slices of the network read back
  pub gates : List ℕ
  -- its pins
  pub pins : List ℕ
  -- its outputs
  pub outputs : List ℕ
  -- the working gates
  pub work_gates : List ℕ
  -- the working pins
  pub work_pins : List ℕ

-- the same, from its parts
abbrev pub trip_outcome : Result Returned TripRefusal → Bytes → List ℕ → List ℕ → List ℕ → List ℕ → List ℕ → TripOutcome
trip_outcome a t gs ps os wgs wps = record { answer = a; text = t; gates = gs; pins = ps; outputs = os; work_gates = wgs; work_pins = wps }

-- writing into so many bytes, then reading exactly the bytes written into slices of these lengths
unfoldable pub trip_into : Lent → ℕ → Lengths → TripOutcome
trip_into l n m =
    let w = write_into l n in
    let r = read_into (take (written_length w.answer) w.out) m in
    trip_outcome (answer_of w.answer r.answer) w.out r.gates r.pins r.outputs r.work_gates r.work_pins

-- ---- demand 3

-- the conditions: n is the length of the text's slice, m are the lengths of those to be filled
pub record RoundTripConditions (l : Lent) (n : ℕ) (m : Lengths) : Type 0 where
  -- it is written
  pub written : WrittenFrom l n
  -- it has no loop, and its flip-flops are plain
  pub plain : PlainNet (net_of l)
  -- the text, counted as a text to be read, is within the sizes
  pub sized : too_large (decls_of (text_of (net_of l))) ≡ false
  -- "enough cells are those that 1 asks for"
  pub cells : enough m ≡ true

-- what then holds of the network written and of what is left
pub record ReadsBack (net : Net) (o : TripOutcome) : Type 0 where
  -- the counts of the network read back
  pub counts : Counts
  -- it is read back, and the text's length is answered too
  pub answered : o.answer ≡ Ok (record { length = length (text_of net); counts = counts })
  -- the text is the network's, with zero bytes after it
  pub text : o.text ≡ overwrite (text_of net) (zeros (length o.text))
  -- as many inputs
  pub inputs : counts.inputs ≡ net.inputs
  -- as many outputs
  pub outputs : counts.outputs ≡ length net.outputs
  -- the network in the cells gives the outputs of the one written, for every list of rows
  pub same : SameOutputs (net_of (lent counts o.gates o.pins o.outputs)) net
