-- What the exported functions hand to their callers: the answers of `read_blif`, `write_blif` and `run_rows` as structs in C's layout.
-- Assumes nothing: these are definitions.
use Rattle.std.specs.Prelude.{◌≡◌, Bool, List, ◌↔◌, ℕ, ◌-◌, length, take, drop, Result, Ok, Err}
use Rattle.std.proofs.Math.Option.{some}
use Rattle.lists.specs.Lists.{Bytes, zeros}
use Rattle.refusals.specs.Numbers.{number_of, InRunning}
use Rattle.refusals.specs.declared.Refusal.{Refusal}
use Rattle.network.specs.Net.{Net}
use Rattle.network.specs.Settle.{SameOutputs}
use Rattle.network.specs.Cells.{Lent, lent, net_of}
use Rattle.network.specs.declared.Counts.{Counts}
use Rattle.blif_meaning.specs.Model.{BlifRuns}
use Rattle.blif_reading.specs.TextModel.{model_of_text}
use Rattle.blif_writing.specs.Text.{text_of}
use Rattle.blif_read.specs.Into.{ReadOutcome}
use Rattle.blif_write.specs.Into.{WriteOutcome}
use Rattle.run_rows.specs.Rows.{rows_text, rows_of}
use Rattle.run_rows.specs.Into.{RunOutcome, run_into}
use Rattle.vumneath.specs.declared.VumneathNetwork.{VumneathNetwork}
use Rattle.vumneath.specs.declared.VumneathText.{VumneathText}
use Rattle.vumneath.specs.declared.VumneathRows.{VumneathRows}

-- the number of the interface: 1 with records of three cells, 2 with the start values of document 02, CR 4
abbrev pub interface_number : ℕ
interface_number = 2

-- the counts that a caller hands over
abbrev pub counts_from : ℕ → ℕ → ℕ → ℕ → Counts
counts_from inputs gates pins outputs = record { inputs = inputs; gates = gates; pins = pins; outputs = outputs }

-- "refused is 0 on success, else the refusal's number; the counts are then 0"
abbrev pub network_of : Result Counts Refusal → VumneathNetwork
network_of (Ok c) = record { refused = 0; inputs = c.inputs; gates = c.gates; pins = c.pins; outputs = c.outputs }
network_of (Err r) = record { refused = number_of r; inputs = 0; gates = 0; pins = 0; outputs = 0 }

-- the same of writing: the text's length, or the refusal's number
abbrev pub text_for : Result ℕ Refusal → VumneathText
text_for (Ok n) = record { refused = 0; length = n }
text_for (Err r) = record { refused = number_of r; length = 0 }

-- the same of a run: the length of the rows written, or the refusal's number
abbrev pub rows_for : Result ℕ Refusal → VumneathRows
rows_for (Ok n) = record { refused = 0; length = n }
rows_for (Err r) = record { refused = number_of r; length = 0 }

-- what was handed over is an outcome of reading: the answer in C's struct, and every cell of the five slices
pub record ReadHanded (o : ReadOutcome) (r : VumneathNetwork) (gs ps os wgs wps : List ℕ) : Type 0 where
  -- the struct is the answer
  pub answer : r ≡ network_of o.answer
  -- the gates' cells
  pub gates : gs ≡ o.gates
  -- the pins' cells
  pub pins : ps ≡ o.pins
  -- the outputs' cells
  pub outputs : os ≡ o.outputs
  -- the working gates' cells
  pub work_gates : wgs ≡ o.work_gates
  -- the working pins' cells
  pub work_pins : wps ≡ o.work_pins

-- what was handed over is an outcome of writing: the answer in C's struct, and every byte of the output slice
pub record WriteHanded (o : WriteOutcome) (r : VumneathText) (out : Bytes) : Type 0 where
  -- the struct is the answer
  pub answer : r ≡ text_for o.answer
  -- the bytes
  pub bytes : out ≡ o.out

-- what was handed over is an outcome of a run: the answer in C's struct, and every byte of the output slice
pub record RunHanded (o : RunOutcome) (r : VumneathRows) (out : Bytes) : Type 0 where
  -- the struct is the answer
  pub answer : r ≡ rows_for o.answer
  -- the bytes
  pub bytes : out ≡ o.out

-- what a refused run hands over
pub record RefusedRun (l : Lent) (t : Bytes) (n : ℕ) (r : VumneathRows) (out : Bytes) : Type 0 where
  -- the refusal
  pub refusal : Refusal
  -- one of 20, 29, 30 and 31
  pub among : InRunning refusal
  -- which is answered
  pub told : (run_into l t n).answer ≡ Err refusal
  -- its number
  pub number : r.refused ≡ number_of refusal
  -- no length
  pub length : r.length ≡ 0
  -- "A refusal zeroes the output rows"
  pub bytes : out ≡ zeros n

-- ---- what was handed over, as a network

-- the counts in C's struct
abbrev pub counts_handed : VumneathNetwork → Counts
counts_handed r = counts_from r.inputs r.gates r.pins r.outputs

-- the network in the cells that reading left
abbrev pub net_handed : VumneathNetwork → List ℕ → List ℕ → List ℕ → Net
net_handed r gs ps os = net_of (lent (counts_handed r) gs ps os)

-- demand 3 of what two calls handed over, one that wrote the network and one that read exactly the bytes written
pub record HandedBack (net : Net) (w : VumneathText) (out : Bytes) (r : VumneathNetwork) (gs ps os : List ℕ) : Type 0 where
  -- the network is written
  pub written : w.refused ≡ 0
  -- the bytes written are its text
  pub text : take w.length out ≡ text_of net
  -- they are read
  pub reads : r.refused ≡ 0
  -- as many inputs
  pub inputs : r.inputs ≡ net.inputs
  -- as many outputs
  pub outputs : r.outputs ≡ length net.outputs
  -- the network in the cells gives the outputs of the one lent, for every list of rows
  pub same : SameOutputs (net_handed r gs ps os) net

-- ---- a text that is read and run

-- what two calls handed over, one that read the text and one that ran the network read for the rows of `given`, a bit for each of its
-- inputs: the rows written are the outputs that the text has by the Berkeley text, and no others
pub record TextRan (text : Bytes) (inputs : ℕ) (given : Bytes) (k : ℕ) (out : Bytes) : Type 0 where
  -- rows
  pub rows : List (List Bool)
  -- which the given text has
  pub has : rows_of inputs given ≡ some rows
  -- rows of outputs
  pub outs : List (List Bool)
  -- the only ones that the text has for these rows
  pub only : (others : List (List Bool)) → BlifRuns (model_of_text text) rows others ↔ (others ≡ outs)
  -- the bytes are their text
  pub written : take k out ≡ rows_text outs
  -- all of it
  pub long : k ≡ length (rows_text outs)
  -- with zero bytes after it
  pub rest : drop k out ≡ zeros (length out - k)
