-- What `pass_report` answers and leaves in the lent slices. Assumes nothing: these are definitions.
--   report_into netlist sheet n m   for lent cells of the lengths n and an output slice of m bytes
use Rattle.std.specs.Prelude.{List, ℕ, ◌+◌, min, length}
use Rattle.lists.specs.Lists.{Bytes, zeros, overwrite}
use Rattle.blif_read.specs.Into.{Lengths, answered}
use Rattle.pass_sheet.specs.Sheet.{sheet_of}
use Rattle.pass_report.specs.Report.{report_from}

-- an answer, and what the lent slices hold then
pub record ReportOutcome : Type 0 where
  -- the length of the report, or one more than the output slice's where the report is longer
  pub length : ℕ
  -- the bytes of the output slice
  pub out : Bytes
  -- the gates' cells
  pub gates : List ℕ
  -- the pins' cells
  pub pins : List ℕ
  -- the outputs' cells
  pub outputs : List ℕ
  -- the working gates' cells
  pub work_gates : List ℕ
  -- the working pins' cells
  pub work_pins : List ℕ

-- the same, from its parts
abbrev pub report_outcome : ℕ → Bytes → List ℕ → List ℕ → List ℕ → List ℕ → List ℕ → ReportOutcome
report_outcome k o gs ps os wgs wps = record { length = k; out = o; gates = gs; pins = ps; outputs = os; work_gates = wgs; work_pins = wps }

-- the report at the front of the output slice, cut where that ends, zeros behind it, and zeros in all cells, which are working cells here
abbrev pub leaving : Bytes → Lengths → ℕ → ReportOutcome
leaving t n m =
    report_outcome (min (length t) (m + 1)) (overwrite t (zeros m)) (zeros n.gates) (zeros n.pins) (zeros n.outputs) (zeros n.work_gates) (zeros n.work_pins)

-- the report where as many cells are lent: with too few it is that of the reader's refusal 1
unfoldable pub report_into : Bytes → Bytes → Lengths → ℕ → ReportOutcome
report_into netlist sheet n m = leaving (report_from (answered netlist n) (sheet_of sheet)) n m
