-- What the counts of a report are (document 02, CR 2: "A rejected command is a row at which the first output is 0, an accepted one a row at
-- which it is 1. Accepted plus rejected equals the rows in the sheet, and both equal the rows run"). Assumes nothing: these are definitions.
--   Tallies net first held rows a r   by document 01's clock, a of the rows are accepted and r rejected
--   CountedFor netlist s v            v are the counts of the sheet s on the netlist
--   ReportedAs netlist sheet t        t is printed for the two texts, and why
use Rattle.std.specs.Prelude.{◌≡◌, Bool, true, false, List, [], ◌∷◌, ◌↔◌, ℕ, suc, ◌+◌, length, Ok, Err}
use Rattle.std.proofs.Math.Option.{none, some}
use Rattle.lists.specs.Lists.{Bytes}
use Rattle.refusals.specs.Numbers.{InReading}
use Rattle.refusals.specs.declared.Refusal.{Refusal}
use Rattle.refusals.specs.declared.Refusal.TheVariants as refusal
use Rattle.signal.specs.Signal.{Signal}
use Rattle.network.specs.Net.{Net}
use Rattle.network.specs.Clock.{sig_bit, Clock, start_bits}
use Rattle.blif_meaning.specs.Model.{BlifRuns}
use Rattle.blif_reading.specs.TextModel.{model_of_text}
use Rattle.blif_reading.specs.Read.{read_text}
use Rattle.run_rows.specs.Rows.{rows_of}
use Rattle.printed_lines.specs.Lines.{refused_line}
use Rattle.pass_sheet.specs.Sheet.{Sheet, sheet_of, command_text}
use Rattle.pass_report.specs.Report.{verdicts_of, report_lines}
use Rattle.pass_report.specs.declared.Verdicts.{Verdicts}

-- a clock for each row: one at which the first output's bit is 1 accepts its row, one at which it is 0 rejects it
pub data Tallies (net : Net) (first : Signal) : (ℕ → Bool) → List (List Bool) → ℕ → ℕ → Type 0 where
  end : {held : ℕ → Bool} → Tallies net first held [] 0 0
  accept : {held next : ℕ → Bool} {row out : List Bool} {rows : List (List Bool)} {a r : ℕ} (c : Clock net held row out next)
      → sig_bit row c.bits first ≡ true → Tallies net first next rows a r → Tallies net first held (row ∷ rows) (suc a) r
  reject : {held next : ℕ → Bool} {row out : List Bool} {rows : List (List Bool)} {a r : ℕ} (c : Clock net held row out next)
      → sig_bit row c.bits first ≡ false → Tallies net first next rows a r → Tallies net first held (row ∷ rows) a (suc r)

-- the counts of a sheet on a netlist
pub record CountedFor (netlist : Bytes) (s : Sheet) (v : Verdicts) : Type 0 where
  -- the network
  pub net : Net
  -- which is read
  pub reads : read_text netlist ≡ Ok net
  -- its first output
  pub first : Signal
  -- and its others
  pub others : List Signal
  -- are its outputs
  pub outputs : net.outputs ≡ first ∷ others
  -- the rows
  pub rows : List (List Bool)
  -- which the commands are
  pub has : rows_of net.inputs (command_text s) ≡ some rows
  -- as many as the sheet has: "both equal the rows run"
  pub run : length rows ≡ length s.rows
  -- by document 01's clock, from the start values, so many of them are accepted and rejected and no other numbers
  pub tallies : (a r : ℕ) → Tallies net first (start_bits net) rows a r ↔ ((a ≡ v.accepted) × (r ≡ v.rejected))
  -- "Accepted plus rejected equals the rows in the sheet"
  pub adds : v.accepted + v.rejected ≡ length s.rows
  -- the rows of outputs
  pub outs : List (List Bool)
  -- which the netlist has for these rows by the Berkeley text, and no others
  pub means : (other : List (List Bool)) → BlifRuns (model_of_text netlist) rows other ↔ (other ≡ outs)
  -- are those counted
  pub counts : v ≡ verdicts_of outs

-- what is printed for two texts, and why: the refusals in their order
pub data ReportedAs (netlist sheet : Bytes) : Bytes → Type 0 where
  -- "32 .. before all others"
  wrong-sheet : sheet_of sheet ≡ none → ReportedAs netlist sheet (refused_line refusal.WrongSheet)
  -- then the reader's
  not-read : {s : Sheet} {k : Refusal} → sheet_of sheet ≡ some s → read_text netlist ≡ Err k → InReading k → ReportedAs netlist sheet (refused_line k)
  -- "33 when the network has no output, between 30 and 31"
  no_output : {s : Sheet} {net : Net} → sheet_of sheet ≡ some s → read_text netlist ≡ Ok net → net.outputs ≡ [] → ReportedAs netlist sheet (refused_line refusal.NoOutput)
  -- "A command row's length and characters are left to 31"
  wrong-rows : {s : Sheet} {net : Net} {first : Signal} {others : List Signal} → sheet_of sheet ≡ some s → read_text netlist ≡ Ok net
      → net.outputs ≡ first ∷ others → rows_of net.inputs (command_text s) ≡ none → ReportedAs netlist sheet (refused_line refusal.WrongRows)
  -- else the four lines
  reported : {s : Sheet} {v : Verdicts} → sheet_of sheet ≡ some s → CountedFor netlist s v → ReportedAs netlist sheet (report_lines s.part (length s.rows) v)
