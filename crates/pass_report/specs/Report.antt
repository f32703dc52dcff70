-- The report for a pass log (document 02, CR 2). Assumes nothing: these are definitions.
--   verdicts_of outs           how many rows of outputs accept and how many reject
--   judged result t           the counts for the commands t, of what was read; or a refusal
--   report_of netlist sheet    the bytes printed
use Rattle.std.specs.Prelude.{Bool, false, not, List, [], ◌∷◌, ◌++◌, ℕ, eqb, length, if◌then◌else◌, Result, Ok, Err}
use Rattle.std.proofs.Math.Option.{Option, none, some}
use Rattle.lists.specs.Lists.{Bytes, bytes, filter}
use Rattle.refusals.specs.declared.Refusal.TheVariants as refusal
use Rattle.network.specs.Net.{Net}
use Rattle.network.specs.Settle.{run}
use Rattle.run_rows.specs.Rows.{rows_of}
use Rattle.blif_reading.specs.Read.{read_text}
use Rattle.printed_lines.specs.Lines.{key_line, count_line, refused_line}
use Rattle.pass_sheet.specs.Sheet.{Sheet, sheet_of, command_text}
use Rattle.pass_report.specs.declared.Verdicts.{Verdicts}
use Rattle.refusals.specs.declared.Refusal.{Refusal}

-- ---- the counts

-- "an accepted one a row at which it is 1": the first output
abbrev pub accepts : List Bool → Bool
accepts [] = false
accepts (first ∷ others) = first

-- "A rejected command is a row at which the first output is 0"
abbrev pub rejects : List Bool → Bool
rejects [] = false
rejects (first ∷ others) = not first

-- how many rows of outputs are of each kind
abbrev pub verdicts_of : List (List Bool) → Verdicts
verdicts_of outs = record { accepted = length (filter accepts outs); rejected = length (filter rejects outs) }

-- ---- the commands on a network

-- of the rows that the commands are, by the run from the start values; "A command row's length and characters are left to 31"
abbrev pub judged_rows : Net → Option (List (List Bool)) → Result Verdicts Refusal
judged_rows net none = Err refusal.WrongRows
judged_rows net (some rows) = Ok (verdicts_of (run net rows))

-- of what was read: the reader's refusals, then "33 when the network has no output, between 30 and 31", then 31; a network that was read is
-- never refused by 20, 29 or 30
abbrev pub judged : Result Net Refusal → Bytes → Result Verdicts Refusal
judged (Err r) t = Err r
judged (Ok net) t = if eqb (length net.outputs) 0 then Err refusal.NoOutput else judged_rows net (rows_of net.inputs t)

-- ---- what is printed

-- "It prints the lines `part=`, `commands=`, `accepted=`, `rejected=`, counts in decimal"
abbrev pub report_lines : Bytes → ℕ → Verdicts → Bytes
report_lines part commands v =
    key_line (bytes "part=") part ++ count_line (bytes "commands=") commands ++ count_line (bytes "accepted=") v.accepted
    ++ count_line (bytes "rejected=") v.rejected

-- the lines, "or `refused=N`"
abbrev pub printed : Bytes → ℕ → Result Verdicts Refusal → Bytes
printed part commands (Ok v) = report_lines part commands v
printed part commands (Err r) = refused_line r

-- "32 when a sheet line is missing, misformed or left over, or the sheet passes 40,960 bytes, before all others"
abbrev pub report_from : Result Net Refusal → Option Sheet → Bytes
report_from result none = refused_line refusal.WrongSheet
report_from result (some s) = printed s.part (length s.rows) (judged result (command_text s))

-- the bytes printed for a netlist and a sheet
unfoldable pub report_of : Bytes → Bytes → Bytes
report_of netlist sheet = report_from (read_text netlist) (sheet_of sheet)
