-- What a report promises, as a reviewer would read it. Assumes nothing.
--   report-as       what is printed, and why: 32, then the reader's, 33, 31, else the counts by document 01's clock and by the Berkeley text
--   report-into     what `pass_report` leaves, where enough cells are lent, is that report
--   report-front    of each file one byte over its limit suffices
--   report-short    a report has at most 61 bytes
use mathlib.Core.Path.{◌≡◌}
use mathlib.Core.Bool.{true}
use Prim.Native.Nat.{ℕ, ◌≤◌}
use lib.ListN.{length, take}
use Rattle.lists.specs.Lists.{Bytes}
use Rattle.blif_read.specs.Into.{Lengths, enough}
use Rattle.pass_report.specs.Report.{report_of}
use Rattle.pass_report.specs.Into.{leaving, report_into}
use Rattle.pass_report.specs.Counted.{ReportedAs}
use Rattle.pass_report.proofs.Reports as reports

-- "32 .. before all others, and 33 .. between 30 and 31": whatever the two texts are, the bytes printed are those of the first that refuses, or
-- the four lines with the counts of the rows in the sheet, which all are run
pub report-as : (netlist sheet : Bytes) → ReportedAs netlist sheet (report_of netlist sheet)
report-as = reports.report-as

-- what `pass_report` answers and leaves for lent cells that suffice
pub report-into : (netlist sheet : Bytes) (n : Lengths) (m : ℕ) → enough n ≡ true → report_into netlist sheet n m ≡ leaving (report_of netlist sheet) n m
report-into = reports.report-into

-- of a longer netlist 32,769 bytes and of a longer sheet 40,961 bytes are enough to print what the whole files give
pub report-front : (netlist sheet : Bytes) → report_of (take 32769 netlist) (take 40961 sheet) ≡ report_of netlist sheet
report-front = reports.report-front

-- so that the room of 64 bytes that the program has is enough, and it always prints
pub report-short : (netlist sheet : Bytes) → length (report_of netlist sheet) ≤ 61
report-short = reports.report-short
