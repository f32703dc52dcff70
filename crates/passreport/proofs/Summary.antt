-- What `passreport` prints, as a reviewer would read it. Assumes nothing.
--   printed-whole   with the program's room of 64 bytes, the bytes that it prints are the whole report
use mathlib.Core.Path.{◌≡◌, ◌∙◌}
use Prim.Native.Nat.{ℕ, ◌≤◌, min}
use native.Mathlib.Omega.{arith}
use lib.ListN.{length, take, length-replicate}
use Rattle.lists.specs.Lists.{Bytes, zeros, overwrite}
use Rattle.lists.proofs.Over.{take-overwrite}
use Rattle.pass_report.specs.Report.{report_of}
use Rattle.pass_report.proofs.Summary.{report-short}

-- what `answer` leaves in 64 bytes and gives back: there is room for the report, and the bytes up to the length are the report
pub printed-whole : (netlist sheet : Bytes) {out : Bytes} {r : ℕ} → out ≡ overwrite (report_of netlist sheet) (zeros 64) → r ≡ min (length (report_of netlist sheet)) 65
    → (r ≤ 64) × (take r out ≡ report_of netlist sheet)
printed-whole netlist sheet {out} {r} e k =
    let t : Bytes = report_of netlist sheet in
    let room : length (zeros 64) ≡ 64 = length-replicate {A = ℕ} 64 0 in
    let short : length t ≤ 61 = report-short netlist sheet in
    let all : r ≡ length t = omega (arith, k, short) in
    (omega (arith, all, short), (λ i. take (all i) (e i)) ∙ take-overwrite t (zeros 64) (omega (arith, room, short)))
