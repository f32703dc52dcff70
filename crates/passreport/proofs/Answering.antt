-- The report where as many cells are lent as reading wants. Assumes nothing.
use mathlib.Core.Path.{◌≡◌, ap, ◌∙◌}
use mathlib.Core.Bool.{true}
use mathlib.Core.List.{List}
use Prim.Native.Nat.{ℕ}
use native.Mathlib.Omega.{arith}
use lib.ListN.{length, length-replicate}
use Rattle.lists.specs.Lists.{Bytes, zeros}
use Rattle.blif_read.specs.Into.{Lengths, lengths, enough}
use Rattle.blif_write_names.specs.Between.Text.{Wrote}
use Rattle.pass_report.specs.Report.{report_of}
use Rattle.pass_report.specs.Into.{ReportOutcome, report_outcome, report_into}
use Rattle.pass_report.proofs.Summary.{report-into}

-- the lengths of the program's arrays
abbrev pub arrays : Lengths
arrays = lengths (length (zeros 4096)) (length (zeros 16384)) (length (zeros 256)) (length (zeros 4096)) (length (zeros 16384))

arrays-enough : enough arrays ≡ true
unfolding enough
arrays-enough =
    let a = length-replicate {A = ℕ} 4096 0 in
    let b = length-replicate {A = ℕ} 16384 0 in
    let c = length-replicate {A = ℕ} 256 0 in
    λ i. enough (lengths (a i) (b i) (c i) (a i) (b i))

pub report-written : (netlist sheet : Bytes) (m : ℕ) {r : ℕ} {out : Bytes} {gs ps os wgs wps : List ℕ}
    → report_outcome r out gs ps os wgs wps ≡ report_into netlist sheet arrays m → Wrote (report_of netlist sheet) (zeros m) out r
report-written netlist sheet m e =
    let is = e ∙ report-into netlist sheet arrays m arrays-enough in
    let room : length (zeros m) ≡ m = length-replicate {A = ℕ} m 0 in
    record {
      out = ap (λ (o : ReportOutcome). o.out) is;
      len = omega (arith, ap (λ (o : ReportOutcome). o.length) is, room);
    }
