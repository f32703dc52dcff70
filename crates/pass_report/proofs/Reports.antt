-- What is printed for two texts, and why. Assumes nothing.
use Rattle.std.specs.Prelude.{if◌then◌else◌, Result, Ok, Err}
use mathlib.Core.Path.{◌≡◌, refl, sym, ap, ◌∙◌}
use mathlib.Core.Bool.{Bool, true, false}
use mathlib.Core.List.{List, [], ◌∷◌, ◌++◌}
use mathlib.Core.Option.{Option, none, some}
use mathlib.Core.Logic.{◌↔◌, ⊎_elim}
use Prim.Native.Nat.{ℕ, ◌+◌, ◌≤◌, ◌<◌}
use native.Mathlib.Omega.{arith}
use lib.Dec.{eqb}
use lib.ListN.{length, take, length-append}
use lib.Seq.{take_all, length-take-le}
use borrow.Author.Tests.{lt-ltb, lt-leb, ne_eqb}
use Rattle.lists.specs.Lists.{Bytes, bytes}
use Rattle.lists.proofs.Tests.{by_order}
use Rattle.refusals.specs.Numbers.{number_of}
use Rattle.refusals.specs.Order.{◌or_else◌, refuse_if}
use Rattle.refusals.specs.declared.Refusal.TheVariants as refusal
use Rattle.signal.specs.Signal.{Signal}
use Rattle.network.specs.Net.{Net}
use Rattle.network.specs.Clock.{NetRuns}
use Rattle.network.specs.Settle.{run}
use Rattle.blif_reading.specs.Read.{answer, read_fault, read_text}
use Rattle.blif_reading.proofs.Summary.{read-means, reading-refuses}
use Rattle.blif_read.specs.Into.{Lengths, enough}
use Rattle.blif_writing.specs.Names.{decimal}
use Rattle.run_rows.specs.Rows.{rows_of}
use Rattle.printed_lines.specs.Lines.{key_line, count_line}
use Rattle.pass_sheet.specs.Sheet.{Sheet, is_whole, sheet_of, command_text}
use Rattle.pass_sheet.proofs.HeadTests.{decimal-short, part-few}
use Rattle.pass_sheet.proofs.SheetTexts.{sheet-text, command-lines, rows_few}
use Rattle.pass_report.specs.Report.{verdicts_of, judged_rows, judged, report_lines, printed, report_from, report_of}
use Rattle.pass_report.specs.Into.{leaving, report_into}
use Rattle.pass_report.specs.Counted.{CountedFor, ReportedAs, wrong-sheet, not-read, no_output, wrong-rows, reported}
use Rattle.pass_report.specs.declared.Verdicts.{Verdicts}
use Rattle.pass_report.proofs.Judging.{rows-count}
use Rattle.pass_report.proofs.Reporting.{CountedRows, counted-run}
use Rattle.pass_report.proofs.Tally.{tallies-are}
use Rattle.refusals.specs.declared.Refusal.{Refusal}

-- ---- with enough cells

pub report-into : (netlist sheet : Bytes) (n : Lengths) (m : ℕ) → enough n ≡ true → report_into netlist sheet n m ≡ leaving (report_of netlist sheet) n m
unfolding report_into report_of
report-into netlist sheet n m e =
    ap (λ (b : Bool). leaving (report_from (if b then read_text netlist else Err refusal.TooFewCells) (sheet_of sheet)) n m) e

-- ---- the ways

module _ (netlist sheet : Bytes) where
  -- the rows of a network with an output
  module _ {s : Sheet} {net : Net} (is : sheet_of sheet ≡ some s) (reads : read_text netlist ≡ Ok net) (first : Signal) (others : List Signal) (outputs : net.outputs ≡ first ∷ others) where
    -- the one run that the clocks allow
    one-run : {rows : List (List Bool)} (other : List (List Bool)) → NetRuns net rows other ↔ (other ≡ run net rows)
    one-run {rows} other =
        let m = read-means netlist net reads rows other in
        ((λ r. m.1.0 (m.0.1 r)), (λ e. m.0.0 (m.1.1 e)))

    counted-for : (rows : List (List Bool)) → rows_of net.inputs (command_text s) ≡ some rows → CountedFor netlist s (verdicts_of (run net rows))
    counted-for rows has =
        let outs : List (List Bool) = run net rows in
        let some-output : 0 < length net.outputs = omega (arith, ap length outputs) in
        let c : CountedRows (Ok net) (command_text s) (verdicts_of outs) =
        record { net = net; reads = refl; some-output = some-output; rows = rows; has = has; verdicts = refl } in
        let all-rows : length rows ≡ length s.rows =
        sym (rows-count net.inputs (command_text s) has) ∙ ap length (command-lines s (sheet-text sheet is).1) in
        record {
          net = net;
          reads = reads;
          first = first;
          others = others;
          outputs = outputs;
          rows = rows;
          has = has;
          run = all-rows;
          tallies = tallies-are net first others outputs rows outs one-run;
          adds = counted-run c ∙ all-rows;
          outs = outs;
          means = λ other. (read-means netlist net reads rows other).1;
          counts = refl;
        }

    rows_as : (o : Option (List (List Bool))) → rows_of net.inputs (command_text s) ≡ o → ReportedAs netlist sheet (printed s.part (length s.rows) (judged_rows net o))
    rows_as none has = wrong-rows is reads outputs has
    rows_as (some rows) has = reported is (counted-for rows has)

  outputs-as : {s : Sheet} {net : Net} → sheet_of sheet ≡ some s → read_text netlist ≡ Ok net → (os : List Signal) → net.outputs ≡ os
      → ReportedAs netlist sheet (printed s.part (length s.rows) (judged (Ok net) (command_text s)))
  outputs-as is reads [] q = let e = ap (λ (os : List Signal). eqb (length os) 0) q in rw e (no_output is reads q)
  outputs-as {s} {net} is reads (first ∷ others) q =
      let e : eqb (length net.outputs) 0 ≡ false = ne_eqb (length net.outputs) 0 (λ z. omega (arith, z, ap length q)) in
      rw e (rows_as is reads first others q (rows_of net.inputs (command_text s)) refl)

  result_as : {s : Sheet} → sheet_of sheet ≡ some s → (r : Result Net Refusal) → read_text netlist ≡ r → ReportedAs netlist sheet (printed s.part (length s.rows) (judged r (command_text s)))
  result_as is (Err k) q = not-read is q (reading-refuses netlist k q)
  result_as is (Ok net) q = outputs-as is q net.outputs refl

  sheet-as : (o : Option Sheet) → sheet_of sheet ≡ o → ReportedAs netlist sheet (report_from (read_text netlist) o)
  sheet-as none q = wrong-sheet q
  sheet-as (some s) q = result_as q (read_text netlist) refl

  pub report-as : ReportedAs netlist sheet (report_of netlist sheet)
  unfolding report_of
  report-as = sheet-as (sheet_of sheet) refl

-- ---- how much is read of a file

-- a text over the limit is refused by 2
too_long : (t : Bytes) → 32768 < length t → read_text t ≡ Err refusal.TextTooLong
unfolding read_text read_fault refuse_if ◌or_else◌ answer
too_long t h = rw (lt-ltb 32768 (length t) h)

-- a sheet over the limit is none
too_large_lem : (t : Bytes) → 40960 < length t → sheet_of t ≡ none
unfolding sheet_of is_whole
too_large_lem t h = rw (lt-leb (length t) 40960 h)

-- the first so many elements, or fewer, are all
front : (k : ℕ) (t : Bytes) {X : Type 0} (f : Bytes → X) (x : X) → ((u : Bytes) → k ≤ length u → f u ≡ x) → f (take k t) ≡ f t
front k t f x g =
    by_order (length t) k (λ h. ap f (take_all k t h))
    (λ h. let long : length (take k t) ≡ k = length-take-le k t (omega arith) in g (take k t) (omega arith) ∙ sym (g t (omega arith)))

pub report-front : (netlist sheet : Bytes) → report_of (take 32769 netlist) (take 40961 sheet) ≡ report_of netlist sheet
unfolding report_of
report-front netlist sheet =
    λ i. report_from (front 32769 netlist read_text (Err refusal.TextTooLong) (λ u h. too_long u (omega (arith, h))) i) (front 40961 sheet sheet_of none (λ u h. too_large_lem u (omega (arith, h))) i)

-- ---- how long a report is

-- a key, a number up to 128 and LF
count-short : (key : Bytes) (n : ℕ) → n ≤ 128 → length (count_line key n) ≤ length key + 4
count-short key n h = omega (arith, decimal-short n h, length-append (key ++ decimal n []) (10 ∷ []), length-append key (decimal n []))

lines-short : (sheet : Bytes) {s : Sheet} (v : Verdicts) → sheet_of sheet ≡ some s → v.accepted + v.rejected ≡ length s.rows → length (report_lines s.part (length s.rows) v) ≤ 61
lines-short sheet {s} v e adds =
    let is = (sheet-text sheet e).1 in
    let few = rows_few s is in
    let part : Bytes = key_line (bytes "part=") s.part in
    let commands : Bytes = count_line (bytes "commands=") (length s.rows) in
    let accepted : Bytes = count_line (bytes "accepted=") v.accepted in
    let rejected : Bytes = count_line (bytes "rejected=") v.rejected in
    omega (
      arith,
      part-few s.part is.part,
      length-append (bytes "part=" ++ s.part) (10 ∷ []),
      length-append (bytes "part=") s.part,
      count-short (bytes "commands=") (length s.rows) few,
      count-short (bytes "accepted=") v.accepted (omega (arith, adds, few)),
      count-short (bytes "rejected=") v.rejected (omega (arith, adds, few)),
      length-append (part ++ commands ++ accepted) rejected,
      length-append (part ++ commands) accepted,
      length-append part commands,
    )

as_short : {netlist sheet t : Bytes} → ReportedAs netlist sheet t → length t ≤ 61
as_short (wrong-sheet e) = omega arith
as_short (not-read {k = k} e q i) = omega (arith, count-short (bytes "Err=") (number_of k) (⊎_elim (λ h. omega arith) (λ h. omega arith) i))
as_short (no_output e q o) = omega arith
as_short (wrong-rows e q o r) = omega arith
as_short {sheet = sheet} (reported {v = v} e c) = lines-short sheet v e c.adds

pub report-short : (netlist sheet : Bytes) → length (report_of netlist sheet) ≤ 61
report-short netlist sheet = as_short (report-as netlist sheet)
