-- The report, from where the parts of the sheet stand and what is found of its commands. Assumes nothing.
use Rattle.std.specs.Prelude.{Result, Ok, Err}
use mathlib.Core.Path.{◌≡◌, refl, sym, ap, ◌∙◌}
use mathlib.Core.Bool.{Bool, true, false}
use mathlib.Core.List.Memᴰ
use mathlib.Core.List.{List, [], ◌∷◌, ◌++◌, append_assoc}
use mathlib.Core.Option.{Option, none, some}
use Prim.Native.Nat.{ℕ, ◌+◌, ◌-◌, ◌≤◌, ◌<◌, min}
use native.Mathlib.Omega.{arith}
use lib.Dec.{eqb}
use lib.ListN.{length, take, drop, length-append, length-replicate}
use lib.Seq.{take_at, drop_at}
use borrow.Author.Tests.{eqb-false}
use Rattle.lists.specs.Lists.{Bytes, bytes, zeros, overwrite}
use Rattle.lists.proofs.Tests.{by-test}
use Rattle.lists.proofs.OverAt.{part-is}
use Rattle.refusals.specs.declared.Refusal.{Refusal}
use Rattle.refusals.specs.declared.Refusal.TheVariants as refusal
use Rattle.network.specs.Net.{Net}
use Rattle.network.specs.Clock.{start_bits}
use Rattle.network.specs.Settle.{run}
use Rattle.blif_text.specs.Lines.{split}
use Rattle.blif_read.specs.Into.{Lengths, answered}
use Rattle.blif_write_names.specs.Between.Text.{Wrote}
use Rattle.run_rows.specs.Rows.{rows_of, Wide}
use Rattle.run_rows.proofs.RowsOf.{length_run, wide-run}
use Rattle.printed_lines.specs.Lines.{key_line, count_line, refused_line}
use Rattle.pass_sheet.specs.Sheet.{Sheet, sheet_of, command_text, sheet_text, IsSheet}
use Rattle.pass_sheet.specs.Between.Places.{places_of, sheet_answer}
use Rattle.pass_sheet.specs.declared.SheetPlaces.{SheetPlaces}
use Rattle.pass_sheet.proofs.SheetTexts.{sheet-text, command-lines, rows_few}
use Rattle.pass_report.specs.Report.{verdicts_of, judged_rows, judged, printed, report_from}
use Rattle.pass_report.specs.Into.{report_outcome, report_into}
use Rattle.pass_report.specs.declared.Verdicts.{Verdicts}
use Rattle.pass_report.specs.Between.Rows.{FewRows, FewJudged}
use Rattle.pass_report.proofs.CountRows.{accepted_of, rejected_of}
use Rattle.pass_report.proofs.Judging.{rows-count}

-- ---- the counts

-- a row with an output is accepted or rejected
pub verdicts-all : (n : ℕ) (outs : List (List Bool)) → Wide n outs → 0 < n → accepted_of outs + rejected_of outs ≡ length outs
verdicts-all n [] w h = omega arith
verdicts-all n ([] ∷ outs) w h = absurd (omega (arith, w [] (Memᴰ.head refl)))
verdicts-all n ((true ∷ bits) ∷ outs) w h = omega (arith, verdicts-all n outs (λ r m. w r (Memᴰ.tail m)) h)
verdicts-all n ((false ∷ bits) ∷ outs) w h = omega (arith, verdicts-all n outs (λ r m. w r (Memᴰ.tail m)) h)

-- counts are found where a network with an output was read and the commands are rows of its inputs
pub record CountedRows (result : Result Net Refusal) (t : Bytes) (v : Verdicts) : Type 0 where
  pub net : Net
  pub reads : result ≡ Ok net
  pub some-output : 0 < length net.outputs
  pub rows : List (List Bool)
  pub has : rows_of net.inputs t ≡ some rows
  pub verdicts : v ≡ verdicts_of (run net rows)

rows-counted : (net : Net) (o : Option (List (List Bool))) {v : Verdicts} → judged_rows net o ≡ Ok v → (rows : List (List Bool)) × (o ≡ some rows) × (v ≡ verdicts_of (run net rows))
rows-counted net none e = absurd (let z : ◌≡◌ {A = ℕ} 0 1 = cc in omega arith)
rows-counted net (some rows) {v} e = let same : verdicts_of (run net rows) ≡ v = cc in (rows, refl, sym same)

pub counted-rows : (result : Result Net Refusal) (t : Bytes) {v : Verdicts} → judged result t ≡ Ok v → CountedRows result t v
counted-rows (Err r) t e = absurd (let z : ◌≡◌ {A = ℕ} 0 1 = cc in omega arith)
counted-rows (Ok net) t {v} e =
    by-test (eqb (length net.outputs) 0)
    (λ h. absurd (let w : Err refusal.NoOutput ≡ Ok v = rw h at e in let z : ◌≡◌ {A = ℕ} 0 1 = cc in omega arith))
    (λ h.
    let x = rows-counted net (rows_of net.inputs t) (rw h at e) in
    let f : length net.outputs ≡ 0 → ⊥ = eqb-false (length net.outputs) 0 h in
    record { net = net; reads = refl; some-output = omega arith; rows = x.0; has = x.1; verdicts = x.2 })

-- accepted and rejected rows are all rows of the sheet, and all that are run
module _ {result : Result Net Refusal} {t : Bytes} {v : Verdicts} (c : CountedRows result t v) where
  pub counted-run : v.accepted + v.rejected ≡ length c.rows
  counted-run =
      ap (λ (x : Verdicts). x.accepted + x.rejected) c.verdicts
      ∙ verdicts-all (length c.net.outputs) (run c.net c.rows) (wide-run c.net (start_bits c.net) c.rows) c.some-output
      ∙ length_run c.net (start_bits c.net) c.rows

  pub counted-lines : v.accepted + v.rejected ≡ length (split (eqb 10) t)
  counted-lines = counted-run ∙ sym (rows-count c.net.inputs t c.has)

-- ---- the places of the sheet's parts

-- places are answered of a sheet
sheet-found : (t : Bytes) (o : Option Sheet) {p : SheetPlaces} → sheet_answer t o ≡ Ok p → (s : Sheet) × (o ≡ some s) × (p ≡ places_of t s)
sheet-found t none e = absurd (let z : ◌≡◌ {A = ℕ} 0 1 = cc in omega arith)
sheet-found t (some s) {p} e = let same : places_of t s ≡ p = cc in (s, refl, sym same)

-- and a refusal where there is none, which is 32
sheet-none : (t : Bytes) (o : Option Sheet) {r : Refusal} (result : Result Net Refusal) → sheet_answer t o ≡ Err r → refused_line r ≡ report_from result o
sheet-none t none {r} result e = let same : refusal.WrongSheet ≡ r = cc in ap refused_line (sym same)
sheet-none t (some s) result e = absurd (let z : ◌≡◌ {A = ℕ} 0 1 = cc in omega arith)

pub refused-report : (t : Bytes) {a : Result SheetPlaces Refusal} {r : Refusal} (result : Result Net Refusal) → a ≡ sheet_answer t (sheet_of t) → a ≡ Err r
    → refused_line r ≡ report_from result (sheet_of t)
refused-report t result h e = sheet-none t (sheet_of t) result (sym h ∙ e)

module _ (t : Bytes) {a : Result SheetPlaces Refusal} {p : SheetPlaces} (h : a ≡ sheet_answer t (sheet_of t)) (e : a ≡ Ok p) where
  found : (s : Sheet) × (sheet_of t ≡ some s) × (p ≡ places_of t s)
  found = sheet-found t (sheet_of t) (sym h ∙ e)

  abbrev s : Sheet
  s = found.0

  text : t ≡ sheet_text s
  text = (sheet-text t found.1).0

  is : IsSheet s
  is = (sheet-text t found.1).1

  abbrev head : Bytes
  head = key_line (bytes "part=") s.part ++ count_line (bytes "rows=") (length s.rows)

  long : length t ≡ length head + length (command_text s)
  long = ap length text ∙ length-append head (command_text s)

  commands-at : p.commands ≡ length head
  commands-at = omega (arith, ap (λ (x : SheetPlaces). x.commands) found.2, long)

  -- the commands are what stands from their place on
  commands-are : take (length t - p.commands) (drop p.commands t) ≡ command_text s
  commands-are = part-is p.commands t ∙ (λ i. drop (commands-at i) (text i)) ∙ drop_at head (command_text s) (length head) refl

  -- at most 128 of them
  few : length s.rows ≤ 128
  few = rows_few s is

  pub commands-few : FewRows (take (length t - p.commands) (drop p.commands t))
  commands-few = record {
    few =
        let lines : length (split (eqb 10) (take (length t - p.commands) (drop p.commands t))) ≡ length s.rows =
        ap (λ (b : Bytes). length (split (eqb 10) b)) commands-are ∙ ap length (command-lines s is) in
        omega (arith, lines, few);
  }

  -- the part is what stands behind its key
  behind-key : drop 5 t ≡ s.part ++ (10 ∷ (count_line (bytes "rows=") (length s.rows) ++ command_text s))
  behind-key =
      let rows : Bytes = count_line (bytes "rows=") (length s.rows) in
      ap (drop 5) text ∙ append_assoc (s.part ++ 10 ∷ []) rows (command_text s) ∙ append_assoc s.part (10 ∷ []) (rows ++ command_text s)

  part-long : p.part ≡ length s.part
  part-long = ap (λ (x : SheetPlaces). x.part) found.2

  pub part-inside : 5 + p.part ≤ length t
  part-inside = omega (arith, part-long, long, length-append (key_line (bytes "part=") s.part) (count_line (bytes "rows=") (length s.rows)), length-append (bytes "part=" ++ s.part) (10 ∷ []), length-append (bytes "part=") s.part)

  part-is-part : take (5 + p.part - 5) (drop 5 t) ≡ s.part
  part-is-part =
      let width : length s.part ≡ 5 + p.part - 5 = omega (arith, part-long) in
      ap (take (5 + p.part - 5)) behind-key ∙ take_at s.part (10 ∷ (count_line (bytes "rows=") (length s.rows) ++ command_text s)) (5 + p.part - 5) width

  -- ---- what is printed

  module _ (result : Result Net Refusal) {j : Result Verdicts Refusal} (q : j ≡ judged result (take (length t - p.commands) (drop p.commands t))) where
    judged-is : j ≡ judged result (command_text s)
    judged-is = q ∙ ap (judged result) commands-are

    rows_are : p.rows ≡ length s.rows
    rows_are = ap (λ (x : SheetPlaces). x.rows) found.2

    pub few-judged : FewJudged p.rows j
    few-judged = record {
      counted = λ v e.
          let c = counted-rows result (command_text s) (sym judged-is ∙ e) in
          let lines : v.accepted + v.rejected ≡ length s.rows = counted-lines c ∙ ap length (command-lines s is) in
          record { rows = omega (arith, rows_are, few); accepted = omega (arith, lines, few); rejected = omega (arith, lines, few) };
    }

    pub printed-is : printed (take (5 + p.part - 5) (drop 5 t)) p.rows j ≡ report_from result (sheet_of t)
    printed-is = (λ i. printed (part-is-part i) (rows_are i) (judged-is i)) ∙ sym (ap (report_from result) found.1)

-- ---- what is left in the slices

pub report-left : (netlist text : Bytes) (n : Lengths) (m : ℕ) {z out : Bytes} {r : ℕ} {gs ps os wgs wps : List ℕ}
    → Wrote (report_from (answered netlist n) (sheet_of text)) z out r → z ≡ zeros m → gs ≡ zeros n.gates → ps ≡ zeros n.pins → os ≡ zeros n.outputs
    → wgs ≡ zeros n.work_gates → wps ≡ zeros n.work_pins → report_outcome r out gs ps os wgs wps ≡ report_into netlist text n m
unfolding report_into
report-left netlist text n m {z} w e g p o wg wp =
    let t : Bytes = report_from (answered netlist n) (sheet_of text) in
    let length-is : length z ≡ m = ap length e ∙ length-replicate {A = ℕ} m 0 in
    (λ i. report_outcome (w.len i) (w.out i) (g i) (p i) (o i) (wg i) (wp i))
    ∙ (λ i. report_outcome (min (length t) (length-is i + 1)) (overwrite t (e i)) (zeros n.gates) (zeros n.pins) (zeros n.outputs) (zeros n.work_gates) (zeros n.work_pins))
