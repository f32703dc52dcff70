-- What is found of the commands on a network, from what a run answers. Assumes nothing.
use Rattle.std.specs.Prelude.{Result, Ok, Err}
use mathlib.Core.Path.{◌≡◌, refl, sym, ap, ◌∙◌}
use mathlib.Core.Bool.{Bool, true, false}
use mathlib.Core.List.{List, [], ◌∷◌, map, append_assoc}
use mathlib.Core.Option.{Option, none, some}
use Prim.Native.Nat.{ℕ, suc, ◌+◌, ◌≤◌, ◌<◌}
use native.Mathlib.Omega.{arith}
use native.Mathlib.Nat.{mul-le-mul}
use lib.Dec.{eqb}
use lib.ListN.{length, take, length-map, length-replicate}
use lib.Seq.{length-take-le}
use borrow.Author.Tests.{eq-eqb, ne_eqb}
use Rattle.lists.specs.Lists.{Bytes, zeros, overwrite}
use Rattle.lists.proofs.Over.{length-overwrite}
use Rattle.refusals.specs.declared.Refusal.{Refusal}
use Rattle.refusals.specs.declared.Refusal.TheVariants as refusal
use Rattle.signal.specs.Cell.{sig_of}
use Rattle.network.specs.Net.{Net}
use Rattle.network.specs.Clock.{start_bits}
use Rattle.network.specs.Settle.{run}
use Rattle.network.specs.Cells.{Lent, net_of, is_network}
use Rattle.network.proofs.Lent.{network-sizes}
use Rattle.blif_text.specs.Lines.{split}
use Rattle.blif_text.proofs.Parts.{Without, split-end}
use Rattle.run_rows.specs.Rows.{digit, rows_text, rows_of}
use Rattle.run_rows.specs.Into.{RunOutcome, run_outcome, run_on, run_into}
use Rattle.run_rows.specs.Ran.{RunsFor}
use Rattle.run_rows.proofs.RowsOf.{wide-run}
use Rattle.run_rows.proofs.Outcomes.{runs_on}
use Rattle.run_rows.proofs.Summary.{rows-of-text, runs-answer, length-answered, rows_take, ran-text}
use Rattle.pass_report.specs.Report.{verdicts_of, judged_rows, judged}
use Rattle.pass_report.specs.declared.Verdicts.{Verdicts}
use Rattle.pass_report.specs.Between.Rows.{OutputRows, RunReady}

-- ---- the lines of rows

digits-no-lf : (row : List Bool) → Without (eqb 10) (map digit row)
digits-no-lf [] = refl
digits-no-lf (true ∷ row) = digits-no-lf row
digits-no-lf (false ∷ row) = digits-no-lf row

-- rows are the lines of their text
pub rows-lines : (rs : List (List Bool)) → split (eqb 10) (rows_text rs) ≡ map (map digit) rs
unfolding split
rows-lines [] = refl
rows-lines (row ∷ rs) =
    ap (split (eqb 10)) (append_assoc (map digit row) (10 ∷ []) (rows_text rs))
    ∙ split-end (eqb 10) (map digit row) 10 (rows_text rs) (digits-no-lf row) refl
    ∙ ap (λ (ls : List Bytes). map digit row ∷ ls) (rows-lines rs)

-- so there are as many rows as lines
pub rows-count : (n : ℕ) (t : Bytes) {rs : List (List Bool)} → rows_of n t ≡ some rs → length (split (eqb 10) t) ≡ length rs
rows-count n t {rs} e =
    ap (λ (s : Bytes). length (split (eqb 10) s)) ((rows-of-text n t rs).0 e).0 ∙ ap length (rows-lines rs) ∙ length-map rs (map digit)

-- ---- a network in cells

module _ (l : Lent) (is : is_network l ≡ true) where
  -- as many outputs as the counts say, 256 at most
  pub outputs-are : length (net_of l).outputs ≡ l.counts.outputs
  unfolding net_of
  outputs-are =
      length-map (take l.counts.outputs l.outs_lent) sig_of ∙ length-take-le l.counts.outputs l.outs_lent (network-sizes l is).outs-lent

  pub few-outputs : l.counts.outputs ≤ 256
  few-outputs = (network-sizes l is).few.outputs

-- ---- what a run answers

-- the room for the output rows: 128 rows of 256 outputs
abbrev pub room : ℕ
room = 32896

module _ (l : Lent) (t : Bytes) (ready : RunReady l t) where
  abbrev net : Net
  net = net_of l

  -- the rows that the commands are have room
  fits : {rs : List (List Bool)} → rows_of net.inputs t ≡ some rs → length (rows_text (run net rs)) ≤ room
  fits {rs} e =
      let many : length rs ≤ 128 = omega (arith, ready.commands.few, rows-count net.inputs t e) in
      let wide : suc (length net.outputs) ≤ 257 = omega (arith, outputs-are l ready.network, few-outputs l ready.network) in
      omega (arith, rows_take net rs, mul-le-mul many wide)

  runs-for : {rs : List (List Bool)} → rows_of net.inputs t ≡ some rs → RunsFor l t room
  runs-for {rs} e = record { network = ready.network; sorted = ready.sorted; plain = ready.plain; rows = rs; has = e; room = fits e }

  module _ {a : Result ℕ Refusal} {out : Bytes} (h : run_outcome a out ≡ run_into l t room) where
    answer-is : a ≡ (run_into l t room).answer
    answer-is = ap (λ (o : RunOutcome). o.answer) h

    -- a refusal: the commands are no such rows
    pub judged-refused : {r : Refusal} → a ≡ Err r → Err r ≡ judged_rows net (rows_of net.inputs t)
    unfolding runs-for
    judged-refused {r} e = by (rows_of net.inputs t) refl
      where
        by : (o : Option (List (List Bool))) → rows_of net.inputs t ≡ o → Err r ≡ judged_rows net o
        by none q =
            let is : Err r ≡ Err refusal.WrongRows =
            sym e ∙ answer-is ∙ ap (λ (o : RunOutcome). o.answer) (sym (runs_on l t room ready.network ready.sorted ready.plain))
            ∙ ap (λ (o : Option (List (List Bool))). (run_on net o room).answer) q in
            let same : r ≡ refusal.WrongRows = cc in
            ap (λ (k : Refusal). Err k) same
        by (some rs) q =
            let is : Err r ≡ Ok (length (rows_text (run net rs))) = sym e ∙ answer-is ∙ ap (λ (o : RunOutcome). o.answer) (runs-answer l t room (runs-for q)) in
            absurd (let z : ◌≡◌ {A = ℕ} 0 1 = cc in omega arith)

    -- a length: the output rows stand in front
    module _ {k : ℕ} (e : a ≡ Ok k) where
      for : RunsFor l t room
      for = length-answered l t room k (sym answer-is ∙ e)

      length-is : k ≡ length (rows_text (run net for.rows))
      length-is =
          let is : Ok k ≡ Ok (length (rows_text (run net for.rows))) = sym e ∙ answer-is ∙ ap (λ (o : RunOutcome). o.answer) (runs-answer l t room for) in
          cc

      out-is : out ≡ overwrite (rows_text (run net for.rows)) (zeros room)
      out-is = ap (λ (o : RunOutcome). o.out) (h ∙ runs-answer l t room for)

      pub length-inside : k ≤ length out
      length-inside = omega (arith, length-is, for.room, ap length out-is, length-overwrite (rows_text (run net for.rows)) (zeros room), length-replicate {A = ℕ} room 0)

      rows-laid : 0 < l.counts.outputs → OutputRows (run net for.rows) (l.counts.outputs + 1) (take k out)
      rows-laid some-output = record {
        text = ran-text l t room for length-is (ap (λ (o : RunOutcome). o.out) h);
        outputs = length net.outputs;
        some-output = omega (arith, outputs-are l ready.network);
        wide = wide-run net (start_bits net) for.rows;
        width_is = omega (arith, outputs-are l ready.network);
      }

      pub output-rows : 0 < l.counts.outputs → (outs : List (List Bool)) × OutputRows outs (l.counts.outputs + 1) (take k out)
      output-rows some-output = (run net for.rows, rows-laid some-output)

      pub judged-counted : 0 < l.counts.outputs → {v : Verdicts}
          → ((outs : List (List Bool)) → OutputRows outs (l.counts.outputs + 1) (take k out) → v ≡ verdicts_of outs)
          → Ok v ≡ judged_rows net (rows_of net.inputs t)
      judged-counted some-output f =
          ap (λ (v : Verdicts). Ok v) (f (run net for.rows) (rows-laid some-output)) ∙ sym (ap (judged_rows net) for.has)

-- ---- 33

module _ (l : Lent) (t : Bytes) (is : is_network l ≡ true) where
  pub no_output : l.counts.outputs ≡ 0 → Err refusal.NoOutput ≡ judged (Ok (net_of l)) t
  no_output e = rw (eq-eqb (length (net_of l).outputs) 0 (outputs-are l is ∙ e))

  pub some-output : (l.counts.outputs ≡ 0 → ⊥) → judged_rows (net_of l) (rows_of (net_of l).inputs t) ≡ judged (Ok (net_of l)) t
  some-output f = rw (ne_eqb (length (net_of l).outputs) 0 (λ e. f (sym (outputs-are l is) ∙ e)))
