-- `run_fitting` looks whether the rows fit, runs them, and clears what is behind the output rows. Assumes nothing.
use mathlib.Core.Path.{◌≡◌, refl, sym, ap, ◌∙◌}
use mathlib.Core.Bool.{true, ◌&&◌}
use mathlib.Core.List.{List, [], ◌++◌}
use Prim.Native.Nat.{ℕ, suc, ◌+◌, ◌*◌, ◌/◌, ◌%◌, ◌≤◌}
use Rattle.std.specs.Prelude.{eqb, leb}
use native.Mathlib.Omega.{arith}
use native.Mathlib.Numerals.{add-one}
use lib.ListN.{length, take, drop, length-map, length-append, length-drop}
use lib.Seq.{length-take-le}
use Rattle.lists.specs.Lists.{Bytes}
use Rattle.signal.specs.Cell.{sig_of}
use Rattle.network.specs.Net.{Net}
use Rattle.network.specs.Cells.{cell_net}
use Rattle.run_rows.specs.Between.Asks.{WholeRows}
use Rattle.run_rows.proofs.Outcomes.{refused-is, not-fitting, rows_whole, lines_fit, ran-all}
use Rattle.run_rows.proofs.run_fitting.Goals as goal

-- the network of the outputs in use
abbrev net : (inputs gates used : ℕ) (cells ps outs : List ℕ) → Net
net inputs gates used cells ps outs = cell_net inputs cells ps gates (take used outs)

row_is : (inputs gates used : ℕ) (cells ps outs : List ℕ) → inputs + 1 ≡ suc (net inputs gates used cells ps outs).inputs
row_is inputs gates used cells ps outs = omega arith

line-is : (inputs gates used : ℕ) (cells ps outs : List ℕ) → used ≤ length outs → used + 1 ≡ suc (length (net inputs gates used cells ps outs).outputs)
line-is inputs gates used cells ps outs h = omega (arith, length-map (take used outs) sig_of, length-take-le used outs h)

-- where the rows fit: they are whole, and their outputs fit
module _ (inputs used : ℕ) (outs : List ℕ) (rows out : Bytes)
    (fits : (eqb (length rows % (inputs + 1)) 0 && leb (length rows / (inputs + 1)) (length out / (used + 1))) ≡ true) (h : used ≤ length outs) where
  -- where the output rows end
  abbrev end : ℕ
  end = length rows / (inputs + 1) * (used + 1)

  whole : length rows ≡ length rows / (inputs + 1) * (inputs + 1)
  whole = rows_whole (net inputs 0 used [] [] outs) rows (length out) _ _ (row_is inputs 0 used [] [] outs) (line-is inputs 0 used [] [] outs h) fits

  fit : end ≤ length out
  fit = lines_fit (net inputs 0 used [] [] outs) rows (length out) _ _ (row_is inputs 0 used [] [] outs) (line-is inputs 0 used [] [] outs h) fits

  -- what running asks of the rows and of the front of the output
  asks : WholeRows inputs (take used outs) rows (take end out)
  asks =
      let count = length rows / (inputs + 1) in
      let line : suc (length (take used outs)) ≡ used + 1 = omega (arith, length-take-le used outs h) in
      record {
        count = count;
        whole = whole ∙ ap (λ (k : ℕ). count * k) (add-one inputs);
        room = length-take-le _ _ fit ∙ ap (λ (k : ℕ). count * k) (sym line);
      }

  -- the output is as long as before
  as_long : (q : Bytes) → length q ≡ length (take end out) → length (q ++ drop end out) ≡ length out
  as_long q l = omega (arith, l, length-take-le end out fit, length-append q (drop end out), length-drop end out, fit)

  -- and has a part behind the output rows
  behind : (q : Bytes) → length q ≡ length (take end out) → end ≤ length (q ++ drop end out)
  behind q l = omega (arith, fit, as_long q l)

pub returns-then-not-rows_fit : goal.returns-then-not-rows_fit
returns-then-not-rows_fit c =
    let a = c.args in
    refused-is c.refuse.ensures
    ∙ not-fitting (net a.counts.inputs a.counts.gates a.counts.outputs a.gates.now a.pins.now a.outputs.now) a.rows.now _ _ _
    (row_is a.counts.inputs a.counts.gates a.counts.outputs a.gates.now a.pins.now a.outputs.now)
    (line-is a.counts.inputs a.counts.gates a.counts.outputs a.gates.now a.pins.now a.outputs.now c.requires.outputs_in_bounds)
    (sym c.rows_fit.ensures ∙ c.if-not-rows_fit.true)

pub run_sorted-requires : goal.run_sorted-requires
run_sorted-requires c =
    let a = c.args in
    record {
      runnable = c.requires.runnable;
      whole_rows = asks a.counts.inputs a.counts.outputs a.outputs.now a.rows.now a.out.now (sym c.rows_fit.ensures ∙ c.if-not-rows_fit.false) c.requires.outputs_in_bounds;
    }

pub returns : goal.returns
returns c =
    let a = c.args in
    let f = fit a.counts.inputs a.counts.outputs a.outputs.now a.rows.now a.out.now (sym c.rows_fit.ensures ∙ c.if-not-rows_fit.false) c.requires.outputs_in_bounds in
    ran-all (net a.counts.inputs a.counts.gates a.counts.outputs a.gates.now a.pins.now a.outputs.now) a.rows.now (length a.out.now) _ _
    (row_is a.counts.inputs a.counts.gates a.counts.outputs a.gates.now a.pins.now a.outputs.now)
    (line-is a.counts.inputs a.counts.gates a.counts.outputs a.gates.now a.pins.now a.outputs.now c.requires.outputs_in_bounds)
    c.run_sorted.new.out a.out.now refl f (c.run_sorted.auto.out ∙ length-take-le _ _ f) c.if-not-run_sorted.false c.run_sorted.ensures c.fill_zero_bytes.ensures
