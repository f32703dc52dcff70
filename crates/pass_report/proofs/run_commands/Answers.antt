-- `run_commands` runs, and counts the output rows. Assumes nothing.
use Rattle.std.proofs.lemmas.Result.{err_from_is_err_and}
use mathlib.Core.Path.{sym, ap, ◌∙◌}
use Prim.Native.Nat.{ℕ}
use native.Mathlib.Omega.{arith}
use lib.ListN.{length-replicate}
use lib.Seq.{length-take-le}
use Rattle.network.specs.Cells.{lent}
use Rattle.run_rows.specs.Into.{run_into}
use Rattle.pass_report.proofs.Judging.{few-outputs, judged-refused, length-inside, output-rows, judged-counted}
use Rattle.pass_report.proofs.run_commands.Goals as goal

pub slice_bounds-out-end : goal.slice_bounds-out-end
slice_bounds-out-end c = length-inside _ _ c.requires.run_ready ((c.run_rows.ensures ∙ ap (λ (n : ℕ). run_into ((lent c.args.counts c.args.gates.now c.args.pins.now c.args.outputs.now)) c.args.commands.now n) (length-replicate {A = ℕ} 32896 0))) c.in_ok-n.was

pub slice_bounds-count_verdicts-end : goal.slice_bounds-count_verdicts-end
slice_bounds-count_verdicts-end c = sym (length-take-le _ c.run_rows.new.out ((length-inside _ _ c.requires.run_ready ((c.run_rows.ensures ∙ ap (λ (n : ℕ). run_into ((lent c.args.counts c.args.gates.now c.args.pins.now c.args.outputs.now)) c.args.commands.now n) (length-replicate {A = ℕ} 32896 0))) c.in_ok-n.was)))

pub overflow_add-counts : goal.overflow_add-counts
overflow_add-counts c = omega (arith, few-outputs ((lent c.args.counts c.args.gates.now c.args.pins.now c.args.outputs.now)) c.requires.run_ready.network)

pub count_verdicts-requires : goal.count_verdicts-requires
count_verdicts-requires c = output-rows _ _ c.requires.run_ready ((c.run_rows.ensures ∙ ap (λ (n : ℕ). run_into ((lent c.args.counts c.args.gates.now c.args.pins.now c.args.outputs.now)) c.args.commands.now n) (length-replicate {A = ℕ} 32896 0))) c.in_ok-n.was c.requires.outputs_nonzero

pub returns : goal.returns
returns c = judged-counted _ _ c.requires.run_ready ((c.run_rows.ensures ∙ ap (λ (n : ℕ). run_into ((lent c.args.counts c.args.gates.now c.args.pins.now c.args.outputs.now)) c.args.commands.now n) (length-replicate {A = ℕ} 32896 0))) c.in_ok-n.was c.requires.outputs_nonzero c.count_verdicts.ensures

pub returns-in_err-n : goal.returns-in_err-n
returns-in_err-n c = let p = err_from_is_err_and c.from_residual.result c.from_residual.ensures.1 in
    rw (p.1, p.2) (judged-refused _ _ c.requires.run_ready ((c.run_rows.ensures ∙ ap (λ (n : ℕ). run_into ((lent c.args.counts c.args.gates.now c.args.pins.now c.args.outputs.now)) c.args.commands.now n) (length-replicate {A = ℕ} 32896 0))) c.in_err-n.was)
