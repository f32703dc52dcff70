-- `place_gates` places one gate after the other. Assumes nothing.
use Rattle.std.proofs.lemmas.Result.{err_from_is_err_and}
use native.Mathlib.Omega.{arith}
use Rattle.blif_read_signals.proofs.Placing.{placing-stops, placing-next, placing-done}
use Rattle.blif_read_signals.proofs.place_gates.Goals as goal

pub returns-in_err-at : goal.returns-in_err-at
returns-in_err-at c = let p = err_from_is_err_and c.from_residual.result c.from_residual.ensures.1 in
    rw (p.1, p.2) (placing-stops c.loop-j.invariant (omega arith) c.place_block.ensures c.in_err-at.was)

pub loop-j-preserved : goal.loop-j-preserved
loop-j-preserved c = placing-next c.loop-j.invariant (omega arith) c.place_block.ensures c.in_ok-at.was

pub returns : goal.returns
returns c = placing-done c.loop-j.invariant (omega arith)
