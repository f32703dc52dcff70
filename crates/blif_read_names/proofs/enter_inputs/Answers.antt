-- `enter_inputs` enters one name after the other. Assumes nothing.
use native.Mathlib.Omega.{arith}
use Rattle.blif_read_names.proofs.Entering.{entering-known, entering-next, entering-done}
use Rattle.blif_read_names.proofs.enter_inputs.Goals as goal

pub returns-then-not-enter_name : goal.returns-then-not-enter_name
returns-then-not-enter_name c = entering-known c.loop-j.invariant (omega arith) c.enter_name.ensures (c.if-not-enter_name.true)

pub loop-j-preserved : goal.loop-j-preserved
loop-j-preserved c = entering-next c.loop-j.invariant (omega arith) c.enter_name.ensures (c.if-not-enter_name.false) c.from_input-signal.ensures c.enter_name.auto.index

pub returns : goal.returns
returns c = entering-done c.loop-j.invariant (omega arith)
