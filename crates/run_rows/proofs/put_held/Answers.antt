-- `put_held` puts one flip-flop's bit after the other. Assumes nothing.
use native.Mathlib.Omega.{arith}
use Rattle.run_rows.proofs.Stepping.{putting-next, putting-done}
use Rattle.run_rows.proofs.put_held.Goals as goal

pub loop-i-preserved : goal.loop-i-preserved
loop-i-preserved c = rw c.put_bit.ensures (putting-next c.requires c.loop-i.invariant c.loop-i-test.true (omega arith))

pub returns : goal.returns
returns c = putting-done c.requires c.loop-i-test.false c.loop-i.invariant
