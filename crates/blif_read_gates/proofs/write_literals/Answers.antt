-- `write_literals` writes the literals of one column after the other. Assumes nothing.
use native.Mathlib.Omega.{arith}
use Rattle.blif_read_gates.proofs.LiteralLaws.{writing-next, writing-done}
use Rattle.blif_read_gates.proofs.write_literals.Goals as goal

pub loop-i-preserved : goal.loop-i-preserved
loop-i-preserved c = writing-next c.requires.0 c.requires.1 c.loop-i.invariant (omega arith) c.write_literal-m.ensures

pub returns : goal.returns
returns c = writing-done c.requires.0 c.requires.1 c.loop-i.invariant (omega arith)
