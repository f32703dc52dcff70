use Rattle.run_rows.specs.Between.Steps.{Started}
use Rattle.run_rows.proofs.start_bits.Given as goal

abbrev pub invariant-loop-g : goal.invariant-loop-g
invariant-loop-g l = Started l.gates l.g l.bits
