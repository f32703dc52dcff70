use Rattle.gates.specs.Gate.{odd}
use Rattle.gate_bits.proofs.PinBits.{MadeOf}
use Rattle.gate_bits.proofs.odd_ones.Given as goal

abbrev pub invariant-loop-pin : goal.invariant-loop-pin
invariant-loop-pin l = MadeOf odd l.bits l.run l.found l.pin-index
