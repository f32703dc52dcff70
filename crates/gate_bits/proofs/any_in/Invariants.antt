use Rattle.lists.specs.Lists.{any}
use Rattle.signal.specs.Signal.{invert_if}
use Rattle.gate_bits.proofs.PinBits.{MadeOf}
use Rattle.gate_bits.proofs.any_in.Given as goal

abbrev pub invariant-loop-pin : goal.invariant-loop-pin
invariant-loop-pin l = MadeOf (any (invert_if l.inverted)) l.bits l.run l.found l.pin-index
