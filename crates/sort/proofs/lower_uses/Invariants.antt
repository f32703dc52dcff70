use Rattle.sort.proofs.Stack.{Lowering}
use Rattle.sort.proofs.lower_uses.Given as goal

abbrev pub invariant-loop-pin : goal.invariant-loop-pin
invariant-loop-pin l = Lowering l.pins l.initial.counts l.initial.stack l.top l.counts l.stack l.new_top l.pin-index
