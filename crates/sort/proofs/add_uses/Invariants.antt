use Rattle.sort.proofs.Naming.{Counting}
use Rattle.sort.proofs.add_uses.Given as goal

abbrev pub invariant-loop-pin : goal.invariant-loop-pin
invariant-loop-pin l = Counting l.pins l.initial.counts l.counts l.pin-index
