use Rattle.sort.proofs.Moving.{Moving}
use Rattle.sort.proofs.move_gates.Given as goal

abbrev pub invariant-loop-i : goal.invariant-loop-i
invariant-loop-i l = Moving l.gates l.pins l.table l.order l.initial.new_gates l.initial.new_pins l.new_gates l.new_pins l.at l.i
