use Rattle.signal.specs.Between.Cell.{remap_cell}
use Rattle.sort.proofs.Moving.{Copying}
use Rattle.sort.proofs.move_pins.Given as goal

abbrev pub invariant-loop-i : goal.invariant-loop-i
invariant-loop-i l = Copying (remap_cell l.table) l.run l.initial.to l.to l.at l.i
