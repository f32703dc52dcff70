use Rattle.signal.specs.Between.Cell.{remap_cell}
use Rattle.sort.proofs.Moving.{Renaming}
use Rattle.sort.proofs.move_outputs.Given as goal

abbrev pub invariant-loop-output : goal.invariant-loop-output
invariant-loop-output l = Renaming (remap_cell l.table) l.initial.output-items l.output-items l.output-index
