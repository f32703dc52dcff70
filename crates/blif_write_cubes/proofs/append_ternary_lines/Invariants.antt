use Rattle.gates.specs.Between.Forms.{ternary_form}
use Rattle.blif_writing.specs.WrittenModel.{lines_of}
use Rattle.blif_write_cubes.proofs.FormLines.{Rows}
use Rattle.blif_write_cubes.proofs.append_ternary_lines.Given as goal

abbrev pub invariant-loop-i : goal.invariant-loop-i
invariant-loop-i l = Rows (lines_of (ternary_form l.t) 3) l.initial.out l.at l.out l.end l.i
