-- `append_ternary_lines` writes one row after the other. Assumes nothing.
use Rattle.blif_write_cubes.proofs.FormLines.{rows}
use Rattle.blif_write_cubes.proofs.append_ternary_lines.Goals as goal

pub returns-then-at-out : goal.returns-then-at-out
returns-then-at-out c = search rows

pub loop-i-init : goal.loop-i-init
loop-i-init c = search rows

pub loop-i-preserved : goal.loop-i-preserved
loop-i-preserved c = search rows
