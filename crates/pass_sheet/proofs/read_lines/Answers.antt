-- `read_lines` counts the lines behind the first two, and tests these. Assumes nothing.
use mathlib.Core.Path.{sym, ◌∙◌}
use native.Mathlib.Omega.{arith}
use Rattle.pass_sheet.proofs.Found.{wrong-part, wrong-rows, long-enough, right-lines}
use Rattle.pass_sheet.proofs.read_lines.Goals as goal
use Rattle.pass_sheet.proofs.read_lines.Goals.{else-is_part_line-via-then-is_part_line+else-is_rows_line, else-is_part_line-via-else-is_part_line}

pub overflow_sub-result : goal.overflow_sub-result
overflow_sub-result c = let e = long-enough c.requires (sym c.is_part_line.ensures ∙ c.if-is_part_line.true) in omega (arith, e)

pub returns-then-is_rows_line : goal.returns-then-is_rows_line
returns-then-is_rows_line c = right-lines c.requires c.count_lines-rows.ensures (sym c.is_part_line.ensures ∙ c.if-is_part_line.true)
    (sym c.is_rows_line.ensures ∙ c.if-is_rows_line.true)

pub returns-else-is_part_line : goal.returns-else-is_part_line
returns-else-is_part_line c = elim c.else-is_part_line.branch [
  | else-is_part_line-via-then-is_part_line+else-is_rows_line w ↦ wrong-rows c.requires c.count_lines-rows.ensures (sym c.is_part_line.ensures ∙ w.if-is_part_line.true) (sym w.is_rows_line.ensures ∙ w.if-is_rows_line.false)
  | else-is_part_line-via-else-is_part_line w ↦ wrong-part c.requires (sym c.is_part_line.ensures ∙ w.if-is_part_line.false)
]
