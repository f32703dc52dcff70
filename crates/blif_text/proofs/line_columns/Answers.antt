-- `line_columns` goes by the number of tokens. Assumes nothing.
use mathlib.Core.Path.{◌∙◌}
use Rattle.blif_text.proofs.ColumnLaws.{no-columns, first-columns}
use Rattle.blif_text.proofs.line_columns.Goals as goal

pub returns-then-row-lt2 : goal.returns-then-row-lt2
returns-then-row-lt2 c = let s = c.args in
    no-columns s.text.now s.row.now c.if-row-lt2.true

pub returns-else-row-lt2 : goal.returns-else-row-lt2
returns-else-row-lt2 c = let s = c.args in
    c.token.ensures ∙ first-columns s.text.now s.row.now c.if-row-lt2.false
