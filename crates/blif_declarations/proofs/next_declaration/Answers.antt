-- `next_declaration` finds the keyword and the end of a row, and passes the cube lines behind it. Assumes nothing.
use mathlib.Core.Path.{ap, ◌∙◌}
use Rattle.blif_text.specs.Keywords.{keyword_of}
use Rattle.blif_text.proofs.RefusalLaws.{stmts-next}
use Rattle.blif_declarations.proofs.RowStarts.{row_is}
use Rattle.blif_declarations.proofs.NextLaws.{row-declares}
use Rattle.blif_declarations.proofs.next_declaration.Goals as goal

pub cube_lines-lines-requires : goal.cube_lines-lines-requires
cube_lines-lines-requires c = stmts-next c.requires.0 c.requires.1 c.row_end-end.ensures

pub returns : goal.returns
returns c = let first = c.keyword_of-keyword.ensures ∙ ap keyword_of c.token.ensures in
    let row = row_is c.requires.0 c.requires.1 c.row_end-end.ensures first in
    rw (c.declared_by.ensures.0, c.declared_by.ensures.1, c.names_run.ensures) (row-declares c.cube_lines-lines.ensures _ row)
