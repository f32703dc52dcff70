-- `build_lines` puts one line's gate after the other. Assumes nothing.
use native.Mathlib.Omega.{arith}
use Rattle.blif_read_gates.proofs.LinesLaws.{putting-there, putting-room, putting-row, putting-next, putting-done}
use Rattle.blif_read_gates.proofs.build_lines.Goals as goal

pub row_end-end-requires : goal.row_end-end-requires
row_end-end-requires c = putting-there c.requires.good_rows c.requires.lines_room c.loop-k.invariant (omega arith)

pub put_row-at-requires : goal.put_row-at-requires
put_row-at-requires c = let w = c.loop-k.invariant in
    record { good_row = putting-row c.requires.good_rows c.requires.lines_room w (omega arith) c.row_end-end.ensures; line_room = putting-room c.requires.good_rows c.requires.lines_room w (omega arith) }

pub loop-k-preserved : goal.loop-k-preserved
loop-k-preserved c = putting-next c.requires.good_rows c.requires.lines_room c.loop-k.invariant (omega arith) c.row_end-end.ensures c.put_row-at.ensures

pub returns : goal.returns
returns c = putting-done c.requires.good_rows c.requires.lines_room c.loop-k.invariant (omega arith)
