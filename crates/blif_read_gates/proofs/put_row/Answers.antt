-- `put_row` puts the gate of a row's columns and output. Assumes nothing.
use mathlib.Core.Path.{sym, ap, ◌∙◌}
use lib.ListN.{length}
use Rattle.lists.specs.Lists.{Bytes}
use Rattle.blif_read_gates.proofs.RowLaws.{row-wide, row-two}
use Rattle.blif_read_gates.proofs.GateLaws.{room-wide}
use Rattle.blif_read_gates.proofs.put_row.Goals as goal

pub is_one-one-requires : goal.is_one-one-requires
is_one-one-requires c = row-two c.requires.good_row

pub put_line-requires : goal.put_line-requires
put_line-requires c = room-wide (sym (ap (λ (t : Bytes). length t) c.line_columns-columns.ensures ∙ row-wide c.requires.good_row)) c.requires.line_room
