-- `settle_row` reads the row, then works out the gates. Assumes nothing.
use Rattle.run_rows.proofs.Settling.{still-workable, row_settled}
use Rattle.run_rows.proofs.settle_row.Goals as goal

pub work_out-requires : goal.work_out-requires
work_out-requires c = still-workable c.read_row.ensures c.requires.workable

pub returns-then-read_row : goal.returns-then-read_row
returns-then-read_row c = row_settled c.read_row.ensures c.requires.row_room
    (c.if-read_row.true) c.work_out.ensures
