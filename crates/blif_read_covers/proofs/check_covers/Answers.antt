-- `check_covers` meets its contract. Each loop's invariant says that the whole pass answers what is left of it; a break's answer is then what the
-- pass answers. Assumes nothing.
use mathlib.Core.Path.{ap}
use mathlib.Core.Bool.{not}
use Rattle.blif_read_covers.proofs.PassLaws.{last-there, enter-line, steps}
use Rattle.blif_read_covers.proofs.check_covers.Goals as goal

pub loop-init : goal.loop-init
loop-init c = search steps

pub row_end-end-requires : goal.row_end-end-requires
row_end-end-requires c = search steps

pub line_columns-columns-requires : goal.line_columns-columns-requires
line_columns-columns-requires c = search steps

pub token-requires : goal.token-requires
token-requires c = last-there c.loop.invariant c.row_end-end.ensures

pub loop-column-init : goal.loop-column-init
loop-column-init c = enter-line c.loop.invariant c.loop-test.true c.row_end-end.ensures
    c.line_columns-columns.ensures c.token.ensures c.output_of-output.ensures c.line_fits.ensures (ap not c.if-not-line_fits.false)

pub loop-preserved : goal.loop-preserved
loop-preserved c = search steps

pub pass-preserved : goal.pass-preserved
pass-preserved c = search steps

pub returns-then-j-g : goal.returns-then-j-g
returns-then-j-g c = search steps

pub returns-then-not-line_fits : goal.returns-then-not-line_fits
returns-then-not-line_fits c = search steps

pub returns-then-not-is_column : goal.returns-then-not-is_column
returns-then-not-is_column c = search steps

pub returns-then-differ : goal.returns-then-differ
returns-then-differ c = search steps
