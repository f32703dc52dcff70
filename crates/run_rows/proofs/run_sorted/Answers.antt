-- `run_sorted` lays out the gates, then runs a clock for each row. Assumes nothing.
use mathlib.Core.Path.{refl, ◌∙◌}
use mathlib.Core.List.{[]}
use Rattle.run_rows.proofs.Prepared.{prepared_of, taken-tables, prepared-takes, prepared-holds}
use Rattle.run_rows.proofs.Clocking.{clocking-start, row-part, clocking-refused, row-some, clocking-next}
use Rattle.run_rows.proofs.run_sorted.Goals as goal

pub loop-at-init : goal.loop-at-init
loop-at-init c = (refl, clocking-start (prepared_of [] c.requires.runnable c.lay_tables.auto.tables c.lay_tables.ensures c.lay_tables.auto.slots c.list_flops-k.auto.flops c.list_flops-k.ensures) c.requires.whole_rows c.start_bits.ensures)

pub returns-then-not-settle_row : goal.returns-then-not-settle_row
returns-then-not-settle_row c = let p = prepared_of _ c.requires.runnable c.lay_tables.auto.tables c.lay_tables.ensures c.lay_tables.auto.slots c.list_flops-k.auto.flops c.list_flops-k.ensures in
    let run = c.loop-at.invariant.1 in
    clocking-refused p run c.loop-at-test.true c.settle_row.ensures (taken-tables p) (row-part p run c.loop-at-test.true)
    (c.if-not-settle_row.true)

pub step-requires : goal.step-requires
step-requires c = let p = prepared_of [] c.requires.runnable c.lay_tables.auto.tables c.lay_tables.ensures c.lay_tables.auto.slots c.list_flops-k.auto.flops c.list_flops-k.ensures in
    let size = (c.settle_row.auto.bits ∙ c.loop-at.invariant.1.holds.size) in
    record { take_room = prepared-takes p size c.loop-at.invariant.0; put_room = prepared-holds p size c.loop-at.invariant.0 }

pub loop-at-preserved : goal.loop-at-preserved
loop-at-preserved c = let p = prepared_of _ c.requires.runnable c.lay_tables.auto.tables c.lay_tables.ensures c.lay_tables.auto.slots c.list_flops-k.auto.flops c.list_flops-k.ensures in
    let run = c.loop-at.invariant.1 in
    let row = row-some p run c.loop-at-test.true c.settle_row.ensures (taken-tables p) (row-part p run c.loop-at-test.true) (c.if-not-settle_row.false) in (
      c.step.auto.next ∙ c.loop-at.invariant.0,
      clocking-next p run c.loop-at-test.true row c.write_row.ensures c.step.ensures,
    )
