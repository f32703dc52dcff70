-- `lay_tables` lays out one gate after the other. Assumes nothing.
use native.Mathlib.Omega.{arith}
use Rattle.run_rows.proofs.LayingOut.{laying-out-room, laying-out-next}
use Rattle.run_rows.proofs.lay_tables.Goals as goal

pub lay_table-requires : goal.lay_table-requires
lay_table-requires c = laying-out-room c.loop-g.invariant c.requires.by_index.1 c.requires.tables_in_bounds (omega (arith, c.loop-g-test.true, c.loop-g.invariant.tables_long))

pub loop-g-preserved : goal.loop-g-preserved
loop-g-preserved c = laying-out-next c.loop-g.invariant c.lay_table.ensures
