use Rattle.run_rows.proofs.LayingOut.{LayingOut}
use Rattle.run_rows.proofs.lay_tables.Given as goal

abbrev pub invariant-loop-g : goal.invariant-loop-g
invariant-loop-g l = LayingOut l.gates l.pins l.initial.slots l.initial.tables l.slots l.tables l.g
