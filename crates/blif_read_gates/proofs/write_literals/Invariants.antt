use Rattle.blif_read_gates.proofs.LiteralLaws.{Writing}
use Rattle.blif_read_gates.proofs.write_literals.Given as goal

abbrev pub invariant-loop-i : goal.invariant-loop-i
invariant-loop-i l = Writing l.columns l.initial.pins l.pins l.source l.at l.m l.i
