use lib.ListN.{length}
use Rattle.blif_read_gates.proofs.LinesLaws.{Putting}
use Rattle.blif_read_gates.proofs.build_lines.Given as goal

abbrev pub invariant-loop-k : goal.invariant-loop-k
invariant-loop-k l = Putting l.text l.tokens (length l.tokens) l.fn.lines.row l.fn.lines.count l.sources.count l.initial.gates l.built.gates l.initial.pins l.sources.first l.built.pins l.gates l.pins l.row l.at l.k
