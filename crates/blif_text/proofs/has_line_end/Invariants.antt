use lib.Dec.{eqb}
use Rattle.lists.proofs.Any.{Looked}
use Rattle.blif_text.proofs.has_line_end.Given as goal

abbrev pub invariant-loop-byte : goal.invariant-loop-byte
invariant-loop-byte l = Looked (eqb 10) l.block l.found l.byte-index
