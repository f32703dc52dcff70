use lib.Dec.{leb}
use Rattle.lists.proofs.Any.{Looked}
use Rattle.blif_read.proofs.has_high_byte.Given as goal

abbrev pub invariant-loop-byte : goal.invariant-loop-byte
invariant-loop-byte l = Looked (leb 128) l.text l.high l.byte-index
