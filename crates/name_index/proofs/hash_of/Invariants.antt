use Rattle.name_index.proofs.HashLaws.{Hashing}
use Rattle.name_index.proofs.hash_of.Given as goal

abbrev pub invariant-loop-byte : goal.invariant-loop-byte
invariant-loop-byte l = Hashing l.name l.h l.byte-index
