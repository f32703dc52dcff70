use lib.ListN.{length}
use Rattle.blif_text.specs.Between.Blocks.{defs_at}
use Rattle.blif_read_gates.proofs.Building.{Building}
use Rattle.blif_read_gates.proofs.build_covers.Given as goal

abbrev pub invariant-loop-j : goal.invariant-loop-j
invariant-loop-j l = Building (defs_at l.text l.tokens (length l.tokens) l.blocks l.g) l.initial.gates l.initial.pins l.used l.g l.j l.built.gates l.built.pins l.gates l.pins
