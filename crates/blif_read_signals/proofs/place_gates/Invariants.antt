use lib.ListN.{length}
use Rattle.blif_text.specs.Between.Blocks.{def_at}
use Rattle.name_index.specs.Between.Search.{signal_in}
use Rattle.name_index.specs.Between.Index.{entry_count, entries_of}
use Rattle.blif_read_signals.proofs.Placing.{Placing}
use Rattle.blif_read_signals.proofs.place_gates.Given as goal

abbrev pub invariant-loop-j : goal.invariant-loop-j
invariant-loop-j l = Placing (signal_in (entries_of l.text l.index (entry_count l.index))) (def_at l.text l.tokens (length l.tokens) l.blocks) l.g l.initial.gates l.initial.pins l.gates l.pins l.j l.at
