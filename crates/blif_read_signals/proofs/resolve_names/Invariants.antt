use Rattle.name_index.specs.Between.Search.{signal_in}
use Rattle.name_index.specs.Between.Index.{entry_count, entries_of}
use Rattle.blif_read_signals.proofs.Resolving.{Resolving}
use Rattle.blif_read_signals.proofs.resolve_names.Given as goal

abbrev pub invariant-loop-i : goal.invariant-loop-i
invariant-loop-i l = Resolving (signal_in (entries_of l.text l.index (entry_count l.index))) l.text l.names l.initial.signals l.signals l.i
