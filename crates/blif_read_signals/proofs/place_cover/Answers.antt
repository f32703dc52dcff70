-- `place_cover` finds the names, and writes the record. Assumes nothing.
use Rattle.blif_read_signals.proofs.OneGate.{cover-placed}
use Rattle.blif_read_signals.proofs.place_cover.Goals as goal

pub returns : goal.returns
returns c = cover-placed c.args.text.now c.args.names.now c.resolve_names.ensures (c.if-not-resolve_names.false) c.requires.gate_room c.put_record.ensures
