-- `put_record` stores the cells of a record. Assumes nothing.
use mathlib.Core.Path.{refl, ap, ◌∙◌}
use Prim.Native.Nat.{◌*◌}
use Rattle.network.proofs.LaidGates.{stored-four}
use Rattle.signal.specs.Cell.{bit_of}
use Rattle.gates.specs.Between.Forms.{kind_number}
use Rattle.network.specs.Record.{gate_width}
use Rattle.network.proofs.put_record.Goals as goal

pub returns : goal.returns
returns c = stored-four (c.args.g * gate_width) c.args.gates.now
    (c.number.ensures ∙ ap kind_number c.kind.ensures) refl c.pin_count.ensures
    (ap bit_of c.start.ensures)
