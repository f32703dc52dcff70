-- `define_gate` enters a name and writes a record. Assumes nothing.
use Rattle.blif_read_names.proofs.Entering.{gate-known, gate-new}
use Rattle.blif_read_names.proofs.define_gate.Goals as goal

pub returns-then-not-enter_name : goal.returns-then-not-enter_name
returns-then-not-enter_name c = gate-known c.requires c.enter_name.ensures (c.if-not-enter_name.true)

pub returns : goal.returns
returns c = gate-new c.requires c.enter_name.ensures (c.if-not-enter_name.false) c.from_var-signal.ensures c.put_block.ensures
