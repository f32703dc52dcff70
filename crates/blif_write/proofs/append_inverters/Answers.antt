-- `append_inverters` marks the signals and writes by the marks. Assumes nothing.
use mathlib.Core.Path.{sym}
use Rattle.network.specs.Cells.{cell_net}
use Rattle.network.proofs.GateRead.{cell-count}
use Rattle.blif_write_names.proofs.Laws.{and-append, as-text}
use Rattle.blif_write.proofs.Used.{inverters-written}
use Rattle.blif_write.proofs.append_inverters.Goals as goal

pub returns : goal.returns
returns c = as-text (inverters-written (cell_net c.args.inputs c.args.gates.now c.args.pins.now c.args.n c.args.outputs.now) (sym (cell-count c.args.gates.now c.args.pins.now c.args.n)) c.requires.0.few c.requires.1 c.get_inverted_signals.ensures.gated c.get_inverted_signals.ensures.input) (and-append c.append_gate_inverters-end.ensures c.append_input_inverters.ensures)
