-- `put_line` writes a line's literals, then lays its gate. Assumes nothing.
use Rattle.blif_read_gates.proofs.GateLaws.{hand-room, line-room, line-put}
use Rattle.blif_read_gates.proofs.put_line.Goals as goal

pub line_gate-gate-requires : goal.line_gate-gate-requires
line_gate-gate-requires c = hand-room c.args.columns.now c.args.one c.args.source c.args.at c.args.h c.args.gates.now c.args.pins.now c.write_literals-count.ensures c.requires

pub lay_gate-requires : goal.lay_gate-requires
lay_gate-requires c = line-room c.args.columns.now c.args.one c.args.source c.args.at c.args.h c.args.gates.now c.args.pins.now c.write_literals-count.ensures c.requires c.line_gate-gate.ensures

pub returns : goal.returns
returns c = line-put c.args.columns.now c.args.one c.args.source c.args.at c.args.h c.args.gates.now c.args.pins.now c.write_literals-count.ensures c.requires c.line_gate-gate.ensures c.lay_gate.ensures
