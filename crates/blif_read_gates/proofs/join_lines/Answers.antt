-- `join_lines` puts the gate that joins lines, then the lines' gates. Assumes nothing.
use Prim.Native.Nat.{◌*◌}
use native.Mathlib.Omega.{arith}
use Rattle.network.specs.Record.{gate_width}
use Rattle.blif_read_gates.proofs.CoverLaws.{first-there, first_good, joins-room, join-put, joined-room, joined-built}
use Rattle.blif_read_gates.proofs.RowLaws.{row-two}
use Rattle.blif_read_gates.proofs.join_lines.Goals as goal

pub row_end-end-requires : goal.row_end-end-requires
row_end-end-requires c = first-there c.requires.lt_count.1 (omega (arith, c.requires.lt_count.0))

pub is_one-one-requires : goal.is_one-one-requires
is_one-one-requires c = row-two (first_good c.requires.lt_count.1 (omega (arith, c.requires.lt_count.0)) c.row_end-end.ensures)

pub put_joins-requires : goal.put_joins-requires
put_joins-requires c = joins-room c.requires.lt_count.0 c.requires.lt_count.1 c.requires.cover_room

pub build_lines-requires-clause-lines_room : goal.build_lines-requires-clause-lines_room
build_lines-requires-clause-lines_room c = joined-room c.requires.lt_count.0 c.requires.lt_count.1 c.requires.cover_room c.is_one-one.result c.sources_at-sources.ensures.0 c.sources_at-sources.ensures.1 (join-put c.is_one-one.result c.args.built.pins c.args.lines.count c.args.gates.now (c.args.j * gate_width) c.join_gate-gate.ensures c.put_record.ensures) c.put_joins.ensures

pub returns : goal.returns
returns c = joined-built c.requires.lt_count.0 c.requires.lt_count.1 c.requires.cover_room c.is_one-one.result c.sources_at-sources.ensures.0 c.sources_at-sources.ensures.1 (join-put c.is_one-one.result c.args.built.pins c.args.lines.count c.args.gates.now (c.args.j * gate_width) c.join_gate-gate.ensures c.put_record.ensures) c.put_joins.ensures
    c.row_end-end.ensures c.is_one-one.ensures c.build_lines.ensures
