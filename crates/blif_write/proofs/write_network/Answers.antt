-- `write_network` lends the room and looks at the length. Assumes nothing.
use mathlib.Core.Path.{sym, ◌∙◌}
use lib.Seq.{length-take-le}
use Rattle.network.specs.Cells.{net_of}
use Rattle.network.proofs.Lent.{network-sizes}
use Rattle.blif_write.proofs.Whole.{ends-long, ends-written}
use Rattle.blif_write.proofs.write_network.Goals as goal

pub slice_bounds-write_text-end-3 : goal.slice_bounds-write_text-end-3
slice_bounds-write_text-end-3 c = sym (length-take-le _ c.args.outputs.now (network-sizes _ c.requires.network).outs-lent)

pub write_text-end-requires : goal.write_text-end-requires
unfolding net_of
write_text-end-requires c = (c.requires.readable, (network-sizes _ c.requires.network).few.inputs, c.requires.narrow)

pub returns-then-end-room : goal.returns-then-end-room
unfolding net_of
returns-then-end-room c = c.refuse.ensures ∙ ends-long _ c.args.out.now (c.requires) c.room_in-room.ensures c.write_text-end.ensures c.if-end-room.true

pub returns-else-end-room : goal.returns-else-end-room
unfolding net_of
returns-else-end-room c = ends-written _ c.args.out.now (c.requires) c.room_in-room.ensures c.write_text-end.ensures c.if-end-room.false c.fill_zero_bytes.ensures
