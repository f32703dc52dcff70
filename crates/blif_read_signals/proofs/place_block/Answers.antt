-- `place_block` places a latch or a cover. Assumes nothing.
use Rattle.blif_read_signals.proofs.OneGate.{cover-room, latch-def, cover-def}
use Rattle.blif_read_signals.proofs.place_block.Goals as goal

pub returns-then-block-eq0 : goal.returns-then-block-eq0
returns-then-block-eq0 c = latch-def c.args.j c.requires.index.1 c.block_at-block.ensures.0 c.block_at-block.ensures.1 c.block_at-block.ensures.2 c.if-block-eq0.true c.place_latch.ensures

pub place_cover-requires-clause-gate_room : goal.place_cover-requires-clause-gate_room
place_cover-requires-clause-gate_room c = cover-room c.args.j c.requires.index.1 c.block_at-block.ensures.0 c.block_at-block.ensures.1 c.requires.gate_room c.if-block-eq0.false

pub returns-else-block-eq0 : goal.returns-else-block-eq0
returns-else-block-eq0 c = cover-def c.args.j c.requires.index.1 c.block_at-block.ensures.0 c.block_at-block.ensures.1 c.if-block-eq0.false c.place_cover.ensures
