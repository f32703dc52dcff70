-- `build_block` builds the gates of a latch or a cover. Assumes nothing.
use Rattle.blif_read_gates.proofs.BlockLaws.{cover-rows, cover-built}
use Rattle.blif_read_gates.proofs.build_block.Goals as goal

pub build_cover-at-requires-clause-good_rows : goal.build_cover-at-requires-clause-good_rows
build_cover-at-requires-clause-good_rows c = cover-rows c.if-block-eq0.false c.requires.blocks c.block_at-block.ensures c.requires.block_room

pub returns : goal.returns
returns c = cover-built c.if-block-eq0.false c.requires.blocks c.block_at-block.ensures c.requires.block_room c.new_gates.ensures c.build_cover-at.ensures
