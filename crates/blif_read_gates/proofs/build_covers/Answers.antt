-- `build_covers` builds block after block. Assumes nothing.
use native.Mathlib.Omega.{arith}
use lib.ListN.{length}
use Rattle.blif_read_gates.proofs.Building.{building-start, building-room, building-next, building-done}
use Rattle.blif_read_gates.proofs.Counting.{defs_long, def-place}
use Rattle.blif_read_gates.proofs.build_covers.Goals as goal

pub loop-j-init : goal.loop-j-init
loop-j-init c = building-start

pub build_block-built-requires-clause-block_room : goal.build_block-built-requires-clause-block_room
build_block-built-requires-clause-block_room c = building-room (defs_long c.args.text.now c.args.tokens.now (length c.args.tokens.now) c.args.blocks.now c.args.g) c.requires.buildable c.loop-j.invariant (def-place c.args.text.now c.args.tokens.now (length c.args.tokens.now) c.args.blocks.now c.args.g _ (omega arith))

pub loop-j-preserved : goal.loop-j-preserved
loop-j-preserved c = building-next (defs_long c.args.text.now c.args.tokens.now (length c.args.tokens.now) c.args.blocks.now c.args.g) c.requires.buildable c.loop-j.invariant (def-place c.args.text.now c.args.tokens.now (length c.args.tokens.now) c.args.blocks.now c.args.g _ (omega arith)) c.build_block-built.ensures c.build_block-built.auto.gates c.build_block-built.auto.pins

pub returns : goal.returns
returns c = building-done c.loop-j.built (defs_long c.args.text.now c.args.tokens.now (length c.args.tokens.now) c.args.blocks.now c.args.g) c.requires.buildable c.loop-j.invariant (omega arith)
