-- `put_block` stores three cells. Assumes nothing.
use Prim.Native.Nat.{◌*◌}
use Rattle.lists.proofs.OverAt.{overwrite-three}
use Rattle.blif_text.proofs.put_block.Goals as goal

pub returns : goal.returns
returns c = overwrite-three (c.args.j * 3) _ _ _ _
