-- `put_three` stores three cells. Assumes nothing.
use Rattle.network.proofs.LaidGates.{stored-three}
use Rattle.network.proofs.put_three.Goals as goal

pub returns : goal.returns
returns c = stored-three c.args.at c.args.pins.now c.raw.ensures c.raw-2.ensures c.raw-3.ensures
