-- `put_two` stores two cells. Assumes nothing.
use Rattle.network.proofs.LaidGates.{stored-two}
use Rattle.network.proofs.put_two.Goals as goal

pub returns : goal.returns
returns c = stored-two c.args.at c.args.pins.now c.raw.ensures c.raw-2.ensures
