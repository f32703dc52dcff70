-- `put_pins` goes by the gate's form. Assumes nothing.
use Rattle.network.proofs.LaidGates.{stored_one, pins-as, run-stands}
use Rattle.network.proofs.put_pins.Goals as goal

pub returns-in-Nary : goal.returns-in-Nary
returns-in-Nary c = run-stands c.args.at c.args.pins.now c.in-Nary.is c.requires.1

pub returns-in-Buf : goal.returns-in-Buf
returns-in-Buf c = pins-as c.args.at c.args.pins.now c.in-Buf.is (stored_one c.args.at c.args.pins.now c.raw.ensures)
