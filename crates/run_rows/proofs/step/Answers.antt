-- `step` takes all next bits before it puts the first. Assumes nothing.
use Rattle.run_rows.proofs.Stepping.{steps-together}
use Rattle.run_rows.proofs.step.Goals as goal

pub returns : goal.returns
returns c = search steps-together
