-- `judge_network` asks for an output, then runs. Assumes nothing.
use mathlib.Core.Path.{◌∙◌}
use Rattle.pass_report.proofs.Judging.{no_output, some-output}
use Rattle.pass_report.proofs.judge_network.Goals as goal

pub returns-then-counts-eq0 : goal.returns-then-counts-eq0
returns-then-counts-eq0 c = no_output _ _ c.requires.network c.if-counts-eq0.true

pub returns-else-counts-eq0 : goal.returns-else-counts-eq0
returns-else-counts-eq0 c = c.run_commands.ensures ∙ some-output _ _ c.requires.network c.if-counts-eq0.false
