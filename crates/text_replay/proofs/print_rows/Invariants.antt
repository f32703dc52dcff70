-- `print_rows` ends: each row ends behind its first token.
use Rattle.std.proofs.Common.{length, ◌-◌}
use Rattle.text_replay.proofs.print_rows.Given as goal

abbrev pub decreases-loop-at : goal.decreases-loop-at
decreases-loop-at g l = length l.cells - l.at
