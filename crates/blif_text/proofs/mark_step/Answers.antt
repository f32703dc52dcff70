-- `mark_step` goes by the byte at the place. Assumes nothing.
use mathlib.Core.Path.{sym, ◌∙◌}
use Rattle.blif_text.proofs.ScanSteps.{scan-comment, scan-blanks}
use Rattle.blif_text.proofs.mark_step.Goals as goal

pub returns-then-c-eq35-clause-scanned : goal.returns-then-c-eq35-clause-scanned
returns-then-c-eq35-clause-scanned c = scan-comment c.requires.0 c.requires.1 c.if-c-eq35.true c.line_after-next.ensures

pub returns-else-c-eq35-clause-scanned : goal.returns-else-c-eq35-clause-scanned
returns-else-c-eq35-clause-scanned c = scan-blanks c.requires.0 c.requires.1 (sym c.ends_word.ensures ∙ c.if-not-ends_word.false) c.if-c-eq35.false c.run_end-next.ensures.passed
