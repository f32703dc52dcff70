-- `mark_tokens` takes one step after the other. Assumes nothing.
use Rattle.blif_text.proofs.ScanSteps.{scan-cells, scan-done}
use Rattle.blif_text.proofs.mark_tokens.Goals as goal

pub returns : goal.returns
returns c = let scanned = c.loop-w.invariant.0 in record { tokens_marked = scan-done scanned c.loop-w-test.false; cells_after = scan-cells scanned c.loop-w-test.false }
