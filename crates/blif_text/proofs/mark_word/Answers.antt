-- `mark_word` finds the word's end, and looks behind a backslash for the line's. Assumes nothing.
use Rattle.blif_text.proofs.ScanSteps.{scan-word, scan-put, scan-alone, scan-goes}
use Rattle.blif_text.proofs.mark_word.Goals as goal

pub returns-then-text-end-ne92-clause-scanned : goal.returns-then-text-end-ne92-clause-scanned
returns-then-text-end-ne92-clause-scanned c = let word-end = c.word_end-end in
    let w = word-end.ensures in scan-put c.put_word.ensures (scan-word c.requires.0 c.requires.1 c.requires.2 w (λ e. absurd (c.if-text-end-ne92.true e)))

pub returns-in_default-clause-scanned : goal.returns-in_default-clause-scanned
returns-in_default-clause-scanned c = scan-put c.put_word-in_default.ensures (scan-word c.requires.0 c.requires.1 c.requires.2 c.word_end-end.ensures (λ e. c.in_default.ensures))

pub returns-then-end-at-clause-scanned : goal.returns-then-end-at-clause-scanned
returns-then-end-at-clause-scanned c = let w = c.word_end-end.ensures in
    let e = c.if-text-end-ne92.false in scan-alone c.requires.0 c.requires.1 c.requires.2 w e c.in-Some.ensures c.if-end-at.true

pub returns-else-end-at-clause-scanned : goal.returns-else-end-at-clause-scanned
returns-else-end-at-clause-scanned c = let w = c.word_end-end.ensures in
    let e = c.if-text-end-ne92.false in scan-put c.put_word-else-end-at.ensures (scan-goes c.requires.0 c.requires.1 c.requires.2 w e c.in-Some.ensures c.if-end-at.false)
