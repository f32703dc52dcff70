-- `append_signals` writes one name after the other. Assumes nothing.
use Rattle.blif_write_names.proofs.Laws.{append-past, and-append}
use Rattle.blif_write_names.proofs.Parts.{going-full, before-start, before-next, before-done}
use Rattle.blif_write_gates.proofs.Texts.{name-parts}
use Rattle.blif_write_gates.proofs.append_signals.Goals as goal

pub returns-then-at-out : goal.returns-then-at-out
returns-then-at-out c = append-past c.if-at-out.true

pub loop-cell-init : goal.loop-cell-init
loop-cell-init c = before-start c.if-at-out.false

pub returns-then-end-out : goal.returns-then-end-out
returns-then-end-out c = going-full c.loop-cell.invariant.going c.if-end-out.true

pub loop-cell-preserved : goal.loop-cell-preserved
loop-cell-preserved c = before-next (name-parts _) c.loop-cell.invariant c.loop-cell-test.true (and-append c.append_byte-next.ensures c.sig_to_string-end.ensures)

pub returns : goal.returns
returns c = before-done (name-parts _) c.loop-cell.invariant c.loop-cell-test.false
