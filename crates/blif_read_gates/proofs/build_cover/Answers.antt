-- `build_cover` builds the gates of no line, of one, or of more. Assumes nothing.
use mathlib.Core.Path.{sym}
use native.Mathlib.Omega.{arith}
use Rattle.blif_read_gates.proofs.CoverLaws.{first-there, first_good, rows-inputs, none-built, one-built}
use Rattle.blif_read_gates.proofs.build_cover.Goals as goal

pub returns-in-0 : goal.returns-in-0
returns-in-0 c = none-built c.requires.cover_room _ _ c.in-0.is c.zero.ensures c.lay_gate.ensures

pub row_end-end-requires : goal.row_end-end-requires
row_end-end-requires c = first-there c.requires.good_rows (omega (arith, c.in-1.is))

pub put_row-requires-clause-good_row : goal.put_row-requires-clause-good_row
put_row-requires-clause-good_row c = first_good (rows-inputs (sym c.sources_at-sources.ensures.1) c.requires.good_rows) (omega (arith, c.in-1.is)) c.row_end-end.ensures

pub returns-in-1 : goal.returns-in-1
returns-in-1 c = one-built (λ e. let z : ⊥ = omega (arith, c.in-1.is) in z) (omega (arith, c.in-1.is)) c.requires.good_rows c.requires.cover_room c.sources_at-sources.ensures.0 c.sources_at-sources.ensures.1 c.row_end-end.ensures c.put_row.ensures
