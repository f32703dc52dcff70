-- `write_cover` writes the cover by the gate's kind. Assumes nothing.
use Rattle.blif_write_names.proofs.Laws.{as-wrote, wrote_nothing}
use Rattle.blif_write.proofs.Covers.{cover-binary, cover-ternary, cover-nary, cover-buf, cover-dff}
use Rattle.blif_write.proofs.write_cover.Goals as goal

pub returns-in-Binary : goal.returns-in-Binary
returns-in-Binary c = as-wrote (cover-binary c.args.g c.args.pins.now c.in-Binary.is) c.write_binary.ensures

pub returns-in-Ternary : goal.returns-in-Ternary
returns-in-Ternary c = as-wrote (cover-ternary c.args.g c.args.pins.now c.in-Ternary.is) c.write_ternary.ensures

pub returns-in-Nary : goal.returns-in-Nary
returns-in-Nary c = as-wrote (cover-nary c.args.g c.args.pins.now c.in-Nary.is) c.write_nary.ensures

pub returns-in-Buf : goal.returns-in-Buf
returns-in-Buf c = as-wrote (cover-buf c.args.g c.args.pins.now c.in-Buf.is) c.write_buf.ensures

pub returns-in-Dff : goal.returns-in-Dff
returns-in-Dff c = as-wrote (cover-dff c.args.g c.args.pins.now c.in-Dff.is) wrote_nothing
