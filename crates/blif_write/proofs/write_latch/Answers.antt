-- `write_latch` writes a flip-flop and passes over other gates. Assumes nothing.
use mathlib.Core.Path.{refl}
use mathlib.Core.List.{flat_map}
use Rattle.blif_write.specs.Between.Parts.{latch_text}
use Rattle.blif_write_names.proofs.Laws.{as-wrote, wrote_nothing}
use Rattle.blif_write.proofs.Covers.{latch-at, latch-of}
use Rattle.blif_write.proofs.write_latch.Goals as goal

pub returns-in-Binary : goal.returns-in-Binary
unfolding latch_text flat_map
returns-in-Binary c = as-wrote (latch-at c.args.g c.in-Binary.is refl) wrote_nothing

pub returns-in-Ternary : goal.returns-in-Ternary
unfolding latch_text flat_map
returns-in-Ternary c = as-wrote (latch-at c.args.g c.in-Ternary.is refl) wrote_nothing

pub returns-in-Nary : goal.returns-in-Nary
unfolding latch_text flat_map
returns-in-Nary c = as-wrote (latch-at c.args.g c.in-Nary.is refl) wrote_nothing

pub returns-in-Buf : goal.returns-in-Buf
unfolding latch_text flat_map
returns-in-Buf c = as-wrote (latch-at c.args.g c.in-Buf.is refl) wrote_nothing

pub returns-in-Dff : goal.returns-in-Dff
returns-in-Dff c = as-wrote (latch-of c.args.g c.in-Dff.is) c.write_stored.ensures
