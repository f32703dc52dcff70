-- `write_then_read` writes, and reads what was written. Assumes nothing.
use mathlib.Core.Path.{sym}
use native.Mathlib.Omega.{arith}
use lib.Seq.{length-take-le}
use Rattle.round_trip.proofs.Determined.{written-within, trip-holds, unwrapped}
use Rattle.round_trip.proofs.write_then_read.Goals as goal

pub slice_bounds-read_blif-end : goal.slice_bounds-read_blif-end
slice_bounds-read_blif-end c = let w = written-within _ _ _ _ c.write_blif-written.ensures in
    omega (arith, w.0, w.1, (unwrapped c.write_blif-written.result c.unwrap_or-n.ensures))

pub slice_bounds-read_blif-end-2 : goal.slice_bounds-read_blif-end-2
slice_bounds-read_blif-end-2 c = let w = written-within _ _ _ _ c.write_blif-written.ensures in
    sym (length-take-le _ _ (omega (arith, w.0, w.1, (unwrapped c.write_blif-written.result c.unwrap_or-n.ensures))))

pub returns : goal.returns
returns c = trip-holds _ _ _ _ _ _ _ _ _ _ _ _ _
    (record { pin_words = λ i. omega (arith, c.type_inv.pins i); out_words = λ i. omega (arith, c.type_inv.outputs i) })
    c.write_blif-written.ensures (unwrapped c.write_blif-written.result c.unwrap_or-n.ensures) c.read_blif-read.ensures c.trip_answer.ensures
