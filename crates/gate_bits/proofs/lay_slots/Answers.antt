-- `lay_slots` lays one slot after the other. Assumes nothing.
use mathlib.Core.Path.{refl, ◌∙◌}
use Prim.Native.Nat.{◌<◌}
use native.Mathlib.Omega.{arith}
use lib.ListN.{length}
use Rattle.lists.proofs.Laying.{laying-next, laying-full}
use Rattle.gate_bits.proofs.SlotBits.{slots-left, slots-over}
use Rattle.gate_bits.proofs.lay_slots.Goals as goal

pub loop-i-preserved : goal.loop-i-preserved
loop-i-preserved c = let a = c.args in
    let loop = c.loop-i in
    let more : loop.i < length a.slots.now = omega (arith, loop.invariant.kept) in
    laying-next loop.invariant (rw c.slot_or.ensures (slots-left a.run.now a.pad (length a.slots.now) loop.i more)) refl

pub returns : goal.returns
returns c = let a = c.args in
    laying-full c.loop-i.invariant (omega (arith, c.loop-i.invariant.kept)) ∙ slots-over a.run.now a.pad a.slots.now
