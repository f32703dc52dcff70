use mathlib.Core.List.{map}
use Prim.Native.Nat.{◌-◌}
use lib.ListN.{length}
use Rattle.lists.specs.Lists.{range}
use Rattle.lists.proofs.Laying.{Laying}
use Rattle.gate_bits.specs.Between.Slots.{slot_or, run_slots}
use Rattle.gate_bits.proofs.lay_slots.Given as goal

abbrev pub invariant-loop-i : goal.invariant-loop-i
invariant-loop-i l = Laying (run_slots l.run l.pad (length l.initial.slots)) l.initial.slots 0 (map (slot_or l.run l.pad) (range l.i (length l.initial.slots - l.i))) l.slots l.i
