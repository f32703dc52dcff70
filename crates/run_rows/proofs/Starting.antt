-- The constant's bit put at zero, and the gates' at their start values, one after the other. Assumes nothing.
use mathlib.Core.Path.{◌≡◌, sym, ap, ◌∙◌}
use mathlib.Core.Bool.{Bool, false}
use mathlib.Core.List.{List}
use Prim.Native.Nat.{ℕ, ◌<◌}
use native.Mathlib.Omega.{arith}
use lib.Dec.{eqb}
use lib.ListN.{length}
use Rattle.lists.specs.Lists.{optional}
use Rattle.signal.specs.Signal.{Const}
use Rattle.gates.specs.Gate.{start_bit}
use Rattle.gates.proofs.Forms.{bit-again}
use Rattle.network.specs.Clock.{start_bits}
use Rattle.network.specs.Cells.{cell_net}
use Rattle.network.specs.Record.{start_at}
use Rattle.network.specs.Between.Cells.{NetCells}
use Rattle.network.proofs.GateRead.{cell-gate}
use Rattle.gate_bits.specs.Between.Slots.{slot_count}
use Rattle.gate_bits.proofs.SlotBits.{put-here}
use Rattle.run_rows.specs.Between.Steps.{Started, Held}
use Rattle.run_rows.proofs.Showing.{put, length-put, shown-as}

-- the constant's bit is put, and no gate's yet
pub started_none : {cells : List ℕ} (bits : List Bool) → length bits ≡ slot_count → Started cells 0 (put bits 0 false)
started_none bits l = record {
  shown =
      record {
        size = length-put bits 0 false ∙ l;
        const = put-here bits Const false tt l;
        few_inputs = omega arith;
        inputs = λ i h. absurd (omega arith);
        few_gates = λ g h. absurd (omega arith);
        gates = λ g h. absurd (omega arith);
      };
}

module _ {cells : List ℕ} {n : ℕ} {bits : List Bool} (s : Started cells n bits) where
  -- the flip-flops hold the network's start values
  pub started-held : {inputs : ℕ} {ps : List ℕ} (outs : List ℕ) → NetCells inputs n cells ps → Held cells n (start_bits (cell_net inputs cells ps n outs)) bits
  started-held {inputs} {ps} outs net = shown-as s.shown (λ g f. f.below) (λ g f. start_is g f.below)
    where
      start_is : (g : ℕ) → g < n → eqb (start_at cells g) 1 ≡ start_bits (cell_net inputs cells ps n outs) g
      start_is g h =
          let x = net.each g h in
          ap (λ (v : ℕ). eqb v 1) x.start
          ∙ bit-again (start_bit x.gate)
          ∙ ap (optional start_bit false) (sym (cell-gate cells ps n g x.gate h x.is))
