-- A network's cells laid over lent ones can be read back. Assumes nothing.
use mathlib.Core.Path.{◌≡◌, refl, sym, ap, ◌∙◌}
use mathlib.Core.List.{List, [], ◌∷◌, map}
use Prim.Native.Nat.{ℕ, ◌+◌, ◌*◌, ◌≤◌}
use native.Mathlib.Omega.{arith}
use lib.ListN.{length, take, length-map, length-append}
use Rattle.lists.specs.Lists.{overwrite}
use Rattle.lists.proofs.Over.{take-overwrite}
use Rattle.signal.specs.Cell.{sig_cell}
use Rattle.gates.specs.Gate.{Gate, pins}
use Rattle.network.specs.Net.{Net}
use Rattle.network.specs.Cells.{lent, counts_of}
use Rattle.network.specs.Between.Cells.{Laid}
use Rattle.network.specs.Record.{record_of, gate_width, gate_cells, pin_cells}
use Rattle.network.proofs.RecordCells.{length-record_of}

pub length-gate_cells : (at : ℕ) (xs : List Gate) → length (gate_cells at xs) ≡ length xs * gate_width
unfolding gate_cells
length-gate_cells at [] = refl
length-gate_cells at (x ∷ xs) =
    length-append (record_of at x) (gate_cells (at + length (pins x)) xs)
    ∙ omega (arith, length-record_of at x, length-gate_cells (at + length (pins x)) xs)

-- where there is room, the cells in use are those of the network
pub laid-overwrite : (net : Net) (gs ps os : List ℕ) → length net.gates * gate_width ≤ length gs → length (pin_cells net.gates) ≤ length ps
    → length net.outputs ≤ length os
    → Laid net (lent (counts_of net) (overwrite (gate_cells 0 net.gates) gs) (overwrite (pin_cells net.gates) ps) (overwrite (map sig_cell net.outputs) os))
laid-overwrite net gs ps os hg hp ho =
    let lg = length-gate_cells 0 net.gates in
    let lo = length-map net.outputs sig_cell in
    record {
      counted = refl;
      gates_laid =
          ap (λ (k : ℕ). take k (overwrite (gate_cells 0 net.gates) gs)) (sym lg) ∙ take-overwrite (gate_cells 0 net.gates) gs (omega (arith, lg));
      pins_laid = take-overwrite (pin_cells net.gates) ps hp;
      outs_laid =
          ap (λ (k : ℕ). take k (overwrite (map sig_cell net.outputs) os)) (sym lo) ∙ take-overwrite (map sig_cell net.outputs) os (omega (arith, lo));
    }
