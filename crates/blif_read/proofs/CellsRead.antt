-- The cells that reading leaves are a network by document 01's layout: the one read. Assumes nothing.
use Rattle.std.specs.Prelude.{Result, Ok}
use mathlib.Core.Path.{◌≡◌, ap, ◌∙◌}
use mathlib.Core.Bool.{true}
use mathlib.Core.List.{map}
use Prim.Native.Nat.{ℕ}
use native.Mathlib.Omega.{arith}
use lib.ListN.{length-replicate}
use Rattle.lists.specs.Lists.{Bytes, zeros}
use Rattle.lists.proofs.Over.{length-overwrite}
use Rattle.signal.specs.Cell.{sig_cell}
use Rattle.network.specs.Net.{Net}
use Rattle.network.specs.Cells.{lent, counts_of, net_of, is_network}
use Rattle.network.specs.Record.{gate_cells, pin_cells}
use Rattle.network.proofs.Laying.{laid-overwrite}
use Rattle.network.proofs.Lent.{laid-network}
use Rattle.blif_reading.specs.Read.{read_text}
use Rattle.blif_reading.proofs.ReadNet.{NetRead, read-net}
use Rattle.blif_read.specs.Into.{Lengths, lengths, enough, ReadOutcome, filled, read_into}
use Rattle.blif_read.specs.Between.Stages.{Enough}
use Rattle.blif_read.proofs.Lending.{enough-cells}
use Rattle.blif_read.proofs.Summary.{read-answers}
use Rattle.refusals.specs.declared.Refusal.{Refusal}

module _ (text : Bytes) (net : Net) (n : Lengths) (e : enough n ≡ true) (r : read_text text ≡ Ok net) where
  known : NetRead net
  known = read-net text net r

  -- the read_outcome of reading
  left : read_into text n ≡ filled (Ok net) n
  left = read-answers text n e ∙ ap (λ (x : Result Net Refusal). filled x n) r

  room : Enough (zeros n.gates) (zeros n.pins) (zeros n.outputs) (zeros n.work_gates) (zeros n.work_pins)
  room =
      enough-cells (zeros n.gates) (zeros n.pins) (zeros n.outputs) (zeros n.work_gates) (zeros n.work_pins)
      (ap enough (λ i. lengths (length-replicate {A = ℕ} n.gates 0 i) (length-replicate {A = ℕ} n.pins 0 i) (length-replicate {A = ℕ} n.outputs 0 i) (length-replicate {A = ℕ} n.work_gates 0 i) (length-replicate {A = ℕ} n.work_pins 0 i)) ∙ e)

  -- the cells laid over zeros hold the network
  laid : (is_network (lent (counts_of net) (filled (Ok net) n).gates (filled (Ok net) n).pins (filled (Ok net) n).outputs) ≡ true)
      × (net_of (lent (counts_of net) (filled (Ok net) n).gates (filled (Ok net) n).pins (filled (Ok net) n).outputs) ≡ net)
  laid =
      let lg = length-overwrite (gate_cells 0 net.gates) (zeros n.gates) in
      let lp = length-overwrite (pin_cells net.gates) (zeros n.pins) in
      let lo = length-overwrite (map sig_cell net.outputs) (zeros n.outputs) in
      laid-network net (lent (counts_of net) (filled (Ok net) n).gates (filled (Ok net) n).pins (filled (Ok net) n).outputs)
      (laid-overwrite net (zeros n.gates) (zeros n.pins) (zeros n.outputs) (omega (arith, known.sizes.gates, room.gates)) (omega (arith, known.sizes.pins, room.pins)) (omega (arith, known.sizes.outputs, room.outputs)))
      known.valid known.formed
      (record {
        few = known.sizes;
        gates-lent = omega (arith, known.sizes.gates, room.gates, lg);
        pins-lent = omega (arith, known.sizes.pins, room.pins, lp);
        outs-lent = omega (arith, known.sizes.outputs, room.outputs, lo);
      })

  -- what is left is a network by the layout that refusal 20 asks for
  pub read-layout : is_network (lent (counts_of net) (read_into text n).gates (read_into text n).pins (read_into text n).outputs) ≡ true
  read-layout = ap (λ (o : ReadOutcome). is_network (lent (counts_of net) o.gates o.pins o.outputs)) left ∙ laid.0

  -- and it is the network read
  pub read-decodes : net_of (lent (counts_of net) (read_into text n).gates (read_into text n).pins (read_into text n).outputs) ≡ net
  read-decodes = ap (λ (o : ReadOutcome). net_of (lent (counts_of net) o.gates o.pins o.outputs)) left ∙ laid.1
