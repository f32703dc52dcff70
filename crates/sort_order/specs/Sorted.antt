-- The network sorted: its gates in the order of the sort, renumbered (document 01, src/network/network.rs). Assumes nothing:
-- these are definitions.
use Rattle.std.specs.Prelude.{◌≡◌, false, List, [], ◌∷◌, ℕ, length}
use Rattle.std.proofs.Math.Option.{Option, none, some}
use Rattle.std.proofs.Math.ListN.{get_elem?}
use Rattle.lists.specs.Lists.{optional}
use Rattle.signal.specs.Signal.{Node, Const, Input, Var, Signal}
use Rattle.gates.specs.Gate.{Gate, pins, is_comb}
use Rattle.network.specs.Net.{Net, Valid, Formed}
use Rattle.network.specs.Record.{pin_cells}
use Rattle.network.specs.Renumber.{permuted}
use Rattle.sort_order.specs.Order.{Graph, sort_order}

-- a node's gate before others; a constant and an input are no gates
abbrev pub node_gate : Node → List ℕ → List ℕ
node_gate Const l = l
node_gate (Input i) l = l
node_gate (Var g) l = g ∷ l

-- the gates that signals name, in order and with repeats, inverted or not
abbrev pub gate_nums : List Signal → List ℕ
gate_nums [] = []
gate_nums (s ∷ ss) = node_gate s.node (gate_nums ss)

-- what the sort sees of a network
abbrev pub graph : Net → Graph
graph net =
    record {
      size = length net.gates;
      comb = λ g. optional is_comb false (get_elem? net.gates g);
      ins = λ g. optional (λ (x : Gate). gate_nums (pins x)) [] (get_elem? net.gates g);
    }

-- the network in an order, where there is one
abbrev pub sorted_by : Option (List ℕ) → Net → Option Net
sorted_by none net = none
sorted_by (some l) net = some (permuted l net)

-- the network sorted; none at a combinational loop
unfoldable pub sorted : Net → Option Net
sorted net = sorted_by (sort_order (graph net)) net

-- what the sort keeps of a network
pub record Preserved (net new : Net) : Type 0 where
  -- every signal is valid
  pub valid : Valid new
  -- as many inputs
  pub inputs : new.inputs ≡ net.inputs
  -- as many gates
  pub gates : length new.gates ≡ length net.gates
  -- as many outputs
  pub outputs : length new.outputs ≡ length net.outputs
  -- pin counts that the forms can have
  pub formed : Formed net → Formed new
  -- as many pins
  pub pins : length (pin_cells new.gates) ≡ length (pin_cells net.gates)
