-- A network with its gates in another order, or with some left out (document 01, src/network/network.rs: `remap`). Assumes nothing:
-- these are definitions.
use Rattle.std.specs.Prelude.{◌≡◌, ℕ, ◌<◌, eqb, length, get_or}
use mathlib.Core.List.{List, [], map, Memᴰ}
use Rattle.std.proofs.Math.Option
use Rattle.lists.specs.Lists.{find}
use Rattle.signal.specs.Signal.{Node, Const, Input, Var, Signal, remap}
use Rattle.gates.specs.Gate.{Buf, FlipFlop, Gate, Comb, Dff, pins}
use Rattle.network.specs.Net.{Net, GateIs}

-- a flip-flop's signals renumbered; it starts as it did
abbrev pub remap_flop : (ℕ → ℕ) → FlipFlop → FlipFlop
remap_flop π ff = record { data_in = remap π ff.data_in; enable = remap π ff.enable; reset = remap π ff.reset; start = ff.start }

-- a gate with its inputs renumbered: gate g is π g now
abbrev pub remap_gate : (ℕ → ℕ) → Gate → Gate
remap_gate π (Comb f ps) = Comb f (map (remap π) ps)
remap_gate π (Dff ff) = Dff (remap_flop π ff)

-- the node is kept among n gates: a gate has a new number, which leads back to it
abbrev pub NodeKept : ℕ → (ℕ → ℕ) → (ℕ → ℕ) → Node → Type 0
NodeKept n π order Const = Unit {0}
NodeKept n π order (Input i) = Unit {0}
NodeKept n π order (Var g) = (π g < n) × (order (π g) ≡ g)

-- gate i of the new network is gate `order i` of the old one, its inputs renumbered
pub record From (old : Net) (n : ℕ) (π order : ℕ → ℕ) (i : ℕ) (x : Gate) : Type 0 where
  -- the old gate
  pub was : Gate
  -- at its old number
  pub was_at : GateIs old (order i) was
  -- with its inputs renumbered
  pub renamed : x ≡ remap_gate π was
  -- each of which is kept
  pub kept : (s : Signal) → Memᴰ s (pins was) → NodeKept n π order s.node

-- every gate of the new network is one of the old, renumbered, and what its gates and outputs use is there:
-- `order` is the old number of a new gate, `π` the new number of an old one
pub record Renumbered (old new : Net) (π order : ℕ → ℕ) : Type 0 where
  -- the inputs stay
  pub same_inputs : new.inputs ≡ old.inputs
  -- each new gate is an old one
  pub gates_from : (i : ℕ) (x : Gate) → GateIs new i x → From old (length new.gates) π order i x
  -- the outputs are renumbered
  pub same_outputs : new.outputs ≡ map (remap π) old.outputs
  -- and what they use is kept
  pub outputs_kept : (s : Signal) → Memᴰ s old.outputs → NodeKept (length new.gates) π order s.node

-- ---- a new order as the list of old numbers

-- the new number of old gate g: its place in the order, or 0
abbrev pub place_of : List ℕ → ℕ → ℕ
place_of l g = Option.get_or (find (eqb g) l) 0

-- gate g of the network, where there is one
abbrev pub gate_or : Net → ℕ → Gate
gate_or net g = get_or net.gates g (Comb Buf [])

-- the network with its gates in this order, gate inputs and outputs renumbered
abbrev pub permuted : List ℕ → Net → Net
permuted l net =
    record {
      inputs = net.inputs;
      gates = map (λ (o : ℕ). remap_gate (place_of l) (gate_or net o)) l;
      outputs = map (remap (place_of l)) net.outputs;
    }
