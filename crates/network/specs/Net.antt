-- Networks, valid signals, combinational loops and sorted networks (document 01, src/network/network.rs). Assumes nothing: these are definitions.
use Rattle.std.specs.Prelude.{◌≡◌, Bool, true, ◌&&◌, ℕ, suc, ◌<◌, ltb, length}
use mathlib.Core.List.{List, [], ◌∷◌, Memᴰ}
use Rattle.std.proofs.Math.Option.{some}
use Rattle.std.proofs.Math.ListN.{get_elem?}
use Rattle.lists.specs.Lists.{all}
use Rattle.signal.specs.Signal.{Node, Const, Input, Var, Signal}
use Rattle.gates.specs.Gate.{Form, Gate, Comb, Dff, pins}
use Rattle.gates.specs.Forms.{formed}

-- a network: how many inputs, the gates by their numbers, the outputs in order
pub record Net : Type 0 where
  -- the number of inputs
  pub inputs : ℕ
  -- gate g stands at place g
  pub gates : List Gate
  -- the outputs in order
  pub outputs : List Signal

-- the same, from its parts
abbrev pub net_from : ℕ → List Gate → List Signal → Net
net_from i gs os = record { inputs = i; gates = gs; outputs = os }

-- gate g of the network is x
abbrev pub GateIs : Net → ℕ → Gate → Type 0
GateIs net g x = get_elem? net.gates g ≡ some x

-- `is_valid`: "an input below the input count, a gate number below the gate count, or a constant"
abbrev pub ValidNode : Net → Node → Type 0
ValidNode net Const = Unit {0}
ValidNode net (Input i) = i < net.inputs
ValidNode net (Var g) = g < length net.gates

-- every input of a gate and every output is valid
pub record Valid (net : Net) : Type 0 where
  -- each input of each gate
  pub pins_valid : (g : ℕ) (x : Gate) (s : Signal) → GateIs net g x → Memᴰ s (pins x) → ValidNode net s.node
  -- each output
  pub outs_valid : (s : Signal) → Memᴰ s net.outputs → ValidNode net s.node

-- every gate has as many inputs as its form can have
abbrev pub Formed : Net → Type 0
Formed net = (g : ℕ) (x : Gate) → GateIs net g x → formed x ≡ true

-- combinational gate a is an input of combinational gate b
pub record Feeds (net : Net) (a b : ℕ) : Type 0 where
  -- a's form
  pub form_a : Form
  -- a's inputs
  pub pins_a : List Signal
  -- gate a is that gate
  pub is_a : GateIs net a (Comb form_a pins_a)
  -- b's form
  pub form_b : Form
  -- b's inputs
  pub pins_b : List Signal
  -- gate b is that gate
  pub is_b : GateIs net b (Comb form_b pins_b)
  -- the input of b
  pub by : Signal
  -- which is one of b's
  pub among : Memᴰ by pins_b
  -- and stands for a
  pub points : by.node ≡ Var a

-- a way of one or more steps, each gate "an input of the next"
pub data Path (net : Net) : ℕ → ℕ → Type 0 where
  last : {a b : ℕ} → Feeds net a b → Path net a b
  more : {a b c : ℕ} → Feeds net a b → Path net b c → Path net a c

-- "A combinational loop is a ring of one or more combinational gates, each an input of the next"
abbrev pub Loop : Net → Type 0
Loop net = (g : ℕ) × Path net g g

-- ---- sorted

-- the node is no gate's, or that of a gate with a number below g
abbrev pub lower_than : ℕ → Node → Bool
lower_than g Const = true
lower_than g (Input i) = true
lower_than g (Var h) = ltb h g

-- gate g is a flip-flop, or each of its gate inputs has a lower number than its own
abbrev pub inputs_lower : ℕ → Gate → Bool
inputs_lower g (Comb f ps) = all (λ s. lower_than g s.node) ps
inputs_lower g (Dff ff) = true

-- the same of each of these gates, of which the first is gate g
unfoldable pub sorted_from : ℕ → List Gate → Bool
sorted_from g [] = true
sorted_from g (x ∷ xs) = inputs_lower g x && sorted_from (suc g) xs

-- `is_topo_sorted`: "every gate input of a combinational gate has a lower number"
abbrev pub topo_sorted : Net → Bool
topo_sorted net = sorted_from 0 net.gates
