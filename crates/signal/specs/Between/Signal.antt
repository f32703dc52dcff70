-- Beside specs/Signal: what contracts between the crates and proofs use, and no promise reaches.
-- Assumes nothing: these are definitions.
use Rattle.std.specs.Prelude.{Bool, true, false}
use Rattle.signal.specs.Signal.{Node, Const, Input, Var}

-- whether the node is an input: "bit 31 marks an input"
abbrev pub input_node : Node → Bool
input_node Const = false
input_node (Input i) = true
input_node (Var g) = false

-- whether the node is a gate
abbrev pub gate_node : Node → Bool
gate_node Const = false
gate_node (Input i) = false
gate_node (Var g) = true
