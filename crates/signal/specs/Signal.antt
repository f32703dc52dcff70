-- Signals as data (document 01, src/network/signal.rs). Assumes nothing: these are definitions.
use Rattle.std.specs.Prelude.{ℕ, Bool, true, false, not, ◌&&◌}

-- what a signal stands for before inversion: the constant zero, an input or a gate, by its number
pub data Node : Type 0 where
  Const : Node
  Input : ℕ → Node
  Var : ℕ → Node

-- "bit 0 is the inversion"
pub record Signal : Type 0 where
  -- what the signal stands for before inversion
  pub node : Node
  -- whether it is inverted
  pub inv : Bool

-- the signal of a node, not inverted
abbrev pub plain : Node → Signal
plain n = record { node = n; inv = false }

-- "Constant zero"
abbrev pub zero_s : Signal
zero_s = plain Const

-- "and one": zero inverted
abbrev pub one_s : Signal
one_s = record { node = Const; inv = true }

-- "Inversion turns a bit over": b, turned over where the first is true
abbrev pub invert_if : Bool → Bool → Bool
invert_if false b = b
invert_if true b = not b

-- "Exclusive-or of a signal with a bool": "true flips bit 0"
abbrev pub xor_s : Signal → Bool → Signal
xor_s s b = record { node = s.node; inv = invert_if b s.inv }

-- the signal inverted
abbrev pub invert : Signal → Signal
invert s = xor_s s true

-- whether the node is a constant
abbrev pub const_node : Node → Bool
const_node Const = true
const_node (Input i) = false
const_node (Var g) = false

-- whether the signal is the constant zero
abbrev pub is_zero_s : Signal → Bool
is_zero_s s = const_node s.node && not s.inv

-- whether it is the constant one
abbrev pub is_one_s : Signal → Bool
is_one_s s = const_node s.node && s.inv

-- the node with gate g renumbered π g
abbrev pub remap_node : (ℕ → ℕ) → Node → Node
remap_node π Const = Const
remap_node π (Input i) = Input i
remap_node π (Var g) = Var (π g)

-- the signal with its gate renumbered and its inversion kept: what `remap_order` does
abbrev pub remap : (ℕ → ℕ) → Signal → Signal
remap π s = record { node = remap_node π s.node; inv = s.inv }
