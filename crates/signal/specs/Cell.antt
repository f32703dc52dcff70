-- A signal as a 32-bit cell (document 01, src/network/signal.rs): "bit 0 is the inversion and bit 31 marks an input".
-- Assumes nothing: these are definitions.
use Rattle.std.specs.Prelude.{ℕ, ◌+◌, ◌-◌, ◌*◌, ◌/◌, ◌%◌, ◌^◌, Bool, true, false, cond, ◌==◌, nat_lt}
use Rattle.signal.specs.Signal.{Node, Const, Input, Var, Signal}

-- a bit as a number
abbrev pub bit_of : Bool → ℕ
bit_of false = 0
bit_of true = 1

-- "Constant zero is 0", "Gate v is 2 × (v + 1)", "Input v is 2^32 − 2 × (v + 1)"
abbrev pub node_cell : Node → ℕ
node_cell Const = 0
node_cell (Var v) = 2 * (v + 1)
node_cell (Input v) = 2 ^ 32 - 2 * (v + 1)

-- the cell of a signal: inversion is bit 0
abbrev pub sig_cell : Signal → ℕ
sig_cell s = node_cell s.node + bit_of s.inv

-- the node of a cell: a constant below 2, an input from 2^31 on, else a gate
abbrev pub node_of : ℕ → Node
node_of c = cond (nat_lt c 2) Const (cond (nat_lt c (2 ^ 31)) (Var (c / 2 - 1)) (Input (2 ^ 31 - 1 - c / 2)))

-- the signal of a cell
abbrev pub sig_of : ℕ → Signal
sig_of c = record { node = node_of c; inv = (c % 2 == 1) }
