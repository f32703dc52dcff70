-- Beside specs/Cell: what contracts between the crates and proofs use, and no promise reaches.
-- Assumes nothing: these are definitions.
use Rattle.std.specs.Prelude.{ℕ, ◌+◌, ◌-◌, ◌*◌, ◌/◌, ◌%◌, ◌^◌, cond, ◌&&◌, List, length, nat_lt, slice_index}
use Rattle.signal.specs.Signal.{remap}
use Rattle.signal.specs.Between.Signal.{gate_node}
use Rattle.signal.specs.Cell.{sig_cell, node_of, sig_of}

-- "Gate v is 2 × (v + 1)" in 32 bits, for every 32-bit v
abbrev pub gate_cell : ℕ → ℕ
gate_cell v = 2 * (v + 1) % 2 ^ 32

-- "Input v is 2^32 − 2 × (v + 1)" in 32 bits, for every 32-bit v
abbrev pub input_cell : ℕ → ℕ
input_cell v = (2 ^ 33 - 2 * (v + 1)) % 2 ^ 32

-- the number of a gate's cell: one less than its half, in 32 bits
abbrev pub gate_number : ℕ → ℕ
gate_number c = (c / 2 + (2 ^ 32 - 1)) % 2 ^ 32

-- the number of an input's cell
abbrev pub input_number : ℕ → ℕ
input_number c = 2 ^ 31 - 1 - c / 2

-- the cell with its gate renumbered: t holds each gate's new number. What is no gate, or no gate of t, stays
unfoldable pub remap_cell : List ℕ → ℕ → ℕ
remap_cell t c = cond (gate_node (node_of c) && nat_lt (gate_number c) (length t)) (sig_cell (remap (λ v. slice_index t v) (sig_of c))) c
