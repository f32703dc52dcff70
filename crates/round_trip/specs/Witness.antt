-- A network that meets demand 3's conditions, with a flip-flop that starts at one, an Xor, a Mux and an inverted output. Assumes nothing: these are
-- definitions.
use Rattle.std.specs.Prelude.{true, ◌*◌, [], ◌∷◌, map}
use Rattle.signal.specs.Signal.{Input, Var, plain, zero_s, one_s, invert}
use Rattle.signal.specs.Cell.{sig_cell}
use Rattle.gates.specs.Gate.{Mux3, XorN, FlipFlop, Comb, Dff}
use Rattle.network.specs.Net.{Net}
use Rattle.network.specs.Cells.{Lent, lent, counts_of}
use Rattle.network.specs.Sizes.{max_gates}
use Rattle.network.specs.Record.{gate_width, gate_cells, pin_cells}
use Rattle.blif_read.specs.Into.{Lengths, lengths}

-- x0 starts at one and takes x1 at each clock
abbrev pub flop : FlipFlop
flop = record { data_in = plain (Var 1); enable = one_s; reset = zero_s; start = true }

-- x1 = i0 xor x0; x2 = x0 ? i1 : x1; the output is x2 inverted
abbrev pub net : Net
net = record {
  inputs = 2;
  gates = Dff flop ∷ Comb XorN (plain (Input 0) ∷ plain (Var 0) ∷ []) ∷ Comb Mux3 (plain (Var 0) ∷ plain (Input 1) ∷ plain (Var 1) ∷ []) ∷ [];
  outputs = invert (plain (Var 2)) ∷ [];
}

-- its cells
abbrev pub witness : Lent
witness = lent (counts_of net) (gate_cells 0 net.gates) (pin_cells net.gates) (map sig_cell net.outputs)

-- as many cells as refusal 1 asks for
abbrev pub cells : Lengths
cells = lengths (max_gates * gate_width) 16384 256 (max_gates * gate_width) 16384
