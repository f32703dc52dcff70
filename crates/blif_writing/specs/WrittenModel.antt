-- The model that is written for a network (document 01, src/io/blif.rs and src/io/utils.rs). `name` is the name of a signal.
-- Assumes nothing: these are definitions.
use Rattle.std.specs.Prelude.{Bool, true, false, not, ◌&&◌, ◌||◌, cond, List, [], ◌∷◌, ◌++◌, map, ℕ, zero, suc, eqb, ltb, length, replicate}
use Rattle.std.proofs.Math.Option.{Option, none, some}
use Rattle.lists.specs.Lists.{range, filter, elem, any}
use Rattle.signal.specs.Signal.{Node, Const, Input, Var, Signal, plain, zero_s, one_s, invert, const_node}
use Rattle.gates.specs.Gate.{odd, Form, And2, Xor2, And3, Xor3, Maj3, Mux3, AndN, OrN, NandN, NorN, XorN, XnorN, Buf, FlipFlop, Gate, Comb, Dff, pins}
use Rattle.gates.specs.Forms.{form_number, form_cell}
use Rattle.network.specs.Net.{Net}
use Rattle.blif_meaning.specs.Model.{Col, C0, C1, Dash, Line, Init, I0, I1, LatchDef, Block, Latch, Cover, Model}

-- ---- cover lines

-- a row with its output
abbrev pub cover_row : Bool → List Col → Line
cover_row o cs = record { cols = cs; out = o }

-- each vector behind a zero and behind a one
abbrev pub doubled : List (List Bool) → List (List Bool)
doubled [] = []
doubled (v ∷ vs) = (false ∷ v) ∷ (true ∷ v) ∷ doubled vs

-- the vectors of n bits in rising order of the number whose bit i stands at place i: "masks in rising order, column i being bit i"
abbrev pub masks : ℕ → List (List Bool)
masks zero = [] ∷ []
masks (suc n) = doubled (masks n)

-- the column of a bit
abbrev pub col_of : Bool → Col
col_of true = C1
col_of false = C0

-- "those with an odd or even number of ones, output 1": the masks at which f is one
abbrev pub minterms : (List Bool → Bool) → List (List Bool) → List Line
minterms holds [] = []
minterms holds (v ∷ vs) = cond (holds v) (cover_row true (map col_of v) ∷ minterms holds vs) (minterms holds vs)

-- "an .. even number of ones"
abbrev pub even : List Bool → Bool
even v = not (odd v)

-- the cover lines of a gate of this form with n inputs: "The cover lines of Binary and Ternary gates are a fixed table: And 11; Xor 10, 01;
-- And 111; Xor 111, 100, 010, 001; Mux 11-, 0-1; Maj 11-, -11, 1-1; all with output 1. Nary And and Nand have one line of ones (output 1,
-- 0), Or and Nor one line of zeros (0, 1)"; Buf `1 1`
abbrev pub lines_of : Form → ℕ → List Line
lines_of And2 n = cover_row true (C1 ∷ C1 ∷ []) ∷ []
lines_of Xor2 n = cover_row true (C1 ∷ C0 ∷ []) ∷ cover_row true (C0 ∷ C1 ∷ []) ∷ []
lines_of And3 n = cover_row true (C1 ∷ C1 ∷ C1 ∷ []) ∷ []
lines_of Xor3 n = cover_row true (C1 ∷ C1 ∷ C1 ∷ []) ∷ cover_row true (C1 ∷ C0 ∷ C0 ∷ []) ∷ cover_row true (C0 ∷ C1 ∷ C0 ∷ []) ∷ cover_row true (C0 ∷ C0 ∷ C1 ∷ []) ∷ []
lines_of Maj3 n = cover_row true (C1 ∷ C1 ∷ Dash ∷ []) ∷ cover_row true (Dash ∷ C1 ∷ C1 ∷ []) ∷ cover_row true (C1 ∷ Dash ∷ C1 ∷ []) ∷ []
lines_of Mux3 n = cover_row true (C1 ∷ C1 ∷ Dash ∷ []) ∷ cover_row true (C0 ∷ Dash ∷ C1 ∷ []) ∷ []
lines_of AndN n = cover_row true (replicate n C1) ∷ []
lines_of OrN n = cover_row false (replicate n C0) ∷ []
lines_of NandN n = cover_row false (replicate n C1) ∷ []
lines_of NorN n = cover_row true (replicate n C0) ∷ []
lines_of XorN n = minterms odd (masks n)
lines_of XnorN n = minterms even (masks n)
lines_of Buf n = cover_row true (C1 ∷ []) ∷ []

-- ---- which signals need an inverter

-- whether two nodes are the same
abbrev pub same_node : Node → Node → Bool
same_node Const Const = true
same_node Const (Input j) = false
same_node Const (Var j) = false
same_node (Input i) Const = false
same_node (Input i) (Input j) = eqb i j
same_node (Input i) (Var j) = false
same_node (Var i) Const = false
same_node (Var i) (Input j) = false
same_node (Var i) (Var j) = eqb i j

-- the node is used inverted among these signals
abbrev pub used_among : Node → List Signal → Bool
used_among node ss = any (λ s. s.inv && same_node s.node node) ss

-- the signals of a gate that are written by name, inverted or not: "inputs of every gate but Buf"
abbrev pub named : Gate → List Signal
named x = cond (eqb (form_cell x) (form_number Buf)) [] (pins x)

-- the node is used inverted by these gates
abbrev pub used_in : Node → List Gate → Bool
used_in node xs = any (λ x. used_among node (named x)) xs

-- the node needs an inverter
abbrev pub inverted : Net → Node → Bool
inverted net node = used_among node net.outputs || used_in node net.gates

-- n - 1, .., 1, 0
abbrev pub down_to : ℕ → List ℕ
down_to zero = []
down_to (suc n) = n ∷ down_to n

-- "Inverted non-constant signals at outputs and at inputs of every gate but Buf get one inverter each, in rising signal number: gates
-- upwards, then inputs downwards"
abbrev pub inverters : Net → List Node
inverters net = filter (inverted net) (map Var (range 0 (length net.gates)) ++ map Input (down_to net.inputs))

-- the signal is the constant one, or the constant zero
abbrev pub is_const : Bool → Signal → Bool
is_const b s = const_node s.node && cond b s.inv (not s.inv)

-- ---- the model

-- the initial state of a start value
abbrev pub init_from : Bool → Init
init_from false = I0
init_from true = I1

-- "its signal without inversion"
abbrev pub bare : Signal → Signal
bare s = plain s.node

module _ {Name : Type 0} (name : Signal → Name) where
  -- the name of gate g
  abbrev pub gate_name : ℕ → Name
  gate_name g = name (plain (Var g))

  -- "Buf names its signal without inversion (one becomes `gnd`), then `1 1` or `0 1`"
  abbrev pub buf_block : ℕ → List Signal → Block Name
  buf_block g ps = Cover (map (λ (s : Signal). name (bare s)) ps) (gate_name g) (cover_row true (map (λ (s : Signal). col_of (not s.inv)) ps) ∷ [])

  -- "a gate is `.names`, its inputs' names and `xN`", and its form's lines
  abbrev pub form_block : ℕ → Form → List Signal → Block Name
  form_block g f ps = Cover (map name ps) (gate_name g) (lines_of f (length ps))

  -- the cover of a combinational gate
  abbrev pub comb_block : ℕ → Form → List Signal → Block Name
  comb_block g f ps = cond (eqb (form_number f) (form_number Buf)) (buf_block g ps) (form_block g f ps)

  -- the name, unless the signal is that constant
  abbrev pub unless : Bool → Signal → Option Name
  unless b s = cond (is_const b s) none (some (name s))

  -- the latch of flip-flop g: "E=e unless enable is one", "R=r unless reset is zero", and its start value, "written by the writer in place of
  -- the fixed 0" (document 02, CR 4)
  abbrev pub latch_of : ℕ → FlipFlop → LatchDef Name
  latch_of g ff = record {
    input = name ff.data_in;
    output = gate_name g;
    enable = unless true ff.enable;
    reset = unless false ff.reset;
    init = init_from ff.start;
  }

  -- "latches", in gate order
  abbrev pub latch_blocks : ℕ → List Gate → List (Block Name)
  latch_blocks g [] = []
  latch_blocks g (Comb f ps ∷ xs) = latch_blocks (suc g) xs
  latch_blocks g (Dff ff ∷ xs) = Latch (latch_of g ff) ∷ latch_blocks (suc g) xs

  -- "gates", in gate order
  abbrev pub comb_blocks : ℕ → List Gate → List (Block Name)
  comb_blocks g [] = []
  comb_blocks g (Comb f ps ∷ xs) = comb_block g f ps ∷ comb_blocks (suc g) xs
  comb_blocks g (Dff ff ∷ xs) = comb_blocks (suc g) xs

  -- "an inverter is `.names s s_n` and `0 1`"
  abbrev pub inverter_block : Node → Block Name
  inverter_block node = Cover (name (plain node) ∷ []) (name (invert (plain node))) (cover_row true (C0 ∷ []) ∷ [])

  -- "`vdd`, `gnd`"
  abbrev pub const_blocks : List (Block Name)
  const_blocks = Cover [] (name one_s) (cover_row true [] ∷ []) ∷ Cover [] (name zero_s) [] ∷ []

  -- the names of k inputs from input i on
  abbrev pub input_names : ℕ → ℕ → List Name
  input_names i k = map (λ (j : ℕ). name (plain (Input j))) (range i k)

  -- "inputs, outputs, latches, gates, inverters, `vdd`, `gnd`"
  abbrev pub written : Net → Model Name
  written net = record {
    inputs = input_names 0 net.inputs;
    outputs = map name net.outputs;
    blocks = latch_blocks 0 net.gates ++ (comb_blocks 0 net.gates ++ (map inverter_block (inverters net) ++ const_blocks));
  }

-- ---- refusal 21

-- the form of this number is "an Xor or Xnor of the Nary form"
abbrev pub exclusive : ℕ → Bool
exclusive form = elem form (form_number XorN ∷ form_number XnorN ∷ [])

-- "over 12 inputs"
abbrev pub max_exclusive : ℕ
max_exclusive = 12

-- "an Xor or Xnor of the Nary form has over 12 inputs"
abbrev pub too_wide : ℕ → ℕ → Bool
too_wide form n = exclusive form && ltb max_exclusive n

-- the gate is "an Xor or Xnor of the Nary form" with "over 12 inputs"
abbrev pub wide : Gate → Bool
wide x = too_wide (form_cell x) (length (pins x))
