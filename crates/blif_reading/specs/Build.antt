-- The gates built for a model's latches and covers, before the sort (document 01, src/io/blif.rs). `signal_of` is the signal of a name.
-- Assumes nothing: these are definitions.
use Rattle.std.specs.Prelude.{Bool, true, false, cond, List, [], ◌∷◌, ◌++◌, map, ℕ, suc, ◌+◌, length}
use Rattle.lists.specs.Lists.{optional, range}
use Rattle.signal.specs.Signal.{Var, Signal, plain, zero_s, one_s, invert}
use Rattle.gates.specs.Gate.{OrN, AndN, NandN, Buf, Gate, Comb, Dff}
use Rattle.network.specs.Net.{Net}
use Rattle.blif_meaning.specs.Model.{Col, C0, C1, Dash, Line, init_bit, LatchDef, Block, Latch, Cover, Model}

-- the literals of a row: 0 is the inverted input, 1 the input, "A dash adds no literal"
abbrev pub literals : List Col → List Signal → List Signal
literals [] ss = []
literals (c ∷ cs) [] = []
literals (C0 ∷ cs) (s ∷ ss) = invert s ∷ literals cs ss
literals (C1 ∷ cs) (s ∷ ss) = s ∷ literals cs ss
literals (Dash ∷ cs) (s ∷ ss) = literals cs ss

-- "A line with output 1 is Nary And of its literals, Buf of a single literal, Buf(one) of none; with output 0 it is Nary Nand, Buf of
-- the inverted literal, Buf(zero)"
abbrev pub literal_gate : Bool → List Signal → Gate
literal_gate true [] = Comb Buf (one_s ∷ [])
literal_gate true (s ∷ []) = Comb Buf (s ∷ [])
literal_gate true (s ∷ s' ∷ ss) = Comb AndN (s ∷ s' ∷ ss)
literal_gate false [] = Comb Buf (zero_s ∷ [])
literal_gate false (s ∷ []) = Comb Buf (invert s ∷ [])
literal_gate false (s ∷ s' ∷ ss) = Comb NandN (s ∷ s' ∷ ss)

-- the gate of a row over these inputs
abbrev pub line_gate : List Signal → Line → Gate
line_gate ss l = literal_gate l.out (literals l.cols ss)

-- gates k, k + 1, .. as signals, n of them
abbrev pub gate_run : ℕ → ℕ → List Signal
gate_run k n = map (λ g. plain (Var g)) (range k n)

-- the cover's own gate: "A cover without lines is Buf(zero)"; of two or more, whose gates start at number k, "the cover's gate joins
-- them: Or for 1"; "Two or more lines with output 0 are joined by And"
abbrev pub cover_gate : ℕ → List Signal → List Line → Gate
cover_gate k ss [] = Comb Buf (zero_s ∷ [])
cover_gate k ss (l ∷ []) = line_gate ss l
cover_gate k ss (l ∷ l' ∷ ls) = Comb (cond l.out OrN AndN) (gate_run k (suc (suc (length ls))))

-- "With two or more lines each is a new gate"
abbrev pub line_gates : List Signal → List Line → List Gate
line_gates ss [] = []
line_gates ss (l ∷ []) = []
line_gates ss (l ∷ l' ∷ ls) = map (line_gate ss) (l ∷ l' ∷ ls)

module _ {Name : Type 0} where
  module _ (signal_of : Name → Signal) where
    -- the gate of a latch: "A latch is Dff(input, one, zero)", where enable and reset are left out, with its start value
    abbrev pub latch_gate : LatchDef Name → Gate
    latch_gate d = Dff (record { data_in = signal_of d.input; enable = optional signal_of one_s d.enable; reset = optional signal_of zero_s d.reset; start = init_bit d.init })

    -- the gate of a block; k is the number of the next gate of a line
    abbrev pub block_gate : ℕ → Block Name → Gate
    block_gate k (Latch d) = latch_gate d
    block_gate k (Cover xs y ls) = cover_gate k (map signal_of xs) ls

    -- the new gates of a block
    abbrev pub new_gates : Block Name → List Gate
    new_gates (Latch d) = []
    new_gates (Cover xs y ls) = line_gates (map signal_of xs) ls

    -- "Each `.latch` and `.names` is a gate in text order"
    abbrev pub block_gates : ℕ → List (Block Name) → List Gate
    block_gates k [] = []
    block_gates k (b ∷ bs) = block_gate k b ∷ block_gates (k + length (new_gates b)) bs

    -- the new gates "at the end of the list, cover by cover"
    abbrev pub all_new_gates : List (Block Name) → List Gate
    all_new_gates [] = []
    all_new_gates (b ∷ bs) = new_gates b ++ all_new_gates bs

    -- the gates as built
    abbrev pub gates_for : List (Block Name) → List Gate
    gates_for bs = block_gates (length bs) bs ++ all_new_gates bs

    -- the network as built
    abbrev pub build : Model Name → Net
    build m =
        record {
          inputs = length m.inputs;
          gates = gates_for m.blocks;
          outputs = map signal_of m.outputs;
        }
