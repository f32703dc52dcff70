-- The sizes of a network (document 01, "Sizes, and the reading and writing operations"). Assumes nothing: these are definitions.
use Rattle.std.specs.Prelude.{Bool, ◌||◌, ℕ, ltb}

-- "256 inputs"
abbrev pub max_inputs : ℕ
max_inputs = 256

-- "256 outputs"
abbrev pub max_outputs : ℕ
max_outputs = 256

-- "1,024 gates"
abbrev pub max_gates : ℕ
max_gates = 1024

-- "16,384 pins"
abbrev pub max_pins : ℕ
max_pins = 16384

-- with so many inputs, outputs, gates and pins a size is passed: "Each limit is inclusive"
abbrev pub over_sizes : ℕ → ℕ → ℕ → ℕ → Bool
over_sizes i o g p = ltb max_inputs i || ltb max_outputs o || ltb max_gates g || ltb max_pins p
