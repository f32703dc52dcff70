-- The code's `Gate` with its pins, as the data `Gate` (document 01: "a Gate enum whose Binary, Ternary and Nary cases each hold a
-- type enum beside signals or a pin run"). Assumes nothing: these are definitions.
use Rattle.std.specs.Prelude.{Bool, true, false, ◌&&◌, cond, List, [], ◌∷◌, map, ℕ, ◌+◌, eqb, leb, length, get_or, take, drop, Some, None}
use Rattle.std.proofs.Math.Option.{Option, none, some}
use Rattle.signal.specs.declared.Signal as code
use Rattle.signal.specs.Cell.{sig_of}
use Rattle.gates.specs.Gate as data-gate
use Rattle.gates.specs.Gate.{Comb, Dff}
use Rattle.gates.specs.Between.Forms.{binary_form, ternary_form, nary_form, kind_takes, kind_starts}
use Rattle.gates.specs.declared.PinRun.{PinRun}
use Rattle.gates.specs.declared.Gate.{Gate}
use Rattle.gates.specs.declared.Gate.TheVariants as G
use Rattle.gates.specs.declared.Kind.{Kind}
use Rattle.gates.specs.declared.Kind.TheVariants as K
use Rattle.std.specs.declared.option.Option as std-option

-- the pins of a run
abbrev pub run_of : PinRun → List ℕ → List ℕ
run_of r pins = take r.count (drop r.first pins)

-- a `Gate`'s run ends within these pin cells; only a Nary gate has a run
abbrev pub run_within : Gate → List ℕ → Bool
run_within (G.Binary t a b) pins = true
run_within (G.Ternary t a b c) pins = true
run_within (G.Nary t r) pins = leb (r.first + r.count) (length pins)
run_within (G.Buf a) pins = true
run_within (G.Dff d e r v) pins = true

-- the gate that a `Gate` stands for beside these pin cells
abbrev pub gate_in : Gate → List ℕ → data-gate.Gate
gate_in (G.Binary t a b) pins = Comb (binary_form t) (sig_of a.a ∷ sig_of b.a ∷ [])
gate_in (G.Ternary t a b c) pins = Comb (ternary_form t) (sig_of a.a ∷ sig_of b.a ∷ sig_of c.a ∷ [])
gate_in (G.Nary t r) pins = Comb (nary_form t) (map sig_of (run_of r pins))
gate_in (G.Buf a) pins = Comb data-gate.Buf (sig_of a.a ∷ [])
gate_in (G.Dff d e r v) pins = Dff (record { data_in = sig_of d.a; enable = sig_of e.a; reset = sig_of r.a; start = v })

-- the pin cells of a `Gate`: the cells of its signals, or its run
abbrev pub pins_in : Gate → List ℕ → List ℕ
pins_in (G.Binary t a b) pins = a.a ∷ b.a ∷ []
pins_in (G.Ternary t a b c) pins = a.a ∷ b.a ∷ c.a ∷ []
pins_in (G.Nary t r) pins = run_of r pins
pins_in (G.Buf a) pins = a.a ∷ []
pins_in (G.Dff d e r v) pins = d.a ∷ e.a ∷ r.a ∷ []

-- how many pins a `Gate` has
abbrev pub pin_count : Gate → ℕ
pin_count (G.Binary t a b) = 2
pin_count (G.Ternary t a b c) = 3
pin_count (G.Nary t r) = r.count
pin_count (G.Buf a) = 1
pin_count (G.Dff d e r v) = 3

-- a `Gate`'s start value
abbrev pub start_in : Gate → Bool
start_in (G.Binary t a b) = false
start_in (G.Ternary t a b c) = false
start_in (G.Nary t r) = false
start_in (G.Buf a) = false
start_in (G.Dff d e r v) = v

-- the gate that was decoded, if one was
abbrev pub decoded_in : std-option.Option Gate → List ℕ → Option data-gate.Gate
decoded_in (Some g) pins = some (gate_in g pins)
decoded_in None pins = none

-- a gate's kind
abbrev pub kind_of_gate : Gate → Kind
kind_of_gate (G.Binary t a b) = K.Binary t
kind_of_gate (G.Ternary t a b c) = K.Ternary t
kind_of_gate (G.Nary t r) = K.Nary t
kind_of_gate (G.Buf a) = K.Buf
kind_of_gate (G.Dff d e r v) = K.Dff

-- whether a kind is combinational: "Every form but Dff"
abbrev pub kind_comb : Kind → Bool
kind_comb (K.Binary t) = true
kind_comb (K.Ternary t) = true
kind_comb (K.Nary t) = true
kind_comb K.Buf = true
kind_comb K.Dff = false
kind_comb K.Unknown = false

-- the signal in a cell
abbrev pub cell_signal : List ℕ → ℕ → code.Signal
cell_signal ps i = record { a = get_or ps i 0 }

-- a kind with its start value and the pins of its run, which starts at cell i, as a `Gate` that has as many
abbrev pub kind_gate : Kind → ℕ → ℕ → List ℕ → std-option.Option Gate
kind_gate (K.Binary t) i v ps = Some (G.Binary t (cell_signal ps 0) (cell_signal ps 1))
kind_gate (K.Ternary t) i v ps = Some (G.Ternary t (cell_signal ps 0) (cell_signal ps 1) (cell_signal ps 2))
kind_gate (K.Nary t) i v ps = Some (G.Nary t (record { first = i; count = length ps }))
kind_gate K.Buf i v ps = Some (G.Buf (cell_signal ps 0))
kind_gate K.Dff i v ps = Some (G.Dff (cell_signal ps 0) (cell_signal ps 1) (cell_signal ps 2) (eqb v 1))
kind_gate K.Unknown i v ps = None

-- the same where the kind can have so many pins and this start value, else nothing
unfoldable pub with_pins : Kind → ℕ → ℕ → List ℕ → std-option.Option Gate
with_pins k i v ps = cond (kind_takes k (length ps) && kind_starts k v) (kind_gate k i v ps) None
