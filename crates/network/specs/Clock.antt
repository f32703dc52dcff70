-- A clock and a run (document 01, "A clock"). Assumes nothing: these are definitions.
use Rattle.std.specs.Prelude.{◌≡◌, Bool, false, cond, List, [], ◌∷◌, map, ℕ, get_or}
use Rattle.std.proofs.Math.ListN.{get_elem?}
use Rattle.lists.specs.Lists.{optional}
use Rattle.signal.specs.Signal.{Node, Const, Input, Var, Signal, invert_if}
use Rattle.gates.specs.Gate.{FlipFlop, Gate, Comb, Dff, start_bit, form_bit}
use Rattle.network.specs.Net.{Net, GateIs}

-- the bit of a node: "a row, a bit for each input in order", and the gates' bits
abbrev pub node_bit : List Bool → (ℕ → Bool) → Node → Bool
node_bit row bits Const = false
node_bit row bits (Input i) = get_or row i false
node_bit row bits (Var g) = bits g

-- "Inversion turns a bit over"
abbrev pub sig_bit : List Bool → (ℕ → Bool) → Signal → Bool
sig_bit row bits s = invert_if s.inv (node_bit row bits s.node)

-- "A flip-flop's bit is its held one, a combinational gate's what its form makes of its inputs' bits"
abbrev pub gate_bit : (Signal → Bool) → Bool → Gate → Bool
gate_bit σ h (Comb f ps) = form_bit f (map σ ps)
gate_bit σ h (Dff ff) = h

-- a choice of bits fits the row and the held bits: each gate has the bit that it should
abbrev pub Fits : Net → List Bool → (ℕ → Bool) → (ℕ → Bool) → Type 0
Fits net row held bits = (g : ℕ) (x : Gate) → GateIs net g x → bits g ≡ gate_bit (sig_bit row bits) (held g) x

-- "a reset of one gives zero, else an enable of one takes the data, else the value is held"
abbrev pub step_bit : (Signal → Bool) → Bool → FlipFlop → Bool
step_bit σ h ff = cond (σ ff.reset) false (cond (σ ff.enable) (σ ff.data_in) h)

-- "then all flip-flops step together"; "nothing else changes a held bit"
abbrev pub next_bit : (Signal → Bool) → Bool → Gate → Bool
next_bit σ h (Comb f ps) = h
next_bit σ h (Dff ff) = step_bit σ h ff

-- one clock, from held bits and a row to "the outputs' bits in order" and the bits held next
pub record Clock (net : Net) (held : ℕ → Bool) (row out : List Bool) (next : ℕ → Bool) : Type 0 where
  -- the gates' bits at this clock
  pub bits : ℕ → Bool
  -- which fit
  pub fits : Fits net row held bits
  -- "The clock answers the outputs' bits in order"
  pub answers : out ≡ map (sig_bit row bits) net.outputs
  -- "all flip-flops step together"
  pub steps : (g : ℕ) (x : Gate) → GateIs net g x → next g ≡ next_bit (sig_bit row bits) (held g) x

-- a run of anything that ticks: "The next clock gets the next row and what this one left"
pub data Runs {S : Type 0} (Tick : S → List Bool → List Bool → S → Type 0) : S → List (List Bool) → List (List Bool) → Type 0 where
  done : {s : S} → Runs Tick s [] []
  tick : {s t : S} {row out : List Bool} {rows outs : List (List Bool)}
      → Tick s row out t → Runs Tick t rows outs → Runs Tick s (row ∷ rows) (out ∷ outs)

-- the bits held before the first clock: "Runs and the equal-outputs rule now begin at the start values" (document 02, CR 4)
abbrev pub start_bits : Net → ℕ → Bool
start_bits net g = optional start_bit false (get_elem? net.gates g)

-- the outputs that the network gives for these rows from its start values, a row for each clock
abbrev pub NetRuns : Net → List (List Bool) → List (List Bool) → Type 0
NetRuns net rows outs = Runs (Clock net) (start_bits net) rows outs
