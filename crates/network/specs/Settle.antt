-- The bits of a clock and the outputs of a run, worked out (document 01, "A clock": "without a loop just one choice fits").
-- That they are the ones that fit is proved in `proofs/OneChoice.antt`. Assumes nothing: these are definitions.
use Rattle.std.specs.Prelude.{◌≡◌, Bool, false, List, [], ◌∷◌, map, ◌↔◌, ℕ, zero, suc, length}
use Rattle.std.proofs.Math.ListN.{get_elem?}
use Rattle.lists.specs.Lists.{optional}
use Rattle.signal.specs.Signal.{Signal}
use Rattle.network.specs.Net.{Net}
use Rattle.network.specs.Clock.{sig_bit, gate_bit, next_bit, start_bits, NetRuns}

-- the bits after k rounds, in each of which every gate is worked out from the round before
abbrev pub round : Net → List Bool → (ℕ → Bool) → ℕ → ℕ → Bool
round net row held zero g = false
round net row held (suc k) g = optional (gate_bit (sig_bit row (round net row held k)) (held g)) false (get_elem? net.gates g)

-- the bits of a clock: one round more than there are gates
abbrev pub settle : Net → List Bool → (ℕ → Bool) → ℕ → Bool
settle net row held = round net row held (suc (length net.gates))

-- the bits held next
abbrev pub next_of : Net → (Signal → Bool) → (ℕ → Bool) → ℕ → Bool
next_of net σ held g = optional (next_bit σ (held g)) (held g) (get_elem? net.gates g)

-- a row of outputs for each row of inputs, from any held bits
abbrev pub run_from : Net → (ℕ → Bool) → List (List Bool) → List (List Bool)
run_from net held [] = []
run_from net held (row ∷ rows) =
    let σ : Signal → Bool = sig_bit row (settle net row held) in
    map σ net.outputs ∷ run_from net (next_of net σ held) rows

-- the same from the start values
abbrev pub run : Net → List (List Bool) → List (List Bool)
run net rows = run_from net (start_bits net) rows

-- for every list of rows there is just one list of outputs that the clocks allow from the start values: `run`'s
abbrev pub OneRun : Net → Type 0
OneRun net = (rows outs : List (List Bool)) → NetRuns net rows outs ↔ (outs ≡ run net rows)

-- as many inputs and outputs, and for every list of input rows, the empty one too, equal outputs at every clock, each network from its
-- start values
pub record SameOutputs (a b : Net) : Type 0 where
  -- as many inputs
  pub inputs : a.inputs ≡ b.inputs
  -- as many outputs
  pub outputs : length a.outputs ≡ length b.outputs
  -- for every list of rows the same lists of outputs
  pub runs : (rows : List (List Bool)) → run a rows ≡ run b rows
  -- which are the only ones of the one network
  pub one_left : OneRun a
  -- and of the other
  pub one_right : OneRun b
