-- "A mark per signal, walked in order": which signals need an inverter, and the inverters' text (document 01, src/io/utils.rs).
-- Assumes nothing: these are definitions.
use Rattle.std.specs.Prelude.{◌≡◌, Bool, true, false, cond, List, [], ◌∷◌, ◌++◌, ℕ, zero, suc, eqb, get_or, set}
use Rattle.std.proofs.Math.Option.{Option, none, some}
use Rattle.lists.specs.Lists.{Bytes}
use Rattle.signal.specs.Signal.{Node, Const, Input, Var, Signal}
use Rattle.gates.specs.Gate.{Gate}
use Rattle.blif_writing.specs.Names.{name_bytes}
use Rattle.blif_writing.specs.WrittenModel.{named, inverter_block}
use Rattle.blif_write_gates.specs.Between.Blocks.{block_text}

-- the number of a gate
abbrev pub gate_of : Node → Option ℕ
gate_of Const = none
gate_of (Input i) = none
gate_of (Var g) = some g

-- the number of an input
abbrev pub input_of : Node → Option ℕ
input_of Const = none
input_of (Input i) = some i
input_of (Var g) = none

-- the marks after a signal: one more is set where the signal is inverted and has a number
abbrev pub marked : Bool → Option ℕ → List ℕ → List ℕ
marked false n m = m
marked true none m = m
marked true (some i) m = set m i 1

-- the marks after signals, one after the other
abbrev pub mark_all : (Node → Option ℕ) → List Signal → List ℕ → List ℕ
mark_all pick [] m = m
mark_all pick (s ∷ ss) m = mark_all pick ss (marked s.inv (pick s.node) m)

-- the marks of gates and of inputs after signals: "Inverted non-constant signals"
pub record SignalsMarked (ss : List Signal) (gates inputs gates' inputs' : List ℕ) : Type 0 where
  -- those of gates
  pub gated : gates' ≡ mark_all gate_of ss gates
  -- those of inputs
  pub input : inputs' ≡ mark_all input_of ss inputs

-- the signals of gates that are written by name: "inputs of every gate but Buf"
abbrev pub named_in : List Gate → List Signal
named_in [] = []
named_in (x ∷ xs) = named x ++ named_in xs

-- the inverter of a node that is marked, and nothing where the mark is zero
unfoldable pub inverter_at : ℕ → Node → Bytes
inverter_at mark n = cond (eqb mark 0) [] (block_text (inverter_block name_bytes n))

-- the inverters of k gates from gate g on: "gates upwards"
abbrev pub gate_inverters : List ℕ → ℕ → ℕ → Bytes
gate_inverters marks g zero = []
gate_inverters marks g (suc k) = inverter_at (get_or marks g 0) (Var g) ++ gate_inverters marks (suc g) k

-- the inverters of n inputs: "then inputs downwards"
abbrev pub input_inverters : List ℕ → ℕ → Bytes
input_inverters marks zero = []
input_inverters marks (suc n) = inverter_at (get_or marks n 0) (Input n) ++ input_inverters marks n
