-- The signal of a name: "a search through earlier definitions" (document 01, src/io/blif.rs: `build_name_to_sig`). Assumes nothing:
-- these are definitions.
use Rattle.std.specs.Prelude.{map, ℕ}
use Rattle.std.proofs.Math.Option.{Option, none, some}
use Rattle.lists.specs.Lists.{Bytes, same, find}
use Rattle.signal.specs.Signal.{Input, Var, Signal, plain, zero_s}
use Rattle.blif_meaning.specs.Model.{Model, target}

-- an input's place, else a block's; a name that is not defined, which reading refuses, would be zero
abbrev pub place_signal : Option ℕ → Option ℕ → Signal
place_signal (some i) r = plain (Input i)
place_signal none (some j) = plain (Var j)
place_signal none none = zero_s

-- the signal of a name: the inputs count from 0, and so do the latches and covers in text order
abbrev pub lookup : Model Bytes → Bytes → Signal
lookup m x = place_signal (find (same x) m.inputs) (find (same x) (map target m.blocks))
