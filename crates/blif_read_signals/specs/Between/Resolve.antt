-- Names that are used, each by its signal: refusal 11, and the gates first placed (document 01, src/io/blif.rs: `build_network`).
-- Assumes nothing: these are definitions.
use Rattle.std.specs.Prelude.{◌≡◌, Bool, true, not, cond, ℕ, eqb, Result, Ok, Err}
use mathlib.Core.List.{List, map, flat_map}
use Rattle.lists.specs.Lists.{Bytes, all, overwrite, sum_of}
use Rattle.refusals.specs.declared.Refusal.TheVariants as refusal
use Rattle.signal.specs.Signal.{Signal}
use Rattle.signal.specs.Cell.{sig_cell}
use Rattle.blif_text.specs.Decls.{Def, used_names}
use Rattle.blif_reading.specs.Between.Working.{GatesIn, placed, placed_count}
use Rattle.refusals.specs.declared.Refusal.{Refusal}

-- a signal was found: zero is no name's
abbrev pub is_found : ℕ → Bool
is_found s = not (eqb 0 s)

-- the signals of names were laid over cells, or one was not found
pub record Resolved (signals cells cells' : List ℕ) (r : Bool) : Type 0 where
  -- whether all were found
  pub found : r ≡ all is_found signals
  -- they stand in the cells
  pub laid : r ≡ true → cells' ≡ overwrite signals cells

-- sig is the cell of each name's signal, where it is found
abbrev pub Signals : (Bytes → ℕ) → (Bytes → Signal) → Type 0
Signals sig signal_of = (x : Bytes) → is_found (sig x) ≡ true → sig x ≡ sig_cell (signal_of x)

-- whether the names that definitions use were found
abbrev pub all_found : (Bytes → ℕ) → List Def → Bool
all_found sig ds = all is_found (map sig (flat_map used_names ds))

-- the pins' end; or "11 when an output, latch input or cover input is undefined"
abbrev pub placed_to : Bool → ℕ → Result ℕ Refusal
placed_to found end = cond found (Ok end) (Err refusal.Undefined)

-- the gates of definitions were placed in the working cells, or a name was not found
pub record PlacedBy (sig : Bytes → ℕ) (ds : List Def) (gates pins_in : List ℕ) (r : Result ℕ Refusal) : Type 0 where
  -- the pins are counted
  pub counted : r ≡ placed_to (all_found sig ds) (sum_of placed_count ds)
  -- the gates stand in the cells
  pub gates-in : all_found sig ds ≡ true → (signal_of : Bytes → Signal) → Signals sig signal_of → GatesIn gates pins_in (sum_of placed_count ds) (map (placed signal_of) ds)
