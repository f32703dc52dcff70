-- One gate placed in the working cells (document 01, src/io/blif.rs: `build_network`). Assumes nothing: these are definitions.
use Rattle.std.specs.Prelude.{◌≡◌, true, List, [], ◌∷◌, map, ℕ, ◌+◌, ◌*◌, ◌≤◌, ◌<◌, length, Result}
use Rattle.lists.specs.Lists.{Bytes, all, optional}
use Rattle.lists.specs.Between.Lists.{overwrite_at}
use Rattle.network.specs.Sizes.{max_gates, max_pins}
use Rattle.gates.specs.declared.Gate as code
use Rattle.gates.specs.declared.Gate.TheVariants as G
use Rattle.gates.specs.declared.NaryType.TheVariants as N
use Rattle.network.specs.Record.{gate_width}
use Rattle.network.specs.Between.Record.{hand_record}
use Rattle.blif_meaning.specs.Model.{init_bit, LatchDef}
use Rattle.blif_text.specs.Decls.{Def, latch, cover, cover_ins, used_names}
use Rattle.blif_text.specs.Between.Walk.{Inside}
use Rattle.blif_text.specs.Between.PlacedStatements.{latch_in}
use Rattle.blif_reading.specs.Between.Working.{WorkRoom}
use Rattle.blif_read_signals.specs.Between.Resolve.{is_found, placed_to}
use Rattle.refusals.specs.declared.Refusal.{Refusal}

-- there is room for gate j's record, and for its pins from cell at on
pub record GateRoom (gates pins_in : List ℕ) (j at count : ℕ) : Type 0 where
  -- the working cells
  pub cells : WorkRoom gates pins_in
  -- "1,024 gates"
  pub low : j < max_gates
  -- "16,384 pins"
  pub few : at + count ≤ max_pins

-- the gate x in hand was placed as gate j, with this run of pins from cell at on; or a name that it uses was not found
pub record GatePlaced (sig : Bytes → ℕ) (x : code.Gate) (names : List Bytes) (run : List ℕ) (j at : ℕ) (gates pins_in gates' pins_in' : List ℕ) (r : Result ℕ Refusal) : Type 0 where
  -- the cell behind the run, where all were found
  pub end : r ≡ placed_to (all is_found (map sig names)) (at + length run)
  -- the record
  pub records : all is_found (map sig names) ≡ true → gates' ≡ overwrite_at (j * gate_width) (hand_record at x) gates
  -- the run
  pub runs : all is_found (map sig names) ≡ true → pins_in' ≡ overwrite_at at run pins_in

-- the tokens behind a `.latch` that has its names
pub record LatchTokens (text tokens : List ℕ) : Type 0 where
  -- each is a place within the text
  pub inside : Inside text tokens (length tokens)
  -- its two names are among them
  pub two : 2 ≤ length tokens

-- the latch of these tokens
abbrev pub latch_of : Bytes → List ℕ → LatchDef Bytes
latch_of text tokens = latch_in text tokens (record { first = 0; count = length tokens })

-- the Nary And in hand of so many pins from cell `at` on
abbrev pub and_in_hand : ℕ → ℕ → code.Gate
and_in_hand at count = G.Nary N.And (record { first = at; count = count })

-- the gate in hand that is first placed for a definition, its pins from cell `at` on: a Dff, whose enable is one and whose reset zero where
-- they are left out, or a Nary And
abbrev pub placed_in_hand : (Bytes → ℕ) → ℕ → Def → code.Gate
placed_in_hand sig at (latch l) =
    G.Dff (record { a = sig l.input }) (record { a = optional sig 1 l.enable }) (record { a = optional sig 0 l.reset }) (init_bit l.init)
placed_in_hand sig at (cover ns ls) = and_in_hand at (length (cover_ins ns))

-- the cells of its pins
abbrev pub placed_run : (Bytes → ℕ) → Def → List ℕ
placed_run sig (latch l) = sig l.input ∷ optional sig 1 l.enable ∷ optional sig 0 l.reset ∷ []
placed_run sig (cover ns ls) = map sig (cover_ins ns)

-- the gate of a definition was placed
abbrev pub DefPlaced : (Bytes → ℕ) → Def → ℕ → ℕ → List ℕ → List ℕ → List ℕ → List ℕ → Result ℕ Refusal → Type 0
DefPlaced sig d j at gates pins_in gates' pins_in' r = GatePlaced sig (placed_in_hand sig at d) (used_names d) (placed_run sig d) j at gates pins_in gates' pins_in' r
