-- What a BLIF model means. Sentences in quotes are the Berkeley text's, "Berkeley Logic Interchange Format (BLIF)", sections "Logic
-- Gates" and "Flip flops and latches", or, where `.flop` is named, ABC's; those of document 02 are named so. Names are of any type. Assumes nothing: these are definitions.
use Rattle.std.specs.Prelude.{◌≡◌, Bool, true, false, not, ◌&&◌, cond, ℕ, get_or}
use mathlib.Core.List.{List, [], ◌∷◌, map, Memᴰ}
use Rattle.std.proofs.Math.Option.{Option, none, some}
use Rattle.std.proofs.Math.ListN.{get_elem?}
use Rattle.lists.specs.Lists.{Bytes, bytes, optional, any}
use Rattle.network.specs.Clock.{Runs}

-- a column of a row: "{0, 1, –} is used in the n-bit wide input plane"
pub data Col : Type 0 where
  C0 C1 Dash : Col

-- a row of a cover: its input plane, and its output plane, "{0, 1}"
pub record Line : Type 0 where
  -- the input plane
  pub cols : List Col
  -- the output plane
  pub out : Bool

-- a latch's init-val: "the initial state of the latch, which can be one of {0, 1, 2, 3}. "2" stands for "don't care" and "3" is "unknown.""
pub data Init : Type 0 where
  I0 I1 DontCare Unknown : Init

-- the initial states
abbrev pub inits : List Init
inits = I0 ∷ I1 ∷ DontCare ∷ Unknown ∷ []

-- the bytes that say one: "one of {0, 1, 2, 3}"
abbrev pub init_bytes : Init → Bytes
init_bytes I0 = bytes "0"
init_bytes I1 = bytes "1"
init_bytes DontCare = bytes "2"
init_bytes Unknown = bytes "3"

-- a latch: "input is the data input to the latch", "output is the output of the latch"; a `.flop` may have an enable `E` and a reset `R` too
pub record LatchDef (Name : Type 0) : Type 0 where
  -- the data input
  pub input : Name
  -- the output
  pub output : Name
  -- `E`, if it is given
  pub enable : Option Name
  -- `R`, if it is given
  pub reset : Option Name
  -- init-val, or `init` of a `.flop`: "the initial state of the latch"
  pub init : Init

-- a latch, or a cover with its inputs, its output and its rows
pub data Block (Name : Type 0) : Type 0 where
  Latch : LatchDef Name → Block Name
  Cover : List Name → Name → List Line → Block Name

-- a model: its inputs and outputs in order, its latches and covers
pub record Model (Name : Type 0) : Type 0 where
  -- `.inputs`
  pub inputs : List Name
  -- `.outputs`
  pub outputs : List Name
  -- `.latch`, `.flop` and `.names`, in text order
  pub blocks : List (Block Name)

-- "1 means the input is used in uncomplemented form, 0 means the input is complemented, and – means not used"
abbrev pub col_bit : Col → Bool → Bool
col_bit C0 b = not b
col_bit C1 b = b
col_bit Dash b = true

-- "Elements of a row are ANDed together"
abbrev pub cube_bit : List Col → List Bool → Bool
cube_bit [] bs = true
cube_bit (c ∷ cs) [] = true
cube_bit (c ∷ cs) (b ∷ bs) = col_bit c b && cube_bit cs bs

-- "and then all rows are ORed"
abbrev pub cubes_bit : List Line → List Bool → Bool
cubes_bit ls bs = any (λ l. cube_bit l.cols bs) ls

-- "The ON-set is specified with 1's in the output plane, and the OFF-set is specified with 0's in the output plane"; a cover without
-- rows is "the constant 0"
abbrev pub cover_bit : List Line → List Bool → Bool
cover_bit [] bs = false
cover_bit (l ∷ ls) bs = cond l.out (cubes_bit (l ∷ ls) bs) (not (cubes_bit (l ∷ ls) bs))

-- the value that an initial state allows a latch at power-up, by the Berkeley text
abbrev pub MayHold : Init → Bool → Type 0
MayHold I0 b = b ≡ false
MayHold I1 b = b ≡ true
MayHold DontCare b = Unit {0}
MayHold Unknown b = Unit {0}

-- the value that is taken: "2 and 3 read as zero" (document 02, CR 4)
abbrev pub init_bit : Init → Bool
init_bit I0 = false
init_bit I1 = true
init_bit DontCare = false
init_bit Unknown = false

-- a latch holds that value
abbrev pub Holds : Init → Bool → Type 0
Holds i b = b ≡ init_bit i

module _ {Name : Type 0} where
  -- a latch without enable and reset, from its input, its output and its initial state
  abbrev pub plain_latch : Name → Name → Init → LatchDef Name
  plain_latch d q i = record { input = d; output = q; enable = none; reset = none; init = i }

  -- the name that a latch or a cover defines
  abbrev pub target : Block Name → Name
  target (Latch d) = d.output
  target (Cover xs y ls) = y

  -- a latch's output is its held value, a cover's its function of its inputs
  abbrev pub block_bit : (Name → Bool) → Bool → Block Name → Bool
  block_bit env h (Latch d) = h
  block_bit env h (Cover xs y ls) = cover_bit ls (map env xs)

  -- what a latch holds next: its input's value; of a `.flop`, a reset of one gives zero, else an enable of one takes the input, else
  -- the value is held
  abbrev pub next_held : (Name → Bool) → Bool → LatchDef Name → Bool
  next_held env h d = cond (optional env false d.reset) false (cond (optional env true d.enable) (env d.input) h)

  -- the names' values at one clock fit the input row and the latches' held values
  pub record BlifFits (m : Model Name) (row : List Bool) (held env : Name → Bool) : Type 0 where
    -- an input has its bit of the row
    pub ins : (i : ℕ) (x : Name) → get_elem? m.inputs i ≡ some x → env x ≡ get_or row i false
    -- what a block defines has the block's bit
    pub blocks : (b : Block Name) → Memᴰ b m.blocks → env (target b) ≡ block_bit env (held (target b)) b

  -- one clock: the outputs' values, and at its end each latch takes its next value
  pub record BlifClock (m : Model Name) (held : Name → Bool) (row out : List Bool) (next : Name → Bool) : Type 0 where
    -- the names' values
    pub env : Name → Bool
    -- fit the row and the held values
    pub fits : BlifFits m row held env
    -- the outputs in order
    pub answers : out ≡ map env m.outputs
    -- each latch takes what it holds next
    pub steps : (d : LatchDef Name) → Memᴰ (Latch d) m.blocks → next d.output ≡ next_held env (held d.output) d

  -- the outputs that the model gives for these rows, from values at power-up that each latch's initial state allows
  pub record RunsFrom (Allows : Init → Bool → Type 0) (m : Model Name) (rows outs : List (List Bool)) : Type 0 where
    -- the values that the latches hold at power-up
    pub held : Name → Bool
    -- each is one that the latch's "initial state" allows
    pub starts : (d : LatchDef Name) → Memᴰ (Latch d) m.blocks → Allows d.init (held d.output)
    -- clock by clock from there
    pub runs : Runs (BlifClock m) held rows outs

  -- the outputs that the Berkeley text allows: where a latch's initial state is "don't care" or "unknown", from either value
  abbrev pub MayRun : Model Name → List (List Bool) → List (List Bool) → Type 0
  MayRun m rows outs = RunsFrom MayHold m rows outs

  -- those of them in which "2 and 3 read as zero", as document 02, CR 4, has it
  abbrev pub BlifRuns : Model Name → List (List Bool) → List (List Bool) → Type 0
  BlifRuns m rows outs = RunsFrom Holds m rows outs
