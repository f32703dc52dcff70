-- A well-formed model: each name is defined once, every name that is used is defined, and a cover's rows fit its inputs and agree in output.
-- Assumes nothing: these are definitions.
use Rattle.std.specs.Prelude.{◌≡◌, Bool, ◌⊎◌, ℕ, length}
use mathlib.Core.List.{List, [], ◌∷◌, ◌++◌, map, Memᴰ}
use Rattle.std.proofs.Math.Option.{Option, none, some}
use Rattle.std.proofs.Math.ListN.{get_elem?}
use Rattle.lists.specs.Lists.{Dup}
use Rattle.blif_meaning.specs.Model.{Line, LatchDef, Block, Latch, Cover, Model, target}

module _ {Name : Type 0} where
  -- the names that the model defines: inputs, then latch and cover outputs
  abbrev pub defined : Model Name → List Name
  defined m = m.inputs ++ map target m.blocks

  -- a name that may be left out, as a list
  abbrev pub opt_name : Option Name → List Name
  opt_name none = []
  opt_name (some x) = x ∷ []

  -- the names that a latch uses
  abbrev pub latch_uses : LatchDef Name → List Name
  latch_uses d = d.input ∷ (opt_name d.enable ++ opt_name d.reset)

  -- the names that a block uses
  abbrev pub sources : Block Name → List Name
  sources (Latch d) = latch_uses d
  sources (Cover xs y ls) = xs

  -- the name is an input, or a latch or a cover defines it
  abbrev pub Defined : Model Name → Name → Type 0
  Defined m x = ((i : ℕ) × (get_elem? m.inputs i ≡ some x)) ⊎ ((j : ℕ) × (b : Block Name) × (get_elem? m.blocks j ≡ some b) × (target b ≡ x))

  -- every name that is used is defined
  pub record Closed (m : Model Name) : Type 0 where
    -- every output is defined
    pub outputs_defined : (x : Name) → Memᴰ x m.outputs → Defined m x
    -- every latch input and cover input is defined
    pub sources_defined : (b : Block Name) (x : Name) → Memᴰ b m.blocks → Memᴰ x (sources b) → Defined m x

-- as many columns as inputs, and one output for all lines
abbrev pub GoodLines : ℕ → Bool → List Line → Type 0
GoodLines n o [] = Unit {0}
GoodLines n o (l ∷ ls) = (length l.cols ≡ n) × (l.out ≡ o) × GoodLines n o ls

-- a cover with good lines; a latch is always good
abbrev pub GoodBlock : {Name : Type 0} → Block Name → Type 0
GoodBlock (Latch d) = Unit {0}
GoodBlock (Cover xs y ls) = (o : Bool) × GoodLines (length xs) o ls

-- a model in which every name that is used has just one definition, and every cover a function
pub record WellFormed {Name : Type 0} (m : Model Name) : Type 0 where
  -- no name is defined twice
  pub once : Dup (defined m) → ⊥
  -- every name that is used is defined
  pub closed : Closed m
  -- every cover's lines fit its inputs and agree in output
  pub good : (b : Block Name) → Memᴰ b m.blocks → GoodBlock b
