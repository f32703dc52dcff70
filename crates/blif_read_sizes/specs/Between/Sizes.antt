-- Sizes counted declaration by declaration, so from the statements up to the first `.end` or `.exdc` (documents 01 and 02). Assumes nothing: these
-- are definitions.
use Rattle.std.specs.Prelude.{◌≡◌, List, ℕ, ◌+◌, ◌-◌, ◌*◌, ◌≤◌, length}
use Rattle.lists.specs.Lists.{sum_of}
use Rattle.blif_text.specs.Decls.{Decl, ins, outs, defs}
use Rattle.blif_text.specs.Between.Places.{max_tokens}
use Rattle.blif_declarations.specs.declared.Declaration.{Declaration}
use Rattle.blif_declarations.specs.declared.Declaration.TheVariants as next
use Rattle.blif_reading.specs.Read.{added, gate_count, pin_count}
use Rattle.blif_read_sizes.specs.declared.Sizes.{Sizes}

-- a declaration has no more names and lines than a text has tokens
abbrev pub Few : Declaration → Type 0
Few next.Model = Unit {0}
Few next.End = Unit {0}
Few (next.Inputs run) = run.count ≤ max_tokens
Few (next.Outputs run) = run.count ≤ max_tokens
Few (next.Latch run) = Unit {0}
Few (next.Cover block) = (block.names ≤ max_tokens) × (block.lines ≤ max_tokens)
Few next.None = Unit {0}

-- sizes from their parts
abbrev pub sizes : ℕ → ℕ → ℕ → ℕ → Sizes
sizes i o g p = record { inputs = i; outputs = o; gates = g; pins = p }

-- the sizes of a declaration: "a `.latch` is .. three pins; a `.names` with n names before its last and k cube lines is (k + 1) × (n + 2) pins"
abbrev pub sizes_of : Declaration → Sizes
sizes_of next.Model = sizes 0 0 0 0
sizes_of next.End = sizes 0 0 0 0
sizes_of (next.Inputs run) = sizes run.count 0 0 0
sizes_of (next.Outputs run) = sizes 0 run.count 0 0
sizes_of (next.Latch run) = sizes 0 0 1 3
sizes_of (next.Cover block) = sizes 0 0 (1 + added block.lines) ((block.lines + 1) * (block.names - 1 + 2))
sizes_of next.None = sizes 0 0 0 0

-- the sizes v with those of d are w
pub record Added (v d w : Sizes) : Type 0 where
  -- inputs
  pub inputs : w.inputs ≡ v.inputs + d.inputs
  -- outputs
  pub outputs : w.outputs ≡ v.outputs + d.outputs
  -- gates
  pub gates : w.gates ≡ v.gates + d.gates
  -- pins
  pub pins : w.pins ≡ v.pins + d.pins

-- the sizes so far, with those of the declarations that are left, are these declarations'
pub record Totals (ds : List Decl) (w : Sizes) (left : List Decl) : Type 0 where
  -- inputs
  pub inputs : length (ins ds) ≡ w.inputs + length (ins left)
  -- outputs
  pub outputs : length (outs ds) ≡ w.outputs + length (outs left)
  -- gates
  pub gates : sum_of gate_count (defs ds) ≡ w.gates + sum_of gate_count (defs left)
  -- pins
  pub pins : sum_of pin_count (defs ds) ≡ w.pins + sum_of pin_count (defs left)
