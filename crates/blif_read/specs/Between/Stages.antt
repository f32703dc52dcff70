-- What the stages of the reader ask of each other: each goes on where no refusal before it took the text. Assumes nothing: these are
-- definitions.
use Rattle.std.specs.Prelude.{◌≡◌, true, false, List, [], ◌++◌, map, ℕ, ◌*◌, ◌≤◌, length, take, Result, Ok, Err}
use Rattle.lists.specs.Lists.{Bytes, all, known, sum_of}
use Rattle.refusals.specs.Order.{◌or_else◌, refuse_if, fine}
use Rattle.refusals.specs.declared.Refusal.TheVariants as refusal
use Rattle.signal.specs.Cell.{sig_cell}
use Rattle.network.specs.declared.Counts.{Counts}
use Rattle.network.specs.Cells.{lent, counts_of}
use Rattle.network.specs.Between.Cells.{Laid}
use Rattle.network.specs.Sizes.{max_gates, max_pins, max_outputs}
use Rattle.network.specs.Record.{gate_width}
use Rattle.blif_text.specs.Statements.{parsed, first_bad}
use Rattle.blif_text.specs.Decls.{decls, ins, defs, defines, decls_of}
use Rattle.blif_text.specs.Decls as names
use Rattle.blif_text.specs.Between.Places.{max_tokens}
use Rattle.blif_text.specs.Lines.{max_text}
use Rattle.blif_text.specs.Between.Walk.{stmts_from, StmtsAt}
use Rattle.blif_text.specs.Between.Blocks.{Blocks, defs_at}
use Rattle.blif_reading.specs.Read.{too_large, naming, undefined, cover_faults, decl_fault, read_fault, signal_of}
use Rattle.blif_reading.specs.Between.Working.{GatesIn, placed, placed_count}
use Rattle.blif_read_names.specs.Between.Tables.{Named, Tables}
use Rattle.network.specs.Net.{Net}
use Rattle.refusals.specs.declared.Refusal.{Refusal}

-- the counts in an answer, none in a refusal
abbrev pub counts_in : Result Counts Refusal → Counts
counts_in (Ok counts) = counts
counts_in (Err r) = record { inputs = 0; gates = 0; pins = 0; outputs = 0 }

-- a result as an answer and cells: a network's cells in use are laid, a refusal says nothing of them
abbrev pub Holds : Result Net Refusal → Result Counts Refusal → List ℕ → List ℕ → List ℕ → Type 0
Holds (Err r) a gs ps os = a ≡ Err r
Holds (Ok net) a gs ps os = (a ≡ Ok (counts_of net)) × Laid net (lent (counts_of net) gs ps os)

-- as many cells are lent as refusal 1 asks for
pub record Enough (gs ps os wgs wps : List ℕ) : Type 0 where
  -- "4,096 gate cells"
  pub gates : max_gates * gate_width ≤ length gs
  -- "16,384 for pins"
  pub pins : max_pins ≤ length ps
  -- "256 for outputs"
  pub outputs : max_outputs ≤ length os
  -- "and as many working ones"
  pub work_gates : max_gates * gate_width ≤ length wgs
  -- "16,384 again as working cells"
  pub work_pins : max_pins ≤ length wps

-- the text has been taken by no refusal up to 3
pub record PlainText (text : Bytes) : Type 0 where
  -- "Text at most 32,768 bytes"
  pub small : length text ≤ max_text
  -- what is left of the refusals
  pub left : read_fault text ≡ (first_bad (parsed text) or_else decl_fault (decls_of text))

-- by no refusal up to 6; these tokens are marked
pub record Sized (text tokens : List ℕ) : Type 0 where
  -- the statements stand in the cells
  pub stands : StmtsAt text tokens (length tokens) 0
  -- no more tokens than a text may have
  pub few : length tokens ≤ max_tokens
  -- they declare what the text declares
  pub declared : decls_of text ≡ decls (stmts_from text tokens (length tokens) 0)
  -- within the sizes
  pub sized : too_large (decls_of text) ≡ false
  -- what is left of the refusals
  pub left :
      read_fault text
      ≡ (naming false [] (decls_of text) or_else refuse_if (undefined (decls_of text)) refusal.Undefined or_else cover_faults (defs (decls_of text)))

-- by no refusal up to 10; the names are in the index, and the outputs' names in the cells `out_names`
pub record Defining (text tokens index out_names blocks : List ℕ) (i g o : ℕ) : Type 0 where
  -- the tables are the text's
  pub tables : Tables (decls_of text) text tokens (length tokens) index out_names blocks i g o
  -- within the sizes
  pub sized : too_large (decls_of text) ≡ false
  -- no name is defined twice
  pub once : naming false [] (decls_of text) ≡ fine
  -- what is left of the refusals
  pub left : read_fault text ≡ (refuse_if (undefined (decls_of text)) refusal.Undefined or_else cover_faults (defs (decls_of text)))

-- by no refusal up to 10, and no output is undefined; the names are in the index, and the outputs' signals in their cells
pub record Resolving (text tokens index outs blocks : List ℕ) (i g o : ℕ) : Type 0 where
  -- index and blocks are the text's
  pub tables : Named (decls_of text) text tokens (length tokens) index blocks i g o
  -- within the sizes
  pub sized : too_large (decls_of text) ≡ false
  -- no name is defined twice
  pub once : naming false [] (decls_of text) ≡ fine
  -- every output is defined
  pub outs-known : all (λ (x : Bytes). known x (ins (decls_of text) ++ map defines (defs (decls_of text)))) (names.outs (decls_of text)) ≡ true
  -- the outputs' signals
  pub outs-are : take o outs ≡ map (λ (x : Bytes). sig_cell (signal_of (decls_of text) x)) (names.outs (decls_of text))
  -- what is left of the refusals
  pub left : read_fault text ≡ (refuse_if (undefined (decls_of text)) refusal.Undefined or_else cover_faults (defs (decls_of text)))

-- by no refusal up to 11; the gates first placed stand in the working cells, and the outputs' signals in theirs
pub record Placing (text tokens blocks : List ℕ) (i g o : ℕ) (gates pins_in outs : List ℕ) (used : ℕ) : Type 0 where
  -- the inputs are counted
  pub inputs : i ≡ length (ins (decls_of text))
  -- the outputs are counted
  pub outputs : o ≡ length (names.outs (decls_of text))
  -- the records place blocks
  pub blocks-in : Blocks text tokens (length tokens) blocks g
  -- which are the latches and covers
  pub blocks-are : defs_at text tokens (length tokens) blocks g ≡ defs (decls_of text)
  -- what is left of the refusals
  pub left : read_fault text ≡ cover_faults (defs (decls_of text))
  -- the pins are counted
  pub used-is : used ≡ sum_of placed_count (defs (decls_of text))
  -- the gates
  pub gates-in : GatesIn gates pins_in used (map (placed (signal_of (decls_of text))) (defs (decls_of text)))
  -- the outputs
  pub outs-are : take o outs ≡ map (λ (x : Bytes). sig_cell (signal_of (decls_of text) x)) (names.outs (decls_of text))
