-- What is kept of a text's declarations: the index of names, the outputs' names and the blocks, as places. Assumes nothing: these are
-- definitions.
use Rattle.refusals.specs.Order.{fine}
use Rattle.std.specs.Prelude.{◌≡◌, false, List, [], ℕ, ◌+◌, length, take, Result, Ok, Err}
use Rattle.lists.specs.Lists.{Bytes}
use Rattle.blif_text.specs.Decls.{Decl, ins, outs, defs}
use Rattle.blif_text.specs.Between.Places.{tokens_of}
use Rattle.blif_text.specs.Between.Walk.{Inside}
use Rattle.blif_text.specs.Between.Blocks.{defs_at, Blocks}
use Rattle.name_index.specs.Between.Index.{entries_of, Index}
use Rattle.blif_reading.specs.Read.{naming}
use Rattle.blif_read_names.specs.Between.Entries.{entries}
use Rattle.blif_read_names.specs.declared.Declared.{Declared}
use Rattle.refusals.specs.declared.Refusal.{Refusal}

-- the index and the blocks of declarations, with i inputs, g gates and o outputs
pub record Named (ds : List Decl) (text tokens : List ℕ) (n : ℕ) (index blocks : List ℕ) (i g o : ℕ) : Type 0 where
  -- the inputs are counted
  pub inputs : i ≡ length (ins ds)
  -- the gates are counted
  pub gates : g ≡ length (defs ds)
  -- the outputs are counted
  pub outputs : o ≡ length (outs ds)
  -- the index is one of as many names
  pub index_is : Index text index (i + g)
  -- which are those defined, with their signals
  pub entries-are : entries_of text index (i + g) ≡ entries 0 0 ds
  -- the records place blocks
  pub blocks-in : Blocks text tokens n blocks g
  -- which are the latches and covers
  pub blocks-are : defs_at text tokens n blocks g ≡ defs ds

-- the tables of declarations: index, blocks and the outputs' names
pub record Tables (ds : List Decl) (text tokens : List ℕ) (n : ℕ) (index out_names blocks : List ℕ) (i g o : ℕ) : Type 0 where
  -- index and blocks
  pub named : Named ds text tokens n index blocks i g o
  -- the outputs' names stand by their places
  pub outputs-are : tokens_of text (take o out_names) ≡ outs ds
  -- each within the text
  pub outputs-in : Inside text out_names o

-- "7 at a second `.model`; 8 ..; 9 ..; 10 ..", or the tables
abbrev pub DefinedBy : List Decl → Bytes → List ℕ → ℕ → List ℕ → List ℕ → List ℕ → Result Declared Refusal → Type 0
DefinedBy ds text tokens n index out_names blocks (Err r) = naming false [] ds ≡ Err r
DefinedBy ds text tokens n index out_names blocks (Ok d) =
    (naming false [] ds ≡ fine) × Tables ds text tokens n index out_names blocks d.inputs d.gates d.outputs
