-- Names entered declaration by declaration, up to a refusal of 7 to 10 (document 01, src/io/blif.rs: `build_name_to_sig`). Assumes nothing:
-- these are definitions.
use Rattle.std.specs.Prelude.{◌≡◌, Bool, false, List, [], ◌∷◌, ◌++◌, map, ℕ, ◌+◌, ◌-◌, ◌*◌, ◌≤◌, ◌<◌, ltb, length, get_or, take, ⊤, Result, Ok, Err}
use Rattle.lists.specs.Lists.{Bytes, known}
use Rattle.lists.specs.Between.Lists.{overwrite_at}
use Rattle.refusals.specs.Order.{refuse_if, fine}
use Rattle.refusals.specs.declared.Refusal.{Refusal}
use Rattle.refusals.specs.declared.Refusal.TheVariants as refusal
use Rattle.signal.specs.Signal.{Var, plain}
use Rattle.signal.specs.Cell.{sig_cell}
use Rattle.network.specs.Sizes.{max_inputs, max_gates, max_outputs}
use Rattle.blif_text.specs.Decls.{Decl, decls, ins, outs, defs}
use Rattle.blif_text.specs.Between.Places.{max_tokens, InText, token_of, tokens_of}
use Rattle.blif_text.specs.Between.Walk.{stmts_from, Inside, StmtsAt}
use Rattle.blif_text.specs.Between.Blocks.{block_width, defs_at, Blocks}
use Rattle.blif_text.specs.declared.Block.{Block}
use Rattle.blif_text.specs.declared.Run.{Run}
use Rattle.name_index.specs.Between.Search.{Entry, entry}
use Rattle.name_index.specs.Between.Index.{max_names, entry_count, entries_of, Index}
use Rattle.blif_reading.specs.Read.{too_large, defined_twice, naming}
use Rattle.blif_read_names.specs.Between.Entries.{input_entries, entries}
use Rattle.blif_read_names.specs.declared.Walk.{Walk}

-- the names of the first k entries
abbrev pub names_in : Bytes → List ℕ → ℕ → List Bytes
names_in text index k = map (λ (e : Entry). e.name) (entries_of text index k)

-- the names of these cells can be entered, the first as input i
pub record InputsFit (text names index : List ℕ) (i : ℕ) : Type 0 where
  -- the index so far
  pub index_is : Index text index (entry_count index)
  -- the cells are places within the text
  pub places : Inside text names (length names)
  -- "256 inputs"
  pub inputs : i + length names ≤ max_inputs
  -- the index has room for them
  pub room : entry_count index + length names ≤ max_names

-- the names of these cells are entered behind k others as inputs from number i on, or one "is defined twice"
pub record InputsEntered (text names index : List ℕ) (k i : ℕ) (index' : List ℕ) (r : Result ⊤ Refusal) : Type 0 where
  -- "10 when a name is defined twice"
  pub refused : r ≡ refuse_if (defined_twice (names_in text index k) (tokens_of text names)) refusal.DefinedTwice
  -- the index has them now
  pub index_is : r ≡ fine → Index text index' (k + length names)
  -- behind the others
  pub added : r ≡ fine → entries_of text index' (k + length names) ≡ entries_of text index k ++ input_entries i (tokens_of text names)

-- gate g can be defined by the name at a cell
pub record GateFits (text index : List ℕ) (g cell : ℕ) (block : Block) (blocks : List ℕ) : Type 0 where
  -- the index so far
  pub index_is : Index text index (entry_count index)
  -- it has room for one name more
  pub free : entry_count index < max_names
  -- the name is within the text
  pub inside : InText text cell
  -- "1,024 gates"
  pub gates : g < max_gates
  -- the record is there
  pub room : max_gates * block_width ≤ length blocks
  -- its first name
  pub first : block.first ≤ max_tokens
  -- its names
  pub names : block.names ≤ max_tokens
  -- its lines
  pub lines : block.lines ≤ max_tokens

-- gate g is defined by its block and the name x, which is entered behind k others, or "is defined twice"
pub record GateDefined (text index : List ℕ) (k g : ℕ) (x : Bytes) (block : Block) (blocks index' blocks' : List ℕ) (r : Result ⊤ Refusal) : Type 0 where
  -- "10 when a name is defined twice"
  pub refused : r ≡ refuse_if (known x (names_in text index k)) refusal.DefinedTwice
  -- the index has it now
  pub index_is : r ≡ fine → Index text index' (k + 1)
  -- behind the others
  pub added : r ≡ fine → entries_of text index' (k + 1) ≡ entries_of text index k ++ (entry x (sig_cell (plain (Var g))) ∷ [])
  -- and its record is written
  pub block-is : r ≡ fine → blocks' ≡ overwrite_at (g * block_width) (block.first ∷ block.names ∷ block.lines ∷ []) blocks

-- gate g can be defined by a cover of these names
pub record CoverFits (text tokens index : List ℕ) (g first names : ℕ) (blocks : List ℕ) : Type 0 where
  -- the index so far
  pub index_is : Index text index (entry_count index)
  -- it has room for one name more
  pub free : entry_count index < max_names
  -- the tokens are places within the text
  pub places : Inside text tokens (first + names)
  -- "1,024 gates"
  pub gates : g < max_gates
  -- the record is there
  pub room : max_gates * block_width ≤ length blocks
  -- its names
  pub few : first + names ≤ max_tokens

-- gate g is defined by a cover's last name, behind k others, or "`.names` is empty"
pub record CoverDefined (text tokens index : List ℕ) (k g : ℕ) (block : Block) (blocks index' blocks' : List ℕ) (r : Result ⊤ Refusal) : Type 0 where
  -- "9 when `.names` is empty"
  pub empty : block.names ≡ 0 → r ≡ Err refusal.NamesEmpty
  -- its last name defines it
  pub last : (block.names ≡ 0 → ⊥)
      → GateDefined text index k g (token_of text (get_or tokens (block.first + block.names - 1) 0)) block blocks index' blocks' r

-- the block of a latch by the tokens behind `.latch`
abbrev pub latch_block : Run → Block
latch_block run = record { first = run.first; names = 0; lines = run.count }

-- whether there was a `.model`
abbrev pub seen : Walk → Bool
seen w = ltb 0 w.models

-- the walk at another place
abbrev pub walk_at : Walk → ℕ → Walk
walk_at w at = record { at = at; models = w.models; inputs = w.inputs; gates = w.gates; outputs = w.outputs }

-- the walk behind a gate
abbrev pub gate_walk : Walk → Walk
gate_walk w = record { at = w.at; models = w.models; inputs = w.inputs; gates = w.gates + 1; outputs = w.outputs }

-- the walk goes on where nothing is refused
abbrev pub step_of : Result ⊤ Refusal → Walk → Result Walk Refusal
step_of (Ok _) w = Ok w
step_of (Err r) w = Err r

-- gate g can be defined by a latch
pub record LatchFits (text tokens index blocks : List ℕ) (w : Walk) (run : Run) : Type 0 where
  -- its second name is there
  pub there : run.first + 1 < length tokens
  -- and can define a gate
  pub gate : GateFits text index w.gates (get_or tokens (run.first + 1) 0) (latch_block run) blocks

-- a latch is passed
pub record LatchStep (text tokens index blocks index' blocks' : List ℕ) (w : Walk) (run : Run) (s : Result Walk Refusal) : Type 0 where
  -- its refusal, if it has one
  pub checked : Result ⊤ Refusal
  -- else the walk goes on behind it
  pub walk : s ≡ step_of checked (gate_walk w)
  -- its second name defines a gate
  pub gate : GateDefined text index (entry_count index) w.gates (token_of text (get_or tokens (run.first + 1) 0)) (latch_block run) blocks index' blocks' checked

-- a cover and its lines are passed
pub record CoverStep (text tokens index blocks index' blocks' : List ℕ) (w : Walk) (block : Block) (s : Result Walk Refusal) : Type 0 where
  -- its refusal, if it has one
  pub checked : Result ⊤ Refusal
  -- else the walk goes on behind the lines
  pub walk : s ≡ step_of checked (gate_walk w)
  -- its last name defines a gate
  pub cover : CoverDefined text tokens index (entry_count index) w.gates block blocks index' blocks' checked

-- the tables so far: those of the declarations ds before `left`, with i inputs, g gates and o outputs
pub record TablesTo (ds left : List Decl) (text tokens : List ℕ) (n : ℕ) (index out_names blocks : List ℕ) (i g o : ℕ) : Type 0 where
  -- the inputs are counted
  pub inputs : length (ins ds) ≡ i + length (ins left)
  -- the gates are counted
  pub gates : length (defs ds) ≡ g + length (defs left)
  -- the outputs are counted
  pub outputs : length (outs ds) ≡ o + length (outs left)
  -- the index is one of as many names
  pub index_is : Index text index (i + g)
  -- which are those defined so far, with their signals
  pub entries-are : entries 0 0 ds ≡ entries_of text index (i + g) ++ entries i g left
  -- the outputs' names stand by their places
  pub outputs-are : outs ds ≡ tokens_of text (take o out_names) ++ outs left
  -- each within the text
  pub outputs-in : Inside text out_names o
  -- the records place blocks
  pub blocks-in : Blocks text tokens n blocks g
  -- which are the latches and covers
  pub blocks-are : defs ds ≡ defs_at text tokens n blocks g ++ defs left

-- no refusal so far: the tables, and the refusal of what is left
pub record NamingSoFar (text tokens : List ℕ) (n : ℕ) (index out_names blocks : List ℕ) (w : Walk) : Type 0 where
  -- statements stand at the place
  pub rest : StmtsAt text tokens n w.at
  -- no more tokens than a text may have
  pub few : n ≤ max_tokens
  -- no size is passed
  pub small : too_large (decls (stmts_from text tokens n 0)) ≡ false
  -- room for the outputs
  pub outputs-room : max_outputs ≤ length out_names
  -- room for the blocks
  pub blocks-room : max_gates * block_width ≤ length blocks
  -- the refusal is that of what is left
  pub left : naming false [] (decls (stmts_from text tokens n 0)) ≡ naming (seen w) (names_in text index (w.inputs + w.gates)) (decls (stmts_from text tokens n w.at))
  -- the tables so far
  pub tabled : TablesTo (decls (stmts_from text tokens n 0)) (decls (stmts_from text tokens n w.at)) text tokens n index out_names blocks w.inputs w.gates w.outputs

-- a declaration is passed
pub data Steps (text tokens : List ℕ) (n : ℕ) (index out_names blocks : List ℕ) (v : Walk) : Result Walk Refusal → Type 0 where
  -- the first refusal counts
  stops : {r : Refusal} → naming false [] (decls (stmts_from text tokens n 0)) ≡ Err r → Steps text tokens n index out_names blocks v (Err r)
  -- or the walk goes on
  goes : {w : Walk} → v.at < w.at → NamingSoFar text tokens n index out_names blocks w → Steps text tokens n index out_names blocks v (Ok w)
