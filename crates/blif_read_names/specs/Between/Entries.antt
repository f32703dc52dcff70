-- The names that declarations define, with their signals (document 01, src/io/blif.rs: `build_name_to_sig`). Assumes nothing: these are
-- definitions.
use Rattle.std.specs.Prelude.{List, [], ◌∷◌, ◌++◌, ℕ, suc, ◌+◌, length}
use Rattle.lists.specs.Lists.{Bytes}
use Rattle.signal.specs.Signal.{Input, Var, plain}
use Rattle.signal.specs.Cell.{sig_cell}
use Rattle.blif_text.specs.Decls.{Decl, model, end, inputs, outputs, gate, defines}
use Rattle.name_index.specs.Between.Search.{Entry, entry}

-- inputs' names with input signals from number i on
abbrev pub input_entries : ℕ → List Bytes → List Entry
input_entries i [] = []
input_entries i (n ∷ ns) = entry n (sig_cell (plain (Input i))) ∷ input_entries (suc i) ns

-- the entries of declarations in text order: i inputs and g gates stand before them
abbrev pub entries : ℕ → ℕ → List Decl → List Entry
entries i g [] = []
entries i g (model ∷ ds) = entries i g ds
entries i g (end ∷ ds) = entries i g ds
entries i g (inputs ns ∷ ds) = input_entries i ns ++ entries (i + length ns) g ds
entries i g (outputs ns ∷ ds) = entries i g ds
entries i g (gate d ∷ ds) = entry (defines d) (sig_cell (plain (Var g))) ∷ entries i (suc g) ds
