-- The search through a tree of the index. Assumes nothing: these are definitions.
use Rattle.std.specs.Prelude.{◌≡◌, true, false, List, ℕ, ◌-◌, ◌≤◌, ◌<◌, length, get_or}
use Rattle.lists.specs.Lists.{Bytes, same}
use Rattle.blif_text.specs.Between.Places.{token_of}
use Rattle.name_index.specs.Between.Index.{name_at, hash_of, root_of, way_of, Passes}

-- the search for a name ends at cell r, which holds one more than the number of the entry that has it, or 0 where none has it
pub record Sought (text cells : List ℕ) (k : ℕ) (name : Bytes) (r : ℕ) : Type 0 where
  -- the cell is there
  pub there : r < length cells
  -- what it holds is one of the first k entries
  pub within : get_or cells r 0 ≤ k
  -- whose name is this one
  pub here : 0 < get_or cells r 0 → same name (token_of text (name_at cells (get_or cells r 0 - 1))) ≡ true
  -- or none has it
  pub none : get_or cells r 0 ≡ 0 → (e : ℕ) → e < k → same name (token_of text (name_at cells e)) ≡ false
  -- the name's hash leads to the cell
  pub way : Passes cells (root_of (hash_of name)) (way_of (hash_of name)) r
