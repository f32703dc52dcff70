-- The index of names in cells: 1,024 trees of entries. A name's hash tells its tree, by its ten lowest bits, and the way through it, by the
-- others, bit by bit. Assumes nothing: these are definitions.
use Rattle.std.specs.Prelude.{◌≡◌, Bool, true, false, not, List, [], ◌∷◌, ◌++◌, map, ℕ, suc, ◌+◌, ◌*◌, ◌/◌, ◌%◌, ◌^◌, ◌≤◌, ◌<◌, length, get_or}
use Rattle.lists.specs.Lists.{Bytes, range, same, known}
use Rattle.blif_text.specs.Between.Places.{InText, token_of}
use Rattle.name_index.specs.Between.Search.{Entry, entry}

-- how many trees
abbrev pub trees : ℕ
trees = 1024

-- "256 inputs" and "1,024 gates": no more names are defined
abbrev pub max_names : ℕ
max_names = 1280

-- the cells of an entry: its name's place, its signal, and the entries to which the next bit of a hash leads, for 0 and for 1
abbrev pub entry_width : ℕ
entry_width = 4

-- the cells of an index: the first entry of each tree, then the entries, and how many there are
abbrev pub index_cells : ℕ
index_cells = trees + max_names * entry_width + 1

-- how many names the index has: its last cell
abbrev pub entry_count : List ℕ → ℕ
entry_count cells = get_or cells (trees + max_names * entry_width) 0

-- the place of entry e's name
abbrev pub name_at : List ℕ → ℕ → ℕ
name_at cells e = get_or cells (trees + e * entry_width) 0

-- entry e's signal
abbrev pub signal_at : List ℕ → ℕ → ℕ
signal_at cells e = get_or cells (trees + e * entry_width + 1) 0

-- the cell of entry e that leads on, for the lowest of these bits
abbrev pub branch : ℕ → ℕ → ℕ
branch e bits = trees + e * entry_width + 2 + bits % 2

-- entry e
abbrev pub entry_at : Bytes → List ℕ → ℕ → Entry
entry_at text cells e = entry (token_of text (name_at cells e)) (signal_at cells e)

-- the first k entries
abbrev pub entries_of : Bytes → List ℕ → ℕ → List Entry
entries_of text cells k = map (entry_at text cells) (range 0 k)

-- how many hashes there are
abbrev pub hashes : ℕ
hashes = 2 ^ 54

-- the hash of a name's bytes, going on from h; by 623 the names of usual netlists, which end in numbers, spread evenly over the trees
abbrev pub hash_from : ℕ → Bytes → ℕ
hash_from h [] = h
hash_from h (c ∷ s) = hash_from ((h * 623 + c) % hashes) s

-- the hash of a name
abbrev pub hash_of : Bytes → ℕ
hash_of x = hash_from 0 x

-- the hash of entry e's name
abbrev pub hash_at : Bytes → List ℕ → ℕ → ℕ
hash_at text cells e = hash_of (token_of text (name_at cells e))

-- the cell with the first entry of a hash's tree
abbrev pub root_of : ℕ → ℕ
root_of h = h % trees

-- the bits of a hash that tell the way through its tree
abbrev pub way_of : ℕ → ℕ
way_of h = h / trees

-- from a cell these bits lead past entries to another cell: a cell holds one more than an entry's number, or 0 where there is none
pub data Passes (cells : List ℕ) : ℕ → ℕ → ℕ → Type 0 where
  stay : {at bits : ℕ} → Passes cells at bits at
  past : {at bits f to : ℕ} → get_or cells at 0 ≡ suc f → Passes cells (branch f bits) (bits / 2) to → Passes cells at bits to

-- from a cell these bits lead to entry e
pub record Leads (cells : List ℕ) (at bits e : ℕ) : Type 0 where
  -- the cell that holds it
  pub cell : ℕ
  -- the way there
  pub way : Passes cells at bits cell
  -- it does
  pub holds : get_or cells cell 0 ≡ suc e

-- the cells are an index of k names of the text
pub record Index (text cells : List ℕ) (k : ℕ) : Type 0 where
  -- as many cells as an index has
  pub room : index_cells ≤ length cells
  -- the last cell counts them
  pub counted : entry_count cells ≡ k
  -- no more names than may be defined
  pub few : k ≤ max_names
  -- each is within the text
  pub inside : (e : ℕ) → e < k → InText text (name_at cells e)
  -- a tree starts with one of the entries, or with none
  pub roots : (h : ℕ) → h < trees → get_or cells h 0 ≤ k
  -- an entry leads on to later ones
  pub rises : (e bits f : ℕ) → e < k → get_or cells (branch e bits) 0 ≡ suc f → (e < f) × (f < k)
  -- its hash leads to each entry
  pub held : (e : ℕ) → e < k → Leads cells (root_of (hash_at text cells e)) (way_of (hash_at text cells e)) e
  -- no name stands twice
  pub once : (d e : ℕ) → d < e → e < k → same (token_of text (name_at cells e)) (token_of text (name_at cells d)) ≡ false

-- the name at a place was entered with its signal, or it was known before
pub record Entered (text cells : List ℕ) (k cell signal : ℕ) (cells' : List ℕ) (r : Bool) : Type 0 where
  -- whether it is new
  pub new : r ≡ not (known (token_of text cell) (map (λ (e : Entry). e.name) (entries_of text cells k)))
  -- the index has it now
  pub index : r ≡ true → Index text cells' (k + 1)
  -- behind the others
  pub added : r ≡ true → entries_of text cells' (k + 1) ≡ entries_of text cells k ++ (entry (token_of text cell) signal ∷ [])
