-- What the functions that scan a text promise to each other: records over places in the text. Assumes nothing: these are definitions.
use Rattle.std.specs.Prelude.{◌≡◌, Bool, true, false, not, ◌||◌, List, [], ◌∷◌, ◌⊎◌, ℕ, ◌+◌, ◌-◌, ◌*◌, ◌≤◌, ◌<◌, eqb, length, get_or, set, Option, Some, None}
use Rattle.lists.specs.Lists.{Bytes}
use Rattle.lists.specs.Between.Lists.{overwrite_at}
use Rattle.blif_text.specs.Lines.{is_blank, max_text}
use Rattle.blif_text.specs.Between.PlaceRows.{place_lines, place_rows}
use Rattle.blif_text.specs.Between.Places.{max_tokens, token_cell, is_first, rows_cells}

-- what ends a word: "Blanks are 9 to 13 and 32", and "`#` cuts the line"
unfoldable pub ends_word : ℕ → Bool
ends_word c = is_blank c || eqb 35 c

-- a byte other than c: none between two places is a run of c
abbrev pub other_than : ℕ → ℕ → Bool
other_than c b = not (eqb c b)

-- from at to r no byte passes the test
pub record NoneTo (p : ℕ → Bool) (t : Bytes) (at r : ℕ) : Type 0 where
  -- not before the start
  pub low : at ≤ r
  -- within the text
  pub high : r ≤ length t
  -- none between
  pub none : (k : ℕ) → at ≤ k → k < r → p (get_or t k 0) ≡ false

-- the first byte from at on that passes the test stands at r, or the text ends there
pub record FirstTo (p : ℕ → Bool) (t : Bytes) (at r : ℕ) : Type 0 where
  -- none before it
  pub passed : NoneTo p t at r
  -- it does
  pub stop : r < length t → p (get_or t r 0) ≡ true

-- the first line from at on ends before next
pub record LineAfter (t : Bytes) (at next : ℕ) : Type 0 where
  -- where it ends
  pub end : ℕ
  -- at the first LF
  pub to : FirstTo (eqb 10) t at end
  -- which is passed, where the text does not end there
  pub is : ((end < length t) × (next ≡ end + 1)) ⊎ ((length t ≤ end) × (next ≡ end))

-- a line stops at stop, and the next one starts at next
pub data StopTo (t : Bytes) (stop next : ℕ) : Type 0 where
  -- the text ends there
  at-end : length t ≤ stop → next ≡ stop → StopTo t stop next
  -- "LF ends a line"
  at-lf : stop < length t → get_or t stop 0 ≡ 10 → next ≡ stop + 1 → StopTo t stop next
  -- "one CR directly before it goes too"
  at-cr : stop + 1 < length t → get_or t stop 0 ≡ 13 → get_or t (stop + 1) 0 ≡ 10 → next ≡ stop + 2 → StopTo t stop next

-- where the next line starts if a line stops at stop
abbrev pub StopOf : Bytes → ℕ → Option ℕ → Type 0
StopOf t stop None = (next : ℕ) → StopTo t stop next → ⊥
StopOf t stop (Some next) = StopTo t stop next

-- none of these tokens is a statement's first
abbrev pub NoneFirst : List ℕ → Type 0
NoneFirst [] = Unit {0}
NoneFirst (c ∷ cs) = (is_first c ≡ false) × NoneFirst cs

-- the first of these tokens is a statement's first as `first` says, the others are none
abbrev pub Firsts : Bool → List ℕ → Type 0
Firsts first [] = Unit {0}
Firsts first (c ∷ cs) = (is_first c ≡ first) × NoneFirst cs

-- the cells of the tokens from place i on; `first` says whether the next token is a statement's first
unfoldable pub cells_from : Bytes → ℕ → Bool → List ℕ
cells_from text i first = rows_cells first (place_rows text (place_lines text i))

-- the scan may go on at place i, with count tokens marked
pub record ScanAt (text cells : List ℕ) (i count : ℕ) : Type 0 where
  -- the text is within its limit
  pub small : length text ≤ max_text
  -- as many cells as a text may need
  pub room : max_tokens ≤ length cells
  -- the place is within the text
  pub high : i ≤ length text
  -- two bytes for each token
  pub few : 2 * count ≤ i + 1
  -- and for the last one too, where a word starts
  pub fewer : i < length text → ends_word (get_or text i 0) ≡ false → 2 * count ≤ i

-- the scan has come from place i to place i': with the tokens that are left at either, there are as many in all, and the same cells
pub record Scanned (text cells : List ℕ) (i count : ℕ) (fresh : Bool) (cells' : List ℕ) (i' count' : ℕ) (fresh' : Bool) : Type 0 where
  -- it may go on
  pub ready : ScanAt text cells' i' count'
  -- as many tokens
  pub same_count : count' + length (cells_from text i' fresh') ≡ count + length (cells_from text i fresh)
  -- the same cells
  pub same-cells : overwrite_at count' (cells_from text i' fresh') cells' ≡ overwrite_at count (cells_from text i fresh) cells

-- a word is put: its cell stands behind the others, and the scan goes on at next
pub record WordPut (cells : List ℕ) (at count : ℕ) (fresh : Bool) (end next : ℕ) (cells' : List ℕ) (at' count' : ℕ) (fresh' : Bool) : Type 0 where
  -- where it goes on
  pub place : at' ≡ next
  -- one token more
  pub counted : count' ≡ count + 1
  -- the next is none of the statement's first
  pub first : fresh' ≡ false
  -- the cell
  pub cell : cells' ≡ set cells count (token_cell fresh at (end - at))
