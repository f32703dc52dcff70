-- Tokens as places in the caller's text, a cell for each: document 01, "A name is a part of the caller's text, held by its place".
-- Assumes nothing: these are definitions.
use Rattle.std.specs.Prelude.{◌≡◌, Bool, true, false, cond, ℕ, ◌+◌, ◌*◌, ◌/◌, ◌%◌, ◌^◌, ◌≤◌, ◌<◌, leb, length, get_or, take, drop}
use mathlib.Core.List.{List, [], ◌∷◌, ◌++◌, map, head_d}
use Rattle.lists.specs.Lists.{Bytes}
use Rattle.blif_text.specs.Between.Rows.{text_rows}
use Rattle.blif_text.specs.Between.PlaceRows.{place_lines, place_rows}

-- a text within the limit has at most this many tokens
abbrev pub max_tokens : ℕ
max_tokens = 16384

-- the cell of a token: bit 31 on a statement's first, then its start in 15 bits and its length in 16
abbrev pub token_cell : Bool → ℕ → ℕ → ℕ
token_cell first start len = cond first (2 ^ 31) 0 + start * 2 ^ 16 + len

-- whether the token is a statement's first
abbrev pub is_first : ℕ → Bool
is_first c = leb (2 ^ 31) c

-- where the token starts
abbrev pub token_start : ℕ → ℕ
token_start c = c / 2 ^ 16 % 2 ^ 15

-- how long it is
abbrev pub token_length : ℕ → ℕ
token_length c = c % 2 ^ 16

-- the token of a cell is "a part of the caller's text"
abbrev pub InText : Bytes → ℕ → Type 0
InText text c = token_start c + token_length c ≤ length text

-- the token of a cell
unfoldable pub token_of : Bytes → ℕ → Bytes
token_of text c = take (token_length c) (drop (token_start c) text)

-- the tokens of cells
abbrev pub tokens_of : Bytes → List ℕ → List Bytes
tokens_of text cs = map (token_of text) cs

-- cells grouped into rows: the tokens before the first one that starts a row, and the rows from it on
pub record Grouped : Type 0 where
  -- tokens that no first one stands before
  pub loose : List Bytes
  -- the rows
  pub rows : List (List Bytes)

-- one token more in front
abbrev pub with_token : Bool → Bytes → Grouped → Grouped
with_token true t g = record { loose = []; rows = (t ∷ g.loose) ∷ g.rows }
with_token false t g = record { loose = t ∷ g.loose; rows = g.rows }

-- the rows of token cells
unfoldable pub grouped : Bytes → List ℕ → Grouped
grouped text [] = record { loose = []; rows = [] }
grouped text (c ∷ cs) = with_token (is_first c) (token_of text c) (grouped text cs)

-- the cell of the token that stands at these places
abbrev pub places_cell : Bool → List ℕ → ℕ
places_cell first ks = token_cell first (head_d ks 0) (length ks)

-- the cells of a statement's tokens; `first` says whether the first of them is the statement's
unfoldable pub row_cells : Bool → List (List ℕ) → List ℕ
row_cells first [] = []
row_cells first (t ∷ ts) = places_cell first t ∷ row_cells false ts

-- the cells of statements, one after the other; `first` says whether the first of them starts there
unfoldable pub rows_cells : Bool → List (List (List ℕ)) → List ℕ
rows_cells first [] = []
rows_cells first (r ∷ rs) = row_cells first r ++ rows_cells true rs

-- the cells of all tokens of a text, in order
unfoldable pub token_cells : Bytes → List ℕ
token_cells text = rows_cells true (place_rows text (place_lines text 0))

-- the first r cells are those of the text's tokens, and so they hold the text's rows
pub record TokensMarked (text cells : List ℕ) (r : ℕ) : Type 0 where
  -- as many as the text has
  pub counted : r ≡ length (token_cells text)
  -- each at its place
  pub marked : take r cells ≡ token_cells text
  -- no more than fit
  pub few : r ≤ max_tokens
  -- the rows are the text's
  pub rows : (grouped text (take r cells)).rows ≡ text_rows text
  -- every token stands in a row
  pub none-loose : (grouped text (take r cells)).loose ≡ []
  -- and within the text
  pub inside : (i : ℕ) → i < r → InText text (get_or cells i 0)
