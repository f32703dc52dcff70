-- The rows of a text by the places of their bytes: the rules of Lines and Rows, over places instead of bytes (document 01, "A name is a
-- part of the caller's text, held by its place"). Assumes nothing: these are definitions.
use Rattle.std.specs.Prelude.{Bool, ◌&&◌, not, List, [], ◌∷◌, map, ℕ, ◌+◌, ◌-◌, eqb, length, get_or, take, if◌then◌else◌}
use Rattle.lists.specs.Lists.{Bytes, filter, range}
use Rattle.blif_text.specs.Lines.{split, cut, continues, before, is_blank, non_empty}

-- the byte at a place
abbrev pub byte_at : Bytes → ℕ → ℕ
byte_at text k = get_or text k 0

-- the bytes at places
abbrev pub bytes_at : Bytes → List ℕ → Bytes
bytes_at text ks = map (byte_at text) ks

-- whether a CR stands at a place, directly before an LF
unfoldable pub cr_before_lf : Bytes → ℕ → Bool
cr_before_lf text k = eqb 13 (byte_at text k) && eqb 10 (byte_at text (k + 1))

-- the lines from a place on: "LF ends a line, and one CR directly before it goes too"
unfoldable pub place_lines : Bytes → ℕ → List (List ℕ)
place_lines text i = split (λ k. eqb 10 (byte_at text k)) (filter (λ k. not (cr_before_lf text k)) (range i (length text - i)))

-- what is left of a line: "`#` cuts the line. A line without `#` that ends in a backslash loses it"
unfoldable pub kept : Bytes → List ℕ → List ℕ
kept text l = take (if continues (bytes_at text l) then length l - 1 else length (cut (bytes_at text l))) l

-- the runs of places between blanks
unfoldable pub place_tokens : Bytes → List ℕ → List (List ℕ)
place_tokens text l = filter non_empty (split (λ k. is_blank (byte_at text k)) l)

-- the tokens of the statements that these lines make, a row for each, also where it has none
unfoldable pub place_rows : Bytes → List (List ℕ) → List (List (List ℕ))
place_rows text [] = []
place_rows text (l ∷ ls) =
    if continues (bytes_at text l) then before (place_tokens text (kept text l)) (place_rows text ls)
    else place_tokens text (kept text l) ∷ place_rows text ls
