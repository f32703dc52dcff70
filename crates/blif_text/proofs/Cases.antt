-- The cells of a few texts' tokens, computed. Assumes nothing.
use mathlib.Core.Path.{◌≡◌, refl}
use mathlib.Core.Bool.{true, false}
use mathlib.Core.List.{[], ◌∷◌, ◌++◌, head_d}
use Rattle.lists.specs.Lists.{bytes}
use Rattle.blif_text.specs.Lines.{cons_first, split, cut, continues, before, is_blank, non_empty}
use Rattle.blif_text.specs.Between.PlaceRows.{cr_before_lf, place_lines, kept, place_tokens, place_rows}
use Rattle.blif_text.specs.Between.Places.{token_cell, row_cells, rows_cells, token_cells}

-- what a comment holds is no token; equal names stand each at its place; a statement goes on behind a backslash, CR and LF, and another
-- follows; without LF the CR stays, and so does the backslash before it
pub token-cases :
    (token_cells (bytes "a #a") ≡ token_cell true 0 1 ∷ [])
    × (token_cells (bytes ".inputs a a") ≡ token_cell true 0 7 ∷ token_cell false 8 1 ∷ token_cell false 10 1 ∷ [])
    × (token_cells (bytes ".inputs a\\" ++ 13 ∷ 10 ∷ bytes "b" ++ 10 ∷ bytes ".end") ≡ token_cell true 0 7 ∷ token_cell false 8 1 ∷ token_cell false 12 1 ∷ token_cell true 14 4 ∷ [])
    × (token_cells (bytes "a\\" ++ 13 ∷ []) ≡ token_cell true 0 2 ∷ [])
unfolding head_d cons_first split cut continues before is_blank non_empty cr_before_lf place_lines kept place_tokens place_rows row_cells rows_cells token_cells
token-cases = (refl, refl, refl, refl)
