-- The columns and the output of the cube line that a row of token cells is. Assumes nothing.
use mathlib.Core.Path.{◌≡◌, refl}
use mathlib.Core.List.{List, [], ◌∷◌}
use Prim.Native.Nat.{ℕ, ◌-◌, ◌≤◌, ◌<◌}
use native.Mathlib.Omega.{arith}
use lib.ListN.{length, get_or}
use Rattle.blif_text.specs.Decls.{columns, output}
use Rattle.blif_text.specs.Between.Places.{token_of, tokens_of}

-- a line with one token has no columns
pub no-columns : (text row : List ℕ) → length row < 2 → [] ≡ columns (tokens_of text row)
unfolding columns
no-columns text [] h = refl
no-columns text (c ∷ []) h = refl
no-columns text (c ∷ d ∷ cs) h = absurd (omega arith)

-- those of any other are its first token
pub first-columns : (text row : List ℕ) → 2 ≤ length row → token_of text (get_or row 0 0) ≡ columns (tokens_of text row)
unfolding columns
first-columns text [] h = absurd (omega arith)
first-columns text (c ∷ []) h = absurd (omega arith)
first-columns text (c ∷ d ∷ cs) h = refl

-- a row's last cell
abbrev pub last_cell : List ℕ → ℕ
last_cell row = get_or row (length row - 1) 0

-- the output of a line with one token or two is its last
pub last-output : (text row : List ℕ) → 0 < length row → length row < 3 → output (tokens_of text row) ≡ token_of text (last_cell row)
unfolding output
last-output text [] l h = absurd (omega arith)
last-output text (c ∷ []) l h = refl
last-output text (c ∷ d ∷ []) l h = refl
last-output text (c ∷ d ∷ e ∷ cs) l h = absurd (omega arith)
