-- Rows of tokens: as a text's statements, and as cells. Assumes nothing.
use mathlib.Core.Path.{◌≡◌, refl, ap, ap₂, ◌∙◌}
use mathlib.Core.Bool.{Bool, true, false}
use mathlib.Core.List.{List, [], ◌∷◌, ◌++◌, map, flat_map}
use Prim.Native.Nat.{ℕ}
use Rattle.lists.specs.Lists.{Bytes}
use Rattle.blif_text.specs.Lines.{lines, non_empty}
use Rattle.blif_text.specs.Statements.{Parsed, stmt_of, parsed_line, parsed}
use Rattle.blif_text.specs.Between.Rows.{line_rows, full_rows, text_rows, row_stmt}
use Rattle.blif_text.specs.Between.Places.{is_first, token_of, tokens_of, with_token, grouped}
use Rattle.blif_text.specs.Between.Scan.{NoneFirst, Firsts}
use Rattle.blif_text.proofs.JoinedRows.{rows-joined}

-- ---- a text's statements are those of its rows

parsed-full : (rs : List (List Bytes)) → flat_map parsed_line rs ≡ map row_stmt (full_rows rs)
unfolding parsed_line full_rows non_empty row_stmt flat_map
parsed-full [] = refl
parsed-full ([] ∷ rs) = parsed-full rs
parsed-full ((k ∷ ts) ∷ rs) = ap (λ (l : List Parsed). stmt_of k ts ∷ l) (parsed-full rs)

pub parsed-rows : (s : Bytes) → parsed s ≡ map row_stmt (text_rows s)
unfolding parsed text_rows
parsed-rows s = ap (flat_map parsed_line) (rows-joined (lines s)) ∙ parsed-full (line_rows (lines s))

-- ---- rows that have a token

-- a row, where it has a token
unfoldable pub one_row : List Bytes → List (List Bytes)
one_row ts = full_rows (ts ∷ [])

pub full-cons : (ts : List Bytes) (rs : List (List Bytes)) → full_rows (ts ∷ rs) ≡ one_row ts ++ full_rows rs
unfolding full_rows non_empty one_row
full-cons [] rs = refl
full-cons (t ∷ ts) rs = refl

-- ---- cells grouped

pub grouped-append : (text : Bytes) (xs ys : List ℕ) → (grouped text ys).loose ≡ []
    → ((grouped text (xs ++ ys)).loose ≡ (grouped text xs).loose) × ((grouped text (xs ++ ys)).rows ≡ (grouped text xs).rows ++ (grouped text ys).rows)
unfolding grouped
grouped-append text [] ys e = (e, refl)
grouped-append text (x ∷ xs) ys e = go (is_first x) (grouped-append text xs ys e)
  where
    go : (b : Bool) → ((grouped text (xs ++ ys)).loose ≡ (grouped text xs).loose) × ((grouped text (xs ++ ys)).rows ≡ (grouped text xs).rows ++ (grouped text ys).rows)
        → ((with_token b (token_of text x) (grouped text (xs ++ ys))).loose ≡ (with_token b (token_of text x) (grouped text xs)).loose)
        × ((with_token b (token_of text x) (grouped text (xs ++ ys))).rows ≡ (with_token b (token_of text x) (grouped text xs)).rows ++ (grouped text ys).rows)
    go true ih = (refl, ap₂ (λ (l : List Bytes) (r : List (List Bytes)). (token_of text x ∷ l) ∷ r) ih.0 ih.1)
    go false ih = (ap (λ (l : List Bytes). token_of text x ∷ l) ih.0, ih.1)

pub grouped-none : (text : Bytes) (cs : List ℕ) → NoneFirst cs → ((grouped text cs).loose ≡ tokens_of text cs) × ((grouped text cs).rows ≡ [])
unfolding grouped
grouped-none text [] n = (refl, refl)
grouped-none text (c ∷ cs) n =
    let r = grouped-none text cs n.1 in (
      ap (λ (b : Bool). (with_token b (token_of text c) (grouped text cs)).loose) n.0 ∙ ap (λ (l : List Bytes). token_of text c ∷ l) r.0,
      ap (λ (b : Bool). (with_token b (token_of text c) (grouped text cs)).rows) n.0 ∙ r.1,
    )

-- the cells of one statement are one row
pub grouped-row : (text : Bytes) (cs : List ℕ) → Firsts true cs → ((grouped text cs).loose ≡ []) × ((grouped text cs).rows ≡ one_row (tokens_of text cs))
unfolding grouped one_row full_rows non_empty
grouped-row text [] f = (refl, refl)
grouped-row text (c ∷ cs) f =
    let r = grouped-none text cs f.1 in (
      ap (λ (b : Bool). (with_token b (token_of text c) (grouped text cs)).loose) f.0,
      ap (λ (b : Bool). (with_token b (token_of text c) (grouped text cs)).rows) f.0
          ∙ ap₂ (λ (l : List Bytes) (q : List (List Bytes)). (token_of text c ∷ l) ∷ q) r.0 r.1,
    )
