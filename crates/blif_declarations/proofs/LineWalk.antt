-- The walk over the cube lines that stand directly at a place. Assumes nothing.
use mathlib.Core.Path.{◌≡◌, refl, sym, ap, ◌∙◌}
use mathlib.Core.Bool.{true}
use mathlib.Core.List.{List, [], ◌∷◌, ◌++◌, append-nil}
use Prim.Native.Nat.{ℕ, ◌+◌, ◌≤◌, ◌<◌}
use native.Mathlib.Omega.{arith}
use lib.ListN.{length, get_or, take, length-append, length-map}
use lib.Seq.{slice, append_snoc, take_at, length-slice}
use Rattle.lists.specs.Lists.{Bytes, sum_of}
use Rattle.lists.proofs.Counting.{sum-append}
use Rattle.blif_text.specs.Decls.{cubes, decls}
use Rattle.blif_text.specs.Between.Places.{token_of, tokens_of}
use Rattle.blif_text.specs.Between.Walk.{rows_from, stmts_from, StmtsAt}
use Rattle.blif_text.specs.Keywords.{leading_dot, keyword_of}
use Rattle.blif_text.specs.declared.Keyword.{Keyword}
use Rattle.blif_text.specs.declared.Keyword.TheVariants as key
use Rattle.blif_text.proofs.KeywordLaws.{dot-no-cube}
use Rattle.blif_text.proofs.RefusalLaws.{stmts-end}
use Rattle.blif_declarations.specs.Between.Rows.{RowIs, LinesAt}
use Rattle.blif_declarations.proofs.RowStarts.{row-found, row_is}

-- ---- a row that is a cube line, and one that is none

module _ {text tokens : List ℕ} {n at end : ℕ} where
  cube-lines : RowIs text tokens n at end key.Cube → cubes (stmts_from text tokens n at) ≡ tokens_of text (slice at end tokens) ∷ cubes (stmts_from text tokens n end)
  unfolding cubes
  cube-lines w = ap cubes w.starts

  pub cube-decls : RowIs text tokens n at end key.Cube → decls (stmts_from text tokens n end) ≡ decls (stmts_from text tokens n at)
  unfolding decls
  cube-decls w = sym (ap decls w.starts)

  no-cube : (k : Keyword) → RowIs text tokens n at end k → (key.Cube ≡ k → ⊥) → cubes (stmts_from text tokens n at) ≡ []
  unfolding cubes
  no-cube key.Model w f = ap cubes w.starts
  no-cube key.End w f = ap cubes w.starts
  no-cube key.Exdc w f = ap cubes w.starts
  no-cube key.Inputs w f = ap cubes w.starts
  no-cube key.Outputs w f = ap cubes w.starts
  no-cube key.Names w f = ap cubes w.starts
  no-cube key.Latch w f = ap cubes w.starts.0
  no-cube key.Cube w f = absurd (f refl)
  no-cube key.Unsupported w f = absurd w.starts

-- no cube line starts at a leading dot
dot-lines : {text tokens : List ℕ} {n at : ℕ} → StmtsAt text tokens n at → at < n → leading_dot (token_of text (get_or tokens at 0)) ≡ true
    → cubes (stmts_from text tokens n at) ≡ []
dot-lines {text} {tokens} {n} {at} c h d =
    let first = token_of text (get_or tokens at 0) in
    row-found tokens n at h (λ r w. no-cube (keyword_of first) (row_is c h w refl) (dot-no-cube first d))

-- no statement, no cube line
no_lines : cubes [] ≡ []
unfolding cubes
no_lines = refl

-- ---- one line after the other

-- the rows from at to i are cube lines, count of them
pub record Passed (text tokens : List ℕ) (n at count i : ℕ) : Type 0 where
  pub seen : List (List Bytes)
  pub low : at + count ≤ i
  pub place : i ≡ at + sum_of length seen
  pub rest : StmtsAt text tokens n i
  pub rows : rows_from text tokens n at ≡ seen ++ rows_from text tokens n i
  pub lines : cubes (stmts_from text tokens n at) ≡ seen ++ cubes (stmts_from text tokens n i)
  pub counted : count ≡ length seen
  pub same : decls (stmts_from text tokens n i) ≡ decls (stmts_from text tokens n at)

module _ {text tokens : List ℕ} {n at count i : ℕ} (c : Passed text tokens n at count i) where
  -- one more
  pub passed-next : {end : ℕ} → RowIs text tokens n i end key.Cube → Passed text tokens n at (count + 1) end
  passed-next {end} w =
      let row = tokens_of text (slice i end tokens) in
      record {
        seen = c.seen ++ (row ∷ []);
        low = omega (arith, c.low, w.low);
        place =
            omega (
              arith,
              c.place,
              w.low,
              sum-append length c.seen (row ∷ []),
              length-map (slice i end tokens) (token_of text) ∙ length-slice i end tokens (omega (arith, w.rest.rows.high, w.rest.rows.places.room)),
            );
        rest = w.rest;
        rows = c.rows ∙ ap (λ (x : List (List Bytes)). c.seen ++ x) w.rows ∙ sym (append_snoc c.seen row (rows_from text tokens n end));
        lines =
            c.lines ∙ ap (λ (x : List (List Bytes)). c.seen ++ x) (cube-lines w)
            ∙ sym (append_snoc c.seen row (cubes (stmts_from text tokens n end)));
        counted = omega (arith, c.counted, length-append c.seen (row ∷ []));
        same = cube-decls w ∙ c.same;
      }

  -- no more
  none_left : cubes (stmts_from text tokens n i) ≡ [] → LinesAt text tokens n at count i
  none_left e =
      let are : cubes (stmts_from text tokens n at) ≡ c.seen = c.lines ∙ ap (λ (x : List (List Bytes)). c.seen ++ x) e ∙ append-nil c.seen in
      let first : take count (rows_from text tokens n at) ≡ c.seen = ap (take count) c.rows ∙ take_at c.seen (rows_from text tokens n i) count (sym c.counted) in
      record {
        low = c.low;
        behind = c.place ∙ ap (λ (x : List (List Bytes)). at + sum_of length x) (sym first);
        rest = c.rest;
        lines = are ∙ sym first;
        enough = omega (arith, c.counted, ap length c.rows, length-append c.seen (rows_from text tokens n i));
        counted = c.counted ∙ sym (ap length are);
        same = c.same;
      }

  -- another statement stands behind the last
  pub passed-stop : i < n → leading_dot (token_of text (get_or tokens i 0)) ≡ true → LinesAt text tokens n at count i
  passed-stop h d = none_left (dot-lines c.rest h d)

  -- nothing stands there
  pub passed-end : n ≤ i → LinesAt text tokens n at count i
  passed-end h = none_left (ap cubes (stmts-end c.rest h) ∙ no_lines)
