-- The row at a place: its statement is the first of those from there on. Assumes nothing.
use Rattle.refusals.specs.Order.{fine}
use mathlib.Core.Path.{◌≡◌, refl, sym, ap, ◌∙◌}
use mathlib.Core.Bool.{false}
use mathlib.Core.List.{List, [], ◌∷◌, map}
use Prim.Native.Nat.{ℕ, zero, suc, ◌+◌, ◌-◌, ◌≤◌, ◌<◌}
use native.Mathlib.Omega.{arith}
use lib.ListN.{length, get_or, take, drop, length-map}
use lib.Seq.{slice, slice_empty, length-slice}
use borrow.Author.Tests.{lt-ltb, le-ltb}
use Rattle.lists.specs.Lists.{Bytes}
use Rattle.lists.proofs.Tests.{by_order, by-test, below_next}
use Rattle.refusals.proofs.Order.{refused-ne-fine}
use Rattle.blif_text.specs.Statements.{Stmt, first_bad, stmts}
use Rattle.blif_text.specs.Between.Rows.{row_stmt}
use Rattle.blif_text.specs.Between.Places.{is_first, token_of, tokens_of, grouped}
use Rattle.blif_text.specs.Keywords.{keyword_of}
use Rattle.blif_text.specs.Between.PlacedStatements.{run_tokens, latch_in, init_in, start_of, parsed_from, RowTo, names_run, started_latch, statement_of, refusal_in}
use Rattle.std.specs.Prelude.{Bool, Some, None}
use Rattle.std.specs.declared.option.Option as std-option
use Rattle.blif_text.specs.Between.Walk.{rows_from, stmts_from, RowsAt, StmtsAt}
use Rattle.blif_text.specs.declared.Keyword.{Keyword}
use Rattle.blif_text.specs.declared.Keyword.TheVariants as key
use Rattle.blif_text.specs.declared.Run.{Run}
use Rattle.blif_text.proofs.WordLaws.{drop-take}
use Rattle.blif_text.proofs.RowWalk.{rows_end, rows_are}
use Rattle.blif_text.proofs.RefusalLaws.{stmts-are, stmts-parsed_from, stmts-next}
use Rattle.blif_declarations.specs.Between.Rows.{names, Starts, RowIs}

-- ---- a run of names

-- the tokens of a run
run-names : (text cells : List ℕ) (run : Run) → run_tokens text cells run ≡ names text cells run
run-names text cells run =
    let q : run.count ≡ run.first + run.count - run.first = omega arith in
    ap (tokens_of text) (ap (λ (k : ℕ). take k (drop run.first cells)) q ∙ sym (drop-take run.first (run.first + run.count) cells))

-- how many names a run has
pub names-length : (text cells : List ℕ) (run : Run) → run.first + run.count ≤ length cells → length (names text cells run) ≡ run.count
names-length text cells run h =
    length-map (slice run.first (run.first + run.count) cells) (token_of text)
    ∙ length-slice run.first (run.first + run.count) cells h
    ∙ omega arith

-- ---- the place behind all rows

-- no cell is loose
none-loose : (text : Bytes) → (grouped text []).loose ≡ []
unfolding grouped
none-loose text = refl

-- no statement is bad
none-bad : first_bad [] ≡ fine
unfolding first_bad
none-bad = refl

-- behind all rows too stands what a walk asks for
pub stmts-behind : {text cells : List ℕ} {n at : ℕ} → StmtsAt text cells n at → StmtsAt text cells n n
stmts-behind {text} {cells} {n} c =
    let b : RowsAt text cells n n =
    record {
      high = omega arith;
      places = c.rows.places;
      none-loose = ap (λ (x : List ℕ). (grouped text x).loose) (slice_empty n cells) ∙ none-loose text;
    } in
    record { rows = b; good = ap (λ (x : List (List Bytes)). first_bad (map row_stmt x)) (rows_end b (omega arith)) ∙ none-bad }

-- ---- where a row ends

-- a row that starts before the cells in use end has an end
pub row-found : {X : Type 0} (cells : List ℕ) (n at : ℕ) → at < n → ((r : ℕ) → RowTo cells at n r → X) → X
row-found {X} cells n at h found = from (n - (at + 1)) (at + 1) (omega arith) (omega arith) (λ k l m. absurd (omega arith))
  where
    from : (left i : ℕ) → left + i ≡ n → at < i → ((k : ℕ) → at < k → k < i → is_first (get_or cells k 0) ≡ false) → X
    from zero i e l inner = found i (record { low = l; high = omega arith; inner = inner; stop = λ m. absurd (omega arith) })
    from (suc left) i e l inner =
        by-test (is_first (get_or cells i 0))
        (λ t. found i (record { low = l; high = omega arith; inner = inner; stop = λ m. t }))
        (λ t. from left (i + 1) (omega arith) (omega arith) (λ k a b. below_next (λ (j : ℕ). at < j → is_first (get_or cells j 0) ≡ false) i (λ j u v. inner j v u) (λ v. t) k b a))

-- ---- a row's statement

module _ {text cells : List ℕ} {n at r : ℕ} (c : StmtsAt text cells n at) (h : at < n) (w : RowTo cells at n r) where
  -- the tokens of a cube line are the row's
  cube-row : run_tokens text cells (record { first = at; count = r - at }) ≡ tokens_of text (slice at r cells)
  cube-row =
      let q : at + (r - at) ≡ r = omega (arith, w.low) in
      run-names text cells (record { first = at; count = r - at }) ∙ ap (λ (j : ℕ). tokens_of text (slice at j cells)) q

  module _ {keyword : Keyword} (e : keyword ≡ keyword_of (token_of text (get_or cells at 0))) where
    -- the row's statement, then the others
    are : stmts_from text cells n at ≡ stmts (parsed_from text cells (statement_of text cells keyword at r) ∷ map row_stmt (rows_from text cells n r))
    are = stmts-are c h w ∙ ap (λ (k : Keyword). stmts (parsed_from text cells (statement_of text cells k at r) ∷ map row_stmt (rows_from text cells n r))) (sym e)

    -- which is no refusal
    unrefused : refusal_in (statement_of text cells keyword at r) ≡ fine
    unrefused = ap (λ (k : Keyword). refusal_in (statement_of text cells k at r)) e ∙ stmts-parsed_from c h w

  -- a latch whose start value is no refusal
  latch-good : (s : std-option.Option Bool) → stmts_from text cells n at ≡ stmts (parsed_from text cells (started_latch s (names_run at r)) ∷ map row_stmt (rows_from text cells n r))
      → refusal_in (started_latch s (names_run at r)) ≡ fine → stmts_from text cells n at ≡ Stmt.latch (latch_in text cells (names_run at r)) ∷ stmts_from text cells n r
  unfolding stmts
  latch-good (Some v) q f = q
  latch-good None q f = absurd (refused-ne-fine f)

  row-starts : (k : Keyword) → k ≡ keyword_of (token_of text (get_or cells at 0)) → Starts text cells n at r k
  unfolding stmts
  row-starts key.Model e =
      by_order 1 (r - at - 1) (λ m. rw (le-ltb (r - at - 1) 1 m) at (are e)) (λ m. absurd (refused-ne-fine (rw (lt-ltb (r - at - 1) 1 m) at (unrefused e))))
  row-starts key.End e = are e
  row-starts key.Exdc e = are e
  row-starts key.Inputs e = are e ∙ ap (λ (ns : List Bytes). Stmt.inputs ns ∷ stmts_from text cells n r) (run-names text cells (names_run at r))
  row-starts key.Outputs e = are e ∙ ap (λ (ns : List Bytes). Stmt.outputs ns ∷ stmts_from text cells n r) (run-names text cells (names_run at r))
  row-starts key.Names e = are e ∙ ap (λ (ns : List Bytes). Stmt.names ns ∷ stmts_from text cells n r) (run-names text cells (names_run at r))
  row-starts key.Latch e =
      by_order 2 (r - at - 1)
      (λ m. (latch-good (start_of (init_in text cells (at + 3) r)) (rw (le-ltb (r - at - 1) 2 m) at (are e)) (rw (le-ltb (r - at - 1) 2 m) at (unrefused e)), omega arith))
      (λ m. absurd (refused-ne-fine (rw (lt-ltb (r - at - 1) 2 m) at (unrefused e))))
  row-starts key.Cube e = are e ∙ ap (λ (ns : List Bytes). Stmt.cube ns ∷ stmts_from text cells n r) cube-row
  row-starts key.Unsupported e = refused-ne-fine (unrefused e)

  pub row_is : {k : Keyword} → k ≡ keyword_of (token_of text (get_or cells at 0)) → RowIs text cells n at r k
  row_is {k} e = record { low = w.low; rest = stmts-next c h w; rows = rows_are c.rows h w; starts = row-starts k e }
