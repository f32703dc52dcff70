-- The statement of a row by its first token's keyword, and what each statement of places says. Assumes nothing.
use mathlib.Core.Path.{◌≡◌, refl, sym, ap, ◌∙◌}
use mathlib.Core.List.{List, [], ◌∷◌}
use mathlib.Core.Option
use mathlib.Core.Option.{Option, none, some}
use Prim.Native.Nat.{ℕ, ◌+◌, ◌-◌, ◌≤◌, ◌<◌}
use native.Mathlib.Omega.{arith}
use native.Mathlib.Numerals.{add-one}
use lib.ListN.{length, get_or, take, drop, drop_of_length-le}
use lib.Seq.{slice, slice-cons, length-take-le}
use borrow.Author.Tests.{lt-ltb, le-ltb}
use Rattle.lists.specs.Lists.{Bytes}
use Rattle.refusals.specs.declared.Refusal.{Refusal}
use Rattle.refusals.specs.declared.Refusal.TheVariants as refusal
use Rattle.blif_meaning.specs.Model.{Init, I0, I1, DontCare, Unknown, plain_latch}
use Rattle.blif_text.specs.Statements.{ok, bad, model_stmt, init_among, latch_with, latch_stmt, by_keyword, stmt_of}
use Rattle.blif_text.specs.Statements as stmt
use Rattle.blif_text.specs.Between.Rows.{row_stmt}
use Rattle.blif_text.specs.Between.Places.{token_of, tokens_of}
use Rattle.blif_text.specs.Keywords.{keyword_of}
use Rattle.blif_text.specs.Between.PlacedStatements.{parsed_from, init_in, start_of, names_run, started_latch, latch_statement, statement_of, statement_at}
use Rattle.blif_text.specs.declared.Keyword.{Keyword}
use Rattle.blif_text.specs.declared.Keyword.TheVariants as key
use Rattle.blif_text.specs.declared.Run.{Run}
use Rattle.std.specs.Prelude.{Bool, Result, Ok, Err}
use Rattle.std.specs.declared.option.Option as std-option
use Rattle.blif_text.specs.declared.Statement.{Statement}
use Rattle.blif_text.specs.declared.Statement.TheVariants as place
use Rattle.lists.proofs.Tests.{by_order}
use Rattle.blif_text.proofs.WordLaws.{drop-take}

-- ---- by the keyword

-- a row's first token and the others
row_is : (k : Bytes) (ts : List Bytes) → row_stmt (k ∷ ts) ≡ by_keyword (keyword_of k) k ts
unfolding row_stmt stmt_of
row_is k ts = refl

-- `.model` without a name
model-none : model_stmt [] ≡ bad refusal.MissingName
unfolding model_stmt
model-none = refl

-- and with one
model-some : (n : Bytes) (ts : List Bytes) → model_stmt (n ∷ ts) ≡ ok stmt.Stmt.model
unfolding model_stmt
model-some n ts = refl

-- `.latch` without a name
latch-none : latch_stmt [] ≡ bad refusal.MissingName
unfolding latch_stmt
latch-none = refl

-- with one
latch-one : (d : Bytes) → latch_stmt (d ∷ []) ≡ bad refusal.MissingName
unfolding latch_stmt
latch-one d = refl

-- with two or more
latch-two : (d q : Bytes) (ts : List Bytes) → latch_stmt (d ∷ q ∷ ts) ≡ latch_with d q (init_among ts)
unfolding latch_stmt
latch-two d q ts = refl

-- ---- the cells of a row

module _ (text cells : List ℕ) where
  -- none from the end on
  slice-none : (at end : ℕ) → end ≤ at → end ≤ length cells → slice at end cells ≡ []
  slice-none at end h r = drop_of_length-le (take end cells) {i = at} (omega (arith, length-take-le end cells r))

  -- no token either
  tokens_none : (at end : ℕ) → end ≤ at → end ≤ length cells → tokens_of text (slice at end cells) ≡ []
  tokens_none at end h r = ap (tokens_of text) (slice-none at end h r)

  -- the first and the others
  tokens-cons : (at end : ℕ) → at < end → end ≤ length cells
      → tokens_of text (slice at end cells) ≡ token_of text (get_or cells at 0) ∷ tokens_of text (slice (at + 1) end cells)
  tokens-cons at end h r = rw add-one (ap (tokens_of text) (slice-cons at end cells 0 h r))

  -- a row's statement
  pub row-by-keyword : (at end : ℕ) → at < end → end ≤ length cells
      → row_stmt (tokens_of text (slice at end cells))
      ≡ by_keyword (keyword_of (token_of text (get_or cells at 0))) (token_of text (get_or cells at 0)) (tokens_of text (slice (at + 1) end cells))
  row-by-keyword at end h r =
      ap row_stmt (tokens-cons at end h r)
      ∙ row_is (token_of text (get_or cells at 0)) (tokens_of text (slice (at + 1) end cells))

-- ---- a latch's

-- how many names there are
pub many : (at end : ℕ) {names : Run} → names ≡ names_run at end → names.count ≡ end - at - 1
many at end e = ap (λ (run : Run). run.count) e

-- what a start value's test tells: the statement that has the names, or its refusal
pub started : {run names : Run} {told s : std-option.Option Bool} (f : Run → Result Statement Refusal) → names ≡ run → told ≡ s → f run ≡ started_latch s run → f names ≡ started_latch told run
started {run} f e t p = ap f e ∙ p ∙ ap (λ (x : std-option.Option Bool). started_latch x run) (sym t)

module _ (text cells : List ℕ) (at end : ℕ) {names : Run} (e : names ≡ names_run at end) where
  pub latch-started : {s : Result Statement Refusal} {told : std-option.Option Bool} → 2 ≤ names.count
      → told ≡ start_of (init_among (tokens_of text (take (end - (at + 3)) (drop (at + 3) cells))))
      → s ≡ started_latch told (names_run at end) → s ≡ latch_statement text cells at end
  latch-started m t p =
      p
      ∙ ap (λ (x : std-option.Option Bool). started_latch x (names_run at end)) (t ∙ ap (λ (x : List ℕ). start_of (init_among (tokens_of text x))) (sym (drop-take (at + 3) end cells)))
      ∙ sym (rw (le-ltb (end - at - 1) 2 (omega (arith, many at end e, m))))

-- ---- what the statement of places says

module _ (text cells : List ℕ) {at end : ℕ} (h : at < end) (r : end ≤ length cells) where
  -- the row's first token
  abbrev first : Bytes
  first = token_of text (get_or cells at 0)

  -- its other tokens
  abbrev names : List Bytes
  names = tokens_of text (slice (at + 1) end cells)

  -- the other tokens as the code's run of cells
  names-run : tokens_of text (take (end - at - 1) (drop (at + 1) cells)) ≡ names
  names-run =
      let q : end - at - 1 ≡ end - (at + 1) = omega arith in
      ap (tokens_of text) (ap (λ (k : ℕ). take k (drop (at + 1) cells)) q ∙ sym (drop-take (at + 1) end cells))

  -- `.model` with a name, and without one
  says-model : parsed_from text cells (statement_of text cells key.Model at end) ≡ model_stmt names
  says-model =
      by_order 1 (end - at - 1)
      (λ m.
      rw (le-ltb (end - at - 1) 1 m)
      (sym (ap model_stmt (tokens-cons text cells (at + 1) end (omega arith) r)
      ∙ model-some (token_of text (get_or cells (at + 1) 0)) (tokens_of text (slice (at + 1 + 1) end cells)))))
      (λ m. rw (lt-ltb (end - at - 1) 1 m) (sym (ap model_stmt (tokens_none text cells (at + 1) end (omega arith) r) ∙ model-none)))

  -- `.latch` with two names, by its initial state
  says-latch : 2 ≤ end - at - 1 → parsed_from text cells (started_latch (start_of (init_in text cells (at + 3) end)) (names_run at end)) ≡ latch_stmt names
  unfolding latch_with
  says-latch m =
      by (init_in text cells (at + 3) end) refl
      ∙ sym (ap latch_stmt
      (tokens-cons text cells (at + 1) end (omega arith) r
      ∙ ap (λ (ts : List Bytes). token_of text (get_or cells (at + 1) 0) ∷ ts) (tokens-cons text cells (at + 1 + 1) end (omega arith) r))
      ∙ latch-two (token_of text (get_or cells (at + 1) 0)) (token_of text (get_or cells (at + 1 + 1) 0)) (tokens_of text (slice (at + 1 + 1 + 1) end cells))
      ∙ ap (λ (k : ℕ). latch_with (token_of text (get_or cells (at + 1) 0)) (token_of text (get_or cells (at + 1 + 1) 0)) (init_in text cells k end)) third)
    where
      third : at + 1 + 1 + 1 ≡ at + 3
      third = omega arith

      -- where the latch's own places say it
      own : init_in text cells (at + 1 + 2) (at + 1 + (end - at - 1)) ≡ init_in text cells (at + 3) end
      own =
          let a : at + 1 + 2 ≡ at + 3 = omega arith in
          let b : at + 1 + (end - at - 1) ≡ end = omega arith in
          rw (a, b)

      -- zero or one, the statement is the same
      either : (i : Init) → parsed_from text cells (started_latch (start_of (some i)) (names_run at end)) ≡ parsed_from text cells (Ok (place.Latch (names_run at end)))
      either I0 = refl
      either I1 = refl
      either DontCare = refl
      either Unknown = refl

      by : (o : Option Init) → init_in text cells (at + 3) end ≡ o
          → parsed_from text cells (started_latch (start_of o) (names_run at end)) ≡ latch_with (token_of text (get_or cells (at + 1) 0)) (token_of text (get_or cells (at + 1 + 1) 0)) o
      by none q = refl
      by (some i) q =
          let told : Option.get_or (init_in text cells (at + 1 + 2) (at + 1 + (end - at - 1))) Unknown ≡ i = ap (λ (x : Option Init). Option.get_or x Unknown) (own ∙ q) in
          either i ∙ ap (λ (x : Init). ok (stmt.Stmt.latch (plain_latch (token_of text (get_or cells (at + 1) 0)) (token_of text (get_or cells (at + 1 + 1) 0)) x))) told

  -- and with fewer
  says-no-latch : end - at - 1 < 2 → bad refusal.MissingName ≡ latch_stmt names
  says-no-latch m =
      by_order end (at + 1)
      (λ l. sym (ap latch_stmt (tokens_none text cells (at + 1) end l r) ∙ latch-none))
      (λ l.
      sym (ap latch_stmt
      (tokens-cons text cells (at + 1) end l r
      ∙ ap (λ (ts : List Bytes). token_of text (get_or cells (at + 1) 0) ∷ ts) (tokens_none text cells (at + 1 + 1) end (omega arith) r))
      ∙ latch-one (token_of text (get_or cells (at + 1) 0))))

  -- by the keyword
  says : (k : Keyword) → parsed_from text cells (statement_of text cells k at end) ≡ by_keyword k first names
  says key.Model = says-model
  says key.Inputs = ap (λ (ts : List Bytes). ok (stmt.Stmt.inputs ts)) names-run
  says key.Outputs = ap (λ (ts : List Bytes). ok (stmt.Stmt.outputs ts)) names-run
  says key.Latch =
      by_order 2 (end - at - 1) (λ m. rw (le-ltb (end - at - 1) 2 m) (says-latch m)) (λ m. rw (lt-ltb (end - at - 1) 2 m) (says-no-latch m))
  says key.Names = ap (λ (ts : List Bytes). ok (stmt.Stmt.names ts)) names-run
  says key.End = refl
  says key.Exdc = refl
  says key.Unsupported = refl
  says key.Cube =
      ap (λ (ts : List Bytes). ok (stmt.Stmt.cube ts)) (ap (tokens_of text) (sym (drop-take at end cells)) ∙ tokens-cons text cells at end h r)

  -- the statement of the row is the row's
  pub statement-says : parsed_from text cells (statement_at text cells at end) ≡ row_stmt (tokens_of text (slice at end cells))
  statement-says = says (keyword_of first) ∙ sym (row-by-keyword text cells at end h r)
