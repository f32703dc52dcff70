-- What is left of the pass over covers, step by step. Each record says that the whole pass answers what is left; each law takes one such
-- fact to the next. Assumes nothing.
use Rattle.std.specs.Prelude.{⊤, Result, Err}
use mathlib.Core.Path.{◌≡◌, sym, ap, ap₂, ◌∙◌, subst}
use mathlib.Core.Bool.{Bool, true, false, not}
use mathlib.Core.List.{List, ◌∷◌, map}
use Prim.Native.Nat.{ℕ, suc, ◌+◌, ◌-◌, ◌≤◌, ◌<◌}
use native.Mathlib.Nat.{sub-eq-zero_of_le}
use native.Mathlib.Omega.{arith}
use lib.ListN.{length, get_or, take, drop, drop_of_length-le}
use borrow.Author.Tests.{not-true, not-false}
use borrow.Author.Rules.{rules}
use Rattle.lists.specs.Lists.{Bytes, all, range}
use Rattle.lists.proofs.Places.{drop-next}
use Rattle.lists.proofs.Range.{range_cons, range-end}
use Rattle.lists.proofs.Tests.{by_order}
use Rattle.refusals.specs.Order.{◌or_else◌, refuse_if, fine}
use Rattle.refusals.specs.declared.Refusal.TheVariants as refusal
use Rattle.refusals.proofs.Order.{or_else-assoc}
use Rattle.blif_text.specs.Between.Places.{InText, token_of, tokens_of}
use Rattle.blif_text.specs.Decls.{columns}
use Rattle.blif_text.specs.Between.PlacedStatements.{RowTo}
use Rattle.blif_text.specs.Between.Walk.{rows_from, Inside, RowsAt}
use Rattle.blif_text.specs.Between.Blocks.{first_name, name_count, line_count, def_from, def_at, defs_at, BlockIn, Blocks}
use Rattle.blif_text.proofs.ColumnLaws.{last_cell}
use Rattle.blif_text.proofs.RowWalk.{part, row_inside, rows_end, rows_next, part-rows}
use Rattle.blif_reading.specs.Read.{cover_fault, cover_faults, is_column}
use Rattle.blif_read_covers.specs.Between.Pass.{output_of, with_output, differ, fits, lines_in}
use Rattle.blif_read_covers.specs.declared.Output.{Output}
use Rattle.blif_read_covers.specs.declared.Outputs.{Outputs}
use Rattle.blif_read_covers.proofs.CoverLaws.{no_output, block-fault, latch-none, cover-lines, none_left}
use Rattle.blif_read_covers.proofs.LineLaws.{lines_fault, LineIn, line-in, misfit, fitting, refuse_if-and}
use Rattle.refusals.specs.declared.Refusal.{Refusal}

-- the refusal of the whole pass
abbrev pub whole : Bytes → List ℕ → ℕ → List ℕ → ℕ → Result ⊤ Refusal
whole text tokens n blocks g = cover_faults (defs_at text tokens n blocks g)

-- the refusal of the covers from cover j on
abbrev pub rest : Bytes → List ℕ → ℕ → List ℕ → ℕ → ℕ → Result ⊤ Refusal
rest text tokens n blocks g j = cover_faults (map (def_at text tokens n blocks) (range j (g - j)))

-- covers from cover j on are left
pub record Covers (text tokens : List ℕ) (n : ℕ) (blocks : List ℕ) (g j : ℕ) : Type 0 where
  pub places : Blocks text tokens n blocks g
  pub within : j ≤ g
  pub is : whole text tokens n blocks g ≡ rest text tokens n blocks g j

-- of cover j, lines from line k on are left, which stand from token at on
pub record Lines (text tokens : List ℕ) (n : ℕ) (blocks : List ℕ) (g j names lines at : ℕ) (met : Outputs) (k : ℕ) : Type 0 where
  pub places : Blocks text tokens n blocks g
  pub cover : j < g
  pub within : k ≤ lines
  pub named : k < lines → 0 < names
  pub rows : k < lines → RowsAt text tokens n at
  pub enough : k < lines → lines - k ≤ length (rows_from text tokens n at)
  pub is :
      whole text tokens n blocks g
      ≡ (lines_fault (names - 1) met (take (lines - k) (rows_from text tokens n at)) or_else rest text tokens n blocks g (j + 1))

-- of line k, columns from column i on are left, and its output
pub record Columns (text tokens : List ℕ) (n : ℕ) (blocks : List ℕ) (g j names lines k end : ℕ) (met : Outputs) (cols : Bytes) (o : Output) (i : ℕ) : Type 0 where
  pub places : Blocks text tokens n blocks g
  pub cover : j < g
  pub line : k < lines
  pub named : 0 < names
  pub rows : RowsAt text tokens n end
  pub enough : lines - (k + 1) ≤ length (rows_from text tokens n end)
  pub is :
      whole text tokens n blocks g
      ≡ (refuse_if (not (all is_column (drop i cols))) refusal.WrongCubeLine
      or_else (lines_fault (names - 1) (with_output met o) (take (lines - (k + 1)) (rows_from text tokens n end)) or_else rest text tokens n blocks g (j + 1)))

-- the covers from cover j on: cover j, then the others
rest-is : (text tokens : List ℕ) (n : ℕ) (blocks : List ℕ) (g j : ℕ) → j < g
    → rest text tokens n blocks g j ≡ (cover_fault (def_at text tokens n blocks j) or_else rest text tokens n blocks g (j + 1))
unfolding cover_faults
rest-is text tokens n blocks g j h = ap (λ (l : List ℕ). cover_faults (map (def_at text tokens n blocks) l)) (range_cons g j h)

module _ {text tokens : List ℕ} {n : ℕ} {blocks : List ℕ} {g : ℕ} where
  module _ {j : ℕ} where
    -- the pass ends
    pub end-pass : g ≤ j → Covers text tokens n blocks g j → fine ≡ whole text tokens n blocks g
    unfolding cover_faults
    end-pass h v = sym (v.is ∙ ap (λ (l : List ℕ). cover_faults (map (def_at text tokens n blocks) l)) (range-end g j h))

    -- the next cover
    pub enter-cover : j < g → Covers text tokens n blocks g j → {first names lines l : ℕ}
        → (first ≡ first_name blocks j) × (names ≡ name_count blocks j) × (lines ≡ line_count blocks j) → l ≡ lines_in names lines
        → Lines text tokens n blocks g j names l (first + names) no_output 0
    enter-cover h v {first} {names} {lines} {l} e s =
        let b : BlockIn text tokens n first names lines = rw (e.0, e.1, e.2) (v.places.each j h) in
        let q : lines_in names lines ≡ l - 0 = omega (arith, s) in
        let some : 0 < l → 0 < names = λ m. latch-none names lines (subst (λ (x : ℕ). 0 < x) s m) in
        record {
          places = v.places;
          cover = h;
          within = omega arith;
          named = some;
          rows = λ m. b.behind (some m);
          enough = λ m. omega (arith, b.enough (some m), s, cover-lines names lines (some m));
          is =
              v.is
              ∙ rest-is text tokens n blocks g j h
              ∙ ap (λ (x : Result ⊤ Refusal). x or_else rest text tokens n blocks g (j + 1))
              (sym (λ i. cover_fault (def_from text tokens n (e.0 i) (e.1 i) (e.2 i)))
              ∙ block-fault text tokens n first names lines (omega (arith, b.cover_names, v.places.places.room))
              ∙ ap (λ (m : ℕ). lines_fault (names - 1) no_output (take m (rows_from text tokens n (first + names)))) q);
        }

    module _ {names lines at : ℕ} {met : Outputs} {k : ℕ} (v : Lines text tokens n blocks g j names lines at met k) where
      -- a line that is left stands at a token in use
      pub line-there : k < lines → at < n
      line-there h =
          by_order n at (λ l. absurd (omega (arith, v.enough h, ap length (rows_end (v.rows h) l)))) (λ l. l)

      -- the outputs of the lines that are through
      through : lines ≤ k → whole text tokens n blocks g ≡ (refuse_if (differ met) refusal.OutputsDiffer or_else rest text tokens n blocks g (j + 1))
      through h =
          v.is
          ∙ ap (λ (m : ℕ). lines_fault (names - 1) met (take m (rows_from text tokens n at)) or_else rest text tokens n blocks g (j + 1)) (sub-eq-zero_of_le h)
          ∙ ap (λ (x : Result ⊤ Refusal). x or_else rest text tokens n blocks g (j + 1)) (none_left (names - 1) met)

      -- the lines are through, and differ in output
      pub lines-differ : lines ≤ k → {b : Bool} → b ≡ differ met → b ≡ true → Err refusal.OutputsDiffer ≡ whole text tokens n blocks g
      unfolding ◌or_else◌ refuse_if
      lines-differ h e t = sym (through h ∙ ap (λ (x : Bool). refuse_if x refusal.OutputsDiffer or_else rest text tokens n blocks g (j + 1)) (sym e ∙ t))

      -- or agree
      pub lines-agree : lines ≤ k → {b : Bool} → b ≡ differ met → b ≡ false → Covers text tokens n blocks g (j + 1)
      unfolding ◌or_else◌ refuse_if
      lines-agree h e t =
          record {
            places = v.places;
            within = omega (arith, v.cover);
            is = through h ∙ ap (λ (x : Bool). refuse_if x refusal.OutputsDiffer or_else rest text tokens n blocks g (j + 1)) (sym e ∙ t);
          }

      -- the line's tokens are places within the text
      pub line-inside : {end : ℕ} → RowTo tokens at n end → Inside text (part at end tokens) (length (part at end tokens))
      line-inside w = (row_inside v.places.places w).1

      -- its last token is within the text
      pub last-there : {end : ℕ} → RowTo tokens at n end → InText text (last_cell (part at end tokens))
      last-there {end} w =
          let l = row_inside v.places.places w in l.1.inside (length (part at end tokens) - 1) (omega (arith, l.0))

      -- the line has a token, and the cover a name
      pub line-some : k < lines → {end : ℕ} → RowTo tokens at n end → (0 < length (part at end tokens)) × (0 < names)
      line-some h w = ((row_inside v.places.places w).0, v.named h)

      module _ {end : ℕ} {cols t : Bytes} {o : Output} {b : Bool} (h : k < lines) (w : RowTo tokens at n end)
          (p : cols ≡ columns (tokens_of text (part at end tokens))) (u : t ≡ token_of text (last_cell (part at end tokens))) (s : o ≡ output_of t)
          (r : b ≡ fits (length (part at end tokens)) (length cols) (names - 1) o) where
        -- the row, then the lines behind it
        abbrev cells : List ℕ
        cells = part at end tokens

        abbrev row : List Bytes
        row = tokens_of text cells

        lines_are : take (lines - k) (rows_from text tokens n at) ≡ row ∷ take (lines - (k + 1)) (rows_from text tokens n end)
        lines_are =
            ap (λ (m : ℕ). take m (rows_from text tokens n at)) (let e : lines - k ≡ suc (lines - (k + 1)) = omega arith in e)
            ∙ ap (take (suc (lines - (k + 1)))) (part-rows (v.rows h) (line-there h) w)

        line : LineIn row (length cells) (token_of text (last_cell cells))
        line = line-in text cells (line-some h w).0

        q : o ≡ output_of (token_of text (last_cell cells))
        q = s ∙ ap output_of u

        fits-is : fits (length cells) (length (columns row)) (names - 1) (output_of (token_of text (last_cell cells))) ≡ b
        fits-is = ap₂ (λ (c : Bytes) (x : Output). fits (length cells) (length c) (names - 1) x) (sym p) (sym q) ∙ sym r

        -- the pass answers what the line and those behind it give
        line-left : whole text tokens n blocks g
            ≡ (lines_fault (names - 1) met (row ∷ take (lines - (k + 1)) (rows_from text tokens n end)) or_else rest text tokens n blocks g (j + 1))
        line-left = v.is ∙ ap (λ (x : List (List Bytes)). lines_fault (names - 1) met x or_else rest text tokens n blocks g (j + 1)) lines_are

        -- a line that does not fit ends the pass
        pub line-misfits : not b ≡ true → Err refusal.WrongCubeLine ≡ whole text tokens n blocks g
        unfolding ◌or_else◌
        line-misfits t =
            sym
            (line-left
            ∙ ap (λ (x : Result ⊤ Refusal). x or_else rest text tokens n blocks g (j + 1))
            (misfit (names - 1) met (take (lines - (k + 1)) (rows_from text tokens n end)) line (fits-is ∙ not-true b t)))

        -- of a line that fits, all columns are left
        pub enter-line : not b ≡ false → Columns text tokens n blocks g j names lines k end met cols o 0
        enter-line t =
            record {
              places = v.places;
              cover = v.cover;
              line = h;
              named = v.named h;
              rows = rows_next (v.rows h) (line-there h) w;
              enough = omega (arith, v.enough h, ap length (part-rows (v.rows h) (line-there h) w));
              is =
                  line-left
                  ∙ ap (λ (x : Result ⊤ Refusal). x or_else rest text tokens n blocks g (j + 1))
                  (fitting (names - 1) met (take (lines - (k + 1)) (rows_from text tokens n end)) line (fits-is ∙ not-false b t)
                  ∙ ap₂
                  (λ (c : Bytes) (x : Output). refuse_if (not (all is_column c)) refusal.WrongCubeLine or_else lines_fault (names - 1) (with_output met x) (take (lines - (k + 1)) (rows_from text tokens n end)))
                  (sym p)
                  (sym q))
                  ∙ or_else-assoc (refuse_if (not (all is_column cols)) refusal.WrongCubeLine) _ (rest text tokens n blocks g (j + 1));
            }

    module _ {names lines k end : ℕ} {met : Outputs} {cols : Bytes} {o : Output} {i : ℕ} (v : Columns text tokens n blocks g j names lines k end met cols o i) where
      -- what is behind the line
      abbrev behind : Result ⊤ Refusal
      behind = lines_fault (names - 1) (with_output met o) (take (lines - (k + 1)) (rows_from text tokens n end)) or_else rest text tokens n blocks g (j + 1)

      -- the columns from column i on: column i, then the others
      columns-are : i < length cols
          → whole text tokens n blocks g ≡ (refuse_if (not (is_column (get_or cols i 0))) refusal.WrongCubeLine or_else (refuse_if (not (all is_column (drop (i + 1) cols))) refusal.WrongCubeLine or_else behind))
      columns-are h =
          v.is
          ∙ ap (λ (x : Bytes). refuse_if (not (all is_column x)) refusal.WrongCubeLine or_else behind) (drop-next cols i 0 h)
          ∙ refuse_if-and (is_column (get_or cols i 0)) (all is_column (drop (i + 1) cols)) behind

      -- a wrong column ends the pass
      pub bad-column : i < length cols → {b : Bool} → b ≡ is_column (get_or cols i 0) → not b ≡ true → Err refusal.WrongCubeLine ≡ whole text tokens n blocks g
      unfolding ◌or_else◌ refuse_if
      bad-column h {b} e t = sym (columns-are h ∙ ap (λ (x : Bool). refuse_if (not x) refusal.WrongCubeLine or_else (refuse_if (not (all is_column (drop (i + 1) cols))) refusal.WrongCubeLine or_else behind)) (sym e ∙ not-true b t))

      -- the columns are through: the next line
      pub end_line : length cols ≤ i → {more : Outputs} → more ≡ with_output met o → Lines text tokens n blocks g j names lines end more (k + 1)
      unfolding ◌or_else◌ refuse_if
      end_line h {more} e =
          record {
            places = v.places;
            cover = v.cover;
            within = omega (arith, v.line);
            named = λ l. v.named;
            rows = λ l. v.rows;
            enough = λ l. v.enough;
            is =
                v.is
                ∙ ap (λ (x : Bytes). refuse_if (not (all is_column x)) refusal.WrongCubeLine or_else behind) (drop_of_length-le cols h)
                ∙ ap (λ (x : Outputs). lines_fault (names - 1) x (take (lines - (k + 1)) (rows_from text tokens n end)) or_else rest text tokens n blocks g (j + 1)) (sym e);
          }

pub ruleset steps = (enter-cover, end-pass, line-there, line-inside, last-there, lines-differ, lines-agree, line-misfits, enter-line, bad-column, end_line, rules)
