-- The cells of a text's tokens hold them: each is a place within the text, and row by row they are the text's. Assumes nothing.
use Rattle.std.specs.Prelude.{if◌then◌else◌}
use mathlib.Core.Path.{◌≡◌, refl, sym, ap, ap₂, ◌∙◌, subst}
use mathlib.Core.Bool.{Bool, true, false}
use mathlib.Core.List.{List, [], ◌∷◌, ◌++◌, map, head_d}
use Prim.Native.Nat.{ℕ, zero, suc, ◌+◌, ◌-◌, ◌≤◌, ◌<◌}
use native.Mathlib.Numerals.{add-one}
use native.Mathlib.Omega.{arith}
use lib.Dec.{eqb}
use lib.ListN.{length, get_or, take, drop}
use lib.Seq.{drop-cons, get_or-take}
use borrow.Author.Tests.{eqb-true}
use Rattle.lists.specs.Lists.{Bytes, filter, range}
use Rattle.lists.proofs.Every.{Every, every-nil, every-cons, every_append, every-place}
use Rattle.lists.proofs.Places.{place-get_or}
use Rattle.lists.proofs.Range.{length-range}
use Rattle.lists.proofs.Tests.{by-test}
use Rattle.blif_text.specs.Lines.{cons_first, split, cut, continues, before, is_blank, non_empty}
use Rattle.blif_text.specs.Between.Rows.{line_rows, full_rows, text_rows}
use Rattle.blif_text.specs.Between.PlaceRows.{byte_at, bytes_at, cr_before_lf, place_lines, kept, place_tokens, place_rows}
use Rattle.blif_text.specs.Between.Places.{is_first, InText, token_of, tokens_of, grouped, places_cell, row_cells, rows_cells, token_cells, TokensMarked}
use Rattle.blif_text.specs.Between.Scan.{NoneFirst, Firsts}
use Rattle.blif_text.proofs.WordLaws.{cell-start, cell-length, cell-first}
use Rattle.blif_text.proofs.RowLaws.{grouped-append, grouped-row, one_row, full-cons}
use Rattle.blif_text.proofs.PlaceLines.{lines_end, lines-lf, lines-cr, lines-byte, cr-lf}
use Rattle.blif_text.proofs.PlaceRowLaws.{lines_are, rows_are}

-- ---- places that follow each other

-- these places follow each other, below n
pub record Stretch (n : ℕ) (ks : List ℕ) : Type 0 where
  -- the first
  pub from : ℕ
  -- how many there are
  pub many : ℕ
  -- all of them
  pub is : ks ≡ range from many
  -- each below n
  pub within : from + many ≤ n

-- in each of these lists places follow each other, and in the first from i on
data StretchesFrom (n i : ℕ) : List (List ℕ) → Type 0 where
  none : StretchesFrom n i []
  some : {ls : List (List ℕ)} (m : ℕ) → i + m ≤ n → Every (Stretch n) ls → StretchesFrom n i (range i m ∷ ls)

stretches : {n i : ℕ} {ls : List (List ℕ)} → StretchesFrom n i ls → Every (Stretch n) ls
stretches none = every-nil
stretches {i = i} (some m h es) = every-cons (record { from = i; many = m; is = refl; within = h }) es

one_more : {n i : ℕ} {ls : List (List ℕ)} → i < n → StretchesFrom n (suc i) ls → StretchesFrom n i (cons_first i ls)
unfolding cons_first
one_more h none = some 1 (omega arith) every-nil
one_more h (some m l es) = some (suc m) (omega arith) es

split-stretch : {n : ℕ} (p : ℕ → Bool) (m i : ℕ) → i + m ≤ n → StretchesFrom n i (split p (range i m))
unfolding split
split-stretch p zero i h = none
split-stretch {n} p (suc m) i h =
    let more = split-stretch {n = n} p m (suc i) (omega arith) in
    by-test (p i) (λ e. rw e (some 0 (omega arith) (stretches more))) (λ e. rw e (one_more (omega arith) more))

take-stretch : {n : ℕ} (j : ℕ) {ks : List ℕ} → Stretch n ks → Stretch n (take j ks)
take-stretch {n} j {ks} r =
    let t = go j r.from r.many in
    record { from = r.from; many = t.0; is = ap (take j) r.is ∙ t.2; within = omega (arith, t.1, r.within) }
  where
    go : (j a m : ℕ) → (k : ℕ) × (k ≤ m) × (take j (range a m) ≡ range a k)
    go zero a m = (0, omega arith, refl)
    go (suc j) a zero = (0, omega arith, refl)
    go (suc j) a (suc m) = let t = go j (suc a) m in (suc t.0, omega (arith, t.1), ap (λ (l : List ℕ). a ∷ l) t.2)

every-full : {P : List ℕ → Type 0} {ls : List (List ℕ)} → Every P ls → Every P (filter non_empty ls)
unfolding non_empty
every-full every-nil = every-nil
every-full (every-cons {x = []} h hs) = every-full hs
every-full (every-cons {x = k ∷ w} h hs) = every-cons h (every-full hs)

every-tail : {P : List ℕ → Type 0} {l : List ℕ} {ls : List (List ℕ)} → Every P (l ∷ ls) → Every P ls
every-tail (every-cons h hs) = hs

every-before : {A : Type 0} {P : A → Type 0} {ts : List A} {rs : List (List A)} → Every P ts → Every (Every P) rs → Every (Every P) (before ts rs)
unfolding before
every-before t every-nil = every-cons t every-nil
every-before t (every-cons u us) = every-cons (every_append t u) us

module _ (text : Bytes) where
  -- ---- lines, tokens and rows are such places

  lines_from : (m i : ℕ) → i + m ≡ length text → StretchesFrom (length text) i (place_lines text i)
  lines_from zero i e = rw (lines_end text i (omega arith)) none
  lines_from (suc m) i e =
      let h : i < length text = omega arith in
      let more : StretchesFrom (length text) (suc i) (place_lines text (i + 1)) = rw (add-one i) (lines_from m (suc i) (omega arith)) in
      by-test (eqb 10 (byte_at text i))
      (λ l. rw (lines-lf text i h (sym (eqb-true 10 (byte_at text i) l))) (some 0 (omega arith) (stretches more)))
      (λ l.
      by-test (cr_before_lf text i)
      (λ k.
      let c = cr-lf text i k in
      let q : place_lines text (i + 1) ≡ [] ∷ place_lines text (i + 1 + 1) = lines-lf text (i + 1) c.1 c.2 in
      rw (lines-cr text i h k, q) (some 0 (omega arith) (every-tail (rw q at (stretches more)))))
      (λ k. rw (lines-byte text i h l k) (one_more h more)))

  tokens-stretch : {l : List ℕ} → Stretch (length text) l → Every (Stretch (length text)) (place_tokens text l)
  unfolding place_tokens
  tokens-stretch r = rw r.is (every-full (stretches (split-stretch (λ k. is_blank (byte_at text k)) r.many r.from r.within)))

  rows-stretch : {ls : List (List ℕ)} → Every (Stretch (length text)) ls → Every (Every (Stretch (length text))) (place_rows text ls)
  unfolding place_rows kept
  rows-stretch every-nil = every-nil
  rows-stretch (every-cons {x = l} {xs = ls} h hs) =
      let ts = tokens-stretch (take-stretch (if continues (bytes_at text l) then length l - 1 else length (cut (bytes_at text l))) h) in
      let more = rows-stretch hs in
      by-test (continues (bytes_at text l)) (λ g. rw g (every-before (rw g at ts) more)) (λ g. rw g (every-cons (rw g at ts) more))

  -- ---- the cell of such places

  bytes-stretch : (m a : ℕ) → a + m ≤ length text → bytes_at text (range a m) ≡ take m (drop a text)
  bytes-stretch zero a h = refl
  bytes-stretch (suc m) a h = rw (drop-cons text a 0 (omega arith)) (ap (λ (l : List ℕ). get_or text a 0 ∷ l) (bytes-stretch m (suc a) (omega arith)))

  -- a cell tells of the token at these places
  record Told (ks : List ℕ) : Type 0 where
    -- whether it is a statement's first
    first : (f : Bool) → is_first (places_cell f ks) ≡ f
    -- a part of the text
    inside : (f : Bool) → InText text (places_cell f ks)
    -- with the bytes that stand there
    token : (f : Bool) → token_of text (places_cell f ks) ≡ bytes_at text ks

  module _ (small : length text ≤ 32768) where
    told_at : (ks : List ℕ) → head_d ks 0 < 32768 → head_d ks 0 + length ks ≤ length text → bytes_at text ks ≡ take (length ks) (drop (head_d ks 0) text) → Told ks
    unfolding token_of
    told_at ks h l e =
        let start = cell-start (head_d ks 0) (length ks) h (omega arith) in
        let len = cell-length (head_d ks 0) (length ks) h (omega arith) in
        record {
          first = λ f. cell-first (head_d ks 0) (length ks) h (omega arith) f;
          inside = λ f. omega (arith, start f, len f);
          token = λ f. ap₂ (λ (n a : ℕ). take n (drop a text)) (len f) (start f) ∙ sym e;
        }

    told-stretch : (m a : ℕ) → a + m ≤ length text → Told (range a m)
    unfolding head_d
    told-stretch zero a h = told_at [] (omega arith) (omega arith) refl
    told-stretch (suc m) a h =
        let n : length (range a (suc m)) ≡ suc m = length-range a (suc m) in
        told_at (range a (suc m)) (omega arith) (omega arith) (bytes-stretch (suc m) a h ∙ ap (λ (k : ℕ). take k (drop a text)) (sym n))

    told : (ks : List ℕ) → Stretch (length text) ks → Told ks
    told ks r = rw r.is (told-stretch r.many r.from r.within)

    tokens-told : (f : Bool) {ts : List (List ℕ)} → Every (Stretch (length text)) ts → tokens_of text (row_cells f ts) ≡ map (bytes_at text) ts
    unfolding row_cells
    tokens-told f every-nil = refl
    tokens-told f (every-cons {x = t} h hs) = ap₂ (λ (w : Bytes) (ws : List Bytes). w ∷ ws) ((told t h).token f) (tokens-told false hs)

    none_first : {ts : List (List ℕ)} → Every (Stretch (length text)) ts → NoneFirst (row_cells false ts)
    unfolding row_cells
    none_first every-nil = tt
    none_first (every-cons {x = t} h hs) = ((told t h).first false, none_first hs)

    one-first : {ts : List (List ℕ)} → Every (Stretch (length text)) ts → Firsts true (row_cells true ts)
    unfolding row_cells
    one-first every-nil = tt
    one-first (every-cons {x = t} h hs) = ((told t h).first true, none_first hs)

    all-inside : (f : Bool) {ts : List (List ℕ)} → Every (Stretch (length text)) ts → Every (InText text) (row_cells f ts)
    unfolding row_cells
    all-inside f every-nil = every-nil
    all-inside f (every-cons {x = t} h hs) = every-cons ((told t h).inside f) (all-inside false hs)

    rows_told : {rs : List (List (List ℕ))} → Every (Every (Stretch (length text))) rs
        → ((grouped text (rows_cells true rs)).loose ≡ []) × ((grouped text (rows_cells true rs)).rows ≡ full_rows (map (map (bytes_at text)) rs))
    unfolding rows_cells
    rows_told every-nil = (unfold grouped in refl, unfold grouped full_rows in refl)
    rows_told (every-cons {x = r} {xs = rs} h hs) =
        let more = rows_told hs in
        let row = grouped-row text (row_cells true r) (one-first h) in
        let all = grouped-append text (row_cells true r) (rows_cells true rs) more.0 in (
          all.0 ∙ row.0,
          all.1
              ∙ ap₂ (λ (x y : List (List Bytes)). x ++ y) (row.1 ∙ ap one_row (tokens-told true h)) more.1
              ∙ sym (full-cons (map (bytes_at text) r) (map (map (bytes_at text)) rs)),
        )

    rows_inside : {rs : List (List (List ℕ))} → Every (Every (Stretch (length text))) rs → Every (InText text) (rows_cells true rs)
    unfolding rows_cells
    rows_inside every-nil = every-nil
    rows_inside (every-cons h hs) = every_append (all-inside true h) (rows_inside hs)

    -- ---- all tokens of the text

    text-stretch : Every (Every (Stretch (length text))) (place_rows text (place_lines text 0))
    text-stretch = rows-stretch (stretches (lines_from (length text) 0 (omega arith)))

    -- the tokens that they tell, row by row, are the text's rows
    pub cells-rows : ((grouped text (token_cells text)).loose ≡ []) × ((grouped text (token_cells text)).rows ≡ text_rows text)
    unfolding token_cells text_rows
    cells-rows =
        let r = rows_told text-stretch in
        (r.0, r.1 ∙ ap full_rows (rows_are text (place_lines text 0) ∙ ap line_rows (lines_are text)))

    cells-inside : Every (InText text) (token_cells text)
    unfolding token_cells
    cells-inside = rows_inside text-stretch

    -- cells that hold them hold the text's rows
    pub tokens-marked : {cells : List ℕ} {r : ℕ} → r ≡ length (token_cells text) → take r cells ≡ token_cells text → r ≤ 16384 → TokensMarked text cells r
    tokens-marked {cells} {r} n m h =
        record {
          counted = n;
          marked = m;
          few = h;
          rows = ap (λ (l : List ℕ). (grouped text l).rows) m ∙ cells-rows.1;
          none-loose = ap (λ (l : List ℕ). (grouped text l).loose) m ∙ cells-rows.0;
          inside = λ i l.
              subst (InText text) (sym (sym (get_or-take r cells i 0 l) ∙ ap (λ (x : List ℕ). get_or x i 0) m))
              (every-place cells-inside i (get_or (token_cells text) i 0) (place-get_or 0 (token_cells text) i (omega arith)));
        }
