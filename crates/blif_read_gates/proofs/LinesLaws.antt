-- The lines of a cover, their gates put one after the other. Assumes nothing.
use mathlib.Core.Path.{◌≡◌, refl, sym, ap, ◌∙◌, subst}
use mathlib.Core.List.{List, [], ◌∷◌, ◌++◌, map, map-append}
use mathlib.Core.Logic.{◌⊎◌, inl, inr, ⊎_elim}
use mathlib.Core.Option.{some}
use Prim.Native.Nat.{ℕ, zero, suc, ◌+◌, ◌*◌, ◌≤◌, ◌<◌}
use native.Mathlib.Omega.{arith}
use native.Mathlib.Numerals.{add-one}
use native.Mathlib.Nat.{zero-add, add-mul, mul-le-mul_right}
use lib.ListN.{length, get_or, get_elem?, take, drop, length-map}
use lib.Seq.{take-suc, take-take, drop-cons, length-take-le}
use Rattle.lists.specs.Lists.{Bytes, sum_of}
use Rattle.lists.proofs.Counting.{sum-append}
use Rattle.lists.proofs.Places.{place-lt, place-mem, place-get_or, take-place}
use Rattle.lists.proofs.Range.{all-mem}
use Rattle.signal.specs.Signal.{Signal}
use Rattle.signal.specs.Cell.{sig_cell}
use Rattle.gates.specs.Gate.{Gate}
use Rattle.blif_text.specs.Decls.{columns, is_one}
use Rattle.blif_text.specs.Between.PlacedStatements.{RowTo}
use Rattle.blif_text.specs.Between.Walk.{rows_from, RowsAt}
use Rattle.blif_text.proofs.RowWalk.{part, row_inside, row-there, rows_next, part-rows}
use Rattle.blif_reading.specs.Build.{line_gate}
use Rattle.blif_reading.specs.Read.{good_line}
use Rattle.blif_reading.specs.TextModel.{line_of}
use Rattle.blif_reading.specs.Between.Working.{GateIn}
use Rattle.blif_read_gates.specs.Between.Pins.{line_pins}
use Rattle.blif_read_gates.specs.Between.Steps.{LineRoom, LinePut, GoodRow, GoodRows, LinesRoom, LinesPut}
use Rattle.blif_read_gates.proofs.CellLaws.{run-front}
use Rattle.blif_read_gates.proofs.RowLaws.{row_tokens, row-wide}
use Rattle.blif_read_gates.proofs.GateLaws.{kept_then, kept-some, room-wide, line_kept, line_same, line-gate}
use Rattle.blif_read_gates.proofs.PinLaws.{line-pins, lines-few}

-- a place of two lists is one of the first, or of the second
pub append-place : {A : Type 0} (l m : List A) (i : ℕ) (y : A) → get_elem? (l ++ m) i ≡ some y
    → (get_elem? l i ≡ some y) ⊎ ((k : ℕ) × (i ≡ length l + k) × (get_elem? m k ≡ some y))
append-place [] m i y e = inr (i, sym (zero-add i), e)
append-place (a ∷ l) m zero y e = inl e
append-place (a ∷ l) m (suc i) y e = ⊎_elim inl (λ p. inr (p.0, omega (arith, p.1), p.2)) (append-place l m i y e)

-- a place of one element
pub one_place : {A : Type 0} (x : A) (k : ℕ) (y : A) → get_elem? (x ∷ []) k ≡ some y → (k ≡ 0) × (x ≡ y)
one_place x zero y e = (refl, cc)
one_place x (suc k) y e = absurd (let z : ◌≡◌ {A = ℕ} 0 1 = cc in omega arith)

-- one line more
module _ {ls : List (List Bytes)} {inputs source start next at r : ℕ} {gates₀ pins₀ gates pins_in gates' pins_in' : List ℕ} (x : List Bytes) (before : source + inputs ≤ start)
    (w : LinesPut ls inputs source start next gates₀ pins₀ gates pins_in at) (wide : length (columns x) ≡ inputs)
    (room : LineRoom inputs source at (next + length ls) gates pins_in)
    (p : LinePut (columns x) (is_one x) source at (next + length ls) gates pins_in gates' pins_in' r) where
  new-gate : (ss : List Signal) → take inputs (drop source pins₀) ≡ map sig_cell ss → GateIn gates' pins_in' r (next + length ls) (line_gate ss (line_of x))
  new-gate ss e =
      line-gate p (room-wide (sym wide) room) ss
      (ap (λ (k : ℕ). take k (drop source pins_in)) wide ∙ run-front source inputs start pins_in pins₀ before w.kept.front ∙ e)

  pub lines_more : LinesPut (ls ++ (x ∷ [])) inputs source start next gates₀ pins₀ gates' pins_in' r
  lines_more =
      record {
        kept = kept_then w.kept (kept-some (λ h l z. omega arith) (line_kept p));
        end =
            let fit : source + length (columns x) ≤ length pins_in = omega (arith, room.sources, room.fits, room.room.pin_room) in
            omega (arith, w.end, line-pins x fit p, sum-append line_pins ls (x ∷ []));
        each = λ ss e i y q.
            let s : map (line_gate ss) (map line_of (ls ++ (x ∷ []))) ≡ map (line_gate ss) (map line_of ls) ++ (line_gate ss (line_of x) ∷ []) =
            ap (map (line_gate ss)) (map-append line_of ls (x ∷ [])) ∙ map-append (line_gate ss) (map line_of ls) (line_of x ∷ []) in
            let n : length (map (line_gate ss) (map line_of ls)) ≡ length ls = length-map (map line_of ls) (line_gate ss) ∙ length-map ls line_of in
            ⊎_elim
            (λ t.
            let l : i < length ls = omega (arith, n, place-lt (map (line_gate ss) (map line_of ls)) i y t) in
            (line_kept p).stay (next + i) y (λ z. omega arith) (w.each ss e i y t))
            (λ t.
            let o = one_place (line_gate ss (line_of x)) t.0 y t.2 in
            let a : next + length ls ≡ next + i = omega (arith, t.1, n, o.0) in
            subst (λ (h : ℕ). GateIn gates' pins_in' r h y) a (subst (GateIn gates' pins_in' r (next + length ls)) o.1 (new-gate ss e)))
            (append-place (map (line_gate ss) (map line_of ls)) (line_gate ss (line_of x) ∷ []) i y (sym (ap (λ (l : List Gate). get_elem? l i) s) ∙ q));
      }

-- ---- the rows of a cover

-- i lines are done: their gates are put, and the row of the next one stands at `row`
pub record Putting (text tokens : List ℕ) (n first count inputs : ℕ) (gates₀ : List ℕ) (next : ℕ) (pins₀ : List ℕ) (source start : ℕ) (gates pins_in : List ℕ) (row at i : ℕ) : Type 0 where
  pub within : i ≤ count
  pub rows : RowsAt text tokens n row
  pub left : rows_from text tokens n row ≡ drop i (rows_from text tokens n first)
  pub same-gates : length gates ≡ length gates₀
  pub same-pins : length pins_in ≡ length pins₀
  pub put : LinesPut (take i (rows_from text tokens n first)) inputs source start next gates₀ pins₀ gates pins_in at

module _ {text tokens : List ℕ} {n first count inputs : ℕ} {gates₀ : List ℕ} {next : ℕ} {pins₀ : List ℕ} {source start : ℕ} {gates pins_in : List ℕ} {row at i : ℕ}
    (g : GoodRows text tokens n first count inputs) (room : LinesRoom inputs count source start next gates₀ pins₀)
    (w : Putting text tokens n first count inputs gates₀ next pins₀ source start gates pins_in row at i) where
  abbrev all-rows : List (List Bytes)
  all-rows = rows_from text tokens n first

  module _ (l : i < count) where
    there : i < length all-rows
    there = omega (arith, g.enough)

    next_row : rows_from text tokens n row ≡ get_or all-rows i [] ∷ drop (suc i) all-rows
    next_row = w.left ∙ drop-cons all-rows i [] there

    done : length (take i all-rows) ≡ i
    done = length-take-le i all-rows (omega (arith, there))

    -- a row stands there
    pub putting-there : row < n
    putting-there = row-there w.rows (get_or all-rows i []) (drop (suc i) all-rows) next_row

    -- room for its gate
    pub putting-room : LineRoom inputs source at (next + i) gates pins_in
    putting-room =
        let m : (i + 1) * (inputs + 1) ≤ count * (inputs + 1) = mul-le-mul_right (inputs + 1) (omega arith) in
        let few : sum_of line_pins (take i all-rows) ≤ i * (inputs + 1) = rw (take-take i count all-rows w.within) at (lines-few inputs i (take count all-rows) g.good) in
        record {
          room = record { gate_room = omega (arith, room.room.gate_room, w.same-gates); pin_room = omega (arith, room.room.pin_room, w.same-pins) };
          sources = omega (arith, room.sources, w.put.kept.low);
          fits = omega (arith, m, add-mul i 1 (inputs + 1), w.put.end, few, room.fits);
          low = omega (arith, room.low);
        }

    module _ {end : ℕ} (e : RowTo tokens row n end) where
      this-row : row_tokens text tokens row end ≡ get_or all-rows i []
      this-row = let p = part-rows w.rows putting-there e in cc (next_row, p)

      rest-rows : rows_from text tokens n end ≡ drop (suc i) all-rows
      rest-rows = let p = part-rows w.rows putting-there e in cc (next_row, p)

      -- it is a good line
      pub putting-row : GoodRow text (part row end tokens) inputs
      putting-row =
          record {
            low = (row_inside w.rows.places e).0;
            places = (row_inside w.rows.places e).1;
            good =
                ap (good_line inputs) this-row
                ∙ all-mem (good_line inputs) (take count all-rows) g.good (get_or all-rows i [])
                (place-mem (take count all-rows) i (get_or all-rows i []) (take-place count all-rows i l ∙ place-get_or [] all-rows i there));
          }

      -- its gate is put
      pub putting-next : {gates' pins_in' : List ℕ} {r : ℕ}
          → LinePut (columns (row_tokens text tokens row end)) (is_one (row_tokens text tokens row end)) source at (next + i) gates pins_in gates' pins_in' r
          → Putting text tokens n first count inputs gates₀ next pins₀ source start gates' pins_in' end r (i + 1)
      putting-next {gates'} {pins_in'} {r} p =
          let t : take (i + 1) all-rows ≡ take i all-rows ++ (row_tokens text tokens row end ∷ []) =
          ap (λ (k : ℕ). take k all-rows) (add-one i) ∙ take-suc all-rows i [] there ∙ ap (λ (x : List Bytes). take i all-rows ++ (x ∷ [])) (sym this-row) in
          record {
            within = omega arith;
            rows = rows_next w.rows putting-there e;
            left = rest-rows ∙ ap (λ (k : ℕ). drop k all-rows) (sym (add-one i));
            same-gates = (line_same p).0 ∙ w.same-gates;
            same-pins = (line_same p).1 ∙ w.same-pins;
            put =
                subst (λ (ls : List (List Bytes)). LinesPut ls inputs source start next gates₀ pins₀ gates' pins_in' r) (sym t)
                (lines_more (row_tokens text tokens row end) room.sources w.put (row-wide putting-row)
                (subst (λ (k : ℕ). LineRoom inputs source at (next + k) gates pins_in) (sym done) putting-room)
                (subst (λ (k : ℕ). LinePut (columns (row_tokens text tokens row end)) (is_one (row_tokens text tokens row end)) source at (next + k) gates pins_in gates' pins_in' r) (sym done) p));
          }

  pub putting-done : count ≤ i → LinesPut (take count all-rows) inputs source start next gates₀ pins₀ gates pins_in at
  putting-done h = let e : i ≡ count = omega (arith, w.within) in subst (λ (k : ℕ). LinesPut (take k all-rows) inputs source start next gates₀ pins₀ gates pins_in at) e w.put
