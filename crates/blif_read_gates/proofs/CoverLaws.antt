-- The gates of a cover: none, one, or two and more lines. Assumes nothing.
use mathlib.Core.Path.{◌≡◌, refl, sym, ap, ap₂, ◌∙◌, subst}
use mathlib.Core.Bool.{Bool, true, false, cond}
use mathlib.Core.List.{List, [], ◌∷◌, map}
use Prim.Native.Nat.{ℕ, suc, ◌+◌, ◌-◌, ◌*◌, ◌≤◌, ◌<◌}
use native.Mathlib.Omega.{arith}
use lib.ListN.{length, get_or, get_elem?, take, drop, length-map}
use lib.Seq.{drop-cons, length-take-le}
use borrow.Author.Tests.{lt-ltb}
use Rattle.lists.specs.Lists.{Bytes, all}
use Rattle.lists.specs.Between.Lists.{overwrite_at}
use Rattle.lists.proofs.OverAt.{length-overwrite_at}
use Rattle.lists.proofs.Tests.{and_left}
use Rattle.signal.specs.Signal.{Signal, zero_s}
use Rattle.signal.specs.Cell.{sig_cell}
use Rattle.gates.specs.Gate.{OrN, AndN, Buf, Gate, Comb}
use Rattle.network.specs.Sizes.{max_gates, max_pins}
use Rattle.gates.specs.declared.Gate as code
use Rattle.gates.specs.declared.Gate.TheVariants as G
use Rattle.gates.specs.declared.NaryType.TheVariants as N
use Rattle.signal.specs.declared.Signal as signal
use Rattle.network.specs.Record.{gate_width, record_of, first_at, count_at}
use Rattle.network.specs.Between.Record.{RecordIn, hand_record, LayRoom, GateLaid}
use Rattle.network.proofs.RecordCells.{record-in, length-hand_record, hand-buf, hand-nary}
use Rattle.blif_reading.proofs.WorkingLaws.{gate-run}
use Rattle.blif_text.specs.Decls.{columns, is_one}
use Rattle.blif_text.specs.Between.PlacedStatements.{RowTo}
use Rattle.blif_text.specs.Between.Walk.{rows_from}
use Rattle.blif_text.proofs.RowWalk.{part, row_inside, row-there, part-rows}
use Rattle.blif_reading.specs.Build.{line_gate, gate_run, cover_gate, line_gates}
use Rattle.blif_reading.specs.Read.{good_line, added}
use Rattle.blif_reading.specs.TextModel.{line_of}
use Rattle.blif_reading.specs.Between.Working.{GateIn}
use Rattle.blif_read_gates.specs.Between.Steps.{join_in_hand, LineRoom, LinePut, GoodRow, GatesKept, GoodRows, LinesRoom, LinesPut, CoverRoom, CoverBuilt}
use Rattle.blif_read_gates.proofs.CellLaws.{run-front}
use Rattle.blif_read_gates.proofs.JoinLaws.{join_cells, run_long}
use Rattle.blif_read_gates.proofs.RowLaws.{row_tokens, row-wide}
use Rattle.blif_read_gates.proofs.GateLaws.{gate-put, kept_put, kept_then, kept-some, room-wide, line_kept, line-gate}
use Rattle.blif_read_gates.proofs.PinLaws.{line-pins, join-pins, many-lines}

-- ---- the first row of a cover's lines

module _ {text tokens : List ℕ} {n row count inputs : ℕ} (g : GoodRows text tokens n row count inputs) (some-line : 0 < count) where
  -- a row stands there
  pub first-there : row < n
  first-there =
      row-there g.rows (get_or (rows_from text tokens n row) 0 []) (drop 1 (rows_from text tokens n row))
      (drop-cons (rows_from text tokens n row) 0 [] (omega (arith, g.enough)))

  module _ {end : ℕ} (e : RowTo tokens row n end) where
    -- the first line, and the others
    pub first-take : take count (rows_from text tokens n row) ≡ row_tokens text tokens row end ∷ take (count - 1) (rows_from text tokens n end)
    first-take =
        let s : count ≡ suc (count - 1) = omega arith in
        ap₂ (λ (k : ℕ) (l : List (List Bytes)). take k l) s (part-rows g.rows first-there e)

    -- it is a good line
    pub first_good : GoodRow text (part row end tokens) inputs
    first_good =
        record {
          low = (row_inside g.rows.places e).0;
          places = (row_inside g.rows.places e).1;
          good = and_left (good_line inputs (row_tokens text tokens row end)) _ (sym (ap (all (good_line inputs)) first-take) ∙ g.good);
        }

-- the same number of inputs
pub rows-inputs : {text tokens : List ℕ} {n row count inputs inputs' : ℕ} → inputs ≡ inputs' → GoodRows text tokens n row count inputs → GoodRows text tokens n row count inputs'
rows-inputs {text} {tokens} {n} {row} {count} {inputs} {inputs'} e g = subst (GoodRows text tokens n row count) e g

-- as many lines as are counted
pub lines_long : {text tokens : List ℕ} {n row count inputs : ℕ} → GoodRows text tokens n row count inputs → length (take count (rows_from text tokens n row)) ≡ count
lines_long {text} {tokens} {n} {row} {count} g = length-take-le count (rows_from text tokens n row) g.enough

-- ---- how many gates are added

pub added-many : (k : ℕ) → 1 < k → added k ≡ k
unfolding added
added-many k h = rw (lt-ltb 1 k h)

-- ---- two lines or more

-- the cover's gate joins them
join-gate : (k : ℕ) (ss : List Signal) (l : List Bytes) (ls : List (List Bytes)) → 0 < length ls
    → cover_gate k ss (map line_of (l ∷ ls)) ≡ Comb (cond (is_one l) OrN AndN) (gate_run k (length (l ∷ ls)))
join-gate k ss l [] h = absurd (omega arith)
join-gate k ss l (m ∷ ls) h = ap (λ (n : ℕ). Comb (cond (is_one l) OrN AndN) (gate_run k (suc (suc n)))) (length-map ls line_of)

-- each has its gate
join-lines : (ss : List Signal) (ls : List (List Bytes)) → 1 < length ls → line_gates ss (map line_of ls) ≡ map (line_gate ss) (map line_of ls)
join-lines ss [] h = absurd (omega arith)
join-lines ss (l ∷ []) h = absurd (omega arith)
join-lines ss (l ∷ m ∷ ls) h = refl

-- the gate in hand that joins lines has its record
join-record : (one : Bool) (at count : ℕ) (ps : List Signal) → count ≡ length ps → hand_record at (join_in_hand one at count) ≡ record_of at (Comb (cond one OrN AndN) ps)
join-record true at count ps e = hand-nary at N.Or (record { first = at; count = count }) ps e
join-record false at count ps e = hand-nary at N.And (record { first = at; count = count }) ps e

-- the record of the gate in hand
pub join-put : (one : Bool) (at count : ℕ) {x : code.Gate} {cells : List ℕ} (gates : List ℕ) (k : ℕ) → x ≡ join_in_hand one at count → cells ≡ overwrite_at k (hand_record at x) gates
    → cells ≡ overwrite_at k (hand_record at (join_in_hand one at count)) gates
join-put one at count gates k e p = p ∙ ap (λ (y : code.Gate). overwrite_at k (hand_record at y) gates) e

module _ {text tokens : List ℕ} {n row count j next at : ℕ} {gates pins_in : List ℕ} (big : 1 < count)
    (g : GoodRows text tokens n row count (count_at gates j)) (room : CoverRoom count j next at gates pins_in) where
  -- room for the joins
  pub joins-room : (at + count ≤ length pins_in) × (next + count ≤ max_gates)
  joins-room = (
    omega (arith, join-pins count (count_at gates j), room.fits, room.room.pin_room),
    omega (arith, added-many count big, room.low),
  )

  module _ (one : Bool) {source inputs : ℕ} {gates₁ pins₁ : List ℕ} (es : source ≡ first_at gates j) (ei : inputs ≡ count_at gates j)
      (eg : gates₁ ≡ overwrite_at (j * gate_width) (hand_record at (join_in_hand one at count)) gates) (ep : pins₁ ≡ overwrite_at at (join_cells next count) pins_in) where
    -- room for the lines behind them
    pub joined-room : LinesRoom inputs count source (at + count) next gates₁ pins₁
    joined-room =
        let k : inputs + 1 ≡ count_at gates j + 1 = omega arith in
        record {
          room =
              record {
                gate_room = omega (arith, room.room.gate_room, ap length eg ∙ length-overwrite_at (j * gate_width) (hand_record at (join_in_hand one at count)) gates);
                pin_room = omega (arith, room.room.pin_room, ap length ep ∙ length-overwrite_at at (join_cells next count) pins_in);
              };
          sources = omega (arith, room.sources, es, ei);
          fits = rw k (omega (arith, join-pins count (count_at gates j), room.fits));
          low = joins-room.1;
        }

    module _ {end r : ℕ} {gates' pins_in' : List ℕ} (e : RowTo tokens row n end) (ef : one ≡ is_one (row_tokens text tokens row end))
        (p : LinesPut (take count (rows_from text tokens n row)) inputs source (at + count) next gates₁ pins₁ gates' pins_in' r) where
      abbrev lines : List (List Bytes)
      lines = take count (rows_from text tokens n row)

      joins-kept : GatesKept (λ h. h ≡ j → ⊥) gates pins_in at gates₁ pins₁ (at + count)
      joins-kept = rw (eg, ep) (kept_put gates pins_in (join_cells next count) (hand_record at (join_in_hand one at count)) at (at + count) j (length-hand_record at (join_in_hand one at count)) (omega arith))

      -- the gate that joins them
      joining : (ss : List Signal) → GateIn gates' pins_in' r j (cover_gate next ss (map line_of lines))
      joining ss =
          let x : Gate = Comb (cond one OrN AndN) (gate_run next count) in
          let ft = first-take g (omega arith) e in
          let rest = take (count - 1) (rows_from text tokens n end) in
          let long : suc (length rest) ≡ count = sym (ap length ft) ∙ lines_long g in
          let q : cover_gate next ss (map line_of lines) ≡ x =
          ap (λ (l : List (List Bytes)). cover_gate next ss (map line_of l)) ft
          ∙ join-gate next ss (row_tokens text tokens row end) rest (omega arith)
          ∙ ap₂ (λ (k : ℕ) (b : Bool). Comb (cond b OrN AndN) (gate_run next k)) long (sym ef) in
          let there : RecordIn gates j = record-in {n = max_gates} (omega (arith, room.before, room.low)) room.room.gate_room in
          let put : GateIn gates₁ pins₁ (at + count) j x =
          gate-put gates pins_in at x eg ep (join-record one at count (gate_run next count) (sym (run_long next count))) refl (ap (λ (k : ℕ). at + k) (sym (run_long next count))) there joins-room.0 in
          subst (GateIn gates' pins_in' r j) (sym q) (p.kept.stay j x room.before put)

      -- the sources are as before
      sources : (ss : List Signal) → GateIn gates pins_in at j (Comb AndN ss) → take inputs (drop source pins₁) ≡ map sig_cell ss
      sources ss a =
          ap₂ (λ (k b : ℕ). take k (drop b pins₁)) ei es
          ∙ run-front (first_at gates j) (count_at gates j) at pins₁ pins_in room.sources joins-kept.front
          ∙ gate-run a

      pub joined-built : CoverBuilt lines j next at gates pins_in gates' pins_in' r
      joined-built =
          record {
            kept = kept_then (kept-some (λ h k. k.0) joins-kept) (kept-some (λ h k. k.1) p.kept);
            end = omega (arith, p.end, lines_long g, many-lines lines (omega (arith, lines_long g)));
            main = λ ss a. joining ss;
            more = λ ss a i y q.
                p.each ss (sources ss a) i y
                (sym (ap (λ (l : List Gate). get_elem? l i) (join-lines ss lines (omega (arith, lines_long g)))) ∙ q);
          }

-- ---- no line, and one

-- "A cover without lines is Buf(zero)"
module _ {count j next at : ℕ} {gates pins_in : List ℕ} (room : CoverRoom count j next at gates pins_in) (z : signal.Signal) where
  none_in : RecordIn gates j
  none_in = record-in {n = max_gates} (omega (arith, room.before, room.low)) room.room.gate_room

  pub none-room : LayRoom (G.Buf z) j at gates pins_in
  none-room =
      record { record-in = none_in; room = omega (arith, room.fits, room.room.pin_room); few = omega (arith, room.fits); from = tt }

  pub none-built : (rows : List (List Bytes)) {r : ℕ} {gates' pins_in' : List ℕ} → count ≡ 0 → z.a ≡ sig_cell zero_s → GateLaid (G.Buf z) j at gates pins_in gates' pins_in' r
      → CoverBuilt (take count rows) j next at gates pins_in gates' pins_in' r
  none-built rows e ez p =
      let t : take count rows ≡ [] = ap (λ (k : ℕ). take k rows) e in
      let c = hand_record at (G.Buf z) in
      rw (t, p.records, p.runs, p.end)
      (record {
        kept = kept-some (λ h k. k.0) (kept_put gates pins_in (z.a ∷ []) c at (at + 1) j (length-hand_record at (G.Buf z)) (omega arith));
        end = omega arith;
        main = λ ss a.
            gate-put gates pins_in at (Comb Buf (zero_s ∷ [])) refl refl (hand-buf at z zero_s) (ap (λ (x : ℕ). x ∷ []) ez) refl none_in none-room.room;
        more = λ ss a i y q. absurd (let z : ◌≡◌ {A = ℕ} 0 1 = cc in omega arith);
      })

module _ {text tokens : List ℕ} {n row count j next at : ℕ} {gates pins_in : List ℕ} (some-line : count ≡ 0 → ⊥) (small : count ≤ 1)
    (g : GoodRows text tokens n row count (count_at gates j)) (room : CoverRoom count j next at gates pins_in) where
  module _ {source inputs : ℕ} (es : source ≡ first_at gates j) (ei : inputs ≡ count_at gates j) where
    -- room for one line
    pub one-room : LineRoom inputs source at j gates pins_in
    one-room =
        let c : count ≡ 1 = omega arith in
        let f : at + (1 * (count_at gates j + 2) + 2) ≤ max_pins = rw c at room.fits in
        record {
          room = room.room;
          sources = omega (arith, room.sources, es, ei);
          fits = omega (arith, ei, f);
          low = omega (arith, room.before, room.low);
        }

    module _ {end r : ℕ} {gates' pins_in' : List ℕ} (e : RowTo tokens row n end)
        (p : LinePut (columns (row_tokens text tokens row end)) (is_one (row_tokens text tokens row end)) source at j gates pins_in gates' pins_in' r) where
      abbrev ts : List Bytes
      ts = row_tokens text tokens row end

      some-count : 0 < count
      some-count = omega arith

      wide : length (columns ts) ≡ inputs
      wide = row-wide (first_good g some-count e) ∙ sym ei

      lines-one : take count (rows_from text tokens n row) ≡ ts ∷ []
      lines-one =
          let c : count - 1 ≡ 0 = omega arith in
          first-take g some-count e ∙ ap (λ (k : ℕ). ts ∷ take k (rows_from text tokens n end)) c

      pub one-built : CoverBuilt (take count (rows_from text tokens n row)) j next at gates pins_in gates' pins_in' r
      one-built =
          rw lines-one
          (record {
            kept = kept-some (λ h k. k.0) (line_kept p);
            end = line-pins ts (omega (arith, wide, one-room.sources, one-room.fits, room.room.pin_room)) p;
            main = λ ss a.
                line-gate p (room-wide (sym wide) one-room) ss
                (ap₂ (λ (k b : ℕ). take k (drop b pins_in)) (wide ∙ ei) es ∙ gate-run a);
            more = λ ss a i y q. absurd (let z : ◌≡◌ {A = ℕ} 0 1 = cc in omega arith);
          })
