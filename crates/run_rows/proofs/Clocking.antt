-- Laws for a clock after the other: what the rows left lead to is what all rows do. Assumes nothing.
use mathlib.Core.Path.{◌≡◌, refl, sym, ap, ap₂, ◌∙◌, subst}
use mathlib.Core.Bool.{Bool, true, false, true≢false}
use mathlib.Core.List.{List, [], ◌∷◌, ◌++◌, map, append_assoc}
use mathlib.Core.Option.{Option, none, some}
use Prim.Native.Nat.{ℕ, zero, suc, ◌+◌, ◌-◌, ◌*◌, ◌/◌, ◌≤◌, ◌<◌}
use native.Mathlib.Omega.{arith}
use native.Mathlib.Nat.{suc-mul, div-eq_of_eq-mul_left}
use native.Mathlib.Numerals.{add-one}
use lib.ListN.{length, take, drop, length-take, length-drop, length-append, length-map, take-append-drop}
use lib.Seq.{drop-drop, take-add, take_at, length-take-le}
use Rattle.lists.specs.Lists.{Bytes}
use Rattle.lists.proofs.Places.{same_parts}
use Rattle.signal.specs.Signal.{Signal}
use Rattle.signal.specs.Cell.{node_of}
use Rattle.network.specs.Net.{Net}
use Rattle.network.specs.Clock.{sig_bit, start_bits}
use Rattle.network.specs.Settle.{settle, next_of}
use Rattle.network.specs.Cells.{cell_net}
use Rattle.network.specs.Between.Cells.{NetCells}
use Rattle.gate_bits.specs.Between.Slots.{bit_at, pin_bits}
use Rattle.run_rows.specs.Rows.{digit, line_end, row_text, row_of, row_before, rows_in, rows_of}
use Rattle.run_rows.specs.Between.Steps.{Held, Shown, Started, SettledFor, RowSettled, Stepped, Clocked}
use Rattle.run_rows.specs.Between.Asks.{RowRoom, WholeRows}
use Rattle.run_rows.proofs.Showing.{known-bits, valid-known}
use Rattle.run_rows.proofs.Starting.{started-held}
use Rattle.run_rows.proofs.RowsOf.{row-text}
use Rattle.run_rows.proofs.Prepared.{Prepared, taken-flops, next-held}

-- ---- one row, then the others

-- the row's outputs stand before those of the others
clocked-row : (net : Net) (row : List Bool) (os : Option (List (List Bool))) (held : ℕ → Bool) (line out : Bytes) (r : Bool)
    → line ≡ row_text (map (sig_bit row (settle net row held)) net.outputs)
    → Clocked net os (next_of net (sig_bit row (settle net row held)) held) out r → Clocked net (row_before (some row) os) held (line ++ out) r
clocked-row net row none held line out r e c = c
clocked-row net row (some rows) held line out r e c = (c.0, ap₂ (λ (a b : Bytes). a ++ b) e c.1)

-- a line put behind the first a bytes: what follows it
line-behind : (x p q : Bytes) (a b : ℕ) → length p ≡ a → length q ≡ b → take (a + b) x ≡ p ++ q → (take a x ≡ p) × (drop a x ≡ q ++ drop (a + b) x)
line-behind x p q a b lp lq e =
    let long : length (take (a + b) x) ≡ a + b = ap length e ∙ length-append p q ∙ ap₂ (λ (m n : ℕ). m + n) lp lq in
    let within : a + b ≤ length x = omega (arith, length-take (a + b) x) in
    let parts = same_parts (take a x) p (length-take-le a x (omega arith) ∙ sym lp) (sym (take-add a b x) ∙ e) in
    (parts.0, sym (take-append-drop b (drop a x)) ∙ ap₂ (λ (s t : Bytes). s ++ t) parts.1 (drop-drop b a x))

-- the line's part, put back
line-put : (out line rest : Bytes) (a b : ℕ) → a ≤ length out → length line ≡ b → take (a + b) (take a out ++ (line ++ rest)) ≡ take a out ++ line
line-put out line rest a b h l =
    ap (take (a + b)) (sym (append_assoc (take a out) line rest))
    ∙ take_at (take a out ++ line) rest (a + b) (length-append (take a out) line ∙ ap₂ (λ (m n : ℕ). m + n) (length-take-le a out h) l)

-- ---- all rows

-- the rows before `at` have run, and their outputs fill the first `to` bytes
pub record Clocking (net : Net) (cells : List ℕ) (n : ℕ) (rows out₀ out : Bytes) (bits : List Bool) (at to : ℕ) : Type 0 where
  -- what the flip-flops hold now
  pub held : ℕ → Bool
  -- which the table has
  pub holds : Held cells n held bits
  -- how many rows are left
  pub left : ℕ
  -- these fill the rest of the rows
  pub rows_left : length rows ≡ at + left * suc net.inputs
  -- and their outputs the rest of the output rows
  pub out_left : length out ≡ to + left * suc (length net.outputs)
  -- as many bytes as before
  pub kept : length out ≡ length out₀
  -- whatever the rows left lead to, all rows do
  pub leads : (out' : Bytes) (r : Bool) → take to out' ≡ take to out
      → Clocked net (rows_in net.inputs left (drop at rows)) held (drop to out') r → Clocked net (rows_of net.inputs rows) (start_bits net) out' r

module _ {inputs n : ℕ} {cells ps outs slots tables flops : List ℕ} {k : ℕ} (p : Prepared inputs n cells ps outs slots tables flops k) where
  abbrev net : Net
  net = cell_net inputs cells ps n outs

  outs-long : length net.outputs ≡ length outs
  outs-long = length-map outs _

  pub clocking-start : {rows out₀ : Bytes} {bits₀ : List Bool} → WholeRows inputs outs rows out₀ → Started cells n bits₀ → Clocking net cells n rows out₀ out₀ bits₀ 0 0
  unfolding rows_of
  clocking-start {rows} {out₀} w s = record {
    held = start_bits net;
    holds = started-held s outs p.runs.gates;
    left = w.count;
    rows_left = omega (arith, w.whole);
    out_left = omega (arith, w.room, ap (λ (k : ℕ). w.count * suc k) outs-long);
    kept = refl;
    leads = λ out' r e c.
        let q : length rows / suc inputs ≡ w.count = div-eq_of_eq-mul_left (omega arith) w.whole in
        rw q c;
  }

  module _ {rows out₀ out : Bytes} {bits : List Bool} {at to : ℕ} (c : Clocking net cells n rows out₀ out bits at to) where
    -- the row at `at`, and the table with the bits of a clock for it
    pub record RowShown (bits' : List Bool) : Type 0 where
      pub row : List Bool
      pub is : row_of inputs (take (suc inputs) (drop at rows)) ≡ some row
      pub shown : Shown row (settle net row c.held) (λ g. g < n) bits'

    module _ (more : at < length rows) where
      -- one row at least is left
      some_left : (l : ℕ) × (c.left ≡ suc l)
      some_left = by c.left c.rows_left
        where
          by : (l : ℕ) → length rows ≡ at + l * suc inputs → (m : ℕ) × (l ≡ suc m)
          by zero e = absurd (omega arith)
          by (suc m) e = (m, refl)

      pub row_within : at + suc inputs ≤ length rows
      row_within = let l = some_left in omega (arith, c.rows_left, ap (λ (m : ℕ). m * suc inputs) l.1, suc-mul l.0 (suc inputs))

      pub line-within : to + suc (length outs) ≤ length out
      line-within =
          let l = some_left in
          omega (arith, c.out_left, outs-long, ap (λ (m : ℕ). m * suc (length net.outputs)) l.1, suc-mul l.0 (suc (length net.outputs)))

      -- the row, and what the others lead to
      row_first : rows_in inputs c.left (drop at rows)
          ≡ row_before (row_of inputs (take (suc inputs) (drop at rows))) (rows_in inputs some_left.0 (drop (at + suc inputs) rows))
      row_first =
          let l = some_left in
          ap (λ (m : ℕ). rows_in inputs m (drop at rows)) l.1
          ∙ ap (λ (t : Bytes). row_before (row_of inputs (take (suc inputs) (drop at rows))) (rows_in inputs l.0 t)) (drop-drop (suc inputs) at rows)

      -- the line that the code takes
      pub row-part : take (at + (inputs + 1) - at) (drop at rows) ≡ take (suc inputs) (drop at rows)
      row-part = let w : at + (inputs + 1) - at ≡ suc inputs = omega arith in ap (λ (m : ℕ). take m (drop at rows)) w

      pub row_room : RowRoom (take (at + (inputs + 1) - at) (drop at rows))
      row_room =
          let long = length-take-le (suc inputs) (drop at rows) (omega (arith, length-drop at rows, row_within)) in
          rw row-part (record { some_byte = omega (arith, long); few = omega (arith, long, p.runs.gates.few_inputs) })

      pub line-room : length (take (to + (length outs + 1) - to) (drop to out)) ≡ suc (length outs)
      line-room =
          let w : to + (length outs + 1) - to ≡ suc (length outs) = omega arith in
          rw w (length-take-le (suc (length outs)) (drop to out) (omega (arith, length-drop to out, line-within)))

      -- what is told of the line, told of the row
      row_told : {m : ℕ} {line : Bytes} {bits' : List Bool} {r : Bool} → RowSettled cells ps m line bits bits' r → m ≡ n → line ≡ take (suc inputs) (drop at rows)
          → SettledFor cells ps n (row_of inputs (take (suc inputs) (drop at rows))) bits bits' r
      row_told {m} {line} {bits'} {r} s e q =
          let long : length (take (suc inputs) (drop at rows)) - 1 ≡ inputs = omega (arith, length-take-le (suc inputs) (drop at rows) (omega (arith, length-drop at rows, row_within))) in
          subst (λ (i : ℕ). SettledFor cells ps n (row_of i (take (suc inputs) (drop at rows))) bits bits' r) long
          (subst (λ (t : Bytes). SettledFor cells ps n (row_of (length t - 1) t) bits bits' r) q
          (subst (λ (k : ℕ). SettledFor cells ps k (row_of (length line - 1) line) bits bits' r) e s.told))

      -- a line that is no row
      pub clocking-refused : {m : ℕ} {line : Bytes} {bits' : List Bool} {r : Bool} → RowSettled cells ps m line bits bits' r → m ≡ n
          → line ≡ take (suc inputs) (drop at rows) → r ≡ false → Clocked net (rows_of inputs rows) (start_bits net) out false
      clocking-refused {bits' = bits'} {r = r} s e q f =
          c.leads out false refl
          (rw row_first (by (row_of inputs (take (suc inputs) (drop at rows))) (row_told s e q)))
        where
          by : (o : Option (List Bool)) → SettledFor cells ps n o bits bits' r
              → Clocked net (row_before o (rows_in inputs some_left.0 (drop (at + suc inputs) rows))) c.held (drop to out) false
          by none t = refl
          by (some row) t = absurd (true≢false (sym t.0 ∙ f))

      -- a line that is one
      pub row-some : {m : ℕ} {line : Bytes} {bits' : List Bool} {r : Bool} → RowSettled cells ps m line bits bits' r → m ≡ n
          → line ≡ take (suc inputs) (drop at rows) → r ≡ true → RowShown bits'
      row-some {bits' = bits'} {r = r} s e q f = by (row_of inputs (take (suc inputs) (drop at rows))) refl (row_told s e q)
        where
          by : (o : Option (List Bool)) → row_of inputs (take (suc inputs) (drop at rows)) ≡ o → SettledFor cells ps n o bits bits' r → RowShown bits'
          by none h t = absurd (true≢false (sym f ∙ t))
          by (some row) h t = record {
            row = row;
            is = h;
            shown =
                t.1 c.held inputs outs
                (subst (λ (i : ℕ). NetCells i n cells ps) (sym (row-text inputs (take (suc inputs) (drop at rows)) h).1) p.runs.gates) c.holds;
          }

      module _ {bits' : List Bool} {line : Bytes} (s : RowShown bits') (text : line ≡ row_text (pin_bits bits' outs)) where
        abbrev row : List Bool
        row = s.row

        abbrev σ : Signal → Bool
        σ = sig_bit row (settle net row c.held)

        wide : length row ≡ inputs
        wide = (row-text inputs (take (suc inputs) (drop at rows)) s.is).1

        outs-shown : pin_bits bits' outs ≡ map σ net.outputs
        outs-shown =
            known-bits s.shown outs p.runs.words
            (λ d m. valid-known row (λ g. g < n) n (node_of d) (λ g h. h) (rw wide (p.runs.valid d m)))

        line-long : length line ≡ suc (length outs)
        line-long = rw text (omega (arith, length-append (map digit (pin_bits bits' outs)) (line_end ∷ []), length-map (pin_bits bits' outs) digit, length-map outs (bit_at bits')))

        -- the next clock gets the next row and what this one left
        pub clocking-next : {bits'' : List Bool} → Stepped (take k flops) slots bits' bits''
            → Clocking net cells n rows out₀ (take to out ++ (line ++ drop (to + (length outs + 1) - to) (drop to out))) bits'' (at + (inputs + 1)) (to + (length outs + 1))
        clocking-next stepped =
            let l = some_left in
            let rest = drop (to + suc (length outs) - to) (drop to out) in
            let here : length (take to out) ≡ to = length-take-le to out (omega (arith, c.out_left)) in
            let front = line-put out line rest to (suc (length outs)) (omega (arith, c.out_left)) line-long in
            let long : length (take to out ++ (line ++ rest)) ≡ length out =
            omega (arith, length-append (take to out) (line ++ rest), length-append line rest, here, line-long, length-drop (to + suc (length outs) - to) (drop to out), length-drop to out, line-within) in
            rw (add-one inputs, add-one (length outs)) (
            record {
              held = next_of net σ c.held;
              holds = stepped.each cells n (next_of net σ c.held) p.runs.gates.few_gates (taken-flops p) s.shown.const (λ g f. next-held p wide s.shown f c.held);
              left = l.0;
              rows_left = omega (arith, c.rows_left, ap (λ (m : ℕ). m * suc inputs) l.1, suc-mul l.0 (suc inputs));
              out_left =
                  omega (
                    arith,
                    long,
                    c.out_left,
                    outs-long,
                    ap (λ (m : ℕ). m * suc (length net.outputs)) l.1,
                    suc-mul l.0 (suc (length net.outputs)),
                  );
              kept = long ∙ c.kept;
              leads = λ out' r e q.
                  let after = line-behind out' (take to out) line to (suc (length outs)) (length-take-le to out (omega (arith, c.out_left))) line-long (e ∙ front) in
                  c.leads out' r after.0
                  (rw (row_first, s.is, after.1)
                  (clocked-row net row (rows_in inputs l.0 (drop (at + suc inputs) rows)) c.held line (drop (to + suc (length outs)) out') r (text ∙ ap row_text outs-shown) q));
            })
