-- The tests that refusal 20 asks for, as the code makes them. Assumes nothing.
use Rattle.std.specs.Prelude.{None}
use mathlib.Core.Path.{◌≡◌, sym, ap, ap₂, ◌∙◌}
use mathlib.Core.Bool.{Bool, true, false}
use mathlib.Core.List.{List}
use Prim.Native.Nat.{ℕ, suc, ◌+◌, ◌-◌, ◌*◌, ◌/◌, ◌≤◌, ◌<◌}
use native.Mathlib.Omega.{arith}
use native.Mathlib.Numerals.{add-one}
use lib.Dec.{eqb, leb}
use lib.ListN.{length, take, drop}
use borrow.Author.Tests.{le-leb, lt-leb, le-ltb, leb-true, not-true}
use Rattle.lists.proofs.Tests.{and-false, and_left, and_right}
use Rattle.lists.proofs.Places.{part-run}
use Rattle.lists.proofs.Range.{TestedTo, to-next, to-fails, to-done}
use Rattle.gates.specs.Forms.{can_take, can_start}
use Rattle.gates.specs.Between.Forms.{kind_of, kind_takes, kind_starts}
use Rattle.gates.proofs.Forms.{take-kind, start-kind}
use Rattle.gates.specs.Between.Decode.{with_pins}
use Rattle.gates.specs.declared.Kind.{Kind}
use Rattle.network.specs.Cells.{sizes_fit, pins_below, record_fits, records_fit, all_valid, lent, is_network}
use Rattle.network.specs.Between.Sizes.{WithinSizes}
use Rattle.network.specs.Record.{gate_width, form_at, first_at, count_at, start_at, run_at, has_run}
use Rattle.network.specs.Between.Record.{CellIs, decoded_at}
use Rattle.network.specs.declared.Counts.{Counts}
use Rattle.network.proofs.SizeLimits.{not-over}
use Rattle.network.proofs.RecordCells.{record-below, decoded-none, decoded-there}
use Rattle.std.specs.declared.option.Option as std-option
use Rattle.gates.specs.declared.Gate.{Gate}

-- ---- valid signals

-- ---- sizes

module _ (n : Counts) (gs ps os : ℕ) where
  pub within-sizes : n.inputs ≤ 256 → n.gates ≤ 1024 → n.pins ≤ 16384 → n.outputs ≤ 256 → n.gates * gate_width ≤ gs → n.pins ≤ ps
      → leb n.outputs os ≡ sizes_fit n gs ps os
  unfolding sizes_fit
  within-sizes a b c d e f =
      sym (simp (le-ltb 256 n.inputs a, le-ltb 1024 n.gates b, le-ltb 16384 n.pins c, le-ltb 256 n.outputs d, le-leb (n.gates * gate_width) gs e, le-leb n.pins ps f))

-- ---- records

module _ (cells : List ℕ) (g : ℕ) where
  -- the kind and the count that the code read
  pub takes-is : {f m : ℕ} {k : Kind} {b : Bool} → f ≡ form_at cells g → k ≡ kind_of f → CellIs (count_at cells g) m → b ≡ kind_takes k m
      → b ≡ can_take (form_at cells g) (count_at cells g)
  takes-is p q r e = e ∙ ap₂ kind_takes (q ∙ ap kind_of p) r.cell ∙ sym (take-kind (form_at cells g) (count_at cells g))

  -- and the start value
  pub starts_is : {f m : ℕ} {k : Kind} {b : Bool} → f ≡ form_at cells g → k ≡ kind_of f → m ≡ start_at cells g → b ≡ kind_starts k m
      → b ≡ can_start (form_at cells g) (start_at cells g)
  starts_is p q r e = e ∙ ap₂ kind_starts (q ∙ ap kind_of p) r ∙ sym (start-kind (form_at cells g) (start_at cells g))

  pub form-taken : {at first : ℕ} → can_take (form_at cells g) (count_at cells g) ≡ true → can_start (form_at cells g) (start_at cells g) ≡ true
      → CellIs (first_at cells g) first → at ≡ pins_below cells g → eqb first at ≡ record_fits cells g
  form-taken t u r e = rw (t, u) (ap₂ eqb r.cell e)

-- the records below g fit, and their runs end at `at`
pub record Following (cells : List ℕ) (n at g : ℕ) : Type 0 where
  pub few : n ≤ 1024
  pub inside : n * gate_width ≤ length cells
  pub start : at ≡ pins_below cells g
  pub bound : at ≤ g * 4294967295
  pub fit : TestedTo (record_fits cells) n g

module _ {cells : List ℕ} {n at g : ℕ} (c : Following cells n at g) where
  pub following-next : {m : ℕ} → g < n → record_fits cells g ≡ true → CellIs (count_at cells g) m → Following cells n (at + m) (g + 1)
  following-next h t w =
      record {
        few = c.few;
        inside = c.inside;
        start = rw add-one (ap₂ ◌+◌ c.start w.cell);
        bound = omega (arith, c.bound, w.low);
        fit = to-next c.fit h t;
      }

  pub following-fails : (p : ℕ) → g < n → record_fits cells g ≡ false → false ≡ records_fit cells n p
  unfolding records_fit
  following-fails p h t = rw (sym (to-fails c.fit h t))

  pub following-ends : (p : ℕ) → n ≤ g → eqb at p ≡ records_fit cells n p
  unfolding records_fit
  following-ends p h =
      let e : g ≡ n = omega (arith, c.fit.within) in
      rw (sym (to-done c.fit h)) (ap (λ (x : ℕ). eqb x p) (c.start ∙ ap (pins_below cells) e))

-- ---- one gate

module _ (cells pins : List ℕ) (g : ℕ) where
  record-past : length cells / gate_width ≤ g → has_run cells pins g ≡ false
  record-past h = rw (lt-leb (suc g * gate_width) (length cells) (omega arith))

  pub bad-record : length cells / gate_width ≤ g → None ≡ decoded_at cells pins g
  bad-record h = sym (decoded-none cells pins g (record-past h))

  module _ {first count : ℕ} (f : CellIs (first_at cells g) first) (c : CellIs (count_at cells g) count) where
    pub end_is : first_at cells g + count_at cells g ≡ first + count
    end_is = sym (ap₂ ◌+◌ f.cell c.cell)

    run_past : length pins < first + count → has_run cells pins g ≡ false
    run_past h = rw (lt-leb (first_at cells g + count_at cells g) (length pins) (omega (arith, end_is)), and-false (leb (suc g * gate_width) (length cells)))

    pub bad-run : length pins < first + count → None ≡ decoded_at cells pins g
    bad-run h = sym (decoded-none cells pins g (run_past h))

    -- the run from the first pin to the end, as the code cuts it
    pub cut-run : take (first + count - first) (drop first pins) ≡ run_at cells pins g
    cut-run = part-run first count pins ∙ ap₂ (λ (m i : ℕ). take m (drop i pins)) c.cell f.cell

    pub gate-read : {form start : ℕ} {k : Kind} {d : std-option.Option Gate} → g < length cells / gate_width → first + count ≤ length pins → form ≡ form_at cells g → k ≡ kind_of form
        → start ≡ start_at cells g → d ≡ with_pins k first start (take (first + count - first) (drop first pins)) → d ≡ decoded_at cells pins g
    gate-read h l p q s e =
        e ∙ (λ i. with_pins ((q ∙ ap kind_of p) i) (f.cell i) (s i) (cut-run i))
        ∙ sym (decoded-there cells pins g (record { cells = record-below h; within = omega (arith, end_is) }))

-- ---- all of refusal 20

-- what the size test gives
pub record Sizes (n : Counts) (gs ps os : ℕ) : Type 0 where
  pub few : WithinSizes n.inputs n.outputs n.gates n.pins
  pub gates-lent : n.gates * gate_width ≤ gs
  pub pins-lent : n.pins ≤ ps
  pub outs-lent : n.outputs ≤ os

pub sizes-give : {n : Counts} {gs ps os : ℕ} → sizes_fit n gs ps os ≡ true → Sizes n gs ps os
unfolding sizes_fit
sizes-give {n} {gs} {ps} {os} e =
    record {
      few = not-over n.inputs n.outputs n.gates n.pins (not-true _ (search (and_left, and_right) depth 8));
      gates-lent = leb-true (n.gates * gate_width) gs (search (and_left, and_right) depth 8);
      pins-lent = leb-true n.pins ps (search (and_left, and_right) depth 8);
      outs-lent = leb-true n.outputs os (search (and_left, and_right) depth 8);
    }

pub sizes-from : {n : Counts} {gs ps os : ℕ} → Sizes n gs ps os → sizes_fit n gs ps os ≡ true
sizes-from {n} {gs} {ps} {os} s =
    sym (within-sizes n gs ps os s.few.inputs s.few.gates s.few.pins s.few.outputs s.gates-lent s.pins-lent)
    ∙ le-leb n.outputs os s.outs-lent

module _ (n : Counts) (cells pins outs : List ℕ) where
  -- the four tests of `is_network`
  abbrev pub Fit : Bool → Type 0
  Fit b = b ≡ sizes_fit n (length cells) (length pins) (length outs)

  abbrev pub Recorded : Bool → Type 0
  Recorded b = b ≡ records_fit cells n.gates n.pins

  abbrev pub PinsGood : Bool → Type 0
  PinsGood b = b ≡ all_valid n.inputs n.gates (take n.pins pins)

  abbrev pub OutsGood : Bool → Type 0
  OutsGood b = b ≡ all_valid n.inputs n.gates (take n.outputs outs)

  pub no-sizes : Fit false → false ≡ is_network (lent n cells pins outs)
  unfolding is_network
  no-sizes e = rw (sym e)

  pub no-records : Recorded false → false ≡ is_network (lent n cells pins outs)
  unfolding is_network
  no-records e = sym (simp (sym e, and-false))

  pub no_pins : PinsGood false → false ≡ is_network (lent n cells pins outs)
  unfolding is_network
  no_pins e = sym (simp (sym e, and-false))

  pub network-is : {b : Bool} → Fit true → Recorded true → PinsGood true → OutsGood b → b ≡ is_network (lent n cells pins outs)
  unfolding is_network
  network-is p q r s = s ∙ sym (simp (sym p, sym q, sym r))
