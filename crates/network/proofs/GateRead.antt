-- What `gate_at` answers, and a gate that can be read out of the cells: its record and its run of pins are there, its pins are the run's, and
-- it is one of the gates that the cells hold. Assumes nothing.
use Rattle.std.specs.Prelude.{Some, None}
use mathlib.Core.Path.{◌≡◌, sym, ap, ◌∙◌}
use mathlib.Core.Bool.{Bool, true}
use mathlib.Core.List.{List, map}
use mathlib.Core.Option.{Option, some, none-ne-some}
use Prim.Native.Nat.{ℕ, suc, ◌+◌, ◌*◌, ◌≤◌, ◌<◌}
use native.Mathlib.Omega.{arith}
use native.Mathlib.Nat.{zero-add}
use lib.Dec.{leb}
use lib.ListN.{length, take, drop, get_elem?, length-map}
use borrow.Author.Tests.{leb-true}
use Rattle.lists.specs.Lists.{range}
use Rattle.lists.proofs.Tests.{by-test, and_left, and_right}
use Rattle.lists.proofs.Places.{length_run}
use Rattle.lists.proofs.Range.{length-range, map_range}
use Rattle.signal.specs.Cell.{sig_of}
use Rattle.gates.specs.Gate.{Gate, pins}
use Rattle.gates.specs.Between.Forms.{kind_of}
use Rattle.gates.specs.Between.Decode.{run_within, decoded_in}
use Rattle.gates.specs.declared.Gate as code
use Rattle.gates.proofs.Forms.{From, gate-from}
use Rattle.gates.proofs.Decode.{RunAt, decode_is, run-decoded}
use Rattle.network.specs.Cells.{or_buf, cell_gates}
use Rattle.network.specs.Record.{gate_width, record_cells, record_of, form_at, first_at, count_at, start_at, run_at, has_run, gate_at}
use Rattle.network.specs.Between.Record.{record_at, decoded_at, HasRun}
use Rattle.network.proofs.RecordCells.{record-parts, gate-some, decoded-some, gate-none, decoded-none}
use Rattle.std.specs.declared.option.Option as std-option

-- what the test for a record and its run gives
there : (cells ps : List ℕ) (g : ℕ) → has_run cells ps g ≡ true → HasRun cells ps g
there cells ps g t =
    let first : Bool = leb (suc g * gate_width) (length cells) in
    let last : Bool = leb (first_at cells g + count_at cells g) (length ps) in
    record {
      cells = record { within = leb-true (suc g * gate_width) (length cells) (and_left first last t) };
      within = leb-true (first_at cells g + count_at cells g) (length ps) (and_right first last t);
    }

-- ---- what `gate_at` answers

module _ (cells ps : List ℕ) (g : ℕ) where
  run_length : has_run cells ps g ≡ true → length (run_at cells ps g) ≡ count_at cells g
  run_length t = length_run (first_at cells g) (count_at cells g) ps (there cells ps g t).within

  -- it stands for gate g of the cells
  pub decoded_in-decoded_at : decoded_in (decoded_at cells ps g) ps ≡ gate_at cells ps g
  decoded_in-decoded_at =
      by-test (has_run cells ps g)
      (λ t.
      let run : RunAt ps (first_at cells g) (run_at cells ps g) = ap (λ (k : ℕ). take k (drop (first_at cells g) ps)) (run_length t) in
      ap (λ (d : std-option.Option code.Gate). decoded_in d ps) (decoded-some cells ps g t)
      ∙ decode_is ps (first_at cells g) (run_at cells ps g) run (form_at cells g) (start_at cells g)
      ∙ sym (gate-some cells ps g t))
      (λ t. ap (λ (d : std-option.Option code.Gate). decoded_in d ps) (decoded-none cells ps g t) ∙ sym (gate-none cells ps g t))

  module _ {d : std-option.Option code.Gate} (e : d ≡ decoded_at cells ps g) where
    pub decoded-is : decoded_in d ps ≡ gate_at cells ps g
    decoded-is = ap (λ (x : std-option.Option code.Gate). decoded_in x ps) e ∙ decoded_in-decoded_at

    -- its run ends within the pins
    pub decoded-within : {x : code.Gate} → d ≡ Some x → run_within x ps ≡ true
    decoded-within {x} h =
        by-test (has_run cells ps g)
        (λ t.
        let n : first_at cells g + length (run_at cells ps g) ≤ length ps = omega (arith, run_length t, (there cells ps g t).within) in
        run-decoded (first_at cells g) (run_at cells ps g) ps n (kind_of (form_at cells g)) (start_at cells g) (sym (decoded-some cells ps g t) ∙ sym e ∙ h))
        (λ t. absurd (let b : d ≡ None = e ∙ decoded-none cells ps g t in let z : ◌≡◌ {A = ℕ} 0 1 = cc in omega arith))

-- ---- a gate that can be read

module _ (cells ps : List ℕ) (g : ℕ) (x : Gate) (e : gate_at cells ps g ≡ some x) where
  is-there : has_run cells ps g ≡ true
  is-there = by-test (has_run cells ps g) (λ t. t) (λ t. absurd (none-ne-some x (sym (gate-none cells ps g t) ∙ e)))

  pub has-run : HasRun cells ps g
  has-run = there cells ps g is-there

  pub gate-is : From (form_at cells g) (start_at cells g) (map sig_of (run_at cells ps g)) x
  gate-is = gate-from (form_at cells g) (start_at cells g) (map sig_of (run_at cells ps g)) x (sym (gate-some cells ps g is-there) ∙ e)

  -- its record is the gate's
  pub gate-record : record_at cells g ≡ record_of (first_at cells g) x
  unfolding record_of
  gate-record =
      let n : count_at cells g ≡ length (pins x) =
      sym (ap length gate-is.all-pins ∙ length-map (run_at cells ps g) sig_of ∙ length_run (first_at cells g) (count_at cells g) ps has-run.within) in
      record-parts cells g has-run.cells ∙ (λ i. record_cells (sym gate-is.number i) (first_at cells g) (n i) (sym gate-is.starts i))

  pub run-pins : length (run_at cells ps g) ≡ length (pins x)
  run-pins = sym (length-map (run_at cells ps g) sig_of) ∙ ap length (sym gate-is.all-pins)

-- ---- all gates

pub cell_at : (cells ps : List ℕ) (n g : ℕ) → g < n → get_elem? (cell_gates cells ps 0 n) g ≡ some (or_buf (gate_at cells ps g))
cell_at cells ps n g l =
    map_range (λ (k : ℕ). or_buf (gate_at cells ps k)) 0 n g l
    ∙ ap (λ (k : ℕ). some (or_buf (gate_at cells ps k))) (zero-add g)

pub cell-gate : (cells ps : List ℕ) (n g : ℕ) (x : Gate) → g < n → gate_at cells ps g ≡ some x → get_elem? (cell_gates cells ps 0 n) g ≡ some x
cell-gate cells ps n g x l e = cell_at cells ps n g l ∙ ap (λ (o : Option Gate). some (or_buf o)) e

pub cell-count : (cells ps : List ℕ) (n : ℕ) → length (cell_gates cells ps 0 n) ≡ n
cell-count cells ps n = length-map (range 0 n) (λ (k : ℕ). or_buf (gate_at cells ps k)) ∙ length-range 0 n
