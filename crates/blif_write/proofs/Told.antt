-- What a gate's record tells before the gate is read: whether it is too wide, a flip-flop or a buffer, and its inputs. Assumes nothing.
use mathlib.Core.Path.{◌≡◌, refl, sym, ◌∙◌, ap, ap₂}
use mathlib.Core.Bool.{Bool, cond, false≢true}
use mathlib.Core.List.{List, [], map, flat_map}
use mathlib.Core.Option.{some}
use Prim.Native.Nat.{ℕ, ◌+◌, ◌-◌}
use native.Mathlib.Omega.{arith}
use lib.ListN.{length, take, drop, length-take, length-drop}
use borrow.Author.Tests.{eq-eqb, ne_eqb}
use Rattle.signal.specs.Cell.{sig_of}
use Rattle.gates.specs.Gate.{Buf, Gate, Comb, Dff, pins}
use Rattle.gates.specs.Forms.{form_number, flop_number, form_cell}
use Rattle.gates.specs.Between.Forms.{kind_of}
use Rattle.gates.specs.Between.Decode.{kind_comb}
use Rattle.gates.proofs.Forms.{From, comb-number}
use Rattle.network.specs.Cells.{or_buf}
use Rattle.network.specs.Record.{form_at, first_at, count_at, start_at, run_at, gate_at}
use Rattle.network.specs.Between.Record.{CellIs, HasRun}
use Rattle.network.proofs.GateRead.{has-run, gate-is, run-pins}
use Rattle.network.proofs.Records.{cut-run}
use Rattle.blif_writing.specs.WrittenModel.{named, too_wide, wide}
use Rattle.blif_write.specs.Between.Parts.{latch_text, cover_text, HeldAt, wide_at}
use Rattle.blif_write_inverters.specs.Between.Marks.{SignalsMarked}
use Rattle.blif_write_inverters.proofs.Marking.{as-marked}

-- ---- by the form number

no-latch : (g : ℕ) (x : Gate) → (form_cell x ≡ flop_number → ⊥) → [] ≡ latch_text g x
unfolding latch_text flat_map
no-latch g (Comb f ps) h = refl
no-latch g (Dff s) h = absurd (h refl)

no_cover : (g : ℕ) (x : Gate) → form_cell x ≡ flop_number → [] ≡ cover_text g x
unfolding cover_text flat_map
no_cover g (Comb f ps) h = absurd (false≢true (ap (λ (n : ℕ). kind_comb (kind_of n)) (sym h) ∙ comb-number (Comb f ps)))
no_cover g (Dff s) h = refl

no_names : (x : Gate) → form_cell x ≡ form_number Buf → [] ≡ named x
no_names x h = sym (ap (λ (b : Bool). cond b [] (pins x)) (eq-eqb (form_cell x) (form_number Buf) h))

all_named : (x : Gate) → (form_cell x ≡ form_number Buf → ⊥) → pins x ≡ named x
all_named x h = sym (ap (λ (b : Bool). cond b [] (pins x)) (ne_eqb (form_cell x) (form_number Buf) h))

-- ---- a gate that can be read

-- a gate that the cells hold is the one of which the text is written
pub as-held : (cells ps : List ℕ) (g : ℕ) {x : Gate} → gate_at cells ps g ≡ some x → x ≡ or_buf (gate_at cells ps g)
as-held cells ps g e = ap or_buf (sym e)

module _ {cells ps : List ℕ} {g : ℕ} (c : HeldAt cells ps g) where
  pub held-is : gate_at cells ps g ≡ some (or_buf (gate_at cells ps g))
  held-is = c.is ∙ ap some (as-held cells ps g c.is)

  pub held-run : HasRun cells ps g
  held-run = has-run cells ps g c.gate c.is

  tells : From (form_at cells g) (start_at cells g) (map sig_of (run_at cells ps g)) c.gate
  tells = gate-is cells ps g c.gate c.is

  count-is : count_at cells g ≡ length (pins c.gate)
  count-is =
      omega (arith, length-take (count_at cells g) (drop (first_at cells g) ps), length-drop (first_at cells g) ps, run-pins cells ps g c.gate c.is, held-run.within)

  pub wide-held : wide_at cells g ≡ wide (or_buf (gate_at cells ps g))
  wide-held = ap₂ too_wide (sym tells.number) count-is ∙ ap wide (as-held cells ps g c.is)

  pub latch-none : {form : ℕ} → form ≡ form_at cells g → (form ≡ flop_number → ⊥) → [] ≡ latch_text g (or_buf (gate_at cells ps g))
  latch-none e h = no-latch g c.gate (λ q. h (e ∙ sym tells.number ∙ q)) ∙ ap (latch_text g) (as-held cells ps g c.is)

  pub cover-none : {form : ℕ} → form ≡ form_at cells g → form ≡ flop_number → [] ≡ cover_text g (or_buf (gate_at cells ps g))
  cover-none e h = no_cover g c.gate (tells.number ∙ sym e ∙ h) ∙ ap (cover_text g) (as-held cells ps g c.is)

  pub names-none : {form : ℕ} → form ≡ form_at cells g → form ≡ form_number Buf → [] ≡ named (or_buf (gate_at cells ps g))
  names-none e h = no_names c.gate (tells.number ∙ sym e ∙ h) ∙ ap named (as-held cells ps g c.is)

  run-named : {form : ℕ} → form ≡ form_at cells g → (form ≡ form_number Buf → ⊥) → map sig_of (run_at cells ps g) ≡ named (or_buf (gate_at cells ps g))
  run-named e h = sym tells.all-pins ∙ all_named c.gate (λ q. h (e ∙ sym tells.number ∙ q)) ∙ ap named (as-held cells ps g c.is)

  -- the signals of the run are those that the gate's text names
  pub run-marked : {form first count : ℕ} {gs is gs' is' : List ℕ} → form ≡ form_at cells g → (form ≡ form_number Buf → ⊥) → CellIs (first_at cells g) first
      → CellIs (count_at cells g) count → SignalsMarked (map sig_of (take (first + count - first) (drop first ps))) gs is gs' is'
      → SignalsMarked (named (or_buf (gate_at cells ps g))) gs is gs' is'
  run-marked e n h k v = as-marked (ap (map sig_of) (cut-run cells ps g h k) ∙ run-named e n) v
