-- The gates in lent cells, one after the other: their latches, their covers, and a test of each. Assumes nothing.
use Rattle.std.specs.Prelude.{Some, None}
use mathlib.Core.Path.{◌≡◌, refl, sym, ◌∙◌, ap, ap₂}
use mathlib.Core.Bool.{Bool, false, ◌||◌}
use mathlib.Core.List.{List, [], ◌∷◌, ◌++◌, map, flat_map}
use mathlib.Core.Option.{none, some}
use Prim.Native.Nat.{ℕ, zero, suc, ◌+◌, ◌-◌, ◌≤◌, ◌<◌}
use native.Mathlib.Omega.{arith}
use native.Mathlib.Nat.{sub-zero}
use Rattle.lists.specs.Lists.{Bytes, any, range}
use Rattle.lists.proofs.Places.{place-mem, flat_map-append}
use Rattle.lists.proofs.Range.{any_none, range_cons, range-end}
use Rattle.gates.specs.Gate.{Gate, Comb, Dff}
use Rattle.gates.specs.Between.Decode.{gate_in, decoded_in}
use Rattle.gates.specs.declared.Gate as code
use Rattle.gates.specs.declared.Gate.TheVariants as G
use Rattle.network.specs.Cells.{or_buf, cell_gates}
use Rattle.network.specs.Record.{form_at, count_at, gate_at}
use Rattle.network.specs.Between.Record.{decoded_at, CellIs}
use Rattle.network.proofs.GateRead.{decoded-is, cell-gate}
use Rattle.blif_writing.specs.Names.{name_bytes}
use Rattle.blif_writing.specs.WrittenModel.{comb_block, comb_blocks, latch_blocks, too_wide, wide}
use Rattle.blif_writing.specs.Text.{line, block_lines, all_lines}
use Rattle.blif_write_names.proofs.Parts.{Parts}
use Rattle.blif_write.specs.Between.Parts.{latch_text, cover_text, latches_text, covers_text, HeldAt, Readable, wide_at, wide_to}
use Rattle.blif_write.proofs.Covers.{block-alone}
use Rattle.blif_write.proofs.Told.{held-is, wide-held}
use Rattle.std.specs.declared.option.Option as std-option

-- ---- gates read one after the other

pub read-bad : {cells ps : List ℕ} {g : ℕ} {r : std-option.Option code.Gate} → HeldAt cells ps g → r ≡ decoded_at cells ps g → r ≡ None → ⊥
read-bad {cells} {ps} {g} {r} w e b =
    let q : none ≡ some w.gate = ap (λ (z : std-option.Option code.Gate). decoded_in z ps) (sym b) ∙ decoded-is cells ps g e ∙ w.is in
    let z : ◌≡◌ {A = ℕ} 0 1 = cc in
    omega arith

pub read-good : (cells ps : List ℕ) (g : ℕ) {r : std-option.Option code.Gate} {x : code.Gate} → r ≡ decoded_at cells ps g → r ≡ Some x
    → gate_in x ps ≡ or_buf (gate_at cells ps g)
read-good cells ps g e h = ap or_buf (ap (λ (z : std-option.Option code.Gate). decoded_in z ps) (sym h) ∙ decoded-is cells ps g e)

-- the gates from gate g on: the first, then the others; and none
pub cells-next : (cells ps : List ℕ) {n g : ℕ} → g < n → cell_gates cells ps g (n - g) ≡ or_buf (gate_at cells ps g) ∷ cell_gates cells ps (g + 1) (n - (g + 1))
cells-next cells ps {n} {g} h = ap (map (λ (i : ℕ). or_buf (gate_at cells ps i))) (range_cons n g h)

pub cells-end : (cells ps : List ℕ) {n g : ℕ} → n ≤ g → cell_gates cells ps g (n - g) ≡ []
cells-end cells ps {n} {g} h = ap (map (λ (i : ℕ). or_buf (gate_at cells ps i))) (range-end n g h)

-- ---- latches and covers

-- only a Nary gate looks at the pins
pub latch-any : (g : ℕ) (x : code.Gate) (ps : List ℕ) → latch_text g (gate_in x []) ≡ latch_text g (gate_in x ps)
unfolding latch_text
latch-any g (G.Binary t a b) ps = refl
latch-any g (G.Ternary t a b c) ps = refl
latch-any g (G.Nary t r) ps = refl
latch-any g (G.Buf s) ps = refl
latch-any g (G.Dff d e r v) ps = refl

latch-step : (g : ℕ) (x : Gate) (xs : List Gate) → latches_text g (x ∷ xs) ≡ latch_text g x ++ latches_text (suc g) xs
unfolding latch_text
latch-step g (Comb f ps) xs = flat_map-append line [] (all_lines (latch_blocks name_bytes (suc g) xs))
latch-step g (Dff s) xs = flat_map-append line (all_lines (latch_blocks name_bytes g (Dff s ∷ []))) (all_lines (latch_blocks name_bytes (suc g) xs))

-- a gate's latch is a part of the text of all
pub latch-parts : (cells ps : List ℕ) (n : ℕ)
    → Parts n (λ (g k : ℕ). latches_text g (cell_gates cells ps g k)) (λ (g : ℕ). latch_text g (or_buf (gate_at cells ps g)))
unfolding flat_map
latch-parts cells ps n = record { more = λ g k h. latch-step g (or_buf (gate_at cells ps g)) (cell_gates cells ps (suc g) k); none = λ g h. refl }

cover-step : (g : ℕ) (x : Gate) (xs : List Gate) → covers_text g (x ∷ xs) ≡ cover_text g x ++ covers_text (suc g) xs
unfolding cover_text
cover-step g (Comb f ps) xs =
    flat_map-append line (block_lines (comb_block name_bytes g f ps)) (all_lines (comb_blocks name_bytes (suc g) xs))
    ∙ ap (λ (t : Bytes). t ++ covers_text (suc g) xs) (block-alone (comb_block name_bytes g f ps))
cover-step g (Dff s) xs = flat_map-append line [] (all_lines (comb_blocks name_bytes (suc g) xs))

-- so is its cover
pub cover-parts : (cells ps : List ℕ) (n : ℕ)
    → Parts n (λ (g k : ℕ). covers_text g (cell_gates cells ps g k)) (λ (g : ℕ). cover_text g (or_buf (gate_at cells ps g)))
unfolding flat_map
cover-parts cells ps n = record { more = λ g k h. cover-step g (or_buf (gate_at cells ps g)) (cell_gates cells ps (suc g) k); none = λ g h. refl }

-- a gate of a network without wide gates is not wide
pub not_wide : {cells ps : List ℕ} {n g : ℕ} → HeldAt cells ps g → any wide (cell_gates cells ps 0 n) ≡ false → g < n → wide (or_buf (gate_at cells ps g)) ≡ false
not_wide {cells} {ps} {n} {g} c w h =
    let x : Gate = or_buf (gate_at cells ps g) in
    any_none wide (cell_gates cells ps 0 n) w x (place-mem (cell_gates cells ps 0 n) g x (cell-gate cells ps n g x h (held-is c)))

-- ---- a test of each gate

-- no record before gate g's is wide: what is left tests as the whole does
pub record Narrow (cells : List ℕ) (n g : ℕ) : Type 0 where
  pub rest : any (wide_at cells) (range g (n - g)) ≡ wide_to cells n

pub narrow_start : {cells : List ℕ} {n : ℕ} → Narrow cells n 0
narrow_start = record { rest = rw sub-zero }

module _ {cells : List ℕ} {n g : ℕ} (c : Narrow cells n g) where
  module _ {form count : ℕ} {b : Bool} (h : g < n) (f : form ≡ form_at cells g) (k : CellIs (count_at cells g) count) (e : b ≡ too_wide form count) where
    -- gate g's record is tested, then those behind it
    record-next : (b || any (wide_at cells) (range (g + 1) (n - (g + 1)))) ≡ wide_to cells n
    record-next =
        ap (λ (z : Bool). z || any (wide_at cells) (range (g + 1) (n - (g + 1)))) (e ∙ ap₂ too_wide f k.cell)
        ∙ sym (ap (any (wide_at cells)) (range_cons n g h)) ∙ c.rest

    pub narrow_next : b ≡ false → Narrow cells n (g + 1)
    narrow_next t = record { rest = rw t at record-next }

-- where the gates can be read, their records tell whether one is wide
wide_from : {cells ps : List ℕ} (k g : ℕ) → ((i : ℕ) → i < g + k → HeldAt cells ps i) → any (wide_at cells) (range g k) ≡ any wide (cell_gates cells ps g k)
wide_from zero g f = refl
wide_from (suc k) g f = ap₂ (λ (a b : Bool). a || b) (wide-held (f g (omega arith))) (wide_from k (suc g) (λ i h. f i (omega arith)))

pub wide_read : {cells ps : List ℕ} {n : ℕ} → Readable cells ps n → wide_to cells n ≡ any wide (cell_gates cells ps 0 n)
wide_read {n = n} c = wide_from n 0 (λ i h. c.read i (omega arith))
