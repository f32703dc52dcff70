-- Runs of pins, and the cover and the latch of each kind of gate. Assumes nothing.
use mathlib.Core.Path.{◌≡◌, refl, sym, ◌∙◌, ap}
use mathlib.Core.Bool.{Bool, true}
use mathlib.Core.List.{List, [], ◌∷◌, map, flat_map, append-nil}
use Prim.Native.Nat.{ℕ, ◌+◌, ◌-◌, ◌≤◌}
use lib.ListN.{length, take, drop}
use borrow.Author.Tests.{leb-true}
use Rattle.lists.specs.Lists.{Bytes}
use Rattle.lists.proofs.Places.{part-run}
use Rattle.signal.specs.Signal.{Signal}
use Rattle.signal.specs.Cell.{sig_of}
use Rattle.signal.specs.declared.Signal as signal
use Rattle.gates.specs.Gate.{Form, Comb}
use Rattle.gates.specs.Between.Forms.{binary_form, ternary_form, nary_form}
use Rattle.gates.specs.Between.Decode.{run_of, run_within, gate_in}
use Rattle.gates.specs.declared.PinRun.{PinRun}
use Rattle.gates.specs.declared.BinaryType.{BinaryType}
use Rattle.gates.specs.declared.BinaryType.TheVariants as B
use Rattle.gates.specs.declared.TernaryType.{TernaryType}
use Rattle.gates.specs.declared.TernaryType.TheVariants as T
use Rattle.gates.specs.declared.NaryType.{NaryType}
use Rattle.gates.specs.declared.NaryType.TheVariants as N
use Rattle.gates.specs.declared.Gate as code
use Rattle.gates.specs.declared.Gate.TheVariants as G
use Rattle.blif_meaning.specs.Model.{Block}
use Rattle.blif_writing.specs.Names.{name_bytes}
use Rattle.blif_writing.specs.WrittenModel.{form_block, buf_block, comb_block}
use Rattle.blif_writing.specs.Text.{line, block_lines}
use Rattle.blif_write_gates.specs.Between.Blocks.{block_text, stored_text}
use Rattle.blif_write.specs.Between.Parts.{blocks_text, cover_text, latch_text}

-- ---- runs of pins

-- a run as the code cuts it out of the pins
abbrev cut_run : PinRun → List ℕ → List ℕ
cut_run run ps = take (run.first + run.count - run.first) (drop run.first ps)

-- a Nary gate's run ends within the pins
pub run_ends : {x : code.Gate} {t : NaryType} {run : PinRun} (ps : List ℕ) → x ≡ G.Nary t run → run_within x ps ≡ true
    → run.first + run.count ≤ length ps
run_ends {run = run} ps e h = leb-true (run.first + run.count) (length ps) (ap (λ (z : code.Gate). run_within z ps) (sym e) ∙ h)

-- ---- a gate's cover

pub block-alone : (b : Block Bytes) → block_text b ≡ blocks_text (b ∷ [])
block-alone b = ap (flat_map line) (sym (append-nil (block_lines b)))

binary-block : (g : ℕ) (t : BinaryType) (ps : List Signal) → form_block name_bytes g (binary_form t) ps ≡ comb_block name_bytes g (binary_form t) ps
binary-block g B.And ps = refl
binary-block g B.Xor ps = refl

ternary-block : (g : ℕ) (t : TernaryType) (ps : List Signal) → form_block name_bytes g (ternary_form t) ps ≡ comb_block name_bytes g (ternary_form t) ps
ternary-block g T.And ps = refl
ternary-block g T.Xor ps = refl
ternary-block g T.Maj ps = refl
ternary-block g T.Mux ps = refl

nary-block : (g : ℕ) (t : NaryType) (ps : List Signal) → form_block name_bytes g (nary_form t) ps ≡ comb_block name_bytes g (nary_form t) ps
nary-block g N.And ps = refl
nary-block g N.Or ps = refl
nary-block g N.Nand ps = refl
nary-block g N.Nor ps = refl
nary-block g N.Xor ps = refl
nary-block g N.Xnor ps = refl

cover-at : {x y : code.Gate} {t : Bytes} (g : ℕ) (ps : List ℕ) → x ≡ y → t ≡ cover_text g (gate_in y ps) → t ≡ cover_text g (gate_in x ps)
cover-at g ps e h = h ∙ ap (λ (z : code.Gate). cover_text g (gate_in z ps)) (sym e)

comb-cover : (g : ℕ) (f : Form) (ps : List Signal) {b : Block Bytes} → b ≡ comb_block name_bytes g f ps → block_text b ≡ cover_text g (Comb f ps)
unfolding cover_text
comb-cover g f ps e = ap block_text e ∙ block-alone (comb_block name_bytes g f ps)

module _ {x : code.Gate} (g : ℕ) (ps : List ℕ) where
  pub cover-binary : {t : BinaryType} {a b : signal.Signal} → x ≡ G.Binary t a b
      → block_text (form_block name_bytes g (binary_form t) (sig_of a.a ∷ sig_of b.a ∷ [])) ≡ cover_text g (gate_in x ps)
  cover-binary {t} {a} {b} e =
      cover-at g ps e (comb-cover g (binary_form t) (sig_of a.a ∷ sig_of b.a ∷ []) (binary-block g t (sig_of a.a ∷ sig_of b.a ∷ [])))

  pub cover-ternary : {t : TernaryType} {a b c : signal.Signal} → x ≡ G.Ternary t a b c
      → block_text (form_block name_bytes g (ternary_form t) (sig_of a.a ∷ sig_of b.a ∷ sig_of c.a ∷ [])) ≡ cover_text g (gate_in x ps)
  cover-ternary {t} {a} {b} {c} e =
      cover-at g ps e
      (comb-cover g (ternary_form t) (sig_of a.a ∷ sig_of b.a ∷ sig_of c.a ∷ []) (ternary-block g t (sig_of a.a ∷ sig_of b.a ∷ sig_of c.a ∷ [])))

  pub cover-nary : {t : NaryType} {run : PinRun} → x ≡ G.Nary t run
      → block_text (form_block name_bytes g (nary_form t) (map sig_of (cut_run run ps))) ≡ cover_text g (gate_in x ps)
  cover-nary {t} {run} e =
      ap (λ (l : List ℕ). block_text (form_block name_bytes g (nary_form t) (map sig_of l))) (part-run run.first run.count ps)
      ∙ cover-at g ps e (comb-cover g (nary_form t) (map sig_of (run_of run ps)) (nary-block g t (map sig_of (run_of run ps))))

  pub cover-buf : {s : signal.Signal} → x ≡ G.Buf s → block_text (buf_block name_bytes g (sig_of s.a ∷ [])) ≡ cover_text g (gate_in x ps)
  cover-buf {s} e = cover-at g ps e (comb-cover g Rattle.gates.specs.Gate.Buf (sig_of s.a ∷ []) refl)

  pub cover-dff : {d e r : signal.Signal} {v : Bool} → x ≡ G.Dff d e r v → [] ≡ cover_text g (gate_in x ps)
  unfolding cover_text flat_map
  cover-dff h = cover-at g ps h refl

-- ---- a gate's latch

-- a gate that an arm of a match knows
pub latch-at : {x y : code.Gate} {t : Bytes} (g : ℕ) → x ≡ y → t ≡ latch_text g (gate_in y []) → t ≡ latch_text g (gate_in x [])
latch-at g e h = h ∙ ap (λ (z : code.Gate). latch_text g (gate_in z [])) (sym e)

pub latch-of : {x : code.Gate} {d e r : signal.Signal} {v : Bool} (g : ℕ) → x ≡ G.Dff d e r v
    → stored_text (sig_of d.a) (sig_of e.a) (sig_of r.a) v g ≡ latch_text g (gate_in x [])
unfolding latch_text stored_text flat_map
latch-of {x} {d} {e} {r} {v} g h =
    latch-at g h (sym (append-nil (stored_text (sig_of d.a) (sig_of e.a) (sig_of r.a) v g)))
