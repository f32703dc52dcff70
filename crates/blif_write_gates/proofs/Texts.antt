-- The texts of blocks, grouped as the code writes them. Assumes nothing.
use mathlib.Core.Path.{◌≡◌, refl, sym, ◌∙◌, ap, ap₂}
use mathlib.Core.Bool.{Bool, true, false, not, ◌||◌, cond, or-true}
use mathlib.Core.List.{List, [], ◌∷◌, ◌++◌, map, flat_map, append_assoc, append-nil}
use mathlib.Core.Option.{none, some}
use Prim.Native.Nat.{ℕ, ◌^◌, ◌<◌}
use native.Mathlib.Omega.{arith}
use lib.ListN.{length, get_or, drop, length-map, drop_of_length-le}
use lib.Seq.{drop-cons}
use Rattle.lists.specs.Lists.{Bytes, bytes}
use Rattle.lists.proofs.Places.{flat_map-append}
use Rattle.signal.specs.Signal.{Var, Input, Signal, plain}
use Rattle.signal.specs.Cell.{sig_cell, node_of, sig_of}
use Rattle.signal.specs.Between.Cell.{gate_cell, input_cell}
use Rattle.signal.proofs.Cells.{signal-again, small-node, gate-cell, input-cell}
use Rattle.gates.specs.declared.NaryType.{NaryType}
use Rattle.gates.specs.Between.Forms.{nary_form}
use Rattle.blif_meaning.specs.Model.{Line, Cover, init_bytes, plain_latch}
use Rattle.blif_writing.specs.Names.{name_bytes}
use Rattle.blif_writing.specs.WrittenModel.{cover_row, col_of, lines_of, form_block, is_const, init_from, unless, gate_name, bare, buf_block}
use Rattle.blif_writing.specs.Text.{spaced, line, cube_line, field, latch_line, flop_line, given}
use Rattle.blif_write_cubes.specs.Between.Lines.{lines_text}
use Rattle.blif_write_names.proofs.Parts.{Parts}
use Rattle.blif_write_gates.specs.Between.Blocks.{block_text, field_text, stored_latch, flop_text, stored_text}

-- ---- signals that the code makes

-- the signal of gate g, or of input i
pub gate-signal : (c g : ℕ) → g < 1024 → c ≡ gate_cell g → sig_of c ≡ plain (Var g)
gate-signal c g h e = ap sig_of (e ∙ gate-cell g (omega arith)) ∙ signal-again (plain (Var g)) (omega arith)

pub input-signal : (c i : ℕ) → i < 256 → c ≡ input_cell i → sig_of c ≡ plain (Input i)
input-signal c i h e = ap sig_of (e ∙ input-cell i (omega arith)) ∙ signal-again (plain (Input i)) (omega arith)

-- "its signal without inversion"
pub bare-signal : (b c : ℕ) → c < 2 ^ 32 → b ≡ sig_cell (plain (node_of c)) → sig_of b ≡ bare (sig_of c)
bare-signal b c h e = ap sig_of e ∙ signal-again (plain (node_of c)) (small-node c h)

-- ---- lines and words

spaced-append : (a b : List Bytes) → spaced (a ++ b) ≡ spaced a ++ spaced b
unfolding spaced
spaced-append a b = flat_map-append (λ (w : Bytes). 32 ∷ w) a b

cubes-text : (ls : List Line) → flat_map line (map cube_line ls) ≡ lines_text ls
unfolding flat_map
cubes-text [] = refl
cubes-text (l ∷ ls) = ap (λ (t : Bytes). line (cube_line l) ++ t) (cubes-text ls)

-- ---- flip-flops

-- the line of a latch, the start value's digit last
pub plain-text : (d q : Bytes) (v : Bool)
    → ((bytes ".latch" ++ (32 ∷ d)) ++ (32 ∷ q)) ++ cond v (bytes " 1\n") (bytes " 0\n") ≡ line (latch_line (plain_latch d q (init_from v)))
unfolding line spaced flat_map
plain-text d q false = simp append_assoc
plain-text d q true = simp append_assoc

field-text : (v : Bool) (key : Bytes) (s : Signal) → field_text v (32 ∷ key) s ≡ field key (unless name_bytes v s)
unfolding field_text spaced flat_map
field-text v key s = go (is_const v s)
  where
    go : (b : Bool) → cond b [] ((32 ∷ key) ++ name_bytes s) ≡ field key (cond b none (some (name_bytes s)))
    go true = refl
    go false = sym (append-nil (32 ∷ (key ++ name_bytes s)))

to-right : (f d k q i x y n : Bytes) → (((((f ++ d) ++ (k ++ q)) ++ i) ++ x) ++ y) ++ n ≡ f ++ (d ++ (k ++ (q ++ (i ++ (x ++ (y ++ n))))))
to-right f d k q i x y n = simp append_assoc

from-right : (f b d k q i x y n : Bytes) → f ++ (b ++ (d ++ (k ++ (q ++ (i ++ (x ++ (y ++ n))))))) ≡ (f ++ (((b ++ d) ++ ((k ++ q) ++ i)) ++ (x ++ y))) ++ n
from-right f b d k q i x y n = simp append_assoc

-- the start value's word in the line of a `.flop`
start-text : (v : Bool) → cond v (bytes " init=1") (bytes " init=0") ≡ spaced ((bytes "init=" ++ init_bytes (init_from v)) ∷ [])
unfolding spaced flat_map
start-text false = refl
start-text true = refl

pub flop-text : (d e r : Signal) (v : Bool) (g : ℕ)
    → (((((bytes ".flop D=" ++ name_bytes d) ++ (bytes " Q=" ++ gate_name name_bytes g)) ++ cond v (bytes " init=1") (bytes " init=0"))
    ++ field_text true (bytes " E=") e) ++ field_text false (bytes " R=") r) ++ bytes "\n" ≡ flop_text d e r v g
unfolding flop_text line spaced flat_map
flop-text d e r v g =
    let q : Bytes = gate_name name_bytes g in
    let i : Bytes = spaced ((bytes "init=" ++ init_bytes (init_from v)) ∷ []) in
    let x : Bytes = field (bytes "E=") (unless name_bytes true e) in
    let y : Bytes = field (bytes "R=") (unless name_bytes false r) in
    rw (start-text v, field-text true (bytes "E=") e, field-text false (bytes "R=") r)
    (to-right (bytes ".flop D=") (name_bytes d) (bytes " Q=") q i x y (bytes "\n")
    ∙ from-right (bytes ".flop") (bytes " D=") (name_bytes d) (bytes " Q=") q i x y (bytes "\n"))

-- a name is given unless the signal is the constant
given-unless : (v : Bool) (s : Signal) → given (unless name_bytes v s) ≡ not (is_const v s)
given-unless v s = go (is_const v s)
  where
    go : (b : Bool) → given (cond b none (some (name_bytes s))) ≡ not b
    go true = refl
    go false = refl

module _ (d e r : Signal) (v : Bool) (g : ℕ) where
  -- whether the line is that of a `.flop`
  stored_is : {x y : Bool} → is_const true e ≡ x → is_const false r ≡ y
      → stored_text d e r v g ≡ line (cond (not x || not y) (flop_line (stored_latch d e r v g)) (latch_line (stored_latch d e r v g)))
  unfolding stored_text
  stored_is h k =
      ap₂ (λ (x y : Bool). line (cond (x || y) (flop_line (stored_latch d e r v g)) (latch_line (stored_latch d e r v g))))
      (given-unless true e ∙ ap not h)
      (given-unless false r ∙ ap not k)

  -- an enable other than one, or a reset other than zero, is written
  pub stored-enabled : is_const true e ≡ false → flop_text d e r v g ≡ stored_text d e r v g
  unfolding flop_text
  stored-enabled h = sym (stored_is h refl)

  pub stored-reset : is_const false r ≡ false → flop_text d e r v g ≡ stored_text d e r v g
  unfolding flop_text
  stored-reset k =
      sym (stored_is refl k
      ∙ ap (λ (b : Bool). line (cond b (flop_line (stored_latch d e r v g)) (latch_line (stored_latch d e r v g)))) (or-true (not (is_const true e))))

  pub stored-plain : is_const true e ≡ true → is_const false r ≡ true
      → line (latch_line (plain_latch (name_bytes d) (gate_name name_bytes g) (init_from v))) ≡ stored_text d e r v g
  stored-plain h k = sym (stored_is h k)

-- ---- covers

pub end-text : (y : Bytes) → (32 ∷ y) ++ bytes "\n" ≡ line (spaced (y ∷ []))
unfolding line spaced flat_map
end-text y = ap (λ (l : Bytes). 32 ∷ (l ++ (10 ∷ []))) (sym (append-nil y))

pub cover-text : (xs : List Bytes) (y : Bytes) (ls : List Line)
    → ((bytes ".names" ++ spaced xs) ++ line (spaced (y ∷ []))) ++ lines_text ls ≡ block_text (Cover xs y ls)
unfolding line flat_map
cover-text xs y ls =
    let e : (bytes ".names" ++ spaced xs) ++ line (spaced (y ∷ [])) ≡ line (bytes ".names" ++ spaced (xs ++ (y ∷ []))) =
    rw spaced-append (simp append_assoc) in
    ap₂ (λ (a b : Bytes). a ++ b) e (sym (cubes-text ls))

pub two-names : (a b : Bytes) → (bytes ".names" ++ (32 ∷ a)) ++ (32 ∷ b) ≡ bytes ".names" ++ spaced (a ∷ b ∷ [])
unfolding spaced flat_map
two-names a b = ap (λ (l : Bytes). bytes ".names" ++ (32 ∷ (a ++ (32 ∷ l)))) (sym (append-nil b))

pub three-names : (a b c : Bytes) → ((bytes ".names" ++ (32 ∷ a)) ++ (32 ∷ b)) ++ (32 ∷ c) ≡ bytes ".names" ++ spaced (a ∷ b ∷ c ∷ [])
unfolding spaced flat_map
three-names a b c = simp (append_assoc, append-nil)

pub one_name : (a : Bytes) → bytes ".names" ++ (32 ∷ a) ≡ bytes ".names" ++ spaced (a ∷ [])
unfolding spaced flat_map
one_name a = ap (λ (l : Bytes). bytes ".names" ++ (32 ∷ l)) (sym (append-nil a))

-- the cover's text, from its first names as the code groups them
pub names-then : {t : Bytes} (xs : List Bytes) (y : Bytes) (ls : List Line) → t ≡ bytes ".names" ++ spaced xs
    → (t ++ line (spaced (y ∷ []))) ++ lines_text ls ≡ block_text (Cover xs y ls)
names-then xs y ls e = ap (λ (u : Bytes). (u ++ line (spaced (y ∷ []))) ++ lines_text ls) e ∙ cover-text xs y ls

-- the line of a Buf gate
pub buf-inverted : (s : Signal) → s.inv ≡ true → bytes "0 1\n" ≡ lines_text (cover_row true (col_of (not s.inv) ∷ []) ∷ [])
unfolding line spaced flat_map
buf-inverted s h = ap (λ (b : Bool). lines_text (cover_row true (col_of (not b) ∷ []) ∷ [])) (sym h)

pub buf-plain : (s : Signal) → s.inv ≡ false → bytes "1 1\n" ≡ lines_text (cover_row true (col_of (not s.inv) ∷ []) ∷ [])
unfolding line spaced flat_map
buf-plain s h = ap (λ (b : Bool). lines_text (cover_row true (col_of (not b) ∷ []) ∷ [])) (sym h)

-- ---- fields

module _ (v : Bool) (key : Bytes) (s : Signal) where
  pub field-none : {b : Bool} → b ≡ is_const v s → b ≡ true → [] ≡ field_text v key s
  unfolding field_text
  field-none e t = ap (λ (b : Bool). cond b [] (key ++ name_bytes s)) (sym t ∙ e)

  pub field-some : {b : Bool} → b ≡ is_const v s → b ≡ false → key ++ name_bytes s ≡ field_text v key s
  unfolding field_text
  field-some e t = ap (λ (b : Bool). cond b [] (key ++ name_bytes s)) (sym t ∙ e)

-- ---- names one after the other

-- each is a part of the text of all
pub name-parts : (cells : List ℕ)
    → Parts (length cells) (λ (i k : ℕ). spaced (map name_bytes (map sig_of (drop i cells)))) (λ (i : ℕ). 32 ∷ name_bytes (sig_of (get_or cells i 0)))
unfolding spaced flat_map
name-parts cells =
    record {
      more = λ i k h. ap (λ (l : List ℕ). spaced (map name_bytes (map sig_of l))) (drop-cons cells i 0 h);
      none = λ i h. ap (λ (l : List ℕ). spaced (map name_bytes (map sig_of l))) (drop_of_length-le cells h);
    }

-- ---- the covers of Nary and Buf gates

pub nary-text : (t : NaryType) (cells : List ℕ) (g : ℕ)
    → ((bytes ".names" ++ spaced (map name_bytes (map sig_of cells))) ++ line (spaced (gate_name name_bytes g ∷ []))) ++ lines_text (lines_of (nary_form t) (length cells))
    ≡ block_text (form_block name_bytes g (nary_form t) (map sig_of cells))
nary-text t cells g =
    ap (λ (n : ℕ). ((bytes ".names" ++ spaced (map name_bytes (map sig_of cells))) ++ line (spaced (gate_name name_bytes g ∷ []))) ++ lines_text (lines_of (nary_form t) n))
    (sym (length-map cells sig_of))
    ∙ cover-text (map name_bytes (map sig_of cells)) (gate_name name_bytes g) (lines_of (nary_form t) (length (map sig_of cells)))

pub buf-text : {b : Signal} {t : Bytes} (s : Signal) (g : ℕ) → b ≡ bare s → t ≡ lines_text (cover_row true (col_of (not s.inv) ∷ []) ∷ [])
    → ((bytes ".names" ++ (32 ∷ name_bytes b)) ++ line (spaced (gate_name name_bytes g ∷ []))) ++ t ≡ block_text (buf_block name_bytes g (s ∷ []))
buf-text {b} {t} s g e h =
    ap₂ (λ (x : Signal) (u : Bytes). ((bytes ".names" ++ (32 ∷ name_bytes x)) ++ line (spaced (gate_name name_bytes g ∷ []))) ++ u) e h
    ∙ names-then (name_bytes (bare s) ∷ []) (gate_name name_bytes g) (cover_row true (col_of (not s.inv) ∷ []) ∷ []) (one_name (name_bytes (bare s)))
