-- The pins that building adds, with three for each latch, are those of the gates built. Assumes nothing.
use Rattle.refusals.specs.Order.{fine}
use mathlib.Core.Path.{◌≡◌, refl, sym, ap, ◌∙◌, subst}
use mathlib.Core.Bool.{true}
use mathlib.Core.List.{List, [], ◌∷◌, map}
use Prim.Native.Nat.{ℕ, ◌+◌, ◌-◌, ◌≤◌}
use native.Mathlib.Omega.{arith}
use lib.ListN.{length, length-map}
use Rattle.lists.specs.Lists.{Bytes, all, sum_of}
use Rattle.lists.proofs.Counting.{sum-append}
use Rattle.lists.proofs.Tests.{and_left, and_right}
use Rattle.refusals.proofs.Order.{or_else-left, or_else-right}
use Rattle.signal.specs.Signal.{Signal}
use Rattle.signal.specs.Cell.{sig_cell}
use Rattle.gates.specs.Gate.{Gate, pins}
use Rattle.blif_text.specs.Decls.{Def, latch, cover, cover_ins, columns, is_one}
use Rattle.blif_reading.specs.Build.{literals, line_gate, cover_gate, line_gates, block_gate, new_gates, block_gates, all_new_gates}
use Rattle.blif_reading.specs.TextModel.{col_of_byte, line_of, block_of}
use Rattle.blif_reading.specs.Read.{good_line, cover_fault, cover_faults}
use Rattle.blif_reading.specs.Between.Working.{built_gates}
use Rattle.blif_read_gates.specs.Between.Pins.{literal_pins, line_pins, cover_pins, built_pins}
use Rattle.blif_read_gates.specs.Between.Steps.{literal_cells, line_cells}
use Rattle.blif_read_gates.proofs.CellLaws.{literals-sig, line-sig}
use Rattle.blif_read_gates.proofs.JoinLaws.{run_long}
use Rattle.blif_read_gates.proofs.RowLaws.{two-tokens}
use Rattle.blif_read_gates.proofs.PinLaws.{literals-count, cells_count}
use Rattle.blif_read_gates.proofs.BlockLaws.{cover-good}
use Rattle.blif_read_gates.proofs.Counting.{placed-long}

-- how many pins a gate has
abbrev pins_of : Gate → ℕ
pins_of x = length (pins x)

-- "A latch is Dff(input, one, zero)", which stays as it was placed
abbrev pub latch_pins : Def → ℕ
latch_pins (latch l) = 3
latch_pins (cover ns ls) = 0

line-pins : (ss : List Signal) (ts : List Bytes) → length (columns ts) ≤ length ss → pins_of (line_gate ss (line_of ts)) ≡ line_pins ts
unfolding line_pins
line-pins ss ts h =
    sym (length-map (pins (line_gate ss (line_of ts))) sig_cell)
    ∙ ap length (sym (ap (line_cells (is_one ts)) (literals-sig (columns ts) ss) ∙ line-sig (is_one ts) (literals (map col_of_byte (columns ts)) ss)))
    ∙ cells_count (is_one ts) (literal_cells (columns ts) (map sig_cell ss))
    ∙ ap literal_pins (literals-count (columns ts) (map sig_cell ss) (omega (arith, length-map ss sig_cell)))

module _ (ss : List Signal) where
  lines-pins : (ls : List (List Bytes)) → all (good_line (length ss)) ls ≡ true → sum_of pins_of (map (line_gate ss) (map line_of ls)) ≡ sum_of line_pins ls
  lines-pins [] g = refl
  lines-pins (l ∷ ls) g =
      let wide = (two-tokens (length ss) l (and_left (good_line (length ss) l) (all (good_line (length ss)) ls) g)).wide in
      omega (arith, line-pins ss l (omega arith), lines-pins ls (and_right (good_line (length ss) l) (all (good_line (length ss)) ls) g))

  cover-pins : (k : ℕ) (ls : List (List Bytes)) → all (good_line (length ss)) ls ≡ true
      → pins_of (cover_gate k ss (map line_of ls)) + sum_of pins_of (line_gates ss (map line_of ls)) ≡ cover_pins ls
  cover-pins k [] g = refl
  cover-pins k (l ∷ []) g = omega (arith, lines-pins (l ∷ []) g)
  cover-pins k (l ∷ m ∷ ls) g = omega (arith, run_long k (length (map line_of (l ∷ m ∷ ls))), length-map ls line_of, lines-pins (l ∷ m ∷ ls) g)

module _ (signal_of : Bytes → Signal) where
  def-pins : (k : ℕ) (d : Def) → cover_fault d ≡ fine → pins_of (block_gate signal_of k (block_of d)) + sum_of pins_of (new_gates signal_of (block_of d)) ≡ built_pins d + latch_pins d
  def-pins k (latch l) e = refl
  def-pins k (cover ns ls) e =
      let wide : length ns - 1 ≡ length (map signal_of (cover_ins ns)) = sym (placed-long signal_of (cover ns ls)) in
      omega (arith, cover-pins (map signal_of (cover_ins ns)) k ls (subst (λ (n : ℕ). all (good_line n) ls ≡ true) wide (cover-good ns ls e)))

  both-pins : (k : ℕ) (ds : List Def) → cover_faults ds ≡ fine
      → sum_of pins_of (block_gates signal_of k (map block_of ds)) + sum_of pins_of (all_new_gates signal_of (map block_of ds)) ≡ sum_of built_pins ds + sum_of latch_pins ds
  unfolding cover_faults
  both-pins k [] e = refl
  both-pins k (d ∷ ds) e =
      let more = new_gates signal_of (block_of d) in
      omega
      (arith, def-pins k d (or_else-left (cover_fault d) (cover_faults ds) e), both-pins (k + length more) ds (or_else-right (cover_fault d) (cover_faults ds) e), sum-append pins_of more (all_new_gates signal_of (map block_of ds)))

  -- without refusal 12 or 13, whatever signals the names have
  pub built-pins-are : (ds : List Def) → cover_faults ds ≡ fine → sum_of (λ g. length (pins g)) (built_gates signal_of ds) ≡ sum_of built_pins ds + sum_of latch_pins ds
  built-pins-are ds e =
      let n = length (map block_of ds) in
      sum-append pins_of (block_gates signal_of n (map block_of ds)) (all_new_gates signal_of (map block_of ds)) ∙ both-pins n ds e
