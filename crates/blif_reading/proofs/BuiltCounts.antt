-- The gates built for definitions: how many there are, and how many pins they have in all. Assumes nothing.
use Rattle.std.specs.Prelude.{if◌then◌else◌}
use mathlib.Core.Path.{◌≡◌, refl, sym, ap, ◌∙◌, subst}
use mathlib.Core.Bool.{Bool, true, false}
use mathlib.Core.List.{List, [], ◌∷◌, map}
use Prim.Native.Nat.{ℕ, zero, suc, ◌+◌, ◌-◌, ◌*◌, ◌≤◌}
use native.Mathlib.Omega.{arith}
use native.Mathlib.Nat.{suc-mul, add-mul, mul-suc}
use lib.ListN.{length, length-map, length-append, length-take}
use borrow.Author.Tests.{lt-ltb}
use Rattle.lists.specs.Lists.{Bytes, sum_of}
use Rattle.lists.proofs.Counting.{sum-append}
use Rattle.signal.specs.Signal.{Signal}
use Rattle.signal.specs.Cell.{sig_cell}
use Rattle.gates.specs.Gate.{Gate, pins}
use Rattle.network.specs.Record.{pin_cells}
use Rattle.blif_text.specs.Decls.{Def, latch, cover, cover_ins}
use Rattle.blif_meaning.specs.Model.{Col, C0, C1, Dash, Line}
use Rattle.blif_reading.specs.Build.{literals, literal_gate, line_gate, gate_run, cover_gate, line_gates, block_gate, new_gates, block_gates, all_new_gates}
use Rattle.blif_reading.specs.TextModel.{line_of, block_of}
use Rattle.blif_reading.specs.Read.{added, gate_count, pin_count}
use Rattle.blif_reading.specs.Between.Working.{built_gates}
use Rattle.blif_reading.proofs.ModelToBuilt.{block_gates-length}

-- ---- sums

-- how many pins a gate has
abbrev pins_of : Gate → ℕ
pins_of x = length (pins x)

pins-sum : (xs : List Gate) → length (pin_cells xs) ≡ sum_of pins_of xs
unfolding pin_cells
pins-sum [] = refl
pins-sum (x ∷ xs) = omega (arith, length-append (map sig_cell (pins x)) (pin_cells xs), length-map (pins x) sig_cell, pins-sum xs)

-- ---- the gate of a line

literals-le : (cs : List Col) (ss : List Signal) → length (literals cs ss) ≤ length ss
literals-le [] ss = omega arith
literals-le (c ∷ cs) [] = omega arith
literals-le (C0 ∷ cs) (s ∷ ss) = omega (arith, literals-le cs ss)
literals-le (C1 ∷ cs) (s ∷ ss) = omega (arith, literals-le cs ss)
literals-le (Dash ∷ cs) (s ∷ ss) = omega (arith, literals-le cs ss)

literal-pins : (p : Bool) (ls : List Signal) → pins_of (literal_gate p ls) ≤ length ls + 1
literal-pins true [] = omega arith
literal-pins true (l ∷ []) = omega arith
literal-pins true (l ∷ k ∷ ls) = omega arith
literal-pins false [] = omega arith
literal-pins false (l ∷ []) = omega arith
literal-pins false (l ∷ k ∷ ls) = omega arith

line-pins : (ss : List Signal) (l : Line) → pins_of (line_gate ss l) ≤ length ss + 1
line-pins ss l = omega (arith, literal-pins l.out (literals l.cols ss), literals-le l.cols ss)

lines-pins : (ss : List Signal) (ls : List Line) → sum_of pins_of (map (line_gate ss) ls) ≤ length ls * (length ss + 1)
lines-pins ss [] = omega arith
lines-pins ss (l ∷ ls) = omega (arith, line-pins ss l, lines-pins ss ls, suc-mul (length ls) (length ss + 1))

-- ---- the gates of a cover

run_length : (k n : ℕ) → length (gate_run k n) ≡ n
run_length k zero = refl
run_length k (suc n) = ap suc (run_length (suc k) n)

product : (k n : ℕ) → (suc (suc k) + 1) * (n + 2) ≡ k * (n + 1) + k + 3 * (n + 2)
product k n =
    let e : n + 2 ≡ suc (n + 1) = omega arith in
    let f : suc (suc k) + 1 ≡ k + 3 = omega arith in
    ap (λ (x : ℕ). x * (n + 2)) f ∙ add-mul k 3 (n + 2) ∙ ap (λ (x : ℕ). x + 3 * (n + 2)) (ap (λ (x : ℕ). k * x) e ∙ mul-suc k (n + 1))

cover-pins : (k : ℕ) (ss : List Signal) (ls : List Line) → pins_of (cover_gate k ss ls) + sum_of pins_of (line_gates ss ls) ≤ (length ls + 1) * (length ss + 2)
cover-pins k ss [] = omega arith
cover-pins k ss (l ∷ []) = omega (arith, line-pins ss l)
cover-pins k ss (l ∷ m ∷ ls) =
    omega
    (arith, run_length (suc (suc k)) (length ls), line-pins ss l, line-pins ss m, lines-pins ss ls, product (length ls) (length ss))

-- a cover of two lines or more adds a gate for each
lines-added : (ss : List Signal) (ls : List Line) → length (line_gates ss ls) ≡ added (length ls)
unfolding added
lines-added ss [] = refl
lines-added ss (l ∷ []) = refl
lines-added ss (l ∷ m ∷ ls) =
    ap (λ (x : ℕ). suc (suc x)) (length-map ls (line_gate ss))
    ∙ sym (ap (λ (b : Bool). if b then suc (suc (length ls)) else 0) (lt-ltb 1 (suc (suc (length ls))) (omega arith)))

-- ---- the gates of a definition

module _ (signal_of : Bytes → Signal) where
  def-pins : (k : ℕ) (g : Def) → pins_of (block_gate signal_of k (block_of g)) + sum_of pins_of (new_gates signal_of (block_of g)) ≤ pin_count g
  unfolding pin_count cover_ins
  def-pins k (latch l) = omega arith
  def-pins k (cover ns ls) =
      let n : length (map signal_of (cover_ins ns)) ≡ length ns - 1 = length-map (cover_ins ns) signal_of ∙ length-take (length ns - 1) ns ∙ omega arith in
      let m : length (map line_of ls) ≡ length ls = length-map ls line_of in
      subst (λ (x : ℕ). pins_of (cover_gate k (map signal_of (cover_ins ns)) (map line_of ls)) + sum_of pins_of (line_gates (map signal_of (cover_ins ns)) (map line_of ls)) ≤ x)
      (λ i. (m i + 1) * (n i + 2))
      (cover-pins k (map signal_of (cover_ins ns)) (map line_of ls))

  def-gates : (g : Def) → 1 + length (new_gates signal_of (block_of g)) ≡ gate_count g
  unfolding gate_count
  def-gates (latch l) = refl
  def-gates (cover ns ls) = ap (λ (x : ℕ). 1 + x) (lines-added (map signal_of (cover_ins ns)) (map line_of ls) ∙ ap added (length-map ls line_of))

  -- ---- all gates

  both-pins : (k : ℕ) (gs : List Def) → sum_of pins_of (block_gates signal_of k (map block_of gs)) + sum_of pins_of (all_new_gates signal_of (map block_of gs)) ≤ sum_of pin_count gs
  both-pins k [] = omega arith
  both-pins k (g ∷ gs) =
      omega
      (arith, def-pins k g, both-pins (k + length (new_gates signal_of (block_of g))) gs, sum-append pins_of (new_gates signal_of (block_of g)) (all_new_gates signal_of (map block_of gs)))

  both-gates : (gs : List Def) → length gs + length (all_new_gates signal_of (map block_of gs)) ≡ sum_of gate_count gs
  both-gates [] = refl
  both-gates (g ∷ gs) = omega (arith, def-gates g, both-gates gs, length-append (new_gates signal_of (block_of g)) (all_new_gates signal_of (map block_of gs)))

  -- as many gates are built as are counted
  pub built-gates : (gs : List Def) → length (built_gates signal_of gs) ≡ sum_of gate_count gs
  built-gates gs =
      omega
      (arith, length-append (block_gates signal_of (length (map block_of gs)) (map block_of gs)) (all_new_gates signal_of (map block_of gs)), block_gates-length signal_of (length (map block_of gs)) (map block_of gs), length-map gs block_of, both-gates gs)

  -- and no more pins
  pub built-pins : (gs : List Def) → length (pin_cells (built_gates signal_of gs)) ≤ sum_of pin_count gs
  built-pins gs =
      omega
      (arith, pins-sum (built_gates signal_of gs), sum-append pins_of (block_gates signal_of (length (map block_of gs)) (map block_of gs)) (all_new_gates signal_of (map block_of gs)), both-pins (length (map block_of gs)) gs)
