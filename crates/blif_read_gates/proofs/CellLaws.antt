-- The front of cells that are written behind it, and the cells of literals. Assumes nothing.
use mathlib.Core.Path.{◌≡◌, refl, sym, ap, ap₂, ◌∙◌}
use mathlib.Core.Bool.{Bool, true, false, not, cond}
use mathlib.Core.List.{List, [], ◌∷◌, ◌++◌, map}
use Prim.Native.Nat.{ℕ, ◌+◌, ◌%◌, ◌^◌, ◌≤◌, ◌<◌}
use native.Mathlib.Omega.{arith}
use lib.Dec.{eqb}
use lib.ListN.{length, get_or, take, drop, length-append, length-map}
use lib.Seq.{take-take, get_or-take}
use borrow.Author.Tests.{eq-eqb, ne_eqb}
use Rattle.lists.specs.Lists.{Bytes}
use Rattle.lists.specs.Between.Lists.{overwrite_at}
use Rattle.lists.proofs.OverAt.{run-before, overwrite_at-same, overwrite_at-again}
use Rattle.lists.proofs.Places.{run-within, length_run}
use Rattle.signal.specs.Signal.{Node, Const, Input, Var, Signal, invert, zero_s, one_s}
use Rattle.signal.specs.Cell.{bit_of, node_cell, sig_cell, sig_of}
use Rattle.signal.proofs.Cells.{cell-again}
use Rattle.gates.specs.Gate.{pins}
use Rattle.blif_meaning.specs.Model.{Col, C0, C1, Dash}
use Rattle.blif_reading.specs.Build.{literals, literal_gate}
use Rattle.blif_reading.specs.TextModel.{col_of_byte}
use Rattle.gates.specs.Between.Decode.{pins_in, pin_count}
use Rattle.gates.specs.declared.Gate.TheVariants as G
use Rattle.gates.specs.declared.NaryType.TheVariants as N
use Rattle.gates.specs.declared.PinRun.{PinRun}
use Rattle.network.specs.Record.{record_of}
use Rattle.network.specs.Between.Record.{hand_record, RunFrom}
use Rattle.network.proofs.RecordCells.{hand-buf, hand-nary}
use Rattle.blif_read_gates.specs.Between.Steps.{turn_cell, column_cells, literal_cells, single_cell, line_cells, line_in_hand}

-- ---- lists with the same front

-- the cells before what is laid stay
pub overwrite-front : (k : ℕ) (t o : List ℕ) → take k (overwrite_at k t o) ≡ take k o
overwrite-front k t o = run-before k t o 0 k (omega arith)

-- lists with the same front have the same elements there
pub front_at : (k : ℕ) (a b : List ℕ) (i : ℕ) → take k a ≡ take k b → i < k → get_or a i 0 ≡ get_or b i 0
front_at k a b i e h = sym (get_or-take k a i 0 h) ∙ ap (λ (l : List ℕ). get_or l i 0) e ∙ get_or-take k b i 0 h

-- lists with the same front have the same runs there
pub run-front : (f c k : ℕ) (a b : List ℕ) → f + c ≤ k → take k a ≡ take k b → take c (drop f a) ≡ take c (drop f b)
run-front f c k a b h e = sym (run-within f c k a h) ∙ ap (λ (l : List ℕ). take c (drop f l)) e ∙ run-within f c k b h

-- a shorter front
pub front_less : (j k : ℕ) (a b : List ℕ) → j ≤ k → take k a ≡ take k b → take j a ≡ take j b
front_less j k a b h e = sym (take-take j k a h) ∙ ap (take j) e ∙ take-take j k b h

-- ---- inverted signals

even-node : (n : Node) → node_cell n % 2 ≡ 0
even-node Const = refl
even-node (Var v) = omega arith
even-node (Input v) = omega arith

turn-bit : (x : ℕ) (b : Bool) → x % 2 ≡ 0 → turn_cell (x + bit_of b) ≡ x + bit_of (not b)
turn-bit x false e = let t : eqb ((x + 0) % 2) 0 ≡ true = eq-eqb ((x + 0) % 2) 0 (omega arith) in rw t (omega arith)
turn-bit x true e = let t : eqb ((x + 1) % 2) 0 ≡ false = ne_eqb ((x + 1) % 2) 0 (λ z. omega arith) in rw t (omega arith)

-- the cell of an inverted signal
pub turn-sig : (s : Signal) → turn_cell (sig_cell s) ≡ sig_cell (invert s)
turn-sig s = turn-bit (node_cell s.node) s.inv (even-node s.node)

-- what `not` makes of a cell
pub turn_is : (c : ℕ) → c < 2 ^ 32 → sig_cell (invert (sig_of c)) ≡ turn_cell c
turn_is c h = sym (turn-sig (sig_of c)) ∙ ap (λ (x : ℕ). turn_cell x) (cell-again c h)

-- ---- literals

column-sig : (p q : Bool) (s : Signal) (x : List ℕ) (cs : List Col) (ss : List Signal) → x ≡ map sig_cell (literals cs ss)
    → cond p (turn_cell (sig_cell s) ∷ []) (cond q (sig_cell s ∷ []) []) ++ x ≡ map sig_cell (literals (cond p C0 (cond q C1 Dash) ∷ cs) (s ∷ ss))
column-sig true q s x cs ss e = ap₂ (λ (a : ℕ) (l : List ℕ). a ∷ l) (turn-sig s) e
column-sig false true s x cs ss e = ap (λ (l : List ℕ). sig_cell s ∷ l) e
column-sig false false s x cs ss e = e

-- the cells of literals are those of the signals' literals
pub literals-sig : (bs : Bytes) (ss : List Signal) → literal_cells bs (map sig_cell ss) ≡ map sig_cell (literals (map col_of_byte bs) ss)
literals-sig [] ss = refl
literals-sig (b ∷ bs) [] = refl
literals-sig (b ∷ bs) (s ∷ ss) = column-sig (eqb 48 b) (eqb 49 b) s (literal_cells bs (map sig_cell ss)) (map col_of_byte bs) ss (literals-sig bs ss)

column-few : (p q : Bool) (x y : ℕ) → length (cond p (x ∷ []) (cond q (y ∷ []) [])) ≤ 1
column-few true q x y = omega arith
column-few false true x y = omega arith
column-few false false x y = omega arith

-- a column adds one literal at most
pub one-literal : (b c : ℕ) → length (column_cells b c) ≤ 1
one-literal b c = column-few (eqb 48 b) (eqb 49 b) (turn_cell c) c

-- no more literals than columns
pub literals-few : (bs : Bytes) (cs : List ℕ) → length (literal_cells bs cs) ≤ length bs
literals-few [] cs = omega arith
literals-few (b ∷ bs) [] = omega arith
literals-few (b ∷ bs) (c ∷ cs) = omega (arith, length-append (column_cells b c) (literal_cells bs cs), one-literal b c, literals-few bs cs)

-- ---- a line's gate

-- its pins
pub line-sig : (one : Bool) (ls : List Signal) → line_cells one (map sig_cell ls) ≡ map sig_cell (pins (literal_gate one ls))
line-sig true [] = refl
line-sig true (l ∷ []) = refl
line-sig true (l ∷ k ∷ ls) = refl
line-sig false [] = refl
line-sig false (l ∷ []) = ap (λ (x : ℕ). x ∷ []) (turn-sig l)
line-sig false (l ∷ k ∷ ls) = refl

-- the run of literals
abbrev run_at : ℕ → List Signal → PinRun
run_at at ls = record { first = at; count = length (map sig_cell ls) }

-- its record
pub record-sig : (one : Bool) (at : ℕ) (ls : List Signal) → hand_record at (line_in_hand one at (map sig_cell ls)) ≡ record_of at (literal_gate one ls)
record-sig true at [] = hand-buf at (record { a = single_cell true 0 0 }) one_s
record-sig true at (l ∷ []) = hand-buf at (record { a = sig_cell l }) l
record-sig true at (l ∷ k ∷ ls) = hand-nary at N.And (run_at at (l ∷ k ∷ ls)) (l ∷ k ∷ ls) (length-map (l ∷ k ∷ ls) sig_cell)
record-sig false at [] = hand-buf at (record { a = single_cell false 0 0 }) zero_s
record-sig false at (l ∷ []) = hand-buf at (record { a = turn_cell (sig_cell l) }) (invert l)
record-sig false at (l ∷ k ∷ ls) = hand-nary at N.Nand (run_at at (l ∷ k ∷ ls)) (l ∷ k ∷ ls) (length-map (l ∷ k ∷ ls) sig_cell)

-- as the code makes it: of two or more literals, and of none or one
hand-many₀ : (one : Bool) (at : ℕ) (cs : List ℕ) → 1 < length cs
    → G.Nary (cond one N.And N.Nand) (record { first = at; count = length cs }) ≡ line_in_hand one at cs
hand-many₀ one at [] h = absurd (omega arith)
hand-many₀ one at (c ∷ []) h = absurd (omega arith)
hand-many₀ one at (c ∷ d ∷ cs) h = refl

pub hand-many : (one : Bool) (at count : ℕ) (ps : List ℕ) → 1 < count → at + count ≤ length ps
    → G.Nary (cond one N.And N.Nand) (record { first = at; count = count }) ≡ line_in_hand one at (take count (drop at ps))
hand-many one at count ps h l =
    let n : length (take count (drop at ps)) ≡ count = length_run at count ps l in
    ap (λ (k : ℕ). G.Nary (cond one N.And N.Nand) (record { first = at; count = k })) (sym n)
    ∙ hand-many₀ one at (take count (drop at ps)) (omega (arith, n))

-- as many pins
pub hand-long : (one : Bool) (at : ℕ) (cs : List ℕ) → pin_count (line_in_hand one at cs) ≡ length (line_cells one cs)
hand-long one at [] = refl
hand-long one at (c ∷ []) = refl
hand-long one at (c ∷ d ∷ cs) = refl

-- a run where the literals stand
pub hand-from : (one : Bool) (at : ℕ) (cs : List ℕ) → RunFrom at (line_in_hand one at cs)
hand-from one at [] = tt
hand-from one at (c ∷ []) = tt
hand-from one at (c ∷ d ∷ cs) = refl

-- laid over the literals, its pins are those of the line
pub hand-pins : (one : Bool) (at : ℕ) (cs o : List ℕ) → at + length cs ≤ length o
    → overwrite_at at (pins_in (line_in_hand one at cs) (overwrite_at at cs o)) (overwrite_at at cs o) ≡ overwrite_at at (line_cells one cs) o
hand-pins one at [] o h = overwrite_at-again at (single_cell one 0 0 ∷ []) [] o (omega arith)
hand-pins one at (c ∷ []) o h = overwrite_at-again at (single_cell one 1 c ∷ []) (c ∷ []) o (omega arith)
hand-pins one at (c ∷ d ∷ cs) o h = overwrite_at-same at (length (c ∷ d ∷ cs)) (overwrite_at at (c ∷ d ∷ cs) o)

-- one pin, or as many as literals
pub line-few : (one : Bool) (cs : List ℕ) → length (line_cells one cs) ≤ length cs + 1
line-few one [] = omega arith
line-few one (c ∷ []) = omega arith
line-few one (c ∷ d ∷ cs) = omega arith
