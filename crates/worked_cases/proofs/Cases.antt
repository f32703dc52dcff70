-- K1 to K13, by one computed test over their table, and what the test means. Assumes nothing.
--   holds-means  a check that holds says that the definitions give what it names
--   table-holds  each of K1 to K13 does
--   k10-ended    K10's `.inputs` stands behind a text that is ended
use Rattle.std.specs.Prelude.{Result, Ok, Err}
use mathlib.Core.Path.{◌≡◌, refl, sym, ap, ap₂, ◌∙◌}
use mathlib.Core.Bool.{Bool, true, false, ◌&&◌, beq, false≢true}
use mathlib.Core.List.{List, [], ◌∷◌, flat_map, head_d}
use Prim.Native.Nat.{ℕ, ◌-◌, ◌<◌}
use native.Mathlib.Omega.{arith}
use lib.Dec.{eqb, T}
use lib.ListN.{get_or}
use borrow.Author.Tests.{eqb-true}
use Rattle.lists.specs.Lists.{bytes, same, all, hit}
use Rattle.lists.proofs.Tests.{and_left, and_right}
use Rattle.lists.proofs.Same.{same-is}
use Rattle.refusals.specs.Numbers.{number_of}
use Rattle.refusals.specs.declared.Refusal.{Refusal}
use Rattle.signal.specs.Signal.{Node, Const, Input, Var, Signal}
use Rattle.gates.specs.Gate.{Form, And2, Xor2, And3, Xor3, Maj3, Mux3, AndN, OrN, NandN, NorN, XorN, XnorN, Buf, Gate, Comb, Dff, pins, start_bit}
use Rattle.gates.specs.Forms.{form_number, flop_number, form_cell, forms}
use Rattle.network.specs.Net.{Net, net_from}
use Rattle.network.specs.Settle.{run}
use Rattle.refusals.specs.Order.{◌or_else◌, refuse_if}
use Rattle.sort_order.specs.Order.{uses, use_count, recorded, order, sort_order}
use Rattle.sort_order.specs.Sorted.{sorted}
use Rattle.blif_text.specs.Lines.{cons_first, split, drop_cr, lines, ends_in_lf, cut, continues, before, joined, is_blank, non_empty, tokens}
use Rattle.blif_text.specs.Keywords.{keyword_of}
use Rattle.blif_text.specs.Statements.{model_stmt, init_of, init_among, latch_with, latch_stmt, stmt_of, parsed_line, parsed, first_bad, stmts}
use Rattle.blif_text.specs.Ended.{stops, Ended, MayFollow}
use Rattle.blif_text.specs.Decls.{used_names, cubes, decls, ins_of, outs_of, defs_of, ins, outs, defs, cover_out, cover_ins, defines, columns, output, is_one, decls_of}
use Rattle.blif_writing.specs.WrittenModel.{same_node}
use Rattle.blif_writing.specs.Text.{spaced, line, text_of}
use Rattle.blif_reading.specs.Read.{added, gate_count, pin_count, too_large, defined_twice, naming, undefined, good_line, cover_fault, cover_faults, decl_fault, read_fault, answer, built_from, read_text}
use Rattle.worked_cases.specs.Checks.{same_list, same_signal, same_gate, same_net, Answer, network, number, agrees, Check, reads, writes, reads_back, runs, net_in, is_read, holds}
use Rattle.worked_cases.specs.Cases.{table}
use Rattle.worked_cases.specs.Starts.{starts}

-- ---- what a test means

module _ {A : Type 0} (p : A → A → Bool) (is : (x y : A) → p x y ≡ true → x ≡ y) where
  same_list-is : (xs ys : List A) → same_list p xs ys ≡ true → xs ≡ ys
  unfolding same_list
  same_list-is [] [] e = refl
  same_list-is [] (y ∷ ys) e = absurd (false≢true e)
  same_list-is (x ∷ xs) [] e = absurd (false≢true e)
  same_list-is (x ∷ xs) (y ∷ ys) e =
      ap₂ (λ (a : A) (l : List A). a ∷ l) (is x y (and_left (p x y) (same_list p xs ys) e)) (same_list-is xs ys (and_right (p x y) (same_list p xs ys) e))

same_bit-is : (a b : Bool) → beq a b ≡ true → a ≡ b
same_bit-is true true e = refl
same_bit-is true false e = absurd (false≢true e)
same_bit-is false true e = absurd (false≢true e)
same_bit-is false false e = refl

same_node-is : (m n : Node) → same_node m n ≡ true → m ≡ n
same_node-is Const Const e = refl
same_node-is (Input i) (Input j) e = ap Input (eqb-true i j e)
same_node-is (Var g) (Var h) e = ap Var (eqb-true g h e)
same_node-is Const (Input j) e = absurd (false≢true e)
same_node-is Const (Var h) e = absurd (false≢true e)
same_node-is (Input i) Const e = absurd (false≢true e)
same_node-is (Input i) (Var h) e = absurd (false≢true e)
same_node-is (Var g) Const e = absurd (false≢true e)
same_node-is (Var g) (Input j) e = absurd (false≢true e)

same_signal-is : (s t : Signal) → same_signal s t ≡ true → s ≡ t
unfolding same_signal
same_signal-is s t e =
    ap₂ (λ (n : Node) (b : Bool). record { node = n; inv = b }) (same_node-is s.node t.node (and_left (same_node s.node t.node) (beq s.inv t.inv) e))
    (same_bit-is s.inv t.inv (and_right (same_node s.node t.node) (beq s.inv t.inv) e))

form-again : (f : Form) → get_or forms (form_number f - 1) Buf ≡ f
form-again And2 = refl
form-again Xor2 = refl
form-again And3 = refl
form-again Xor3 = refl
form-again Maj3 = refl
form-again Mux3 = refl
form-again AndN = refl
form-again OrN = refl
form-again NandN = refl
form-again NorN = refl
form-again XorN = refl
form-again XnorN = refl
form-again Buf = refl

-- each combinational form has a number of its own
form-one : (f g : Form) → form_number f ≡ form_number g → f ≡ g
form-one f g e = sym (form-again f) ∙ ap (λ (n : ℕ). get_or forms (n - 1) Buf) e ∙ form-again g

-- and none has that of Dff
form-low : (f : Form) → form_number f < flop_number
form-low And2 = omega arith
form-low Xor2 = omega arith
form-low And3 = omega arith
form-low Xor3 = omega arith
form-low Maj3 = omega arith
form-low Mux3 = omega arith
form-low AndN = omega arith
form-low OrN = omega arith
form-low NandN = omega arith
form-low NorN = omega arith
form-low XorN = omega arith
form-low XnorN = omega arith
form-low Buf = omega arith

form-no-flop : (f : Form) → form_number f ≡ flop_number → ⊥
form-no-flop f e = omega (arith, form-low f, e)

-- a form number, inputs and a start value tell the gate
gate-by : (x y : Gate) → form_cell x ≡ form_cell y → pins x ≡ pins y → start_bit x ≡ start_bit y → x ≡ y
gate-by (Comb f ps) (Comb g qs) e q v = ap₂ Comb (form-one f g e) q
gate-by (Comb f ps) (Dff t) e q v = absurd (form-no-flop f e)
gate-by (Dff s) (Comb g qs) e q v = absurd (form-no-flop g (sym e))
gate-by (Dff s) (Dff t) e q v =
    let a : s.data_in ≡ t.data_in = cc in
    let b : s.enable ≡ t.enable = cc in
    let c : s.reset ≡ t.reset = cc in
    λ i. Dff (record { data_in = a i; enable = b i; reset = c i; start = v i })

same_gate-is : (x y : Gate) → same_gate x y ≡ true → x ≡ y
unfolding same_gate
same_gate-is x y e =
    let form = eqb (form_cell x) (form_cell y) in
    let ins = same_list same_signal (pins x) (pins y) in
    let start = beq (start_bit x) (start_bit y) in
    let both : (form && ins) ≡ true = and_left (form && ins) start e in
    gate-by x y (eqb-true (form_cell x) (form_cell y) (and_left form ins both))
    (same_list-is same_signal same_signal-is (pins x) (pins y) (and_right form ins both))
    (same_bit-is (start_bit x) (start_bit y) (and_right (form && ins) start e))

-- networks that pass the test are equal
pub same_net-is : (a b : Net) → same_net a b ≡ true → a ≡ b
unfolding same_net
same_net-is a b e =
    let i = eqb a.inputs b.inputs in
    let g = same_list same_gate a.gates b.gates in
    let o = same_list same_signal a.outputs b.outputs in
    let p = eqb-true a.inputs b.inputs (and_left i g (and_left (i && g) o e)) in
    let q = same_list-is same_gate same_gate-is a.gates b.gates (and_right i g (and_left (i && g) o e)) in
    let r = same_list-is same_signal same_signal-is a.outputs b.outputs (and_right (i && g) o e) in
    λ j. net_from (p j) (q j) (r j)

-- what an answer says of a result
abbrev pub Says : Result Net Refusal → Answer → Type 0
Says r (network net) = r ≡ Ok net
Says r (number n) = (k : Refusal) × (r ≡ Err k) × (number_of k ≡ n)

-- a result that agrees with an answer is as it says
agrees-says : (r : Result Net Refusal) (a : Answer) → agrees r a ≡ true → Says r a
unfolding agrees
agrees-says (Ok a) (network b) e = ap Ok (same_net-is a b e)
agrees-says (Ok a) (number n) e = absurd (false≢true e)
agrees-says (Err k) (network b) e = absurd (false≢true e)
agrees-says (Err k) (number n) e = (k, refl, eqb-true (number_of k) n e)

-- what a check says
abbrev pub Means : Check → Type 0
Means (reads t a) = Says (read_text t) a
Means (writes net t) = text_of net ≡ t
Means (reads_back net a) = Says (read_text (text_of net)) a
Means (runs t rows outs) = (net : Net) × (read_text t ≡ Ok net) × (run net rows ≡ outs)

-- a check that holds says that the definitions give what it names
pub holds-means : (c : Check) → holds c ≡ true → Means c
unfolding holds
holds-means (reads t a) e = agrees-says (read_text t) a e
holds-means (writes net t) e = same-is (text_of net) t e
holds-means (reads_back net a) e = agrees-says (read_text (text_of net)) a e
holds-means (runs t rows outs) e = ran (read_text t) refl (and_left _ _ e) (and_right (is_read (read_text t)) _ e)
  where
    ran : (r : Result Net Refusal) → read_text t ≡ r → is_read r ≡ true → same_list (same_list beq) (run (net_in r) rows) outs ≡ true
        → (net : Net) × (read_text t ≡ Ok net) × (run net rows ≡ outs)
    ran (Ok net) q t' p = (net, q, same_list-is (same_list beq) (same_list-is beq same_bit-is) (run net rows) outs p)
    ran (Err r) q t' p = absurd (false≢true t')

-- ---- the table

-- whether a check holds, with every definition open that reading a text and writing a network go through
unfoldable pub computed : Check → Bool
unfolding flat_map head_d same hit uses use_count recorded order sort_order sorted cons_first split drop_cr lines cut continues before joined is_blank non_empty tokens model_stmt init_of init_among latch_with latch_stmt stmt_of keyword_of parsed_line parsed first_bad stmts used_names cubes decls ins_of outs_of defs_of ins outs defs cover_out cover_ins defines columns output is_one spaced line ◌or_else◌ refuse_if added gate_count pin_count too_large defined_twice naming undefined good_line cover_fault cover_faults decl_fault decls_of read_fault answer built_from read_text same_list same_signal same_gate same_net agrees holds
computed c = holds c

pub table-holds : T (all (all holds) table)
unfolding computed table
table-holds = tt

-- the start values
pub starts-hold : T (all holds starts)
unfolding computed starts
starts-hold = tt

-- ---- behind `.end`

-- K10's text is one that `.end` ends, and what may stand behind it
pub k10-ended : Ended (bytes ".model m\n.end\n") × MayFollow (bytes ".model m\n.end\n") (bytes ".inputs a\n")
unfolding head_d same cons_first split drop_cr lines cut continues before joined is_blank non_empty tokens model_stmt stmt_of keyword_of parsed_line parsed first_bad stmts ◌or_else◌ flat_map ends_in_lf stops
k10-ended = (record { whole = refl; closed = refl; stopped = refl }, record { few = omega arith; plain = refl; parses = refl })
