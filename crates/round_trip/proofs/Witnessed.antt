-- The conditions of demand 3 can be met: the witness meets them. Assumes nothing.
use mathlib.Core.Path.{◌≡◌, refl, sym, ap, ◌∙◌, subst}
use mathlib.Core.Bool.{Bool, true, false, false≢true}
use mathlib.Core.List.{List, [], ◌∷◌, flat_map, head_d}
use mathlib.Core.Option.{Option, none, some}
use Prim.Native.Nat.{ℕ, zero, suc, ◌^◌, ◌≤◌, ◌<◌}
use native.Mathlib.Omega.{arith}
use lib.Dec.{ltb}
use lib.ListN.{length, get_or}
use borrow.Author.Tests.{ltb-true, leb-true}
use Rattle.lists.specs.Lists.{all, any, same, hit}
use Rattle.lists.proofs.Tests.{and_left, and_right}
use Rattle.gates.specs.Gate.{PlainFlop, Dff}
use Rattle.gates.specs.Forms.{gate_from}
use Rattle.network.specs.Net.{Net, GateIs, Loop}
use Rattle.network.specs.Cells.{sizes_fit, records_fit, all_valid, is_network, net_of, Words}
use Rattle.network.specs.Record.{record_of, gate_at, gate_cells, pin_cells}
use Rattle.network.proofs.Lent.{network-laid}
use Rattle.sort_order.specs.Order.{uses, use_count, recorded, order, sort_order}
use Rattle.sort_order.specs.Sorted.{sorted}
use Rattle.sort_order.proofs.Summary.{loop-exactly}
use Rattle.blif_text.specs.Lines.{cons_first, split, drop_cr, lines, cut, continues, before, joined, is_blank, non_empty, tokens}
use Rattle.blif_text.specs.Keywords.{keyword_of}
use Rattle.blif_text.specs.Statements.{model_stmt, init_of, init_among, latch_with, latch_stmt, stmt_of, parsed_line, parsed, stmts}
use Rattle.blif_text.specs.Decls.{cubes, decls, ins_of, outs_of, defs_of, ins, outs, defs, decls_of}
use Rattle.blif_writing.specs.WrittenModel.{wide}
use Rattle.blif_writing.specs.Text.{spaced, line, text_of}
use Rattle.blif_reading.specs.Read.{added, gate_count, pin_count, too_large}
use Rattle.blif_read.specs.Into.{enough}
use Rattle.round_trip.specs.Conditions.{PlainFlops}
use Rattle.round_trip.specs.Trip.{RoundTripConditions}
use Rattle.round_trip.specs.Witness.{flop, net, witness, cells}

-- the cells hold the network
holds : net_of witness ≡ net
unfolding net_of gate_at record_of gate_cells pin_cells gate_from
holds = refl

-- by the layout of 20
layout : is_network witness ≡ true
unfolding is_network sizes_fit records_fit all_valid record_of gate_cells pin_cells
layout = refl

-- cells below a number
below : (n : ℕ) (l : List ℕ) → 0 < n → all (λ c. ltb c n) l ≡ true → (i : ℕ) → get_or l i 0 < n
below n [] h e i = h
below n (x ∷ l) h e zero = ltb-true x n (and_left (ltb x n) (all (λ c. ltb c n) l) e)
below n (x ∷ l) h e (suc i) = below n l h (and_right (ltb x n) (all (λ c. ltb c n) l) e) i

words : Words witness
unfolding pin_cells
words = record { pin_words = below (2 ^ 32) witness.pins_lent (omega arith) refl; out_words = below (2 ^ 32) witness.outs_lent (omega arith) refl }

-- whether there is a network
is_some : Option Net → Bool
is_some none = false
is_some (some x) = true

-- it can be sorted
sorts : is_some (sorted (net_of witness)) ≡ true
unfolding is_some net_of gate_at gate_from record_of gate_cells pin_cells hit uses use_count recorded order sort_order sorted
sorts = refl

-- so it has no loop
free : Loop (net_of witness) → ⊥
unfolding is_some
free l =
    let valid = (network-laid witness words layout).1 in
    false≢true (sym (ap is_some ((loop-exactly (net_of witness) valid).1 l)) ∙ sorts)

-- its text is within the sizes
sized : too_large (decls_of (text_of net)) ≡ false
unfolding flat_map head_d same cons_first split drop_cr lines cut continues before joined is_blank non_empty tokens model_stmt init_of init_among latch_with latch_stmt stmt_of keyword_of parsed_line parsed stmts cubes decls ins_of outs_of defs_of ins outs defs spaced line added gate_count pin_count too_large decls_of
sized = refl

-- its one flip-flop is plain
plain-flops : PlainFlops net
plain-flops zero s e = let q : flop ≡ s = cc in subst PlainFlop q (record { enable_one = refl; reset_zero = refl })
plain-flops (suc zero) s e = absurd (let z : ◌≡◌ {A = ℕ} 0 1 = cc in omega (arith, z))
plain-flops (suc (suc zero)) s e = absurd (let z : ◌≡◌ {A = ℕ} 0 1 = cc in omega (arith, z))
plain-flops (suc (suc (suc g))) s e = absurd (let z : ◌≡◌ {A = ℕ} 0 1 = cc in omega (arith, z))

-- its text is short
fits : length (text_of (net_of witness)) ≤ 32768
unfolding spaced line flat_map
fits = subst (λ (x : Net). length (text_of x) ≤ 32768) (sym holds) (leb-true (length (text_of net)) 32768 refl)

-- the witness meets the conditions
pub witness-conditions : RoundTripConditions witness 32768 cells
unfolding enough spaced line flat_map
witness-conditions =
    record {
      written =
          record {
            network = layout;
            narrow = ap (λ (x : Net). any wide x.gates) holds;
            short = fits;
            room = fits;
          };
      plain = record { free = free; flops = λ g s e. plain-flops g s (subst (λ (x : Net). GateIs x g (Dff s)) holds e) };
      sized = ap (λ (x : Net). too_large (decls_of (text_of x))) holds ∙ sized;
      cells = refl;
    }
