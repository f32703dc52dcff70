-- What a run answers and leaves, from whether the rows fit and what the clocks leave. Assumes nothing.
use Rattle.std.specs.Prelude.{Result, Ok, Err}
use mathlib.Core.Path.{◌≡◌, refl, sym, ap, ap₂, ◌∙◌, subst}
use mathlib.Core.Bool.{Bool, true, false, ◌&&◌, true≢false}
use mathlib.Core.List.{List, ◌++◌}
use mathlib.Core.Option.{Option, none, some}
use mathlib.Core.Logic.{inl, inr}
use Prim.Native.Nat.{ℕ, suc, ◌-◌, ◌*◌, ◌/◌, ◌%◌, ◌^◌, ◌≤◌, ◌<◌}
use native.Mathlib.Omega.{arith}
use native.Mathlib.Nat.{div-eq_of_eq-mul_left, mul-mod_left, div-lt_iff_lt-mul, le-div_iff_mul-le, div-add-mod'}
use lib.Dec.{eqb, leb}
use lib.ListN.{length, take, drop, length-append, length-drop}
use lib.Seq.{take_at}
use borrow.Author.Tests.{eqb-true, eq-eqb, leb-true, leb-false, lt-ltb, le-ltb}
use Rattle.lists.specs.Lists.{Bytes, zeros, all}
use Rattle.lists.proofs.OverAt.{zeros-behind}
use Rattle.lists.proofs.Tests.{by-test, by_order, and_left, and_right}
use Rattle.lists.proofs.Places.{run-get_or}
use Rattle.refusals.specs.Numbers.{InRunning}
use Rattle.refusals.specs.declared.Refusal.{Refusal}
use Rattle.refusals.specs.declared.Refusal.TheVariants as refusal
use Rattle.gates.specs.Gate.{is_plain}
use Rattle.network.specs.Net.{Net, topo_sorted}
use Rattle.network.specs.Clock.{start_bits}
use Rattle.network.specs.Settle.{run}
use Rattle.network.specs.Cells.{Lent, Words, is_network, net_of}
use Rattle.network.proofs.Lent.{network-cells, network-outs}
use Rattle.run_rows.specs.Rows.{rows_text, rows_of}
use Rattle.run_rows.specs.Into.{RunOutcome, run_outcome, refused_run, ran_rows, run_on, run_into}
use Rattle.run_rows.specs.Ran.{RunsFor}
use Rattle.run_rows.specs.Between.Steps.{Clocked, RunRefused}
use Rattle.run_rows.specs.Between.Asks.{Runnable}
use Rattle.run_rows.proofs.RowsOf.{rows_are, length-rows_text, length-outputs}

-- of a network and the rows' text into n bytes; a row has w bytes, and a row of outputs l
module _ (net : Net) (rows : Bytes) (n w l : ℕ) (ew : w ≡ suc net.inputs) (el : l ≡ suc (length net.outputs)) where
  abbrev count : ℕ
  count = length rows / w

  -- whether the rows are whole, and as many rows of outputs fit
  abbrev fits : Bool
  fits = eqb (length rows % w) 0 && leb count (n / l)

  some_byte : 0 < w
  some_byte = omega arith

  some_out : 0 < l
  some_out = omega arith

  -- as many rows as the text has
  rows_long : {rs : List (List Bool)} → rows_of net.inputs rows ≡ some rs → length rows ≡ length rs * w
  rows_long {rs} e =
      let t = (rows_are net.inputs rows rs).0 e in
      ap length t.0 ∙ length-rows_text net.inputs rs t.1 ∙ ap (λ (k : ℕ). length rs * k) (sym ew)

  count-is : {rs : List (List Bool)} → rows_of net.inputs rows ≡ some rs → count ≡ length rs
  count-is e = div-eq_of_eq-mul_left some_byte (rows_long e)

  outputs-long : (rs : List (List Bool)) → length (rows_text (run net rs)) ≡ length rs * l
  outputs-long rs = length-outputs net (start_bits net) rs ∙ ap (λ (k : ℕ). length rs * k) (sym el)

  pub not-fitting : fits ≡ false → refused_run refusal.WrongRows n ≡ run_on net (rows_of net.inputs rows) n
  not-fitting f = by (rows_of net.inputs rows) refl
    where
      by : (o : Option (List (List Bool))) → rows_of net.inputs rows ≡ o → refused_run refusal.WrongRows n ≡ run_on net o n
      by none e = refl
      by (some rs) e =
          let whole : eqb (length rows % w) 0 ≡ true = eq-eqb _ 0 (ap (λ (k : ℕ). k % w) (rows_long e) ∙ mul-mod_left (length rs) w) in
          let over : n / l < count = leb-false count (n / l) (rw whole at f) in
          let long : n < length rs * l = (div-lt_iff_lt-mul some_out).0 (omega (arith, over, count-is e)) in
          rw (lt-ltb n (length (rows_text (run net rs))) (omega (arith, long, outputs-long rs)))

  module _ (f : fits ≡ true) where
    pub rows_whole : length rows ≡ count * w
    rows_whole =
        let z : length rows % w ≡ 0 = eqb-true _ 0 (and_left (eqb (length rows % w) 0) (leb count (n / l)) f) in
        omega (arith, div-add-mod' (length rows) w)

    pub lines_fit : count * l ≤ n
    lines_fit = (le-div_iff_mul-le {k = l} {x = count} {y = n} some_out).0 (leb-true count (n / l) (and_right (eqb (length rows % w) 0) (leb count (n / l)) f))

  -- where each row has run: the output rows, and zeros behind them
  pub ran-all : (q o : Bytes) {z : Bytes} {r : Bool} → length o ≡ n → count * l ≤ n → length q ≡ count * l → r ≡ true → Clocked net (rows_of net.inputs rows) (start_bits net) q r
      → let end = count * l in let p = q ++ drop end o in
      z ≡ zeros (length (take (length p - end) (drop end p)))
      → run_outcome (Ok end) (take end p ++ (z ++ drop (length p - end) (drop end p))) ≡ run_on net (rows_of net.inputs rows) n
  ran-all q o {z} {r} lo fit lq t c zs = by (rows_of net.inputs rows) refl c
    where
      end : ℕ
      end = count * l

      p : Bytes
      p = q ++ drop end o

      by : (os : Option (List (List Bool))) → rows_of net.inputs rows ≡ os → Clocked net os (start_bits net) q r
          → run_outcome (Ok end) (take end p ++ (z ++ drop (length p - end) (drop end p))) ≡ run_on net os n
      by none h c = absurd (true≢false (sym t ∙ c))
      by (some rs) h c =
          let long : length (rows_text (run net rs)) ≡ end = outputs-long rs ∙ ap (λ (k : ℕ). k * l) (sym (count-is h)) in
          let whole : length p ≡ n = omega (arith, length-append q (drop end o), length-drop end o) in
          rw (le-ltb n (length (rows_text (run net rs))) (omega arith))
          (ap₂ (λ (k : ℕ) (b : Bytes). run_outcome (Ok k) b) (sym long) (zeros-behind p end (take_at q (drop end o) end lq ∙ c.1) long whole zs))

-- ---- the order of refusals

pub refused-is : {k : Refusal} {n : ℕ} {a : Result ℕ Refusal} {out : Bytes} → RunRefused k n a out → run_outcome a out ≡ refused_run k n
refused-is r = ap₂ run_outcome r.answer r.bytes

module _ (l : Lent) (t : Bytes) (n : ℕ) where
  pub not-network : is_network l ≡ false → refused_run refusal.NotANetwork n ≡ run_into l t n
  unfolding run_into
  not-network e = rw e

  module _ (is : is_network l ≡ true) where
    pub not-sorted : topo_sorted (net_of l) ≡ false → refused_run refusal.NotSorted n ≡ run_into l t n
    unfolding run_into
    not-sorted e = rw (is, e)

    module _ (sorted : topo_sorted (net_of l) ≡ true) where
      pub not_plain : all is_plain (net_of l).gates ≡ false → refused_run refusal.OtherFlipFlop n ≡ run_into l t n
      unfolding run_into
      not_plain e = rw (is, sorted, e)

      pub runs_on : all is_plain (net_of l).gates ≡ true → run_on (net_of l) (rows_of (net_of l).inputs t) n ≡ run_into l t n
      unfolding run_into
      runs_on e = rw (is, sorted, e)

-- ---- the answers

-- how a run ends: refused, or with a length
data Ways (l : Lent) (t : Bytes) (n : ℕ) : Type 0 where
  refuses : (r : Refusal) → InRunning r → run_into l t n ≡ refused_run r n → Ways l t n
  answers : RunsFor l t n → Ways l t n

pub runs-answer : (l : Lent) (t : Bytes) (n : ℕ) (f : RunsFor l t n) → run_into l t n ≡ ran_rows (rows_text (run (net_of l) f.rows)) n
runs-answer l t n f =
    sym (runs_on l t n f.network f.sorted f.plain)
    ∙ ap (λ (o : Option (List (List Bool))). run_on (net_of l) o n) f.has
    ∙ rw (le-ltb n (length (rows_text (run (net_of l) f.rows))) f.room)

ways : (l : Lent) (t : Bytes) (n : ℕ) → Ways l t n
ways l t n =
    by-test (is_network l)
    (λ a. by-test (topo_sorted (net_of l))
    (λ b. by-test (all is_plain (net_of l).gates) (λ c. rest a b c (rows_of (net_of l).inputs t) refl)
    (λ c. refuses refusal.OtherFlipFlop (inr (inr (inl refl))) (sym (not_plain l t n a b c))))
    (λ b. refuses refusal.NotSorted (inr (inl refl)) (sym (not-sorted l t n a b))))
    (λ a. refuses refusal.NotANetwork (inl refl) (sym (not-network l t n a)))
  where
    rest : is_network l ≡ true → topo_sorted (net_of l) ≡ true → all is_plain (net_of l).gates ≡ true → (o : Option (List (List Bool))) → rows_of (net_of l).inputs t ≡ o → Ways l t n
    rest a b c none e = refuses refusal.WrongRows (inr (inr (inr refl))) (sym (runs_on l t n a b c) ∙ ap (λ (o : Option (List (List Bool))). run_on (net_of l) o n) e)
    rest a b c (some rs) e =
        by_order (length (rows_text (run (net_of l) rs))) n
        (λ h. answers (record { network = a; sorted = b; plain = c; rows = rs; has = e; room = h }))
        (λ h. refuses refusal.WrongRows (inr (inr (inr refl)))
        (sym (runs_on l t n a b c) ∙ ap (λ (o : Option (List (List Bool))). run_on (net_of l) o n) e ∙ rw (lt-ltb n (length (rows_text (run (net_of l) rs))) h)))

pub length-answered : (l : Lent) (t : Bytes) (n k : ℕ) → (run_into l t n).answer ≡ Ok k → RunsFor l t n
length-answered l t n k e = by (ways l t n)
  where
    by : Ways l t n → RunsFor l t n
    by (refuses r i q) = absurd (let z : ◌≡◌ {A = ℕ} 0 1 = (let w = ap (λ (o : RunOutcome). o.answer) q in cc) in omega arith)
    by (answers f) = f

pub running-refuses : (l : Lent) (t : Bytes) (n : ℕ) (r : Refusal) → (run_into l t n).answer ≡ Err r → InRunning r × ((run_into l t n).out ≡ zeros n)
running-refuses l t n r e = by (ways l t n)
  where
    by : Ways l t n → InRunning r × ((run_into l t n).out ≡ zeros n)
    by (refuses s i q) = let w : s ≡ r = (let v = ap (λ (o : RunOutcome). o.answer) q in cc) in (subst InRunning w i, ap (λ (o : RunOutcome). o.out) q)
    by (answers f) = absurd (let z : ◌≡◌ {A = ℕ} 0 1 = (let w = ap (λ (o : RunOutcome). o.answer) (runs-answer l t n f) in cc) in omega arith)

-- a lent network that is sorted, with plain flip-flops
pub lent-runnable : (l : Lent) → Words l → is_network l ≡ true → topo_sorted (net_of l) ≡ true → all is_plain (net_of l).gates ≡ true
    → Runnable l.counts.inputs l.counts.gates l.cells l.pins_lent (take l.counts.outputs l.outs_lent)
unfolding net_of
lent-runnable l w is sorted plain = record {
  gates = network-cells l w is;
  sorted = sorted;
  plain = plain;
  words = λ c m. run-get_or 0 (λ (x : ℕ). x < 2 ^ 32) 0 l.counts.outputs l.outs_lent w.out_words c m;
  valid = network-outs l is;
}
