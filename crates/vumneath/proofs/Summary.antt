-- What the exported functions promise, as a maker would read it: each theorem is over what their contracts say of the struct and of every
-- cell and byte (`ReadHanded`, `WriteHanded`, `RunHanded`, specs/Handed). Assumes nothing.
--   refused-reading, refused-writing, refused-running  `refused` is 0 exactly on success, else a number of 1 to 14 and 34, of 20 to 22, of 20 and 29 to 31
--   few-cells       a caller that lends as many cells for gates as interface 1 asked for gets 1, and zero in every cell
--   read-outputs    the network in the cells has exactly the outputs that the text has, by the Berkeley text
--   read-allowed    which of the runs that the Berkeley text allows at power-up it has
--   read-behind-end what stands behind `.end` or `.exdc` changes nothing that is handed over
--   text-written    the bytes up to the length are the network's text
--   rows_written        the rows written are the only ones that document 01's clock allows
--   read-runs       a network that one call read is never refused by 20, 29 or 30 when the other runs it
--   read-runs-for   but just where the rows are wrong or do not fit
--   read-then-run   reading a text and running it gives exactly the outputs that the text has by the Berkeley text
--   handed-back     demand 3: written by one call, read back by the other
--   never-shared    two networks that share a text agree in every output
--   texts-differ    so two that differ never share a text
use Rattle.std.specs.Prelude.{Ok, Err}
use mathlib.Core.Path.{◌≡◌, sym, ap, ◌∙◌, subst}
use mathlib.Core.Bool.{Bool, true}
use mathlib.Core.List.{List, ◌++◌, Memᴰ}
use mathlib.Core.Option.{some}
use mathlib.Core.Logic.{◌↔◌, ◌⊎◌, inl, inr, ⊎_elim}
use Prim.Native.Nat.{ℕ, ◌*◌, ◌≤◌, ◌<◌}
use native.Mathlib.Omega.{arith}
use lib.ListN.{length, take, length-replicate}
use Rattle.lists.specs.Lists.{Bytes, zeros, overwrite}
use Rattle.lists.proofs.Over.{take-overwrite}
use Rattle.refusals.specs.Numbers.{number_of, InReading, InWriting}
use Rattle.refusals.specs.declared.Refusal.{Refusal}
use Rattle.network.specs.Net.{Net}
use Rattle.network.specs.Sizes.{max_gates}
use Rattle.network.specs.Record.{gate_width}
use Rattle.network.specs.Cells.{Lent, lent, net_of, is_network, Words, counts_of}
use Rattle.network.specs.Clock.{NetRuns}
use Rattle.network.specs.Settle.{run, SameOutputs}
use Rattle.blif_meaning.specs.Model.{I0, I1, LatchDef, Latch, MayRun, BlifRuns}
use Rattle.blif_reading.specs.TextModel.{model_of_text}
use Rattle.blif_writing.specs.Text.{text_of}
use Rattle.blif_text.specs.Ended.{Ended, MayFollow}
use Rattle.blif_reading.specs.Read.{read_text}
use Rattle.round_trip.specs.Conditions.{PlainNet, WrittenFrom}
use Rattle.blif_read.specs.Into.{Lengths, enough, ReadOutcome, answered, read_into}
use Rattle.blif_read.proofs.Summary.{read-counts, behind-end}
use Rattle.blif_read.proofs.CellsRead.{read-layout, read-decodes}
use Rattle.blif_write.specs.Into.{write_into, WriteOutcome}
use Rattle.round_trip.specs.Trip.{RoundTripConditions}
use Rattle.round_trip.proofs.Demand as demand
use Rattle.round_trip.proofs.Summary as trip
use Rattle.blif_reading.proofs.ReadNet.{NetRead, read-net}
use Rattle.blif_reading.proofs.Summary as reading
use Rattle.run_rows.specs.Rows.{rows_text, rows_of}
use Rattle.run_rows.specs.Into.{RunOutcome, run_into}
use Rattle.run_rows.specs.Ran.{RunsFor, RanFor}
use Rattle.run_rows.proofs.Summary.{runs-answer, ran-rows, ran-text, ran-rest}
use Rattle.vumneath.specs.Handed.{network_of, text_for, rows_for, ReadHanded, WriteHanded, RunHanded, RefusedRun, counts_handed, net_handed, HandedBack, TextRan}
use Rattle.vumneath.specs.declared.VumneathNetwork.{VumneathNetwork}
use Rattle.vumneath.specs.declared.VumneathText.{VumneathText}
use Rattle.vumneath.specs.declared.VumneathRows.{VumneathRows}
use Rattle.vumneath.proofs.Answered.{few-outcome, read-zero, read-success, read-refused, write-zero, write-success, write-refused, run-zero, run-success, run-refused, run-rows-only}

-- ---- reading

module _ (text : Bytes) (n : Lengths) {r : VumneathNetwork} {gs ps os wgs wps : List ℕ} (h : ReadHanded (read_into text n) r gs ps os wgs wps) where
  -- the number that was handed over
  told : r.refused ≡ (network_of (read_into text n).answer).refused
  told = ap (λ (x : VumneathNetwork). x.refused) h.answer

  -- every text gets a result or a numbered refusal: 0 is told exactly of a network read into enough cells, and any other number is that
  -- of the refusal, one of 1 to 14 and 34
  pub refused-reading : ((r.refused ≡ 0) ↔ ((net : Net) × (enough n ≡ true) × (read_text text ≡ Ok net)))
      × ((r.refused ≡ 0 → ⊥) → (k : Refusal) × InReading k × (answered text n ≡ Err k) × (r.refused ≡ number_of k))
  refused-reading = (
    ((λ z. read-zero text n (sym told ∙ z)), (λ q. told ∙ read-success text n q.0 q.1 q.2)),
    (λ f. let k = read-refused text n (λ z. f (told ∙ z)) in (k.0, k.1, k.2, told ∙ k.3)),
  )

  -- "Refusal 1 then asks for 4,096 gate cells and as many working ones": a caller that lends fewer, as one that was built for interface 1 does,
  -- gets 1, and every lent cell is zero
  pub few-cells : (n.gates < max_gates * gate_width) ⊎ (n.work_gates < max_gates * gate_width)
      → (r.refused ≡ 1) × (gs ≡ zeros n.gates) × (ps ≡ zeros n.pins) × (os ≡ zeros n.outputs) × (wgs ≡ zeros n.work_gates) × (wps ≡ zeros n.work_pins)
  few-cells few =
      let o = few-outcome text n few in (
        told ∙ ap (λ (x : ReadOutcome). (network_of x.answer).refused) o,
        h.gates ∙ ap (λ (x : ReadOutcome). x.gates) o,
        h.pins ∙ ap (λ (x : ReadOutcome). x.pins) o,
        h.outputs ∙ ap (λ (x : ReadOutcome). x.outputs) o,
        h.work_gates ∙ ap (λ (x : ReadOutcome). x.work_gates) o,
        h.work_pins ∙ ap (λ (x : ReadOutcome). x.work_pins) o,
      )

  module _ (z : r.refused ≡ 0) where
    -- what is read
    was : (net : Net) × (enough n ≡ true) × (read_text text ≡ Ok net)
    was = refused-reading.0.0 z

    counts-are : counts_handed r ≡ counts_of was.0
    counts-are = ap counts_handed (h.answer ∙ ap network_of (read-counts text was.0 n was.1 was.2))

    -- the network in the cells is the one that is read
    net-is : net_handed r gs ps os ≡ was.0
    net-is =
        (λ i. net_of (lent (counts-are i) (h.gates i) (h.pins i) (h.outputs i)))
        ∙ read-decodes text was.0 n was.1 was.2

    -- for every list of rows the network in the cells has exactly the outputs that the text has by the Berkeley text, and one such list
    pub read-outputs : (rows outs : List (List Bool))
        → (BlifRuns (model_of_text text) rows outs ↔ NetRuns (net_handed r gs ps os) rows outs)
        × (BlifRuns (model_of_text text) rows outs ↔ (outs ≡ run (net_handed r gs ps os) rows))
    read-outputs rows outs =
        subst (λ (x : Net). (BlifRuns (model_of_text text) rows outs ↔ NetRuns x rows outs) × (BlifRuns (model_of_text text) rows outs ↔ (outs ≡ run x rows))) (sym net-is)
        (reading.read-means text was.0 was.2 rows outs)

    -- "2 and 3 read as zero": of a text whose latches have such initial states the Berkeley text allows more runs, and the network in the cells
    -- has one of them; of any other text it has the only one
    pub read-allowed : (rows : List (List Bool))
        → MayRun (model_of_text text) rows (run (net_handed r gs ps os) rows)
        × (((d : LatchDef Bytes) → Memᴰ (Latch d) (model_of_text text).blocks → (d.init ≡ I0) ⊎ (d.init ≡ I1))
        → (outs : List (List Bool)) → MayRun (model_of_text text) rows outs → outs ≡ run (net_handed r gs ps os) rows)
    read-allowed rows = rw net-is (reading.read-allowed text was.0 was.2 rows)

-- what may stand behind `.end` or `.exdc`, another model or notes, changes neither the struct nor any cell that is handed over
pub read-behind-end : (text rest : Bytes) → Ended text → MayFollow text rest → (n : Lengths) {r : VumneathNetwork} {gs ps os wgs wps : List ℕ}
    → ReadHanded (read_into (text ++ rest) n) r gs ps os wgs wps ↔ ReadHanded (read_into text n) r gs ps os wgs wps
read-behind-end text rest e f n {r} {gs} {ps} {os} {wgs} {wps} =
    let q = behind-end text rest n e f in
    (subst (λ (o : ReadOutcome). ReadHanded o r gs ps os wgs wps) q, subst (λ (o : ReadOutcome). ReadHanded o r gs ps os wgs wps) (sym q))

-- ---- writing

module _ (l : Lent) (n : ℕ) {w : VumneathText} {out : Bytes} (h : WriteHanded (write_into l n) w out) where
  -- the number that was handed over
  told-writing : w.refused ≡ (text_for (write_into l n).answer).refused
  told-writing = ap (λ (x : VumneathText). x.refused) h.answer

  -- every lent network gets a result or a numbered refusal: 0 is told exactly of a text written, and any other number is that of the
  -- refusal, one of 20 to 22
  pub refused-writing : ((w.refused ≡ 0) ↔ WrittenFrom l n)
      × ((w.refused ≡ 0 → ⊥) → (k : Refusal) × InWriting k × ((write_into l n).answer ≡ Err k) × (w.refused ≡ number_of k))
  refused-writing = (
    ((λ z. write-zero l n (sym told-writing ∙ z)), (λ f. told-writing ∙ write-success l n f)),
    (λ f. let k = write-refused l n (λ z. f (told-writing ∙ z)) in (k.0, k.1, k.2, told-writing ∙ k.3)),
  )

  -- where a text is written, the bytes up to the length are the network's text
  pub text-written : w.refused ≡ 0 → take w.length out ≡ text_of (net_of l)
  text-written z =
      let f = refused-writing.0.0 z in
      let is = demand.text-written l n f in
      let k : w.length ≡ length (text_of (net_of l)) = ap (λ (x : VumneathText). x.length) (h.answer ∙ ap (λ (o : WriteOutcome). text_for o.answer) is) in
      let t : out ≡ overwrite (text_of (net_of l)) (zeros n) = h.bytes ∙ ap (λ (o : WriteOutcome). o.out) is in
      (λ i. take (k i) (t i)) ∙ take-overwrite (text_of (net_of l)) (zeros n) (omega (arith, f.room, length-replicate {A = ℕ} n 0))

-- ---- running

module _ (l : Lent) (t : Bytes) (n : ℕ) {w : VumneathRows} {out : Bytes} (h : RunHanded (run_into l t n) w out) where
  -- the number that was handed over
  told-running : w.refused ≡ (rows_for (run_into l t n).answer).refused
  told-running = ap (λ (x : VumneathRows). x.refused) h.answer

  -- every lent network and every text of rows gets a length or a numbered refusal: 0 is told exactly where nothing refuses, and any other
  -- number is that of the refusal, one of 20, 29, 30 and 31; the length is then 0, and so is every byte
  pub refused-running : ((w.refused ≡ 0) ↔ RunsFor l t n) × ((w.refused ≡ 0 → ⊥) → RefusedRun l t n w out)
  refused-running = (
    ((λ z. run-zero l t n (sym told-running ∙ z)), (λ f. told-running ∙ run-success l t n f)),
    (λ f. subst (λ (o : Bytes). RefusedRun l t n w o) (sym h.bytes) (subst (λ (x : VumneathRows). RefusedRun l t n x (run_into l t n).out) (sym h.answer) (run-refused l t n (λ z. f (told-running ∙ z))))),
  )

  length_run : (f : RunsFor l t n) → w.length ≡ length (rows_text (run (net_of l) f.rows))
  length_run f = ap (λ (x : VumneathRows). x.length) (h.answer ∙ ap (λ (o : RunOutcome). rows_for o.answer) (runs-answer l t n f))

  -- where a length is answered, the rows written are, clock by clock, the only ones that document 01's clock allows from the start values
  pub rows_written : Words l → w.refused ≡ 0 → RanFor (net_of l) t w.length out
  rows_written words z =
      let f = refused-running.0.0 z in
      ran-rows l t n words f (length_run f) h.bytes

-- ---- reading and running

module _ (text : Bytes) (m : Lengths) {r : VumneathNetwork} {gs ps os wgs wps : List ℕ} (h : ReadHanded (read_into text m) r gs ps os wgs wps) (z : r.refused ≡ 0)
    (t : Bytes) (n : ℕ) {w : VumneathRows} {out : Bytes} (ran : RunHanded (run_into (lent (counts_handed r) gs ps os) t n) w out) where
  -- the lent network is the one that was read
  abbrev lent-read : Lent
  lent-read = lent (counts_handed r) gs ps os

  is-network : is_network lent-read ≡ true
  is-network =
      let q = was text m h z in
      (λ i. is_network (lent (counts-are text m h z i) (h.gates i) (h.pins i) (h.outputs i))) ∙ read-layout text q.0 m q.1 q.2

  known : NetRead (net_of lent-read)
  known = let q = was text m h z in subst NetRead (sym (net-is text m h z)) (read-net text q.0 q.2)

  -- 20, 29 and 30 refuse no network that was read: 31 alone can
  pub read-runs : (w.refused ≡ 0) ⊎ (w.refused ≡ 31)
  read-runs =
      ⊎_elim (λ e. inl (told-running lent-read t n ran ∙ e)) (λ e. inr (told-running lent-read t n ran ∙ e))
      (run-rows-only lent-read t n is-network known.sorted known.plain)

  -- and it refuses just where the text has no such rows or their outputs do not fit
  pub read-runs-for : (w.refused ≡ 0) ↔ ((rows : List (List Bool)) × (rows_of r.inputs t ≡ some rows) × (length (rows_text (run (net_of lent-read) rows)) ≤ n))
  unfolding net_of
  read-runs-for = (
    (λ e. let f = (refused-running lent-read t n ran).0.0 e in (f.rows, f.has, f.room)),
    (λ f. (refused-running lent-read t n ran).0.1 (record { network = is-network; sorted = known.sorted; plain = known.plain; rows = f.0; has = f.1; room = f.2 })),
  )

  -- where a length is answered, the rows written are exactly the outputs that the text has by the Berkeley text, for every list of rows, the
  -- empty one too
  pub read-then-run : w.refused ≡ 0 → TextRan text r.inputs t w.length out
  unfolding net_of
  read-then-run e =
      let f = (refused-running lent-read t n ran).0.0 e in
      let k = length_run lent-read t n ran f in
      record {
        rows = f.rows;
        has = f.has;
        outs = run (net_of lent-read) f.rows;
        only = λ others. (read-outputs text m h z f.rows others).1;
        written = ran-text lent-read t n f k ran.bytes;
        long = k;
        rest = ran-rest lent-read t n f k ran.bytes;
      }

-- ---- demand 3

-- the conditions hold: one call writes the network, the other reads exactly the bytes written, and the network in the cells has as many
-- inputs and outputs and, for "every list of rows, the empty one too", equal outputs at every clock
pub handed-back : (l : Lent) (n : ℕ) (m : Lengths) {w : VumneathText} {out : Bytes} {r : VumneathNetwork} {gs ps os wgs wps : List ℕ} → Words l → RoundTripConditions l n m
    → WriteHanded (write_into l n) w out → ReadHanded (read_into (take w.length out) m) r gs ps os wgs wps → HandedBack (net_of l) w out r gs ps os
handed-back l n m {w} {out} {r} {gs} {ps} {os} {wgs} {wps} words meets write Read-of =
    let t = text_of (net_of l) in
    let back = demand.back words meets in
    let zero-written : w.refused ≡ 0 = ap (λ (x : VumneathText). x.refused) (write.answer ∙ ap (λ (o : WriteOutcome). text_for o.answer) (demand.written words meets)) in
    let bytes : take w.length out ≡ t = text-written l n write zero-written in
    let same : ReadHanded (read_into t m) r gs ps os wgs wps = subst (λ (s : Bytes). ReadHanded (read_into s m) r gs ps os wgs wps) bytes Read-of in
    let answer : r ≡ network_of (read_into t m).answer = same.answer in
    let counts : r ≡ network_of (Ok (counts_of back.0)) = answer ∙ ap network_of (read-counts t back.0 m meets.cells back.1) in
    let is : net_handed r gs ps os ≡ back.0 =
    (λ i. net_of (lent (counts_handed (counts i)) (same.gates i) (same.pins i) (same.outputs i))) ∙ read-decodes t back.0 m meets.cells back.1 in
    record {
      written = zero-written;
      text = bytes;
      reads = ap (λ (x : VumneathNetwork). x.refused) counts;
      inputs = ap (λ (x : VumneathNetwork). x.inputs) counts ∙ back.2.inputs;
      outputs = ap (λ (x : VumneathNetwork). x.outputs) counts ∙ back.2.outputs;
      same = subst (λ (x : Net). SameOutputs x (net_of l)) (sym is) back.2;
    }

-- ---- two networks

module _ (a b : Lent) (m n : ℕ) {v w : VumneathText} {out out' : Bytes} (words-a : Words a) (words-b : Words b) (pa : PlainNet (net_of a)) (pb : PlainNet (net_of b))
    (wa : WriteHanded (write_into a m) v out) (wb : WriteHanded (write_into b n) w out') (za : v.refused ≡ 0) (zb : w.refused ≡ 0) where
  -- two lent networks whose written bytes are the same have as many inputs and outputs, and for every list of rows equal outputs at every
  -- clock
  pub never-shared : take v.length out ≡ take w.length out' → SameOutputs (net_of a) (net_of b)
  never-shared e =
      trip.never-shared (net_of a) (net_of b) (demand.lent-round-trip a m words-a ((refused-writing a m wa).0.0 za) pa)
      (demand.lent-round-trip b n words-b ((refused-writing b n wb).0.0 zb) pb) (sym (text-written a m wa za) ∙ e ∙ text-written b n wb zb)

  -- so two networks that differ never share a text: that differ in those numbers, or at an output for some list of rows
  pub texts-differ : (((net_of a).inputs ≡ (net_of b).inputs → ⊥) ⊎ (length (net_of a).outputs ≡ length (net_of b).outputs → ⊥)
      ⊎ ((rows : List (List Bool)) × (run (net_of a) rows ≡ run (net_of b) rows → ⊥)))
      → take v.length out ≡ take w.length out' → ⊥
  texts-differ (inl f) e = f (never-shared e).inputs
  texts-differ (inr (inl f)) e = f (never-shared e).outputs
  texts-differ (inr (inr (rows, f))) e = f ((never-shared e).runs rows)
