-- A netlist that was read is a network that a run takes. Assumes nothing.
use Rattle.std.specs.Prelude.{Result, Ok, Err}
use mathlib.Core.Path.{◌≡◌, refl, sym, ap, ◌∙◌, subst}
use mathlib.Core.Bool.{true}
use mathlib.Core.List.{List}
use Prim.Native.Nat.{ℕ}
use native.Mathlib.Omega.{arith}
use Rattle.lists.specs.Lists.{Bytes}
use Rattle.lists.proofs.Tests.{by-test}
use Rattle.refusals.specs.declared.Refusal.{Refusal}
use Rattle.refusals.specs.declared.Refusal.TheVariants as refusal
use Rattle.network.specs.Net.{Net}
use Rattle.network.specs.Cells.{Lent, lent, net_of, is_network, counts_of}
use Rattle.network.specs.declared.Counts.{Counts}
use Rattle.blif_reading.specs.Read.{read_text}
use Rattle.blif_reading.proofs.ReadNet.{NetRead, read-net}
use Rattle.blif_read.specs.Into.{Lengths, enough, ReadOutcome, read_outcome, filled, answered, read_into}
use Rattle.blif_read.proofs.CellsRead.{read-layout, read-decodes}
use Rattle.pass_report.specs.Report.{judged}
use Rattle.pass_report.specs.Between.Rows.{FewRows, RunReady}

-- ---- the reader's answer

-- counts are answered of a network
result-read : (r : Result Net Refusal) (n : Lengths) {c : Counts} → (filled r n).answer ≡ Ok c → (net : Net) × (r ≡ Ok net) × (c ≡ counts_of net)
result-read (Ok net) n e = (net, refl, cc)
result-read (Err k) n e = absurd (let z : ◌≡◌ {A = ℕ} 0 1 = cc in omega arith)

-- and a refusal of a refusal
result-refused : (r : Result Net Refusal) (n : Lengths) {k : Refusal} → (filled r n).answer ≡ Err k → r ≡ Err k
result-refused (Ok net) n e = absurd (let z : ◌≡◌ {A = ℕ} 0 1 = cc in omega arith)
result-refused (Err j) n {k} e = let same : j ≡ k = cc in ap (λ (x : Refusal). Err x) same

-- a network is answered where the cells suffice and the text is read
pub answered-read : (text : Bytes) (n : Lengths) {net : Net} → answered text n ≡ Ok net → (enough n ≡ true) × (read_text text ≡ Ok net)
answered-read text n {net} e =
    by-test (enough n) (λ h. (h, rw h at e)) (λ h. absurd (let w : Err refusal.TooFewCells ≡ Ok net = rw h at e in let z : ◌≡◌ {A = ℕ} 0 1 = cc in omega arith))

-- ---- what was read

module _ (text : Bytes) (n : Lengths) {gs ps os wgs wps : List ℕ} {a : Result Counts Refusal} (h : read_outcome a gs ps os wgs wps ≡ read_into text n) (t : Bytes) where
  answer-is : a ≡ (filled (answered text n) n).answer
  unfolding read_into
  answer-is = ap (λ (o : ReadOutcome). o.answer) h

  pub refused-is : {k : Refusal} → a ≡ Err k → Err k ≡ judged (answered text n) t
  refused-is e = sym (ap (λ (r : Result Net Refusal). judged r t) (result-refused (answered text n) n (sym answer-is ∙ e)))

  module _ {c : Counts} (e : a ≡ Ok c) where
    found : (net : Net) × (answered text n ≡ Ok net) × (c ≡ counts_of net)
    found = result-read (answered text n) n (sym answer-is ∙ e)

    abbrev cells : Lent
    cells = lent c gs ps os

    -- the cells are those that the reader left
    as-left : cells ≡ lent (counts_of found.0) (read_into text n).gates (read_into text n).pins (read_into text n).outputs
    as-left = λ i. lent (found.2 i) (h i).gates (h i).pins (h i).outputs

    was_read : (enough n ≡ true) × (read_text text ≡ Ok found.0)
    was_read = answered-read text n found.1

    net-is : net_of cells ≡ found.0
    net-is = ap net_of as-left ∙ read-decodes text found.0 n was_read.0 was_read.1

    pub read-ready : FewRows t → RunReady cells t
    read-ready few =
        let known : NetRead (net_of cells) = subst NetRead (sym net-is) (read-net text found.0 was_read.1) in
        record {
          network = ap is_network as-left ∙ read-layout text found.0 n was_read.0 was_read.1;
          sorted = known.sorted;
          plain = known.plain;
          commands = few;
        }

    pub read_is : judged (Ok (net_of cells)) t ≡ judged (answered text n) t
    read_is = ap (λ (x : Net). judged (Ok x) t) net-is ∙ sym (ap (λ (r : Result Net Refusal). judged r t) found.1)
