-- What `blifnorm` prints, as a reviewer would read it. Assumes nothing.
use Rattle.std.specs.Prelude.{if◌then◌else◌, Result, Ok, Err}
use mathlib.Core.Path.{◌≡◌, sym, ap, ◌∙◌}
use mathlib.Core.Bool.{Bool, true, false}
use mathlib.Core.List.{map}
use Prim.Native.Nat.{ℕ}
use Rattle.lists.specs.Lists.{Bytes, zeros, any, overwrite}
use Rattle.signal.specs.Cell.{sig_cell}
use Rattle.refusals.specs.declared.Refusal.{Refusal}
use Rattle.refusals.specs.declared.Refusal.TheVariants as refusal
use Rattle.network.specs.Net.{Net}
use Rattle.network.specs.Cells.{Lent, lent, counts_of, net_of, is_network}
use Rattle.network.specs.Record.{gate_cells, pin_cells}
use Rattle.blif_writing.specs.WrittenModel.{wide}
use Rattle.blif_writing.specs.Text.{text_of}
use Rattle.printed_lines.specs.Lines.{refused_line}
use Rattle.blif_reading.specs.Read.{read_text}
use Rattle.blif_read.specs.Into.{Lengths, enough, ReadOutcome, filled, read_into}
use Rattle.blif_read.proofs.CellsRead.{read-layout, read-decodes}
use Rattle.blif_write.specs.Into.{too_long, write_into}
use Rattle.blifnorm.specs.Norm.{written_from, norm_into, printed}
use Rattle.blifnorm.proofs.Printing.{network-text}
use Rattle.blifnorm.proofs.ReadForms.{read-not-wide}

module _ (text : Bytes) (ls : Lengths) (n : ℕ) (e : enough ls ≡ true) where
  -- what the reader leaves, with enough cells
  left : {r : Result Net Refusal} → read_text text ≡ r → read_into text ls ≡ filled r ls
  unfolding read_into
  left q = ap (λ (b : Bool). filled (if b then read_text text else Err refusal.TooFewCells) ls) e ∙ ap (λ (x : Result Net Refusal). filled x ls) q

  -- a text that is refused is answered by the line with the refusal's number
  pub refusal-printed : (r : Refusal) → read_text text ≡ Err r → printed (norm_into text ls n) ≡ refused_line r
  refusal-printed r q = ap (λ (o : ReadOutcome). printed (written_from o.answer o n)) (left q)

  -- a text that is read, by what the writer answers for the cells of the network read
  pub network-printed : (net : Net) → read_text text ≡ Ok net
      → printed (norm_into text ls n)
      ≡ printed
      (write_into
      (lent (counts_of net) (overwrite (gate_cells 0 net.gates) (zeros ls.gates)) (overwrite (pin_cells net.gates) (zeros ls.pins))
      (overwrite (map sig_cell net.outputs) (zeros ls.outputs)))
      n)
  network-printed net q = ap (λ (o : ReadOutcome). printed (written_from o.answer o n)) (left q)

  -- a text that is read is answered by the written text of the network read, or by 22 where that text is too long
  pub text-printed : (net : Net) → read_text text ≡ Ok net
      → printed (norm_into text ls n) ≡ (if too_long (text_of net) n then refused_line refusal.TextDoesNotFit else text_of net)
  text-printed net q =
      let cells : ReadOutcome → Lent = λ o. lent (counts_of net) o.gates o.pins o.outputs in
      let l : Lent = cells (filled (Ok net) ls) in
      let same : l ≡ cells (read_into text ls) = ap cells (sym (left q)) in
      let decodes : net_of l ≡ net = ap net_of same ∙ read-decodes text net ls e q in
      let layout : is_network l ≡ true = ap is_network same ∙ read-layout text net ls e q in
      let narrow : any wide (net_of l).gates ≡ false = ap (λ (x : Net). any wide x.gates) decodes ∙ read-not-wide text net q in
      network-printed net q
      ∙ network-text l n layout narrow
      ∙ ap (λ (x : Net). if too_long (text_of x) n then refused_line refusal.TextDoesNotFit else text_of x) decodes
