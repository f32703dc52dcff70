-- What is printed, from what the reader and the writer answer. Assumes nothing.
use Rattle.std.specs.Prelude.{if◌then◌else◌, Result, Ok, Err}
use mathlib.Core.Path.{◌≡◌, refl, sym, ap, ◌∙◌, subst}
use mathlib.Core.Bool.{Bool, true, false, true≢false, false≢true}
use Prim.Native.Nat.{ℕ}
use native.Mathlib.Omega.{arith}
use lib.ListN.{length, length-replicate}
use Rattle.lists.specs.Lists.{Bytes, zeros, any, overwrite}
use Rattle.lists.proofs.Over.{take-overwrite}
use Rattle.lists.proofs.Tests.{by-test}
use Rattle.network.specs.Cells.{Lent, lent, is_network, net_of}
use Rattle.refusals.specs.declared.Refusal.{Refusal}
use Rattle.refusals.specs.declared.Refusal.TheVariants as refusal
use Rattle.blif_writing.specs.WrittenModel.{wide}
use Rattle.blif_writing.specs.Text.{text_of}
use Rattle.blif_write_names.specs.Between.Text.{Wrote}
use Rattle.printed_lines.specs.Lines.{refused_line}
use Rattle.blif_read.specs.Into.{Lengths, read_into, ReadOutcome}
use Rattle.blif_write.specs.Into.{WriteOutcome, write_outcome, refused_text, written_text, too_long, write_into}
use Rattle.blif_write.proofs.Answers.{in-slice, Ways, refuses, writes, writer-ways}
use Rattle.blifnorm.specs.Norm.{written_from, norm_into, printed}
use Rattle.network.specs.declared.Counts.{Counts}

-- ---- what the writer answers

-- a network without a gate that is too wide is answered by its text, or by 22
pub network-text : (l : Lent) (n : ℕ) → is_network l ≡ true → any wide (net_of l).gates ≡ false
    → printed (write_into l n) ≡ (if too_long (text_of (net_of l)) n then refused_line refusal.TextDoesNotFit else text_of (net_of l))
unfolding write_into
network-text l n e w =
    let t = text_of (net_of l) in
    let end : Bool → WriteOutcome = λ b. if b then refused_text refusal.TextDoesNotFit n else written_text t n in
    let line : Bool → Bytes = λ b. if b then refused_line refusal.TextDoesNotFit else t in
    let p : write_into l n ≡ end (too_long t n) = rw (e, w) in
    let r = length-replicate {A = ℕ} n 0 in
    by-test (too_long t n)
    (λ q. ap printed (p ∙ ap end q) ∙ ap line (sym q))
    (λ q. let h = in-slice t n q in ap printed (p ∙ ap end q) ∙ take-overwrite t (zeros n) (omega (arith, h, r)) ∙ ap line (sym q))

from-ways : (a : Result Counts Refusal) (o : ReadOutcome) (n : ℕ) → Ways n (written_from a o n)
from-ways (Err k) o n = refuses k refl
from-ways (Ok c) o n = writer-ways (lent c o.gates o.pins o.outputs) n

-- whether an answer is a text
is_text : Result ℕ Refusal → Bool
is_text (Ok n) = true
is_text (Err k) = false

-- a text's length
text_length : Result ℕ Refusal → ℕ
text_length (Ok n) = n
text_length (Err k) = 0

-- a text in the slice is what is printed
text-laid : (n m : ℕ) (x : WriteOutcome) (b : Bytes) → Ways n x → write_outcome (Ok m) b ≡ x → Wrote (printed x) (zeros n) b m
unfolding is_text text_length
text-laid n m x b (refuses k e) h = absurd (true≢false (ap (λ (o : WriteOutcome). is_text o.answer) (h ∙ e)))
text-laid n m x b (writes t l short e) h =
    let r = length-replicate {A = ℕ} n 0 in
    let p : printed x ≡ t = ap printed e ∙ take-overwrite t (zeros n) (omega (arith, r)) in
    let eb : b ≡ overwrite t (zeros n) = ap (λ (o : WriteOutcome). o.out) (h ∙ e) in
    let em : m ≡ length t = ap (λ (o : WriteOutcome). text_length o.answer) (h ∙ e) in
    record { out = eb ∙ ap (λ (s : Bytes). overwrite s (zeros n)) (sym p); len = omega (arith, em, ap length p, r) }

-- and after a refusal the slice is zero, so that its line alone is
line-laid : (n : ℕ) (k : Refusal) (x : WriteOutcome) (b p : Bytes) (r : ℕ) → Ways n x → write_outcome (Err k) b ≡ x → Wrote (refused_line k) b p r
    → Wrote (printed x) (zeros n) p r
unfolding is_text
line-laid n k x b p r (refuses j e) h w =
    let eb : b ≡ zeros n = ap (λ (o : WriteOutcome). o.out) (h ∙ e) in
    let ex : refused_line k ≡ printed x = ap printed h in
    subst (λ (s : Bytes). Wrote s (zeros n) p r) ex (subst (λ (s : Bytes). Wrote (refused_line k) s p r) eb w)
line-laid n k x b p r (writes t l short e) h w = absurd (false≢true (ap (λ (o : WriteOutcome). is_text o.answer) (h ∙ e)))

module _ (text : Bytes) (ls : Lengths) (n : ℕ) {b : Bytes} {a : Result ℕ Refusal} (h : write_outcome a b ≡ norm_into text ls n) where
  ways : Ways n (norm_into text ls n)
  ways = from-ways (read_into text ls).answer (read_into text ls) n

  pub prints-text : {m : ℕ} → a ≡ Ok m → Wrote (printed (norm_into text ls n)) (zeros n) b m
  prints-text {m} q = text-laid n m (norm_into text ls n) b ways (ap (λ (y : Result ℕ Refusal). write_outcome y b) (sym q) ∙ h)

  pub prints-line : {k : Refusal} {p : Bytes} {r : ℕ} → a ≡ Err k → Wrote (refused_line k) b p r → Wrote (printed (norm_into text ls n)) (zeros n) p r
  prints-line {k} {p} {r} q w = line-laid n k (norm_into text ls n) b p r ways (ap (λ (y : Result ℕ Refusal). write_outcome y b) (sym q) ∙ h) w
