-- What `write_blif` answers: a refusal over zeros, or a text that fits. Assumes nothing.
use Rattle.std.specs.Prelude.{if◌then◌else◌}
use mathlib.Core.Path.{◌≡◌, ap, ◌∙◌}
use mathlib.Core.Bool.{Bool, false}
use Prim.Native.Nat.{ℕ, ◌≤◌}
use lib.Dec.{ltb}
use lib.ListN.{length}
use borrow.Author.Tests.{ltb-false}
use Rattle.lists.specs.Lists.{Bytes, any}
use Rattle.lists.proofs.Tests.{by-test, or_left, or_right}
use Rattle.refusals.specs.declared.Refusal.{Refusal}
use Rattle.refusals.specs.declared.Refusal.TheVariants as refusal
use Rattle.network.specs.Cells.{Lent, is_network, net_of}
use Rattle.blif_text.specs.Lines.{max_text}
use Rattle.blif_writing.specs.WrittenModel.{wide}
use Rattle.blif_writing.specs.Text.{text_of}
use Rattle.blif_write.specs.Into.{WriteOutcome, refused_text, written_text, too_long, write_into}

-- a text that is not too long is within the slice, and within the bytes of a text
module _ (t : Bytes) (n : ℕ) (e : too_long t n ≡ false) where
  pub in-slice : length t ≤ n
  in-slice = ltb-false n (length t) (or_left (ltb n (length t)) (ltb max_text (length t)) e)

  pub in-text : length t ≤ max_text
  in-text = ltb-false max_text (length t) (or_right (ltb n (length t)) (ltb max_text (length t)) e)

-- the two ways in which the output slice of n bytes is left
pub data Ways (n : ℕ) (o : WriteOutcome) : Type 0 where
  refuses : (r : Refusal) → o ≡ refused_text r n → Ways n o
  writes : (t : Bytes) → length t ≤ n → length t ≤ max_text → o ≡ written_text t n → Ways n o

pub writer-ways : (l : Lent) (n : ℕ) → Ways n (write_into l n)
unfolding write_into
writer-ways l n =
    by-test (is_network l)
    (λ e.
    by-test (any wide (net_of l).gates) (λ w. refuses refusal.WideExclusive (rw (e, w)))
    (λ w.
    let t : Bytes = text_of (net_of l) in
    let end : Bool → WriteOutcome = λ b. if b then refused_text refusal.TextDoesNotFit n else written_text t n in
    let p : write_into l n ≡ end (too_long t n) = rw (e, w) in
    by-test (too_long t n) (λ q. refuses refusal.TextDoesNotFit (p ∙ ap end q)) (λ q. writes t (in-slice t n q) (in-text t n q) (p ∙ ap end q))))
    (λ e. refuses refusal.NotANetwork (rw e))
