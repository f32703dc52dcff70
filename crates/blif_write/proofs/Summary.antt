-- What `write_blif` answers, as a reviewer would read it. Assumes nothing.
--   writing-refuses  which refusals writing answers
use Rattle.std.specs.Prelude.{if◌then◌else◌, Err}
use mathlib.Core.Path.{◌≡◌}
use mathlib.Core.Bool.{Bool, true, false, not}
use Prim.Native.Nat.{ℕ}
use native.Mathlib.Omega.{arith}
use Rattle.lists.specs.Lists.{any}
use Rattle.refusals.specs.Numbers.{InWriting}
use Rattle.refusals.specs.declared.Refusal.{Refusal}
use Rattle.refusals.specs.declared.Refusal.TheVariants as refusal
use Rattle.network.specs.Cells.{Lent, is_network, net_of}
use Rattle.blif_writing.specs.WrittenModel.{wide}
use Rattle.blif_writing.specs.Text.{text_of}
use Rattle.blif_write.specs.Into.{refused_text, written_text, too_long, write_into}

-- "Writing refuses, in order: 20 .. 21 .. 22", and nothing else
pub writing-refuses : (l : Lent) (n : ℕ) (r : Refusal) → (write_into l n).answer ≡ Err r → InWriting r
unfolding write_into
writing-refuses l n r = go (not (is_network l)) (any wide (net_of l).gates) (too_long (text_of (net_of l)) n)
  where
    go : (a b c : Bool)
        → (if a then refused_text refusal.NotANetwork n
        else (if b then refused_text refusal.WideExclusive n
        else (if c then refused_text refusal.TextDoesNotFit n
        else written_text (text_of (net_of l)) n))).answer ≡ Err r
        → InWriting r
    go true b c e = let q : r ≡ refusal.NotANetwork = cc in rw q (record { low = omega arith; high = omega arith })
    go false true c e = let q : r ≡ refusal.WideExclusive = cc in rw q (record { low = omega arith; high = omega arith })
    go false false true e = let q : r ≡ refusal.TextDoesNotFit = cc in rw q (record { low = omega arith; high = omega arith })
    go false false false e = absurd (let z : ◌≡◌ {A = ℕ} 0 1 = cc in omega arith)
