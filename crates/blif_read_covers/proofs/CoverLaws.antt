-- A cover's refusal by its lines: before the first, and behind the last. Assumes nothing.
use mathlib.Core.Path.{◌≡◌, refl, ap, ◌∙◌}
use mathlib.Core.Bool.{Bool, true, false, ◌&&◌, ◌||◌, not}
use mathlib.Core.List.{List, []}
use Prim.Native.Nat.{ℕ, zero, suc, ◌+◌, ◌-◌, ◌≤◌, ◌<◌}
use native.Mathlib.Omega.{arith}
use lib.ListN.{length, take, length-map}
use lib.Seq.{slice, length-slice}
use Rattle.lists.specs.Lists.{all, any}
use Rattle.refusals.specs.Order.{◌or_else◌, refuse_if}
use Rattle.refusals.specs.declared.Refusal.TheVariants as refusal
use Rattle.blif_text.specs.Between.Places.{token_of, tokens_of}
use Rattle.blif_text.specs.Between.Walk.{rows_from}
use Rattle.blif_text.specs.Decls.{is_one}
use Rattle.blif_text.specs.Between.Blocks.{def_from}
use Rattle.blif_reading.specs.Read.{good_line, cover_fault}
use Rattle.blif_read_covers.proofs.LineLaws.{lines_fault}
use Rattle.blif_read_covers.specs.Between.Pass.{differ, lines_in}
use Rattle.blif_read_covers.specs.declared.Outputs.{Outputs}

-- no output yet
abbrev pub no_output : Outputs
no_output = record { zero = false; one = false }

-- the refusal of a block's definition is that of its lines
pub block-fault : (text tokens : List ℕ) (n first names lines : ℕ) → first + names ≤ length tokens
    → cover_fault (def_from text tokens n first names lines) ≡ lines_fault (names - 1) no_output (take (lines_in names lines) (rows_from text tokens n (first + names)))
unfolding cover_fault ◌or_else◌ refuse_if
block-fault text tokens n first zero lines h = refl
block-fault text tokens n first (suc k) lines h =
    let ls = take lines (rows_from text tokens n (first + suc k)) in
    let cs = slice first (first + suc k) tokens in
    let e : length (tokens_of text cs) - 1 ≡ k = omega (arith, length-map cs (token_of text), length-slice first (first + suc k) tokens h) in
    let p : k ≡ suc k - 1 = omega arith in
    ap (λ (w : ℕ). refuse_if (not (all (good_line w) ls)) refusal.WrongCubeLine or_else refuse_if (any is_one ls && not (all is_one ls)) refusal.OutputsDiffer) (e ∙ p)

-- a latch has no line
pub latch-none : (names lines : ℕ) → 0 < lines_in names lines → 0 < names
latch-none zero lines h = absurd (omega arith)
latch-none (suc k) lines h = omega arith

-- a cover has those that its record counts
pub cover-lines : (names lines : ℕ) → 0 < names → lines_in names lines ≡ lines
cover-lines zero lines h = absurd (omega arith)
cover-lines (suc k) lines h = refl

-- where no line is left, the outputs decide
pub none_left : (w : ℕ) (met : Outputs) → lines_fault w met [] ≡ refuse_if (differ met) refusal.OutputsDiffer
unfolding ◌or_else◌ refuse_if
none_left w met = ap (λ (b : Bool). refuse_if b refusal.OutputsDiffer) (both met.one met.zero)
  where
    both : (a b : Bool) → ((a || false) && (b || false)) ≡ (b && a)
    both true true = refl
    both true false = refl
    both false true = refl
    both false false = refl
