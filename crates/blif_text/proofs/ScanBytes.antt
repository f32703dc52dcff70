-- The bytes that end words, and where lines stop. Assumes nothing.
use mathlib.Core.Path.{◌≡◌, refl, sym, ap, ◌∙◌}
use mathlib.Core.Bool.{Bool, true, false, ◌||◌, true≢false}
use Prim.Native.Nat.{ℕ, ◌≤◌}
use native.Mathlib.Omega.{arith}
use lib.Dec.{eqb}
use lib.ListN.{length}
use borrow.Author.Tests.{ne_eqb}
use Rattle.lists.specs.Lists.{Bytes}
use Rattle.lists.proofs.Tests.{or-false, or_left, or_right}
use Rattle.blif_text.specs.Lines.{is_blank}
use Rattle.blif_text.specs.Between.Scan.{ends_word, StopTo, at-end, at-lf, at-cr}

-- ---- bytes

pub word_blank : (c : ℕ) → ends_word c ≡ false → is_blank c ≡ false
unfolding ends_word
word_blank c e = or_left (is_blank c) (eqb 35 c) e

pub word-plain : (c : ℕ) → ends_word c ≡ false → eqb 35 c ≡ false
unfolding ends_word
word-plain c e = or_right (is_blank c) (eqb 35 c) e

pub blank_of : (c : ℕ) → ends_word c ≡ true → eqb 35 c ≡ false → is_blank c ≡ true
unfolding ends_word
blank_of c e f = sym (or-false (is_blank c)) ∙ ap (λ (b : Bool). is_blank c || b) (sym f) ∙ e

lf-blank : is_blank 10 ≡ true
unfolding is_blank
lf-blank = refl

cr-blank : is_blank 13 ≡ true
unfolding is_blank
cr-blank = refl

pub backslash-word : is_blank 92 ≡ false
unfolding is_blank
backslash-word = refl

-- a blank is none of the bytes that are no blank
pub blank-not : (n c : ℕ) → is_blank n ≡ false → is_blank c ≡ true → eqb n c ≡ false
blank-not n c f e = ne_eqb n c (λ q. true≢false (sym e ∙ ap is_blank (sym q) ∙ f))

pub hash-word : is_blank 35 ≡ false
unfolding is_blank
hash-word = refl

-- what is no blank is none of the blanks
word-not : (n c : ℕ) → is_blank n ≡ true → is_blank c ≡ false → eqb n c ≡ false
word-not n c t f = ne_eqb n c (λ q. true≢false (sym t ∙ ap is_blank q ∙ f))

pub not-lf : (c : ℕ) → is_blank c ≡ false → eqb 10 c ≡ false
not-lf c f = word-not 10 c lf-blank f

pub not-cr : (c : ℕ) → is_blank c ≡ false → eqb 13 c ≡ false
not-cr c f = word-not 13 c cr-blank f

-- ---- stops

pub stop_le : (t : Bytes) (k next : ℕ) → StopTo t k next → k ≤ next
stop_le t k next (at-end l q) = omega arith
stop_le t k next (at-lf l e q) = omega arith
stop_le t k next (at-cr l e d q) = omega arith

pub stop-high : (t : Bytes) (k next : ℕ) → k ≤ length t → StopTo t k next → next ≤ length t
stop-high t k next h (at-end l q) = omega arith
stop-high t k next h (at-lf l e q) = omega arith
stop-high t k next h (at-cr l e d q) = omega arith
