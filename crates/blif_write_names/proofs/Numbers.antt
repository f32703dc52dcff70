-- Decimal numbers and names: the digits as the code finds them, and the letters before them. Assumes nothing.
use mathlib.Core.Path.{◌≡◌, refl, sym, ◌∙◌, ap}
use mathlib.Core.Bool.{Bool, true, false}
use mathlib.Core.List.{[], ◌∷◌, ◌++◌, append_assoc}
use Prim.Native.Nat.{ℕ, zero, suc, ◌+◌, ◌^◌, ◌/◌, ◌%◌, ◌≤◌, ◌<◌}
use native.Mathlib.Omega.{arith}
use borrow.Author.Tests.{lt-ltb, le-ltb}
use Rattle.lists.specs.Lists.{Bytes, bytes}
use Rattle.lists.proofs.Tests.{by_order}
use Rattle.blif_writing.specs.Names.{decimal_before, decimal, suffix}
use Rattle.blif_write_names.specs.Between.Text.{last_digit, four_of, leading, Appended}
use Rattle.blif_write_names.proofs.Laws.{and-append, as-text}

-- the two cases of `decimal_before`
abbrev pick : ℕ → ℕ → Bytes → Bool → Bytes
pick f n s b = elim b as (λ (x : Bool). Bytes) [ true ↦ (48 + n) ∷ s | false ↦ decimal_before f (n / 10) ((48 + n % 10) ∷ s) ]

-- a last digit, and the digits before it
last-digit : (f n : ℕ) (s : Bytes) → n < 10 → decimal_before (suc f) n s ≡ (48 + n) ∷ s
last-digit f n s h = ap (pick f n s) (lt-ltb n 10 h)

next-digit : (f n : ℕ) (s : Bytes) → 10 ≤ n → decimal_before (suc f) n s ≡ decimal_before f (n / 10) ((48 + n % 10) ∷ s)
next-digit f n s h = ap (pick f n s) (le-ltb n 10 h)

-- enough room for the digits is enough
same-fuel : (f g n : ℕ) (s : Bytes) → n < f → n < g → decimal_before f n s ≡ decimal_before g n s
same-fuel zero g n s h k = absurd (omega arith)
same-fuel (suc f) zero n s h k = absurd (omega arith)
same-fuel (suc f) (suc g) n s h k =
    by_order 10 n
    (λ l. next-digit f n s l ∙ same-fuel f g (n / 10) ((48 + n % 10) ∷ s) (omega arith) (omega arith) ∙ sym (next-digit g n s l))
    (λ l. last-digit f n s l ∙ sym (last-digit g n s l))

-- digits before a text are digits with the text behind them
digits-before : (f n : ℕ) (s t : Bytes) → decimal_before f n (s ++ t) ≡ decimal_before f n s ++ t
digits-before zero n s t = refl
digits-before (suc f) n s t =
    by_order 10 n
    (λ l. next-digit f n (s ++ t) l ∙ digits-before f (n / 10) ((48 + n % 10) ∷ s) t ∙ sym (ap (λ (u : Bytes). u ++ t) (next-digit f n s l)))
    (λ l. last-digit f n (s ++ t) l ∙ sym (ap (λ (u : Bytes). u ++ t) (last-digit f n s l)))

tens-first : (n : ℕ) (s : Bytes) → 10 ≤ n → decimal n s ≡ decimal (n / 10) ((48 + n % 10) ∷ s)
tens-first n s h = next-digit n n s h ∙ same-fuel n (suc (n / 10)) (n / 10) ((48 + n % 10) ∷ s) (omega arith) (omega arith)

pub decimal-then : (n : ℕ) (s : Bytes) → decimal n [] ++ s ≡ decimal n s
decimal-then n s = sym (digits-before (suc n) n [] s)

one-digit : (n : ℕ) → n < 10 → (48 + n % 10) ∷ [] ≡ decimal n []
one-digit n h =
    let e : n % 10 ≡ n = omega arith in
    ap (λ (k : ℕ). (48 + k) ∷ []) e ∙ sym (last-digit n n [] h)

more-digits : (n : ℕ) → 10 ≤ n → decimal (n / 10) [] ++ ((48 + n % 10) ∷ []) ≡ decimal n []
more-digits n h = decimal-then (n / 10) ((48 + n % 10) ∷ []) ∙ sym (tens-first n [] h)

-- ---- digit by digit

pub digit-none : (n : ℕ) → n ≡ 0 → [] ≡ last_digit n
digit-none n e = ap last_digit (sym e)

pub leading-none : (n : ℕ) → n ≡ 0 → [] ≡ leading n
leading-none n e = ap leading (sym e)

leading-some : (n : ℕ) → 1 ≤ n → leading n ≡ decimal n []
leading-some zero h = absurd (omega arith)
leading-some (suc n) h = refl

-- the last digit behind the others
all_digits : (n : ℕ) → leading (n / 10) ++ ((48 + n % 10) ∷ []) ≡ decimal n []
all_digits n =
    by_order 10 n
    (λ l. ap (λ (t : Bytes). t ++ ((48 + n % 10) ∷ [])) (leading-some (n / 10) (omega arith)) ∙ more-digits n l)
    (λ l. ap (λ (t : Bytes). t ++ ((48 + n % 10) ∷ [])) (sym (leading-none (n / 10) (omega arith))) ∙ one-digit n l)

leading-next : (n : ℕ) → leading (n / 10) ++ last_digit n ≡ leading n
leading-next zero = refl
leading-next (suc n) = all_digits (suc n)

-- ---- four digits at a time

to-left : (t a b c d : Bytes) → t ++ (((a ++ b) ++ c) ++ d) ≡ (((t ++ a) ++ b) ++ c) ++ d
to-left t a b c d = simp append_assoc

four-next : (n : ℕ) → leading (n / 10000) ++ four_of n ≡ leading n
four-next n =
    let a : Bytes = last_digit (n / 1000) in
    let b : Bytes = last_digit (n / 100) in
    let c : Bytes = last_digit (n / 10) in
    let d : Bytes = last_digit n in
    let e₁ : n / 10000 ≡ n / 1000 / 10 = omega arith in
    let e₂ : n / 1000 ≡ n / 100 / 10 = omega arith in
    let e₃ : n / 100 ≡ n / 10 / 10 = omega arith in
    to-left (leading (n / 10000)) a b c d
    ∙ ap (λ (t : Bytes). ((t ++ b) ++ c) ++ d) (ap (λ (k : ℕ). leading k ++ a) e₁ ∙ leading-next (n / 1000))
    ∙ ap (λ (t : Bytes). (t ++ c) ++ d) (ap (λ (k : ℕ). leading k ++ b) e₂ ∙ leading-next (n / 100))
    ∙ ap (λ (t : Bytes). t ++ d) (ap (λ (k : ℕ). leading k ++ c) e₃ ∙ leading-next (n / 10))
    ∙ leading-next n

-- the digits as the code writes them: those before the last four, and all
module _ (n : ℕ) {o p q : Bytes} {a b r : ℕ} where
  pub upper_digits : n < 2 ^ 32 → Appended (four_of (n / 100000000)) o a p b → Appended (four_of (n / 10000)) p b q r
      → Appended (leading (n / 10000)) o a q r
  upper_digits h v w =
      let e : n / 100000000 / 10000 ≡ 0 = omega arith in
      let f : n / 100000000 ≡ n / 10000 / 10000 = omega arith in
      let u : four_of (n / 100000000) ≡ leading (n / 100000000) =
      ap (λ (t : Bytes). t ++ four_of (n / 100000000)) (leading-none (n / 100000000 / 10000) e) ∙ four-next (n / 100000000) in
      as-text (ap (λ (k : ℕ). leading k ++ four_of (n / 10000)) f ∙ four-next (n / 10000)) (and-append (as-text u v) w)

  pub number_digits : 1 ≤ n → Appended (leading (n / 10000)) o a p b → Appended (four_of n) p b q r → Appended (decimal n []) o a q r
  number_digits h v w = as-text (four-next n ∙ leading-some n h) (and-append v w)

-- ---- names

-- a letter and a number, with `_n` behind them if inverted
pub invert-name : (l n : ℕ) (v : Bool) → v ≡ true → (l ∷ decimal n []) ++ bytes "_n" ≡ l ∷ decimal n (suffix v)
invert-name l n v e = ap (λ (s : Bytes). l ∷ s) (decimal-then n (bytes "_n") ∙ ap (λ (b : Bool). decimal n (suffix b)) (sym e))

pub plain-name : (l n : ℕ) (v : Bool) → v ≡ false → l ∷ decimal n [] ≡ l ∷ decimal n (suffix v)
plain-name l n v e = ap (λ (b : Bool). l ∷ decimal n (suffix b)) (sym e)
