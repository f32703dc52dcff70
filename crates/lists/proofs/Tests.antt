-- Tests: a number is at most another or above it, a Bool is true or false, and a conjunction holds where both sides do. Assumes nothing.
use mathlib.Core.Path.{◌≡◌, refl, subst}
use mathlib.Core.Bool.{Bool, true, false, ◌&&◌, ◌||◌, true≢false, false≢true}
use Prim.Native.Nat.{ℕ, ◌+◌, ◌≤◌, ◌<◌}
use native.Mathlib.Omega.{arith}
use native.Mathlib.Decide.{dec_le}
use native.Mathlib.Nat.{lt_of_not-le}

-- by the two orders
pub by_order {ℓ} : {X : Type ℓ} (a b : ℕ) → (a ≤ b → X) → (b < a → X) → X
by_order a b f g = elim (dec_le a b) [ yes h ↦ f h | no h ↦ g (lt_of_not-le h) ]

-- what holds below g and of g holds below g + 1
pub below_next : (P : ℕ → Type 0) (g : ℕ) → ((j : ℕ) → j < g → P j) → P g → (j : ℕ) → j < g + 1 → P j
below_next P g h e j l = by_order g j (λ o. let q : g ≡ j = omega arith in subst P q e) (h j)

-- what holds of g and from g + 1 on holds from g on
pub from_next : (P : ℕ → Type 0) (g : ℕ) → P g → ((j : ℕ) → g + 1 ≤ j → P j) → (j : ℕ) → g ≤ j → P j
from_next P g e h j l = by_order (g + 1) j (h j) (λ o. let q : g ≡ j = omega arith in subst P q e)

-- by the two values of a test
pub by-test {ℓ} : {X : Type ℓ} (b : Bool) → (b ≡ true → X) → (b ≡ false → X) → X
by-test true f g = f refl
by-test false f g = g refl

pub and_both : (a b : Bool) → a ≡ true → b ≡ true → (a && b) ≡ true
and_both true b p q = q
and_both false b p q = p

pub and_left : (a b : Bool) → (a && b) ≡ true → a ≡ true
and_left true b p = refl
and_left false b p = p

pub and_right : (a b : Bool) → (a && b) ≡ true → b ≡ true
and_right true b p = p
and_right false b p = absurd (false≢true p)

pub and-false : (b : Bool) → (b && false) ≡ false
and-false true = refl
and-false false = refl

pub and-true : (b : Bool) → (b && true) ≡ b
and-true true = refl
and-true false = refl

pub or-false : (a : Bool) → (a || false) ≡ a
or-false true = refl
or-false false = refl

-- neither side of a disjunction that fails holds
pub or_left : (a b : Bool) → (a || b) ≡ false → a ≡ false
or_left true b e = e
or_left false b e = refl

pub or_right : (a b : Bool) → (a || b) ≡ false → b ≡ false
or_right true b e = absurd (true≢false e)
or_right false b e = e
