-- What follows where no refusal comes of several. Assumes nothing.
use Rattle.std.specs.Prelude.{⊤, Result, Ok, Err, Option, Some, None, ok_or}
use mathlib.Core.Path.{◌≡◌, refl, sym, ap}
use mathlib.Core.Bool.{Bool, true, false}
use Prim.Native.Nat.{ℕ}
use native.Mathlib.Omega.{arith}
use Rattle.refusals.specs.Order.{◌or_else◌, refuse_if, fine}
use Rattle.refusals.specs.declared.Refusal.{Refusal}

-- a refusal is not nothing
pub refused-ne-fine : {r : Refusal} → Err r ≡ fine → ⊥
refused-ne-fine e = let z : ◌≡◌ {A = ℕ} 0 1 = cc in omega arith

-- the first refuses nothing
pub or_else-left : (a b : Result ⊤ Refusal) → (a or_else b) ≡ fine → a ≡ fine
unfolding ◌or_else◌
or_else-left (Ok _) b e = refl
or_else-left (Err r) b e = e

-- nor does the second
pub or_else-right : (a b : Result ⊤ Refusal) → (a or_else b) ≡ fine → b ≡ fine
unfolding ◌or_else◌
or_else-right (Ok _) b e = e
or_else-right (Err r) b e = absurd (refused-ne-fine e)

-- where a test refuses nothing it does not hold
pub fine-refuse_if : (c : Bool) (r : Refusal) → refuse_if c r ≡ fine → c ≡ false
unfolding refuse_if
fine-refuse_if true r e = absurd (refused-ne-fine e)
fine-refuse_if false r e = refl

-- a test that holds refuses
pub refuse_if-yes : {c : Bool} (r : Refusal) → c ≡ true → Err r ≡ refuse_if c r
unfolding refuse_if
refuse_if-yes r e = sym (ap (λ (b : Bool). refuse_if b r) e)

-- one that does not refuses nothing
pub refuse_if-no : {c : Bool} (r : Refusal) → c ≡ false → fine ≡ refuse_if c r
unfolding refuse_if
refuse_if-no r e = sym (ap (λ (b : Bool). refuse_if b r) e)

-- a refusal comes before all others
pub or_else-stop : {a : Result ⊤ Refusal} (b : Result ⊤ Refusal) {r : Refusal} → a ≡ Err r → (a or_else b) ≡ Err r
unfolding ◌or_else◌
or_else-stop b e = rw e

-- where there is none the others count
pub or_else-go : {a b : Result ⊤ Refusal} → a ≡ fine → (a or_else b) ≡ b
unfolding ◌or_else◌
or_else-go e = rw e

-- of three the first counts, however they are grouped
pub or_else-assoc : (a b c : Result ⊤ Refusal) → ((a or_else b) or_else c) ≡ (a or_else (b or_else c))
unfolding ◌or_else◌
or_else-assoc (Ok _) b c = refl
or_else-assoc (Err r) b c = refl

-- nothing behind it changes a refusal, nor where there is none
pub or_else-fine : (a : Result ⊤ Refusal) → (a or_else fine) ≡ a
unfolding ◌or_else◌
or_else-fine (Ok _) = refl
or_else-fine (Err r) = refl

-- ---- an answer that may be missing, where its lack is refused

-- a refusal where it is missing
pub missing-is : {A : Type 0} (o : Option A) (d : Refusal) {e : Refusal} → ok_or o d ≡ Err e → (o ≡ None) × (e ≡ d)
missing-is None d {e = e} q = (refl, (let r : d ≡ e = cc in sym r))
missing-is (Some x) d q = absurd (let z : ◌≡◌ {A = ℕ} 0 1 = cc in omega arith)

-- the answer where it is there
pub found-is : {A : Type 0} (o : Option A) (d : Refusal) {x : A} → ok_or o d ≡ Ok x → o ≡ Some x
found-is None d q = absurd (let z : ◌≡◌ {A = ℕ} 0 1 = cc in omega arith)
found-is (Some y) d {x = x} q = let r : y ≡ x = cc in ap Some r
