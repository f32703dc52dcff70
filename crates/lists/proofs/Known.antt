-- A name is known where it stands in the list. Assumes nothing.
use mathlib.Core.Path.{◌≡◌, refl, sym, ap, ◌∙◌}
use mathlib.Core.Bool.{Bool, true, false, ◌||◌, false≢true, true≢false, or-true}
use mathlib.Core.List.{List, [], ◌∷◌, Memᴰ}
use Rattle.lists.specs.Lists.{Bytes, same, any, known}
use Rattle.lists.proofs.Same.{same_refl, same-is}
use Rattle.lists.proofs.Tests.{by-test}

pub known-mem : (x : Bytes) (ys : List Bytes) → known x ys ≡ true → Memᴰ x ys
known-mem x [] e = absurd (false≢true e)
known-mem x (y ∷ ys) e = go (same x y) refl e (known-mem x ys)
  where
    go : (t : Bool) → same x y ≡ t → (t || any (same x) ys) ≡ true → (any (same x) ys ≡ true → Memᴰ x ys) → Memᴰ x (y ∷ ys)
    go true p q ih = Memᴰ.head (same-is x y p)
    go false p q ih = Memᴰ.tail (ih q)

pub mem-known : (x : Bytes) (ys : List Bytes) → Memᴰ x ys → known x ys ≡ true
mem-known x _ (Memᴰ.head {x = y} {xs = ys} e) = ap (λ (t : Bool). t || any (same x) ys) (ap (same x) (sym e) ∙ same_refl x)
mem-known x _ (Memᴰ.tail {x = y} {xs = ys} m) = ap (λ (t : Bool). same x y || t) (mem-known x ys m) ∙ or-true (same x y)

pub unknown-out : (x : Bytes) (ys : List Bytes) → known x ys ≡ false → Memᴰ x ys → ⊥
unknown-out x ys e m = true≢false (sym (mem-known x ys m) ∙ e)

pub out-unknown : (x : Bytes) (ys : List Bytes) → (Memᴰ x ys → ⊥) → known x ys ≡ false
out-unknown x ys h = by-test (known x ys) (λ t. absurd (h (known-mem x ys t))) (λ t. t)
