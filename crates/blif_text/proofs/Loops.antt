-- One step of each scanning loop. Assumes nothing.
use mathlib.Core.Path.{◌≡◌, ap, ◌∙◌, subst}
use mathlib.Core.Bool.{Bool, false}
use mathlib.Core.List.{List}
use Prim.Native.Nat.{ℕ, ◌+◌, ◌-◌, ◌≤◌, ◌<◌}
use native.Mathlib.Omega.{arith}
use lib.ListN.{length, get_or, take, drop}
use lib.Seq.{get_or-take, get_or-drop}
use Rattle.lists.specs.Lists.{Bytes, any}
use Rattle.lists.proofs.Places.{length_run, place-mem, place-get_or}
use Rattle.lists.proofs.Range.{any_none}
use Rattle.lists.proofs.Tests.{by_order}
use Rattle.blif_text.specs.Between.Scan.{NoneTo}

-- where none passes, no element does
none_passes : (p : ℕ → Bool) (l : List ℕ) → any p l ≡ false → (k : ℕ) → k < length l → p (get_or l k 0) ≡ false
none_passes p l e k h = any_none p l e (get_or l k 0) (place-mem l k (get_or l k 0) (place-get_or 0 l k h))

-- ---- words, lines and rows: bytes that fail a test so far

pub none-start : (p : ℕ → Bool) {t : Bytes} {at : ℕ} → at ≤ length t → NoneTo p t at at
none-start p h = record { low = omega arith; high = h; none = λ k a b. absurd (omega arith) }

module _ {p : ℕ → Bool} {t : Bytes} {at i : ℕ} (c : NoneTo p t at i) where
  pub none-next : i < length t → p (get_or t i 0) ≡ false → NoneTo p t at (i + 1)
  none-next h e =
      record {
        low = omega (arith, c.low);
        high = omega arith;
        none = λ k a b. by_order i k (λ m. let q : i ≡ k = omega arith in subst (λ (j : ℕ). p (get_or t j 0) ≡ false) q e) (λ m. c.none k a m);
      }

  -- a block in which none passes
  pub none-block : (n : ℕ) → i + n ≤ length t → any p (take (i + n - i) (drop i t)) ≡ false → NoneTo p t at (i + n)
  none-block n h e =
      let m : i + n - i ≡ n = omega arith in
      let f : any p (take n (drop i t)) ≡ false = subst (λ (j : ℕ). any p (take j (drop i t)) ≡ false) m e in
      record {
        low = omega (arith, c.low);
        high = h;
        none = λ k a b.
            by_order i k
            (λ o.
            let j : ℕ = k - i in
            let q : i + j ≡ k = omega arith in
            let z : j < length (take n (drop i t)) = rw (length_run i n t h) (omega arith) in
            subst (λ (x : ℕ). p x ≡ false) (get_or-take n (drop i t) j 0 (omega arith) ∙ get_or-drop i t j 0 ∙ ap (λ (x : ℕ). get_or t x 0) q) (none_passes p (take n (drop i t)) f j z))
            (λ o. c.none k a o);
      }

-- two stretches, one after the other
pub none-join : {p : ℕ → Bool} {t : Bytes} {a i e : ℕ} → NoneTo p t a i → NoneTo p t i e → NoneTo p t a e
none-join {i = i} c d =
    record { low = omega (arith, c.low, d.low); high = d.high; none = λ k x y. by_order i k (λ o. d.none k o y) (λ o. c.none k x o) }

-- by a test that what fails the first one fails too
pub none-as : {p q : ℕ → Bool} {t : Bytes} {a e : ℕ} → ((c : ℕ) → p c ≡ false → q c ≡ false) → NoneTo p t a e → NoneTo q t a e
none-as {t = t} f c = record { low = c.low; high = c.high; none = λ k x y. f (get_or t k 0) (c.none k x y) }
