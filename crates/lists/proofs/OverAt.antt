-- A list laid over another from a cell on, and the stores that lay it. Assumes nothing.
use mathlib.Core.Path.{◌≡◌, refl, sym, ap, ap₂, ◌∙◌}
use mathlib.Core.List.{List, [], ◌∷◌, ◌++◌, append-nil}
use Prim.Native.Nat.{ℕ, zero, suc, ◌+◌, ◌-◌, ◌≤◌, ◌<◌}
use native.Mathlib.Omega.{arith}
use native.Mathlib.Nat.{suc-add, add-zero, zero-add, sub-zero}
use lib.ListN.{length, get_or, take, drop, set, length-take, length-drop, length-replicate, drop_of_length-le}
use lib.Seq.{drop-append_seam, take_all, take-add, get_or-take, get_or-drop}
use Rattle.lists.specs.Lists.{zeros, overwrite}
use Rattle.lists.specs.Between.Lists.{overwrite_at}
use Rattle.lists.proofs.Over.{length-overwrite, overwrite-is, take-overwrite}

pub length-overwrite_at : (k : ℕ) (t o : List ℕ) → length (overwrite_at k t o) ≡ length o
length-overwrite_at zero t o = length-overwrite t o
length-overwrite_at (suc k) t [] = refl
length-overwrite_at (suc k) t (y ∷ o) = ap suc (length-overwrite_at k t o)

-- nothing laid over it
pub overwrite_at-nil : (k : ℕ) (o : List ℕ) → overwrite_at k [] o ≡ o
overwrite_at-nil zero o = refl
overwrite_at-nil (suc k) [] = refl
overwrite_at-nil (suc k) (y ∷ o) = ap (λ (l : List ℕ). y ∷ l) (overwrite_at-nil k o)

-- the first element is a store
pub overwrite-first : (k x : ℕ) (t o : List ℕ) → overwrite_at k (x ∷ t) o ≡ overwrite_at (suc k) t (set o k x)
overwrite-first zero x t [] = refl
overwrite-first zero x t (y ∷ o) = refl
overwrite-first (suc k) x t [] = refl
overwrite-first (suc k) x t (y ∷ o) = ap (λ (l : List ℕ). y ∷ l) (overwrite-first k x t o)

-- two lists, one after the other
pub overwrite-append : (k : ℕ) (a t o : List ℕ) → overwrite_at k (a ++ t) o ≡ overwrite_at (k + length a) t (overwrite_at k a o)
overwrite-append k [] t o =
    let e : k ≡ k + 0 = omega arith in
    ap (λ (j : ℕ). overwrite_at j t o) e ∙ ap (overwrite_at (k + 0) t) (sym (overwrite_at-nil k o))
overwrite-append k (x ∷ a) t o =
    let e : suc k + length a ≡ k + suc (length a) = omega arith in
    overwrite-first k x (a ++ t) o ∙ overwrite-append (suc k) a t (set o k x) ∙ ap (λ (j : ℕ). overwrite_at j t (overwrite_at (suc k) a (set o k x))) e
    ∙ ap (overwrite_at (k + suc (length a)) t) (sym (overwrite-first k x a o))

-- one element more is one store more
store-next : (k : ℕ) (t o : List ℕ) (x : ℕ) → set (overwrite_at k t o) (k + length t) x ≡ overwrite_at k (t ++ x ∷ []) o
store-next k t o x =
    sym
    (overwrite-append k t (x ∷ []) o
    ∙ overwrite-first (k + length t) x [] (overwrite_at k t o)
    ∙ overwrite_at-nil (suc (k + length t)) (set (overwrite_at k t o) (k + length t) x))

-- so many cells are so many stores
pub overwrite-two : (k x y : ℕ) (o : List ℕ) → set (set o k x) (k + 1) y ≡ overwrite_at k (x ∷ y ∷ []) o
overwrite-two k x y o =
    ap (λ (p : List ℕ). set p (k + 1) y) (sym (overwrite-first k x [] o ∙ overwrite_at-nil (suc k) (set o k x))) ∙ store-next k (x ∷ []) o y

pub overwrite-three : (k x y z : ℕ) (o : List ℕ) → set (set (set o k x) (k + 1) y) (k + 2) z ≡ overwrite_at k (x ∷ y ∷ z ∷ []) o
overwrite-three k x y z o = ap (λ (p : List ℕ). set p (k + 2) z) (overwrite-two k x y o) ∙ store-next k (x ∷ y ∷ []) o z

pub overwrite-four : (k w x y z : ℕ) (o : List ℕ) → set (set (set (set o k w) (k + 1) x) (k + 2) y) (k + 3) z ≡ overwrite_at k (w ∷ x ∷ y ∷ z ∷ []) o
overwrite-four k w x y z o = ap (λ (p : List ℕ). set p (k + 3) z) (overwrite-three k w x y o) ∙ store-next k (w ∷ x ∷ y ∷ []) o z

-- ---- cells read back

-- a cell of it
pub overwrite_at-inside : (k : ℕ) (t o : List ℕ) (i d : ℕ) → i < length t → k + i < length o → get_or (overwrite_at k t o) (k + i) d ≡ get_or t i d
overwrite_at-inside zero [] o i d h l = absurd (omega arith)
overwrite_at-inside zero (x ∷ t) [] i d h l = absurd (omega arith)
overwrite_at-inside zero (x ∷ t) (y ∷ o) zero d h l = refl
overwrite_at-inside zero (x ∷ t) (y ∷ o) (suc i) d h l =
    let e : zero + suc i ≡ suc (zero + i) = omega arith in
    ap (λ (j : ℕ). get_or (x ∷ overwrite t o) j d) e ∙ overwrite_at-inside zero t o i d (omega arith) (omega arith)
overwrite_at-inside (suc k) t [] i d h l = absurd (omega arith)
overwrite_at-inside (suc k) t (y ∷ o) i d h l = rw (suc-add k i) (overwrite_at-inside k t o i d h (omega arith))

-- a run of cells before it
pub run-before : (k : ℕ) (t o : List ℕ) (a n : ℕ) → a + n ≤ k → take n (drop a (overwrite_at k t o)) ≡ take n (drop a o)
run-before k t o a zero h = refl
run-before zero t o a (suc n) h = absurd (omega arith)
run-before (suc k) t [] a (suc n) h = refl
run-before (suc k) t (y ∷ o) zero (suc n) h = ap (λ (l : List ℕ). y ∷ l) (run-before k t o zero n (omega arith))
run-before (suc k) t (y ∷ o) (suc a) (suc n) h = run-before k t o a (suc n) (omega arith)

-- the cells behind it
pub drop-behind : (k : ℕ) (t o : List ℕ) (a : ℕ) → k + length t ≤ a → drop a (overwrite_at k t o) ≡ drop a o
drop-behind zero [] o a h = refl
drop-behind zero (x ∷ t) [] a h = refl
drop-behind zero (x ∷ t) (y ∷ o) zero h = absurd (omega arith)
drop-behind zero (x ∷ t) (y ∷ o) (suc a) h = drop-behind zero t o a (omega arith)
drop-behind (suc k) t [] a h = refl
drop-behind (suc k) t (y ∷ o) zero h = absurd (omega arith)
drop-behind (suc k) t (y ∷ o) (suc a) h = drop-behind k t o a (omega arith)

-- a cell before it
pub overwrite_at-before : (k : ℕ) (t o : List ℕ) (j d : ℕ) → j < k → get_or (overwrite_at k t o) j d ≡ get_or o j d
overwrite_at-before k t o j d h =
    sym (get_or-take k (overwrite_at k t o) j d h) ∙ ap (λ (l : List ℕ). get_or l j d) (run-before k t o 0 k (omega arith)) ∙ get_or-take k o j d h

-- a cell behind it
pub overwrite_at-behind : (k : ℕ) (t o : List ℕ) (j d : ℕ) → k + length t ≤ j → get_or (overwrite_at k t o) j d ≡ get_or o j d
overwrite_at-behind k t o j d h = sym (get_d_front j (overwrite_at k t o) d) ∙ ap (λ (l : List ℕ). get_or l 0 d) (drop-behind k t o j h) ∙ get_d_front j o d
  where
    get_d_front : (n : ℕ) (l : List ℕ) (e : ℕ) → get_or (drop n l) 0 e ≡ get_or l n e
    get_d_front n l e = rw (get_or-drop, add-zero)

-- it can be read back
pub run-overwrite_at : (k : ℕ) (t o : List ℕ) → k + length t ≤ length o → take (length t) (drop k (overwrite_at k t o)) ≡ t
run-overwrite_at zero t o h = take-overwrite t o (omega arith)
run-overwrite_at (suc k) t [] h = absurd (omega arith)
run-overwrite_at (suc k) t (y ∷ o) h = run-overwrite_at k t o (omega arith)

-- the cells up to its end
pub take-overwrite_at : (k : ℕ) (t o : List ℕ) → k + length t ≤ length o → take (k + length t) (overwrite_at k t o) ≡ take k o ++ t
take-overwrite_at k t o h =
    take-add k (length t) (overwrite_at k t o) ∙ ap₂ (λ (x y : List ℕ). x ++ y) (run-before k t o 0 k (omega arith)) (run-overwrite_at k t o h)

-- the cells from k on, with a list laid over their front
pub overwrite_at-rest : (k : ℕ) (t o : List ℕ) → k ≤ length o → take k o ++ overwrite t (drop k o) ≡ overwrite_at k t o
overwrite_at-rest zero t o h = refl
overwrite_at-rest (suc k) t [] h = absurd (omega arith)
overwrite_at-rest (suc k) t (y ∷ o) h = ap (λ (l : List ℕ). y ∷ l) (overwrite_at-rest k t o (omega arith))

-- the cells from k on, lent as a part (`&mut o[k..]`)
pub part-is : (k : ℕ) (o : List ℕ) → take (length o - k) (drop k o) ≡ drop k o
part-is k o = take_all (length o - k) (drop k o) (omega (arith, length-drop k o))

-- and put back with other contents
pub part-back : (k : ℕ) (o q : List ℕ) → take k o ++ (q ++ drop (length o - k) (drop k o)) ≡ take k o ++ q
part-back k o q =
    let g : length (drop k o) ≤ length o - k = omega (arith, length-drop k o) in
    rw (drop_of_length-le (drop k o) g, append-nil q)

-- with a list laid over its front
pub part-laid : (k : ℕ) (t o : List ℕ) {q : List ℕ} → k ≤ length o → q ≡ overwrite t (take (length o - k) (drop k o))
    → take k o ++ (q ++ drop (length o - k) (drop k o)) ≡ overwrite_at k t o
part-laid k t o {q} h e = part-back k o q ∙ ap (λ (l : List ℕ). take k o ++ l) (e ∙ ap (overwrite t) (part-is k o)) ∙ overwrite_at-rest k t o h

-- ---- cells laid over part of what was laid

overwrite-inner₀ : (t r o : List ℕ) → length t ≤ length r → overwrite t (overwrite r o) ≡ overwrite (overwrite t r) o
overwrite-inner₀ [] r o h = refl
overwrite-inner₀ (x ∷ t) [] o h = absurd (omega arith)
overwrite-inner₀ (x ∷ t) (y ∷ r) [] h = refl
overwrite-inner₀ (x ∷ t) (y ∷ r) (z ∷ o) h = ap (λ (l : List ℕ). x ∷ l) (overwrite-inner₀ t r o (omega arith))

overwrite-inner₁ : (j : ℕ) (t r o : List ℕ) → j + length t ≤ length r → overwrite_at j t (overwrite r o) ≡ overwrite (overwrite_at j t r) o
overwrite-inner₁ zero t r o h = overwrite-inner₀ t r o (omega arith)
overwrite-inner₁ (suc j) t [] o h = absurd (omega arith)
overwrite-inner₁ (suc j) t (y ∷ r) [] h = refl
overwrite-inner₁ (suc j) t (y ∷ r) (z ∷ o) h = ap (λ (l : List ℕ). y ∷ l) (overwrite-inner₁ j t r o (omega arith))

pub overwrite-inner : (k j : ℕ) (t r o : List ℕ) → j + length t ≤ length r → overwrite_at (k + j) t (overwrite_at k r o) ≡ overwrite_at k (overwrite_at j t r) o
overwrite-inner zero j t r o h = rw (zero-add j) (overwrite-inner₁ j t r o h)
overwrite-inner (suc k) j t r [] h = rw (suc-add k j) refl
overwrite-inner (suc k) j t r (z ∷ o) h = rw (suc-add k j) (ap (λ (l : List ℕ). z ∷ l) (overwrite-inner k j t r o h))

-- what stands there, laid there again
pub overwrite_at-same : (k n : ℕ) (o : List ℕ) → overwrite_at k (take n (drop k o)) o ≡ o
overwrite_at-same zero zero o = refl
overwrite_at-same zero (suc n) [] = refl
overwrite_at-same zero (suc n) (y ∷ o) = ap (λ (l : List ℕ). y ∷ l) (overwrite_at-same zero n o)
overwrite_at-same (suc k) n [] = refl
overwrite_at-same (suc k) n (y ∷ o) = ap (λ (l : List ℕ). y ∷ l) (overwrite_at-same k n o)

-- a longer list laid over a shorter one
overwrite-again : (t r o : List ℕ) → length r ≤ length t → overwrite t (overwrite r o) ≡ overwrite t o
overwrite-again [] [] o h = refl
overwrite-again [] (y ∷ r) o h = absurd (omega arith)
overwrite-again (x ∷ t) [] o h = refl
overwrite-again (x ∷ t) (y ∷ r) [] h = refl
overwrite-again (x ∷ t) (y ∷ r) (z ∷ o) h = ap (λ (l : List ℕ). x ∷ l) (overwrite-again t r o (omega arith))

pub overwrite_at-again : (k : ℕ) (t r o : List ℕ) → length r ≤ length t → overwrite_at k t (overwrite_at k r o) ≡ overwrite_at k t o
overwrite_at-again zero t r o h = overwrite-again t r o h
overwrite_at-again (suc k) t r [] h = refl
overwrite_at-again (suc k) t r (z ∷ o) h = ap (λ (l : List ℕ). z ∷ l) (overwrite_at-again k t r o h)

-- ---- zeros behind a text

drop-zeros : (k n : ℕ) → drop k (zeros n) ≡ zeros (n - k)
drop-zeros zero n = ap zeros (sym (sub-zero n))
drop-zeros (suc k) zero = ap zeros (let e : 0 ≡ 0 - suc k = omega arith in e)
drop-zeros (suc k) (suc n) = drop-zeros k n ∙ ap zeros (let e : n - k ≡ suc n - suc k = omega arith in e)

-- behind a text laid over zeros there are zeros
pub drop-overwrite-zeros : (t : List ℕ) (n : ℕ) → length t ≤ n → drop (length t) (overwrite t (zeros n)) ≡ zeros (n - length t)
drop-overwrite-zeros t n h =
    ap (drop (length t)) (overwrite-is t (zeros n) (omega (arith, length-replicate {A = ℕ} n 0)))
    ∙ drop-append_seam t (drop (length t) (zeros n))
    ∙ drop-zeros (length t) n

-- a slice p whose first `end` elements are t, and zeros in the part behind them
pub zeros-behind : {t z : List ℕ} {n : ℕ} (p : List ℕ) (end : ℕ) → take end p ≡ t → length t ≡ end → length p ≡ n → z ≡ zeros (length (take (length p - end) (drop end p)))
    → take end p ++ (z ++ drop (length p - end) (drop end p)) ≡ overwrite t (zeros n)
zeros-behind {t} {z} {n} p end is l m e =
    let within : end ≤ length p = omega (arith, ap length is, length-take end p) in
    let k : length (take (length p - end) (drop end p)) ≡ n - length t = ap length (part-is end p) ∙ length-drop end p ∙ omega arith in
    part-back end p z
    ∙ ap₂ (λ (a b : List ℕ). a ++ b) is (e ∙ ap zeros k ∙ sym (drop-zeros (length t) n))
    ∙ sym (overwrite-is t (zeros n) (omega (arith, length-replicate {A = ℕ} n 0)))
