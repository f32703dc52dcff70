-- What forms make of bits, beside document 01's sentences: counts of ones, gates of no inputs, the multiplexer. Assumes nothing.
use mathlib.Core.Path.{◌≡◌, refl, sym, ap, ◌∙◌}
use mathlib.Core.Bool.{Bool, true, false, not, ◌&&◌, cond}
use mathlib.Core.List.{List, [], ◌∷◌}
use Prim.Native.Nat.{ℕ, suc, ◌%◌}
use native.Mathlib.Omega.{arith}
use lib.Dec.{eqb, leb, leb-suc-suc}
use borrow.Author.Tests.{eq-eqb, ne_eqb, le-leb, eqb-true, eqb-false}
use Rattle.lists.proofs.Tests.{by-test}
use Rattle.gates.specs.Gate.{Maj3, Mux3, AndN, OrN, NandN, NorN, XorN, XnorN, any_of, form_bit}
use Rattle.gates.specs.Between.Gate.{ones}

any-is : (bs : List Bool) → any_of bs ≡ leb 1 (ones bs)
any-is [] = refl
any-is (true ∷ bs) = sym (le-leb 1 (suc (ones bs)) (omega arith))
any-is (false ∷ bs) = any-is bs

-- "Maj wants two ones or more"
pub maj-is : (bs : List Bool) → form_bit Maj3 bs ≡ leb 2 (ones bs)
maj-is [] = refl
maj-is (true ∷ bs) = any-is bs ∙ sym (leb-suc-suc 1 (ones bs))
maj-is (false ∷ bs) = maj-is bs

-- "Xor an odd number": of every width
pub xor_is : (bs : List Bool) → form_bit XorN bs ≡ eqb (ones bs % 2) 1
xor_is [] = refl
xor_is (true ∷ bs) = ap not (xor_is bs) ∙ turn (ones bs)
  where
    turn : (n : ℕ) → not (eqb (n % 2) 1) ≡ eqb (suc n % 2) 1
    turn n =
        by-test (eqb (n % 2) 1)
        (λ t. ap not t ∙ sym (ne_eqb (suc n % 2) 1 (λ e. omega (arith, eqb-true (n % 2) 1 t))))
        (λ t. ap not t ∙ sym (eq-eqb (suc n % 2) 1 (odd-next n (eqb-false (n % 2) 1 t))))
      where
        odd-next : (m : ℕ) → (m % 2 ≡ 1 → ⊥) → suc m % 2 ≡ 1
        odd-next m f = omega arith
xor_is (false ∷ bs) = xor_is bs

-- "Xnor an even one"
pub xnor-is : (bs : List Bool) → form_bit XnorN bs ≡ not (eqb (ones bs % 2) 1)
xnor-is bs = ap not (xor_is bs)

-- "Mux is first ? second : third"
pub mux-is : (a b c : Bool) → form_bit Mux3 (a ∷ b ∷ c ∷ []) ≡ cond a b c
mux-is a b c = refl

-- "And, Nor and Xnor of nothing are one; Or, Nand and Xor of nothing are zero"
pub of-nothing : (form_bit AndN [] && form_bit NorN [] && form_bit XnorN [] && not (form_bit OrN []) && not (form_bit NandN []) && not (form_bit XorN [])) ≡ true
of-nothing = refl
