-- Each form's cover lines mean what the form makes of its bits. Assumes nothing.
use mathlib.Core.Path.{◌≡◌, refl, ap, ◌∙◌, subst}
use mathlib.Core.List.{List, [], ◌∷◌, map, Memᴰ}
use mathlib.Core.Bool.{Bool, true, false, not, ◌&&◌, ◌||◌, cond, or-false, not-not, false≢true}
use Prim.Native.Nat.{ℕ}
use lib.Dec.{eqb}
use lib.ListN.{length, replicate}
use borrow.Author.Tests.{eqb-true}
use Rattle.lists.specs.Lists.{all}
use Rattle.lists.proofs.Places.{place-mem}
use Rattle.lists.proofs.Range.{all-mem}
use Rattle.signal.specs.Signal.{invert_if}
use Rattle.gates.specs.Gate.{all_of, any_of, odd, form_bit, Form, And2, Xor2, And3, Xor3, Maj3, Mux3, AndN, OrN, NandN, NorN, XorN, XnorN, Buf}
use Rattle.gates.specs.Forms.{can_have}
use Rattle.blif_meaning.specs.Model.{C0, C1, Line, cube_bit, cubes_bit, cover_bit}
use Rattle.blif_writing.specs.WrittenModel.{cover_row, doubled, masks, col_of, minterms, even, lines_of}

-- ones of n: all are one
ones-row : (bs : List Bool) → cube_bit (replicate (length bs) C1) bs ≡ all_of bs
ones-row [] = refl
ones-row (b ∷ bs) = ap (λ (x : Bool). b && x) (ones-row bs)

not-or : (a b : Bool) → not a && not b ≡ not (a || b)
not-or true b = refl
not-or false b = refl

zeros-row : (bs : List Bool) → cube_bit (replicate (length bs) C0) bs ≡ not (any_of bs)
zeros-row [] = refl
zeros-row (b ∷ bs) = ap (λ (x : Bool). not b && x) (zeros-row bs) ∙ not-or b (any_of bs)

-- ---- masks

-- two masks of one more column: only the one with the bit's own column can hold
module _ (v : List Bool) (R S : List Line) (bs : List Bool) where
  two-masks : (b x y : Bool) → cubes_bit R (b ∷ bs) ≡ cubes_bit S bs
      → cubes_bit (cond x (cover_row true (C0 ∷ map col_of v) ∷ cond y (cover_row true (C1 ∷ map col_of v) ∷ R) R) (cond y (cover_row true (C1 ∷ map col_of v) ∷ R) R)) (b ∷ bs)
      ≡ cubes_bit (cond (cond b y x) (cover_row true (map col_of v) ∷ S) S) bs
  two-masks false false false ih = ih
  two-masks false false true ih = ih
  two-masks false true false ih = ap (λ (z : Bool). cube_bit (map col_of v) bs || z) ih
  two-masks false true true ih = ap (λ (z : Bool). cube_bit (map col_of v) bs || z) ih
  two-masks true false false ih = ih
  two-masks true false true ih = ap (λ (z : Bool). cube_bit (map col_of v) bs || z) ih
  two-masks true true false ih = ih
  two-masks true true true ih = ap (λ (z : Bool). cube_bit (map col_of v) bs || z) ih

doubled-bit : (f : List Bool → Bool) (vs : List (List Bool)) (b : Bool) (bs : List Bool) → cubes_bit (minterms f (doubled vs)) (b ∷ bs) ≡ cubes_bit (minterms (λ (v : List Bool). f (b ∷ v)) vs) bs
doubled-bit f [] b bs = refl
doubled-bit f (v ∷ vs) b bs =
    two-masks v (minterms f (doubled vs)) (minterms (λ (u : List Bool). f (b ∷ u)) vs) bs b (f (false ∷ v)) (f (true ∷ v)) (doubled-bit f vs b bs)
    ∙ ap (λ (c : Bool). cubes_bit (cond c (cover_row true (map col_of v) ∷ minterms (λ (u : List Bool). f (b ∷ u)) vs) (minterms (λ (u : List Bool). f (b ∷ u)) vs)) bs) (pick b)
  where
    pick : (b : Bool) → cond b (f (true ∷ v)) (f (false ∷ v)) ≡ f (b ∷ v)
    pick true = refl
    pick false = refl

one-mask : (c : Bool) → cubes_bit (cond c (cover_row true [] ∷ []) []) [] ≡ c
one-mask true = refl
one-mask false = refl

-- the lines at which f is one mean f
pub minterms-bit : (f : List Bool → Bool) (bs : List Bool) → cubes_bit (minterms f (masks (length bs))) bs ≡ f bs
minterms-bit f [] = one-mask (f [])
minterms-bit f (b ∷ bs) = doubled-bit f (masks (length bs)) b bs ∙ minterms-bit (λ (v : List Bool). f (b ∷ v)) bs

-- the lines have output 1
on-set : (f : List Bool → Bool) (vs : List (List Bool)) (bs : List Bool) → cover_bit (minterms f vs) bs ≡ cubes_bit (minterms f vs) bs
on-set f [] bs = refl
on-set f (v ∷ vs) bs = go (f v) (on-set f vs bs)
  where
    go : (c : Bool) → cover_bit (minterms f vs) bs ≡ cubes_bit (minterms f vs) bs → cover_bit (cond c (cover_row true (map col_of v) ∷ minterms f vs) (minterms f vs)) bs ≡ cubes_bit (cond c (cover_row true (map col_of v) ∷ minterms f vs) (minterms f vs)) bs
    go false ih = ih
    go true ih = refl

-- ---- the table of forms with a fixed pin count

doubled-mem : (b : Bool) (v : List Bool) (vs : List (List Bool)) → Memᴰ v vs → Memᴰ (b ∷ v) (doubled vs)
doubled-mem false v _ (Memᴰ.head e) = Memᴰ.head (ap (λ (w : List Bool). false ∷ w) e)
doubled-mem true v _ (Memᴰ.head e) = Memᴰ.tail (Memᴰ.head (ap (λ (w : List Bool). true ∷ w) e))
doubled-mem b v _ (Memᴰ.tail {xs = vs} m) = Memᴰ.tail (Memᴰ.tail (doubled-mem b v vs m))

-- the masks are all vectors of their length
pub mask-mem : (bs : List Bool) → Memᴰ bs (masks (length bs))
mask-mem [] = Memᴰ.head refl
mask-mem (b ∷ bs) = doubled-mem b bs (masks (length bs)) (mask-mem bs)

abbrev bit_same : Bool → Bool → Bool
bit_same a b = not (invert_if a b)

same_bit_lem : (a b : Bool) → bit_same a b ≡ true → a ≡ b
same_bit_lem true true e = refl
same_bit_lem true false e = absurd (false≢true e)
same_bit_lem false true e = absurd (false≢true e)
same_bit_lem false false e = refl

-- the lines of the form mean the form at these bits
abbrev means : Form → List Bool → Bool
means f bs = bit_same (cover_bit (lines_of f (length bs)) bs) (form_bit f bs)

-- every form that has just one pin count, with that count
abbrev fixed : List (Form × ℕ)
fixed = (And2, 2) ∷ (Xor2, 2) ∷ (And3, 3) ∷ (Xor3, 3) ∷ (Maj3, 3) ∷ (Mux3, 3) ∷ (Buf, 1) ∷ []

-- one computed test: every row of the table at every vector of its length
table-means : all (λ (r : Form × ℕ). all (means r.0) (masks r.1)) fixed ≡ true
table-means = refl

module _ (f : Form) (n : ℕ) (row : Memᴰ (f, n) fixed) where
  fixed-means : (bs : List Bool) → eqb (length bs) n ≡ true → cover_bit (lines_of f (length bs)) bs ≡ form_bit f bs
  fixed-means bs e =
      same_bit_lem (cover_bit (lines_of f (length bs)) bs) (form_bit f bs)
      (all-mem (means f) (masks n) (all-mem (λ (r : Form × ℕ). all (means r.0) (masks r.1)) fixed table-means (f, n) row) bs
      (subst (λ (k : ℕ). Memᴰ bs (masks k)) (eqb-true (length bs) n e) (mask-mem bs)))

-- ---- every form

pub lines-mean : (f : Form) (bs : List Bool) → can_have f (length bs) ≡ true → cover_bit (lines_of f (length bs)) bs ≡ form_bit f bs
lines-mean And2 bs e = fixed-means And2 2 (place-mem fixed 0 (And2, 2) refl) bs e
lines-mean Xor2 bs e = fixed-means Xor2 2 (place-mem fixed 1 (Xor2, 2) refl) bs e
lines-mean And3 bs e = fixed-means And3 3 (place-mem fixed 2 (And3, 3) refl) bs e
lines-mean Xor3 bs e = fixed-means Xor3 3 (place-mem fixed 3 (Xor3, 3) refl) bs e
lines-mean Maj3 bs e = fixed-means Maj3 3 (place-mem fixed 4 (Maj3, 3) refl) bs e
lines-mean Mux3 bs e = fixed-means Mux3 3 (place-mem fixed 5 (Mux3, 3) refl) bs e
lines-mean Buf bs e = fixed-means Buf 1 (place-mem fixed 6 (Buf, 1) refl) bs e
lines-mean AndN bs e = or-false (cube_bit (replicate (length bs) C1) bs) ∙ ones-row bs
lines-mean OrN bs e = ap not (or-false (cube_bit (replicate (length bs) C0) bs) ∙ zeros-row bs) ∙ not-not (any_of bs)
lines-mean NandN bs e = ap not (or-false (cube_bit (replicate (length bs) C1) bs) ∙ ones-row bs)
lines-mean NorN bs e = or-false (cube_bit (replicate (length bs) C0) bs) ∙ zeros-row bs
lines-mean XorN bs e = on-set odd (masks (length bs)) bs ∙ minterms-bit odd bs
lines-mean XnorN bs e = on-set even (masks (length bs)) bs ∙ minterms-bit even bs
