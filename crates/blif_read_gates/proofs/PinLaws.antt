-- How many pins the gates of lines and covers have. Assumes nothing.
use mathlib.Core.Path.{◌≡◌, refl, ap, ◌∙◌, subst}
use mathlib.Core.Bool.{Bool, true}
use mathlib.Core.List.{List, [], ◌∷◌}
use Prim.Native.Nat.{ℕ, zero, suc, ◌+◌, ◌*◌, ◌≤◌, ◌<◌}
use native.Mathlib.Omega.{arith}
use native.Mathlib.Nat.{suc-mul, mul-suc}
use lib.Dec.{eqb}
use lib.ListN.{length, take, drop, length-append}
use lib.Seq.{take_all}
use borrow.Author.Tests.{eqb-true}
use Rattle.lists.specs.Lists.{Bytes, all, sum_of, hit}
use Rattle.lists.proofs.Places.{length_run}
use Rattle.lists.proofs.Tests.{by-test, and_left, and_right}
use Rattle.blif_text.specs.Decls.{columns}
use Rattle.blif_reading.specs.Read.{good_line}
use Rattle.blif_read_gates.specs.Between.Pins.{literal_count, literal_pins, line_pins, cover_pins}
use Rattle.blif_read_gates.specs.Between.Steps.{column_cells, literal_cells, line_cells, LinePut}
use Rattle.blif_read_gates.proofs.CellLaws.{literals-few}
use Rattle.blif_read_gates.proofs.RowLaws.{two-tokens}

-- ---- a line

column-count : (b c : ℕ) → length (column_cells b c) ≡ hit 48 b + hit 49 b
unfolding hit
column-count b c =
    by-test (eqb 48 b)
    (λ t. subst (λ (x : ℕ). length (column_cells x c) ≡ hit 48 x + hit 49 x) (eqb-true 48 b t) refl)
    (λ t. by-test (eqb 49 b) (λ u. rw (t, u)) (λ u. rw (t, u)))

-- as many cells as literals, where each column has a source
pub literals-count : (bs : Bytes) (cs : List ℕ) → length bs ≤ length cs → length (literal_cells bs cs) ≡ literal_count bs
unfolding literal_count
literals-count [] cs h = refl
literals-count (b ∷ bs) [] h = absurd (omega arith)
literals-count (b ∷ bs) (c ∷ cs) h =
    omega (arith, length-append (column_cells b c) (literal_cells bs cs), column-count b c, literals-count bs cs (omega arith))

-- the pins of a line's gate, of its literals
pub cells_count : (one : Bool) (lits : List ℕ) → length (line_cells one lits) ≡ literal_pins (length lits)
cells_count one [] = refl
cells_count one (c ∷ []) = refl
cells_count one (c ∷ d ∷ cs) = refl

-- where a line's pins end
pub line-pins : (ts : List Bytes) {one : Bool} {source at h : ℕ} {gates pins_in gates' pins_in' : List ℕ} {r : ℕ} → source + length (columns ts) ≤ length pins_in
    → LinePut (columns ts) one source at h gates pins_in gates' pins_in' r → r ≡ at + line_pins ts
unfolding line_pins
line-pins ts {one} {source} {at} {h} {gates} {pins_in} fit p =
    let sources = take (length (columns ts)) (drop source pins_in) in
    let long : length sources ≡ length (columns ts) = length_run source (length (columns ts)) pins_in fit in
    let n = cells_count one (literal_cells (columns ts) sources) ∙ ap literal_pins (literals-count (columns ts) sources (omega arith)) in
    p.end ∙ ap (λ (k : ℕ). at + k) n

pins-few : (n : ℕ) → literal_pins n ≤ n + 1
pins-few zero = omega arith
pins-few (suc m) = omega arith

-- no more pins than columns, or one
line-few : (ts : List Bytes) → line_pins ts ≤ length (columns ts) + 1
unfolding line_pins
line-few ts =
    let cs = columns ts in
    omega (arith, pins-few (literal_count cs), literals-count cs cs (omega arith), literals-few cs cs)

-- ---- lines

-- a pin for each input of each line, or one
pub lines-few : (inputs i : ℕ) (ls : List (List Bytes)) → all (good_line inputs) ls ≡ true → sum_of line_pins (take i ls) ≤ i * (inputs + 1)
lines-few inputs zero ls g = omega arith
lines-few inputs (suc i) [] g = omega arith
lines-few inputs (suc i) (l ∷ ls) g =
    let good = and_left (good_line inputs l) (all (good_line inputs) ls) g in
    let more = and_right (good_line inputs l) (all (good_line inputs) ls) g in
    omega (arith, suc-mul i (inputs + 1), line-few l, (two-tokens inputs l good).wide, lines-few inputs i ls more)

-- ---- a cover

-- two or more lines: a pin for each, and those of its gate
pub many-lines : (ls : List (List Bytes)) → 1 < length ls → cover_pins ls ≡ length ls + sum_of line_pins ls
many-lines [] h = absurd (omega arith)
many-lines (l ∷ []) h = absurd (omega arith)
many-lines (l ∷ m ∷ ls) h = refl

-- a pin for each line, and for each of its inputs or one
pub join-pins : (k m : ℕ) → k * (m + 2) ≡ k * (m + 1) + k
join-pins k m = let e : m + 2 ≡ suc (m + 1) = omega arith in ap (λ (x : ℕ). k * x) e ∙ mul-suc k (m + 1)

cover-most : (ls : List (List Bytes)) → cover_pins ls ≤ length ls + sum_of line_pins ls + 1
cover-most [] = omega arith
cover-most (l ∷ []) = omega arith
cover-most (l ∷ m ∷ ls) = omega arith

-- no more pins than are counted for its lines
pub cover-few : (inputs : ℕ) (ls : List (List Bytes)) → all (good_line inputs) ls ≡ true → cover_pins ls ≤ length ls * (inputs + 2) + 2
cover-few inputs ls g =
    let few : sum_of line_pins ls ≤ length ls * (inputs + 1) = rw (take_all (length ls) ls (omega arith)) at (lines-few inputs (length ls) ls g) in
    omega (arith, cover-most ls, few, join-pins (length ls) inputs)
