-- Gates and pins of definitions, counted, and the gates built of lists put together. Assumes nothing.
use Rattle.refusals.specs.Order.{fine}
use mathlib.Core.Path.{◌≡◌, refl, sym, ap, ap₂, ◌∙◌}
use mathlib.Core.List.{List, [], ◌∷◌, ◌++◌, map, append_assoc}
use mathlib.Core.Option.{some}
use Prim.Native.Nat.{ℕ, zero, suc, ◌+◌, ◌-◌, ◌≤◌, ◌<◌}
use native.Mathlib.Omega.{arith}
use native.Mathlib.Numerals.{add-one}
use native.Mathlib.Nat.{add-mul, add-zero, zero-add}
use lib.ListN.{length, get_elem?, take, drop, length-append, length-map, take-append-drop}
use lib.Seq.{take-suc, length-take-le}
use Rattle.lists.specs.Lists.{Bytes, sum_of, range}
use Rattle.lists.proofs.Counting.{sum-append}
use Rattle.lists.proofs.Places.{place-lt, get_or-place}
use Rattle.lists.proofs.Range.{length-range, map_range}
use Rattle.signal.specs.Signal.{Signal}
use Rattle.gates.specs.Gate.{Gate, pins}
use Rattle.blif_text.specs.Decls.{Def, latch, cover, cover_ins}
use Rattle.blif_text.specs.Between.Blocks.{def_at, defs_at}
use Rattle.blif_meaning.specs.Model.{Block, Line}
use Rattle.blif_reading.specs.Build.{line_gate, line_gates, block_gate, new_gates, block_gates, all_new_gates}
use Rattle.blif_reading.specs.Read.{gate_count, pin_count, added, cover_fault, cover_faults}
use Rattle.blif_reading.specs.TextModel.{line_of, block_of}
use Rattle.blif_reading.specs.Between.Working.{placed, placed_count}
use Rattle.refusals.proofs.Order.{or_else-left, or_else-right}
use Rattle.blif_read_gates.specs.Between.Pins.{built_pins}
use Rattle.blif_read_gates.specs.Between.Steps.{added_of, added_pins}
use Rattle.blif_read_gates.proofs.PinLaws.{cover-few}
use Rattle.blif_read_gates.proofs.CoverLaws.{added-many}
use Rattle.blif_read_gates.proofs.BlockLaws.{cover-good}

-- the pins of the gate placed first
pub placed-long : (signal_of : Bytes → Signal) (d : Def) → length (pins (placed signal_of d)) ≡ placed_count d
unfolding cover_ins
placed-long signal_of (latch l) = refl
placed-long signal_of (cover ns ls) = length-map (take (length ns - 1) ns) signal_of ∙ length-take-le (length ns - 1) ns (omega arith)

-- ---- sums

-- a part's sum is no larger
pub sum-part : {A : Type 0} (f : A → ℕ) (j : ℕ) (l : List A) → sum_of f (take j l) ≤ sum_of f l
sum-part f j l = omega (arith, ap (sum_of f) (take-append-drop j l), sum-append f (take j l) (drop j l))

-- one element more
pub take_next : {A : Type 0} (l : List A) (j : ℕ) (x : A) → get_elem? l j ≡ some x → take (j + 1) l ≡ take j l ++ (x ∷ [])
take_next {A} l j x e = rw add-one (take-suc l j x (place-lt l j x e) ∙ ap (λ (y : A). take j l ++ (y ∷ [])) (get_or-place x l j x e))

pub sum-next : {A : Type 0} (f : A → ℕ) (l : List A) (j : ℕ) (x : A) → get_elem? l j ≡ some x → sum_of f (take (j + 1) l) ≡ sum_of f (take j l) + f x
sum-next f l j x e = ap (sum_of f) (take_next l j x e) ∙ sum-append f (take j l) (x ∷ []) ∙ ap (λ (k : ℕ). sum_of f (take j l) + k) (add-zero (f x))

-- ---- sizes

pins-one : (d : Def) → placed_count d + added_pins d ≡ pin_count d
unfolding pin_count
pins-one (latch l) = refl
pins-one (cover ns ls) = let m : ℕ = length ns - 1 in omega (arith, add-mul (length ls) 1 (m + 2))

-- the pins that are counted: those of the gates placed first, and what covers may add
pub pins-split : (ds : List Def) → sum_of placed_count ds + sum_of added_pins ds ≡ sum_of pin_count ds
pins-split [] = refl
pins-split (d ∷ ds) = omega (arith, pins-one d, pins-split ds)

gates-one : (d : Def) → 1 + added_of d ≡ gate_count d
unfolding gate_count
gates-one (latch l) = refl
gates-one (cover ns ls) = refl

-- the gates that are counted
pub gates-split : (ds : List Def) → length ds + sum_of added_of ds ≡ sum_of gate_count ds
gates-split [] = refl
gates-split (d ∷ ds) = omega (arith, gates-one d, gates-split ds)

-- no definition has a fault
pub no-fault : (ds : List Def) (j : ℕ) (d : Def) → cover_faults ds ≡ fine → get_elem? ds j ≡ some d → cover_fault d ≡ fine
unfolding cover_faults
no-fault [] j d f e = absurd (let z : ◌≡◌ {A = ℕ} 0 1 = cc in omega arith)
no-fault (x ∷ ds) zero d f e = let s : x ≡ d = cc in ap cover_fault (sym s) ∙ or_else-left (cover_fault x) (cover_faults ds) f
no-fault (x ∷ ds) (suc j) d f e = no-fault ds j d (or_else-right (cover_fault x) (cover_faults ds) f) e

-- ---- pins

added-few : (d : Def) → cover_fault d ≡ fine → built_pins d ≤ added_pins d
added-few (latch l) e = omega arith
added-few (cover ns ls) e = cover-few (length ns - 1) ls (cover-good ns ls e)

-- the first j definitions add no more pins than they may
pub built-few : (j : ℕ) (ds : List Def) → cover_faults ds ≡ fine → sum_of built_pins (take j ds) ≤ sum_of added_pins (take j ds)
unfolding cover_faults
built-few zero ds e = omega arith
built-few (suc j) [] e = omega arith
built-few (suc j) (d ∷ ds) e =
    omega
    (arith, added-few d (or_else-left (cover_fault d) (cover_faults ds) e), built-few j ds (or_else-right (cover_fault d) (cover_faults ds) e))

-- ---- gates

lines-count : (ss : List Signal) (ls : List Line) → length (line_gates ss ls) ≡ added (length ls)
unfolding added
lines-count ss [] = refl
lines-count ss (l ∷ []) = refl
lines-count ss (l ∷ m ∷ ls) = ap (λ (n : ℕ). suc (suc n)) (length-map ls (line_gate ss)) ∙ sym (added-many (suc (suc (length ls))) (omega arith))

module _ (signal_of : Bytes → Signal) where
  -- the gates that a definition adds
  more-long : (d : Def) → length (new_gates signal_of (block_of d)) ≡ added_of d
  more-long (latch l) = refl
  more-long (cover ns ls) = lines-count (map signal_of (cover_ins ns)) (map line_of ls) ∙ ap added (length-map ls line_of)

  -- and those of all
  pub new_gates-long : (ds : List Def) → length (all_new_gates signal_of (map block_of ds)) ≡ sum_of added_of ds
  new_gates-long [] = refl
  new_gates-long (d ∷ ds) =
      length-append (new_gates signal_of (block_of d)) (all_new_gates signal_of (map block_of ds)) ∙ ap₂ (λ (a b : ℕ). a + b) (more-long d) (new_gates-long ds)

  pub new_gates-append : (a b : List (Block Bytes)) → all_new_gates signal_of (a ++ b) ≡ all_new_gates signal_of a ++ all_new_gates signal_of b
  new_gates-append [] b = refl
  new_gates-append (x ∷ a) b =
      ap (λ (l : List Gate). new_gates signal_of x ++ l) (new_gates-append a b) ∙ sym (append_assoc (new_gates signal_of x) (all_new_gates signal_of a) (all_new_gates signal_of b))

  pub block_gates-append : (k : ℕ) (a b : List (Block Bytes)) → block_gates signal_of k (a ++ b) ≡ block_gates signal_of k a ++ block_gates signal_of (k + length (all_new_gates signal_of a)) b
  block_gates-append k [] b = ap (λ (n : ℕ). block_gates signal_of n b) (sym (add-zero k))
  block_gates-append k (x ∷ a) b =
      let n : k + length (new_gates signal_of x) + length (all_new_gates signal_of a) ≡ k + length (new_gates signal_of x ++ all_new_gates signal_of a) = omega (arith, length-append (new_gates signal_of x) (all_new_gates signal_of a)) in
      ap (λ (l : List Gate). block_gate signal_of k x ∷ l)
      (block_gates-append (k + length (new_gates signal_of x)) a b ∙ ap (λ (m : ℕ). block_gates signal_of (k + length (new_gates signal_of x)) a ++ block_gates signal_of m b) n)

-- ---- the definitions by places

module _ (text tokens : List ℕ) (n : ℕ) (blocks : List ℕ) (g : ℕ) where
  pub defs_long : length (defs_at text tokens n blocks g) ≡ g
  defs_long = length-map (range 0 g) (def_at text tokens n blocks) ∙ length-range 0 g

  pub def-place : (j : ℕ) → j < g → get_elem? (defs_at text tokens n blocks g) j ≡ some (def_at text tokens n blocks j)
  def-place j h = map_range (def_at text tokens n blocks) 0 g j h ∙ ap (λ (i : ℕ). some (def_at text tokens n blocks i)) (zero-add j)
