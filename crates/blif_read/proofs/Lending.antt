-- Refusal 1, and cells cleared from a place on. Assumes nothing.
use mathlib.Core.Path.{◌≡◌, refl, sym, ap, ◌∙◌}
use mathlib.Core.Bool.{true, false, ◌&&◌}
use mathlib.Core.List.{List, [], ◌∷◌, ◌++◌, append-nil}
use Prim.Native.Nat.{ℕ, zero, suc, ◌-◌, ◌*◌, ◌≤◌, ◌<◌}
use Rattle.network.specs.Sizes.{max_gates}
use Rattle.network.specs.Record.{gate_width}
use native.Mathlib.Omega.{arith}
use lib.Dec.{leb}
use lib.ListN.{length, take, drop, length-drop, drop_of_length-le}
use borrow.Rule.Slice.PartMut.{mid_of, put_mid, Post-is, mid_len}
use borrow.Author.Tests.{lt-leb, leb-true}
use Rattle.lists.specs.Lists.{zeros, overwrite}
use Rattle.lists.proofs.Tests.{and-false, and_left, and_right}
use Rattle.blif_read.specs.Into.{Lengths, lengths, enough}
use Rattle.blif_read.specs.Between.Stages.{Enough}

-- ---- refusal 1

module _ (n : Lengths) where
  pub few-gates : n.gates < (max_gates * gate_width) → false ≡ enough n
  unfolding enough
  few-gates h = sym (simp (lt-leb (max_gates * gate_width) n.gates h))

  pub few-work-gates : n.work_gates < (max_gates * gate_width) → false ≡ enough n
  unfolding enough
  few-work-gates h = sym (simp (lt-leb (max_gates * gate_width) n.work_gates h, and-false))

-- the cells that refusal 1 asks for are there
pub enough-cells : (gs ps os wgs wps : List ℕ) → enough (lengths (length gs) (length ps) (length os) (length wgs) (length wps)) ≡ true → Enough gs ps os wgs wps
unfolding enough
enough-cells gs ps os wgs wps e =
    let a = leb (max_gates * gate_width) (length gs) in
    let b = leb 16384 (length ps) in
    let c = leb 256 (length os) in
    let d = leb (max_gates * gate_width) (length wgs) in
    let f = leb 16384 (length wps) in
    let e1 = and_left (a && b && c && d) f e in
    let e2 = and_left (a && b && c) d e1 in
    let e3 = and_left (a && b) c e2 in
    record {
      gates = leb-true (max_gates * gate_width) (length gs) (and_left a b e3);
      pins = leb-true 16384 (length ps) (and_right a b e3);
      outputs = leb-true 256 (length os) (and_right (a && b) c e2);
      work_gates = leb-true (max_gates * gate_width) (length wgs) (and_right (a && b && c) d e1);
      work_pins = leb-true 16384 (length wps) (and_right (a && b && c && d) f e);
    }

-- ---- cells cleared

-- the cells before a place over zeros, where zeros stand from the place on
pub clear-rest : (at : ℕ) (l : List ℕ) → at ≤ length l → take at l ++ zeros (length (drop at l)) ≡ overwrite (take at l) (zeros (length l))
clear-rest zero l h = refl
clear-rest (suc at) [] h = absurd (omega arith)
clear-rest (suc at) (x ∷ l) h = ap (λ (t : List ℕ). x ∷ t) (clear-rest at l (omega arith))

-- there is none beyond the end
pub clear_none : (at : ℕ) (l : List ℕ) → length l ≤ at → l ≡ overwrite (take at l) (zeros (length l))
clear_none zero [] h = refl
clear_none zero (x ∷ l) h = absurd (omega arith)
clear_none (suc at) [] h = refl
clear_none (suc at) (x ∷ l) h = ap (λ (t : List ℕ). x ∷ t) (clear_none at l (omega arith))

-- the part from a place on, filled with zeros and put back
pub clear-part : (at : ℕ) (l p : List ℕ) → at < length l → p ≡ zeros (length (mid_of at (length l - at) l))
    → put_mid at (length l - at) l p ≡ overwrite (take at l) (zeros (length l))
clear-part at l p h e =
    let k : at ≤ length l = omega arith in
    let m : length (mid_of at (length l - at) l) ≡ length (drop at l) = mid_len at (length l) l (omega arith) ∙ sym (length-drop at l) in
    ap (λ (x : List ℕ). take at l ++ (p ++ x)) (Post-is at (length l) l k ∙ drop_of_length-le l {i = length l} (omega arith))
    ∙ ap (λ (x : List ℕ). take at l ++ x) (append-nil p ∙ e ∙ ap zeros m)
    ∙ clear-rest at l k
