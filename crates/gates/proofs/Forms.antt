-- Form numbers and pin counts, both ways. Assumes nothing.
use mathlib.Core.Path.{◌≡◌, refl, sym, ap, ◌∙◌, subst}
use mathlib.Core.Bool.{Bool, true, false, false≢true}
use mathlib.Core.List.{List, [], ◌∷◌}
use mathlib.Core.Option.{Option, none, some, none-ne-some}
use Prim.Native.Nat.{ℕ, ◌≤◌, ◌<◌}
use native.Mathlib.Omega.{arith}
use lib.Dec.{eqb, leb}
use lib.ListN.{length}
use borrow.Author.Tests.{eqb-true, eqb-false, ne_eqb, leb-true}
use Rattle.lists.specs.Lists.{optional}
use Rattle.lists.proofs.Range.{range_all}
use Rattle.lists.proofs.Tests.{by-test, by_order}
use Rattle.signal.specs.Signal.{Signal}
use Rattle.signal.specs.Cell.{bit_of}
use Rattle.gates.specs.Gate.{Form, And2, Xor2, And3, Xor3, Maj3, Mux3, AndN, OrN, NandN, NorN, XorN, XnorN, Buf, Gate, Comb, Dff, pins, is_comb}
use Rattle.gates.specs.Forms.{form_number, form_cell, start_cell, flop_number, form_of, can_have, formed, can_take, can_start, comb_from, flop_from, gate_with, gate_from}
use Rattle.gates.specs.Between.Forms.{binary_form, ternary_form, nary_form, kind_of_form, kind_of, kind_takes, kind_starts, gate_of_kind, kind_number}
use Rattle.gates.specs.Between.Decode.{kind_comb}
use Rattle.gates.specs.declared.Kind.{Kind}
use Rattle.gates.specs.declared.Kind.TheVariants as K
use Rattle.gates.specs.declared.BinaryType.{BinaryType}
use Rattle.gates.specs.declared.BinaryType.TheVariants as B
use Rattle.gates.specs.declared.TernaryType.{TernaryType}
use Rattle.gates.specs.declared.TernaryType.TheVariants as T
use Rattle.gates.specs.declared.NaryType.TheVariants as N

-- ---- numbers, both ways

-- the numbers 1 to 14 are those of their kinds: one computed test over the table
pub number-again : (n : ℕ) → n ≤ 14 → kind_number (kind_of n) ≡ n
number-again n h = eqb-true (kind_number (kind_of n)) n (range_all (λ k. eqb (kind_number (kind_of k)) k) 0 15 refl n (omega arith) (omega arith))

-- any other number is unknown
pub number-unknown : (n : ℕ) → 15 ≤ n → kind_of n ≡ K.Unknown
number-unknown n h =
    simp (
      other 1 (omega arith),
      other 2 (omega arith),
      other 3 (omega arith),
      other 4 (omega arith),
      other 5 (omega arith),
      other 6 (omega arith),
      other 7 (omega arith),
      other 8 (omega arith),
      other 9 (omega arith),
      other 10 (omega arith),
      other 11 (omega arith),
      other 12 (omega arith),
      other 13 (omega arith),
      other 14 (omega arith),
    )
  where
    other : (k : ℕ) → k ≤ 14 → eqb n k ≡ false
    other k l = ne_eqb n k (λ e. omega (arith, e, l, h))

-- and each kind is that of its number
pub kind-again : (k : Kind) → kind_of (kind_number k) ≡ k
kind-again (K.Binary B.And) = refl
kind-again (K.Binary B.Xor) = refl
kind-again (K.Ternary T.And) = refl
kind-again (K.Ternary T.Xor) = refl
kind-again (K.Ternary T.Maj) = refl
kind-again (K.Ternary T.Mux) = refl
kind-again (K.Nary N.And) = refl
kind-again (K.Nary N.Or) = refl
kind-again (K.Nary N.Nand) = refl
kind-again (K.Nary N.Nor) = refl
kind-again (K.Nary N.Xor) = refl
kind-again (K.Nary N.Xnor) = refl
kind-again K.Buf = refl
kind-again K.Dff = refl
kind-again K.Unknown = refl

-- ---- a number's form and its kind say the same

form-kind : (f : Form)
    → ((v : ℕ) (ps : List Signal) → comb_from f ps ≡ gate_of_kind (kind_of_form f) v ps)
    × ((n : ℕ) → can_have f n ≡ kind_takes (kind_of_form f) n)
    × ((v : ℕ) → eqb v 0 ≡ kind_starts (kind_of_form f) v)
form-kind And2 = ((λ v ps. refl), (λ n. refl), (λ v. refl))
form-kind Xor2 = ((λ v ps. refl), (λ n. refl), (λ v. refl))
form-kind And3 = ((λ v ps. refl), (λ n. refl), (λ v. refl))
form-kind Xor3 = ((λ v ps. refl), (λ n. refl), (λ v. refl))
form-kind Maj3 = ((λ v ps. refl), (λ n. refl), (λ v. refl))
form-kind Mux3 = ((λ v ps. refl), (λ n. refl), (λ v. refl))
form-kind AndN = ((λ v ps. refl), (λ n. refl), (λ v. refl))
form-kind OrN = ((λ v ps. refl), (λ n. refl), (λ v. refl))
form-kind NandN = ((λ v ps. refl), (λ n. refl), (λ v. refl))
form-kind NorN = ((λ v ps. refl), (λ n. refl), (λ v. refl))
form-kind XorN = ((λ v ps. refl), (λ n. refl), (λ v. refl))
form-kind XnorN = ((λ v ps. refl), (λ n. refl), (λ v. refl))
form-kind Buf = ((λ v ps. refl), (λ n. refl), (λ v. refl))

-- the gate of a number is that of its kind
pub gate-kind : (n v : ℕ) (ps : List Signal) → gate_with n v ps ≡ gate_of_kind (kind_of n) v ps
gate-kind n v ps = by-test (eqb n flop_number) (λ t. rw t) (λ t. rw t (go (form_of n)))
  where
    go : (o : Option Form) → optional (λ f. comb_from f ps) none o ≡ gate_of_kind (optional kind_of_form K.Unknown o) v ps
    go none = refl
    go (some f) = (form-kind f).0 v ps

-- and so are the pin counts that it can have
pub take-kind : (n count : ℕ) → can_take n count ≡ kind_takes (kind_of n) count
take-kind n count = by-test (eqb n flop_number) (λ t. rw t) (λ t. rw t (go (form_of n)))
  where
    go : (o : Option Form) → optional (λ f. can_have f count) false o ≡ kind_takes (optional kind_of_form K.Unknown o) count
    go none = refl
    go (some f) = (form-kind f).1 count

-- and the start values
pub start-kind : (n v : ℕ) → can_start n v ≡ kind_starts (kind_of n) v
start-kind n v = by-test (eqb n flop_number) (λ t. rw t) (λ t. rw t (go (form_of n)))
  where
    go : (o : Option Form) → eqb v 0 ≡ kind_starts (optional kind_of_form K.Unknown o) v
    go none = refl
    go (some f) = (form-kind f).2 v

-- ---- pin counts

pub binary-count : (t : BinaryType) (n : ℕ) → eqb n 2 ≡ can_have (binary_form t) n
binary-count B.And n = refl
binary-count B.Xor n = refl

pub ternary-count : (t : TernaryType) (n : ℕ) → eqb n 3 ≡ can_have (ternary_form t) n
ternary-count T.And n = refl
ternary-count T.Xor n = refl
ternary-count T.Maj n = refl
ternary-count T.Mux n = refl

-- ---- gates from numbers and pins

-- a bit is told by its number
pub bit-again : (b : Bool) → eqb (bit_of b) 1 ≡ b
bit-again false = refl
bit-again true = refl

-- a gate with as many inputs as its form can have comes back from its number, its start value and its pins
with-again : (g : Gate) → formed g ≡ true → gate_with (form_cell g) (start_cell g) (pins g) ≡ some g
with-again (Dff s) h =
    ap (λ (v : Bool). some (Dff (record { data_in = s.data_in; enable = s.enable; reset = s.reset; start = v }))) (bit-again s.start)
with-again (Comb And2 ps) h = rw h
with-again (Comb Xor2 ps) h = rw h
with-again (Comb And3 ps) h = rw h
with-again (Comb Xor3 ps) h = rw h
with-again (Comb Maj3 ps) h = rw h
with-again (Comb Mux3 ps) h = rw h
with-again (Comb AndN ps) h = refl
with-again (Comb OrN ps) h = refl
with-again (Comb NandN ps) h = refl
with-again (Comb NorN ps) h = refl
with-again (Comb XorN ps) h = refl
with-again (Comb XnorN ps) h = refl
with-again (Comb Buf ps) h = rw h

bit-small : (b : Bool) → leb (bit_of b) 1 ≡ true
bit-small false = refl
bit-small true = refl

-- a gate's number tells the pin counts that its form can have, and its kind whether the gate is combinational; the form can have the start value
number-tells : (x : Gate)
    → (can_take (form_cell x) (length (pins x)) ≡ formed x) × (kind_comb (kind_of (form_cell x)) ≡ is_comb x) × (can_start (form_cell x) (start_cell x) ≡ true)
number-tells (Dff s) = (refl, refl, bit-small s.start)
number-tells (Comb And2 ps) = (refl, refl, refl)
number-tells (Comb Xor2 ps) = (refl, refl, refl)
number-tells (Comb And3 ps) = (refl, refl, refl)
number-tells (Comb Xor3 ps) = (refl, refl, refl)
number-tells (Comb Maj3 ps) = (refl, refl, refl)
number-tells (Comb Mux3 ps) = (refl, refl, refl)
number-tells (Comb AndN ps) = (refl, refl, refl)
number-tells (Comb OrN ps) = (refl, refl, refl)
number-tells (Comb NandN ps) = (refl, refl, refl)
number-tells (Comb NorN ps) = (refl, refl, refl)
number-tells (Comb XorN ps) = (refl, refl, refl)
number-tells (Comb XnorN ps) = (refl, refl, refl)
number-tells (Comb Buf ps) = (refl, refl, refl)

pub takes-formed : (x : Gate) → can_take (form_cell x) (length (pins x)) ≡ formed x
takes-formed x = (number-tells x).0

pub comb-number : (x : Gate) → kind_comb (kind_of (form_cell x)) ≡ is_comb x
comb-number x = (number-tells x).1

pub starts-formed : (x : Gate) → can_start (form_cell x) (start_cell x) ≡ true
starts-formed x = (number-tells x).2

-- no combinational gate has the number of a flip-flop
pub comb-other : (f : Form) (ps : List Signal) → form_number f ≡ flop_number → ⊥
comb-other f ps e = false≢true (ap (λ (n : ℕ). kind_comb (kind_of n)) (sym e) ∙ comb-number (Comb f ps))

pub gate-again : (g : Gate) → formed g ≡ true → gate_from (form_cell g) (start_cell g) (pins g) ≡ some g
unfolding gate_from
gate-again g h = rw (starts-formed g) (with-again g h)

-- what a number, a start value that it can have and pins give: a gate of that number with these, as many pins as its form can have
pub record From (n v : ℕ) (ps : List Signal) (g : Gate) : Type 0 where
  pub number : form_cell g ≡ n
  pub all-pins : pins g ≡ ps
  pub good : formed g ≡ true
  pub starts : start_cell g ≡ v

comb-from : (f : Form) (v : ℕ) (ps : List Signal) (g : Gate) → eqb v 0 ≡ true → comb_from f ps ≡ some g → From (form_number f) v ps g
comb-from f v ps g z e = by-test (can_have f (length ps)) yes-case no-case
  where
    yes-case : can_have f (length ps) ≡ true → From (form_number f) v ps g
    yes-case t =
        let q : some (Comb f ps) ≡ some g = sym (rw t) ∙ e in
        let r : Comb f ps ≡ g = cc in
        rw (sym r) (record { number = refl; all-pins = refl; good = t; starts = sym (eqb-true v 0 z) })

    no-case : can_have f (length ps) ≡ false → From (form_number f) v ps g
    no-case t = absurd (none-ne-some g (sym (rw t) ∙ e))

bit-cell : (v : ℕ) → leb v 1 ≡ true → bit_of (eqb v 1) ≡ v
bit-cell v h =
    by-test (eqb v 1)
    (λ t. ap bit_of t ∙ sym (eqb-true v 1 t))
    (λ t. ap bit_of t ∙ (let z : 0 ≡ v = omega (arith, leb-true v 1 h, eqb-false v 1 t) in z))

flop-from : (v : ℕ) (ps : List Signal) (g : Gate) → leb v 1 ≡ true → flop_from (eqb v 1) ps ≡ some g → From 14 v ps g
flop-from v [] g z e = absurd (none-ne-some g e)
flop-from v (d ∷ []) g z e = absurd (none-ne-some g e)
flop-from v (d ∷ n ∷ []) g z e = absurd (none-ne-some g e)
flop-from v (d ∷ n ∷ r ∷ []) g z e =
    let q : Dff (record { data_in = d; enable = n; reset = r; start = eqb v 1 }) ≡ g = cc in
    rw (sym q) (record { number = refl; all-pins = refl; good = refl; starts = bit-cell v z })
flop-from v (d ∷ n ∷ r ∷ s ∷ ps) g z e = absurd (none-ne-some g e)

kind-from : (k : Kind) (v : ℕ) (ps : List Signal) (g : Gate) → kind_starts k v ≡ true → gate_of_kind k v ps ≡ some g → From (kind_number k) v ps g
kind-from (K.Binary t) v ps g z e = comb-from (binary_form t) v ps g z e
kind-from (K.Ternary t) v ps g z e = comb-from (ternary_form t) v ps g z e
kind-from (K.Nary t) v ps g z e = comb-from (nary_form t) v ps g z e
kind-from K.Buf v ps g z e = comb-from Buf v ps g z e
kind-from K.Dff v ps g z e = flop-from v ps g z e
kind-from K.Unknown v ps g z e = absurd (none-ne-some g e)

with-from : (n v : ℕ) (ps : List Signal) (g : Gate) → kind_starts (kind_of n) v ≡ true → gate_of_kind (kind_of n) v ps ≡ some g → From n v ps g
with-from n v ps g z e = by_order n 14 small large
  where
    small : n ≤ 14 → From n v ps g
    small h = subst (λ (m : ℕ). From m v ps g) (number-again n h) (kind-from (kind_of n) v ps g z e)

    large : 14 < n → From n v ps g
    large h = absurd (none-ne-some g (sym (ap (λ (k : Kind). gate_of_kind k v ps) (number-unknown n h)) ∙ e))

pub gate-from : (n v : ℕ) (ps : List Signal) (g : Gate) → gate_from n v ps ≡ some g → From n v ps g
unfolding gate_from
gate-from n v ps g e =
    by-test (can_start n v)
    (λ t. with-from n v ps g (sym (start-kind n v) ∙ t) (sym (gate-kind n v ps) ∙ (rw t at e)))
    (λ t. absurd (none-ne-some g (rw t at e)))

-- a kind and as many pins as it can have give a gate
comb-made : (f : Form) (ps : List Signal) → can_have f (length ps) ≡ true → (x : Gate) × (comb_from f ps ≡ some x)
comb-made f ps t = (Comb f ps, rw t)

flop-made : (b : Bool) (ps : List Signal) → length ps ≡ 3 → (x : Gate) × (flop_from b ps ≡ some x)
flop-made b [] e = absurd (omega arith)
flop-made b (d ∷ []) e = absurd (omega arith)
flop-made b (d ∷ n ∷ []) e = absurd (omega arith)
flop-made b (d ∷ n ∷ r ∷ []) e = (Dff (record { data_in = d; enable = n; reset = r; start = b }), refl)
flop-made b (d ∷ n ∷ r ∷ s ∷ ps) e = absurd (omega arith)

kind-made : (k : Kind) (v : ℕ) (ps : List Signal) → kind_takes k (length ps) ≡ true → (x : Gate) × (gate_of_kind k v ps ≡ some x)
kind-made (K.Binary t) v ps h = comb-made (binary_form t) ps h
kind-made (K.Ternary t) v ps h = comb-made (ternary_form t) ps h
kind-made (K.Nary t) v ps h = comb-made (nary_form t) ps h
kind-made K.Buf v ps h = comb-made Buf ps h
kind-made K.Dff v ps h = flop-made (eqb v 1) ps (eqb-true (length ps) 3 h)
kind-made K.Unknown v ps h = absurd (false≢true h)

pub gate-made : (n v : ℕ) (ps : List Signal) → can_take n (length ps) ≡ true → can_start n v ≡ true → (x : Gate) × (gate_from n v ps ≡ some x)
unfolding gate_from
gate-made n v ps h t = let x = kind-made (kind_of n) v ps (sym (take-kind n (length ps)) ∙ h) in (x.0, rw t (gate-kind n v ps ∙ x.1))

-- the kind of a form's number is the form's
pub number-kind : (f : Form) → kind_of (form_number f) ≡ kind_of_form f
number-kind And2 = refl
number-kind Xor2 = refl
number-kind And3 = refl
number-kind Xor3 = refl
number-kind Maj3 = refl
number-kind Mux3 = refl
number-kind AndN = refl
number-kind OrN = refl
number-kind NandN = refl
number-kind NorN = refl
number-kind XorN = refl
number-kind XnorN = refl
number-kind Buf = refl
