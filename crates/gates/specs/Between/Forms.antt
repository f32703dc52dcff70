-- Beside specs/Forms: the code's types as forms, which contracts between the crates and proofs use, and no promise reaches.
-- Assumes nothing: these are definitions.
use Rattle.std.specs.Prelude.{Bool, false, List, ℕ, eqb, leb, if◌then◌else◌}
use Rattle.std.proofs.Math.Option.{Option, none}
use Rattle.lists.specs.Lists.{optional}
use Rattle.signal.specs.Signal.{Signal}
use Rattle.gates.specs.Gate.{Form, And2, Xor2, And3, Xor3, Maj3, Mux3, AndN, OrN, NandN, NorN, XorN, XnorN, Buf, Gate}
use Rattle.gates.specs.declared.Kind.{Kind}
use Rattle.gates.specs.declared.Kind.TheVariants as K
use Rattle.gates.specs.declared.BinaryType.{BinaryType}
use Rattle.gates.specs.declared.BinaryType.TheVariants as B
use Rattle.gates.specs.declared.TernaryType.{TernaryType}
use Rattle.gates.specs.declared.TernaryType.TheVariants as T
use Rattle.gates.specs.declared.NaryType.{NaryType}
use Rattle.gates.specs.declared.NaryType.TheVariants as N
use Rattle.gates.specs.Forms.{form_number, flop_number, form_of, can_have, comb_from, flop_from}

-- the form of a Binary type
abbrev pub binary_form : BinaryType → Form
binary_form B.And = And2
binary_form B.Xor = Xor2

-- the form of a Ternary type
abbrev pub ternary_form : TernaryType → Form
ternary_form T.And = And3
ternary_form T.Xor = Xor3
ternary_form T.Maj = Maj3
ternary_form T.Mux = Mux3

-- the form of a Nary type
abbrev pub nary_form : NaryType → Form
nary_form N.And = AndN
nary_form N.Or = OrN
nary_form N.Nand = NandN
nary_form N.Nor = NorN
nary_form N.Xor = XorN
nary_form N.Xnor = XnorN

-- the kind of a form
abbrev pub kind_of_form : Form → Kind
kind_of_form And2 = K.Binary B.And
kind_of_form Xor2 = K.Binary B.Xor
kind_of_form And3 = K.Ternary T.And
kind_of_form Xor3 = K.Ternary T.Xor
kind_of_form Maj3 = K.Ternary T.Maj
kind_of_form Mux3 = K.Ternary T.Mux
kind_of_form AndN = K.Nary N.And
kind_of_form OrN = K.Nary N.Or
kind_of_form NandN = K.Nary N.Nand
kind_of_form NorN = K.Nary N.Nor
kind_of_form XorN = K.Nary N.Xor
kind_of_form XnorN = K.Nary N.Xnor
kind_of_form Buf = K.Buf

-- the kind of a form number; 0 and all above 14 are unknown
abbrev pub kind_of : ℕ → Kind
kind_of n = if eqb n flop_number then K.Dff else optional kind_of_form K.Unknown (form_of n)

-- whether a kind can have n pins
abbrev pub kind_takes : Kind → ℕ → Bool
kind_takes (K.Binary t) n = can_have (binary_form t) n
kind_takes (K.Ternary t) n = can_have (ternary_form t) n
kind_takes (K.Nary t) n = can_have (nary_form t) n
kind_takes K.Buf n = can_have Buf n
kind_takes K.Dff n = eqb n 3
kind_takes K.Unknown n = false

-- whether a kind can have this start value
abbrev pub kind_starts : Kind → ℕ → Bool
kind_starts (K.Binary t) v = eqb v 0
kind_starts (K.Ternary t) v = eqb v 0
kind_starts (K.Nary t) v = eqb v 0
kind_starts K.Buf v = eqb v 0
kind_starts K.Dff v = leb v 1
kind_starts K.Unknown v = eqb v 0

-- ---- from a number and pins to a gate

-- the gate of a kind, a start value and pins
abbrev pub gate_of_kind : Kind → ℕ → List Signal → Option Gate
gate_of_kind (K.Binary t) v ps = comb_from (binary_form t) ps
gate_of_kind (K.Ternary t) v ps = comb_from (ternary_form t) ps
gate_of_kind (K.Nary t) v ps = comb_from (nary_form t) ps
gate_of_kind K.Buf v ps = comb_from Buf ps
gate_of_kind K.Dff v ps = flop_from (eqb v 1) ps
gate_of_kind K.Unknown v ps = none

-- the form number of a kind; 0 for an unknown one
abbrev pub kind_number : Kind → ℕ
kind_number (K.Binary t) = form_number (binary_form t)
kind_number (K.Ternary t) = form_number (ternary_form t)
kind_number (K.Nary t) = form_number (nary_form t)
kind_number K.Buf = form_number Buf
kind_number K.Dff = flop_number
kind_number K.Unknown = 0
