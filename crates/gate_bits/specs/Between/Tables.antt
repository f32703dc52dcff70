-- Truth tables of six inputs for gates of up to six, and what a wider gate makes of bits (document 01, src/network/gates.rs). That a table
-- says what its form makes of bits is proved in proofs/FormTables.antt. Assumes nothing: these are definitions.
--   mask_of bs      the number whose bit i is bit i of bs
--   truth_bit t bs  what the table t makes of bs
--   form_table f    the form's table
--   form_pad f      the constant's slot that stands for an input which is not there
use Rattle.std.specs.Prelude.{Bool, false, List, [], ◌∷◌, map, ℕ, ◌+◌, ◌*◌, ◌/◌, ◌%◌, ◌^◌, eqb, get_or}
use Rattle.lists.specs.Lists.{range}
use Rattle.signal.specs.Cell.{bit_of}
use Rattle.gates.specs.Gate.{Form, And2, Xor2, And3, Xor3, Maj3, Mux3, AndN, OrN, NandN, NorN, XorN, XnorN, Buf, form_bit}
use Rattle.gates.specs.Between.Forms.{binary_form, ternary_form, nary_form}
use Rattle.gates.specs.declared.Kind.{Kind}
use Rattle.gates.specs.declared.Kind.TheVariants as K

-- the number whose bit i is bit i of the list
abbrev pub mask_of : List Bool → ℕ
mask_of [] = 0
mask_of (b ∷ bs) = bit_of b + 2 * mask_of bs

-- bit m of the table, m being the mask of the bits
abbrev pub truth_bit : ℕ → List Bool → Bool
truth_bit t bs = eqb (t / 2 ^ mask_of bs % 2) 1

-- the truth table of a form, over six bits: a Binary form looks at the first two, a Ternary at the first three, Buf at the first, a Nary
-- one at all
abbrev pub form_table : Form → ℕ
form_table And2 = 0x8888888888888888
form_table Xor2 = 0x6666666666666666
form_table And3 = 0x8080808080808080
form_table Xor3 = 0x9696969696969696
form_table Maj3 = 0xe8e8e8e8e8e8e8e8
form_table Mux3 = 0xd8d8d8d8d8d8d8d8
form_table AndN = 0x8000000000000000
form_table OrN = 0xfffffffffffffffe
form_table NandN = 0x7fffffffffffffff
form_table NorN = 1
form_table XorN = 0x6996966996696996
form_table XnorN = 0x9669699669969669
form_table Buf = 0xaaaaaaaaaaaaaaaa

-- the slot of a constant that changes nothing where it stands for an input: one's for And and Nand, else zero's
abbrev pub form_pad : Form → ℕ
form_pad And2 = 0
form_pad Xor2 = 0
form_pad And3 = 0
form_pad Xor3 = 0
form_pad Maj3 = 0
form_pad Mux3 = 0
form_pad AndN = 1
form_pad OrN = 0
form_pad NandN = 1
form_pad NorN = 0
form_pad XorN = 0
form_pad XnorN = 0
form_pad Buf = 0

-- n bits: the list's, then the other as often as it takes
abbrev pub padded : ℕ → Bool → List Bool → List Bool
padded n d bs = map (λ i. get_or bs i d) (range 0 n)

-- ---- by kinds

-- a kind's table; none for a flip-flop
abbrev pub kind_table : Kind → ℕ
kind_table (K.Binary t) = form_table (binary_form t)
kind_table (K.Ternary t) = form_table (ternary_form t)
kind_table (K.Nary t) = form_table (nary_form t)
kind_table K.Buf = form_table Buf
kind_table K.Dff = 0
kind_table K.Unknown = 0

-- a kind's pad
abbrev pub kind_pad : Kind → ℕ
kind_pad (K.Binary t) = form_pad (binary_form t)
kind_pad (K.Ternary t) = form_pad (ternary_form t)
kind_pad (K.Nary t) = form_pad (nary_form t)
kind_pad K.Buf = form_pad Buf
kind_pad K.Dff = 0
kind_pad K.Unknown = 0

-- what a gate of a kind makes of more than six bits: only a Nary gate has so many
abbrev pub wide_bit : Kind → List Bool → Bool
wide_bit (K.Binary t) bs = false
wide_bit (K.Ternary t) bs = false
wide_bit (K.Nary t) bs = form_bit (nary_form t) bs
wide_bit K.Buf bs = false
wide_bit K.Dff bs = false
wide_bit K.Unknown bs = false
