-- A pass over covers, as far as it has come: what a line gives, and the refusal of what is left (document 01, refusals 12 and 13).
-- Assumes nothing: these are definitions.
use Rattle.std.specs.Prelude.{Bool, true, false, ◌&&◌, [], ◌∷◌, ℕ, zero, suc, eqb, ltb, if◌then◌else◌}
use Rattle.lists.specs.Lists.{Bytes, same}
use Rattle.blif_read_covers.specs.declared.Output.{Output}
use Rattle.blif_read_covers.specs.declared.Output.TheVariants.{Zero, One, Wrong}
use Rattle.blif_read_covers.specs.declared.Outputs.{Outputs}

-- "an output other than 0, 1" is wrong
abbrev pub output_of : Bytes → Output
output_of t = if same t (48 ∷ []) then Zero else (if same t (49 ∷ []) then One else Wrong)

-- one output more among those of a cover's lines
abbrev pub with_output : Outputs → Output → Outputs
with_output met Zero = record { zero = true; one = met.one }
with_output met One = record { zero = met.zero; one = true }
with_output met Wrong = met

-- "13 when its lines .. differ in output"
abbrev pub differ : Outputs → Bool
differ met = met.zero && met.one

-- the output is 0 or 1
abbrev pub right : Output → Bool
right Zero = true
right One = true
right Wrong = false

-- "12 when a line has neither one nor two tokens, or the wrong number of columns, .. or an output other than 0, 1"; a line has a token
abbrev pub fits : ℕ → ℕ → ℕ → Output → Bool
fits tokens columns wanted o = ltb tokens 3 && eqb wanted columns && right o

-- the lines of a block: a latch, told by no name, has none
abbrev pub lines_in : ℕ → ℕ → ℕ
lines_in zero lines = 0
lines_in (suc k) lines = lines
