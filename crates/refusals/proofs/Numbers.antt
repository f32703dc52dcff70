-- Each refusal has a number of its own, and none has 0. Assumes nothing.
use mathlib.Core.Path.{◌≡◌, refl, sym, ap, ◌∙◌}
use mathlib.Core.List.{List, [], ◌∷◌}
use Prim.Native.Nat.{ℕ, ◌<◌}
use native.Mathlib.Omega.{arith}
use lib.ListN.{get_or}
use Rattle.refusals.specs.Numbers.{number_of}
use Rattle.refusals.specs.declared.Refusal.{Refusal}
use Rattle.refusals.specs.declared.Refusal.TheVariants as refusal

-- no number is 0
pub number-pos : (r : Refusal) → 0 < number_of r
number-pos refusal.TooFewCells = omega arith
number-pos refusal.TextTooLong = omega arith
number-pos refusal.HighByte = omega arith
number-pos refusal.MissingName = omega arith
number-pos refusal.Unsupported = omega arith
number-pos refusal.SizePassed = omega arith
number-pos refusal.SecondModel = omega arith
number-pos refusal.EndBeforeModel = omega arith
number-pos refusal.NamesEmpty = omega arith
number-pos refusal.DefinedTwice = omega arith
number-pos refusal.Undefined = omega arith
number-pos refusal.WrongCubeLine = omega arith
number-pos refusal.OutputsDiffer = omega arith
number-pos refusal.CombinationalLoop = omega arith
number-pos refusal.NotANetwork = omega arith
number-pos refusal.WideExclusive = omega arith
number-pos refusal.TextDoesNotFit = omega arith
number-pos refusal.NotSorted = omega arith
number-pos refusal.OtherFlipFlop = omega arith
number-pos refusal.WrongRows = omega arith
number-pos refusal.WrongSheet = omega arith
number-pos refusal.NoOutput = omega arith
number-pos refusal.WrongStart = omega arith

-- the refusal of each number; the first stands where there is none
by_number : List Refusal
by_number =
    refusal.TooFewCells
    ∷ refusal.TooFewCells
    ∷ refusal.TextTooLong
    ∷ refusal.HighByte
    ∷ refusal.MissingName
    ∷ refusal.Unsupported
    ∷ refusal.SizePassed
    ∷ refusal.SecondModel
    ∷ refusal.EndBeforeModel
    ∷ refusal.NamesEmpty
    ∷ refusal.DefinedTwice
    ∷ refusal.Undefined
    ∷ refusal.WrongCubeLine
    ∷ refusal.OutputsDiffer
    ∷ refusal.CombinationalLoop
    ∷ refusal.TooFewCells
    ∷ refusal.TooFewCells
    ∷ refusal.TooFewCells
    ∷ refusal.TooFewCells
    ∷ refusal.TooFewCells
    ∷ refusal.NotANetwork
    ∷ refusal.WideExclusive
    ∷ refusal.TextDoesNotFit
    ∷ refusal.TooFewCells
    ∷ refusal.TooFewCells
    ∷ refusal.TooFewCells
    ∷ refusal.TooFewCells
    ∷ refusal.TooFewCells
    ∷ refusal.TooFewCells
    ∷ refusal.NotSorted
    ∷ refusal.OtherFlipFlop
    ∷ refusal.WrongRows
    ∷ refusal.WrongSheet
    ∷ refusal.NoOutput
    ∷ refusal.WrongStart
    ∷ []

number-again : (r : Refusal) → get_or by_number (number_of r) refusal.TooFewCells ≡ r
unfolding by_number
number-again refusal.TooFewCells = refl
number-again refusal.TextTooLong = refl
number-again refusal.HighByte = refl
number-again refusal.MissingName = refl
number-again refusal.Unsupported = refl
number-again refusal.SizePassed = refl
number-again refusal.SecondModel = refl
number-again refusal.EndBeforeModel = refl
number-again refusal.NamesEmpty = refl
number-again refusal.DefinedTwice = refl
number-again refusal.Undefined = refl
number-again refusal.WrongCubeLine = refl
number-again refusal.OutputsDiffer = refl
number-again refusal.CombinationalLoop = refl
number-again refusal.NotANetwork = refl
number-again refusal.WideExclusive = refl
number-again refusal.TextDoesNotFit = refl
number-again refusal.NotSorted = refl
number-again refusal.OtherFlipFlop = refl
number-again refusal.WrongRows = refl
number-again refusal.WrongSheet = refl
number-again refusal.NoOutput = refl
number-again refusal.WrongStart = refl

-- no two refusals share a number
pub number-one : (a b : Refusal) → number_of a ≡ number_of b → a ≡ b
number-one a b e = sym (number-again a) ∙ ap (λ (n : ℕ). get_or by_number n refusal.TooFewCells) e ∙ number-again b
