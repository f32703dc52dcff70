-- The numbers of refusals (document 01, "Reading refuses, in order", "Writing refuses, in order"; document 02): "When an answer is an enum, a
-- definition gives this paper's number and values for each enum case". Assumes nothing: these are definitions.
--   number_of r   a refusal's number in documents 01 and 02
--   InReading r  one that reading answers
--   InWriting r  one that writing answers
--   InRunning r  one that a run answers
use Rattle.std.specs.Prelude.{◌≡◌, ◌⊎◌, ℕ, ◌≤◌}
use Rattle.refusals.specs.declared.Refusal.{Refusal}
use Rattle.refusals.specs.declared.Refusal.TheVariants as refusal

-- "Reading refuses, in order: 1 .. 14"; "Writing refuses, in order: 20 .. 22"; document 02, CR 1: "The order is 20, then these. 29 .. 30 ..
-- and 31"; CR 2: "32 when a sheet line is missing, misformed or left over, or the sheet passes 40,960 bytes", "33 when the network has no output";
-- CR 4: "34 when a start value is not 0, 1, 2 or 3"
abbrev pub number_of : Refusal → ℕ
number_of refusal.TooFewCells = 1
number_of refusal.TextTooLong = 2
number_of refusal.HighByte = 3
number_of refusal.MissingName = 4
number_of refusal.Unsupported = 5
number_of refusal.SizePassed = 6
number_of refusal.SecondModel = 7
number_of refusal.EndBeforeModel = 8
number_of refusal.NamesEmpty = 9
number_of refusal.DefinedTwice = 10
number_of refusal.Undefined = 11
number_of refusal.WrongCubeLine = 12
number_of refusal.OutputsDiffer = 13
number_of refusal.CombinationalLoop = 14
number_of refusal.NotANetwork = 20
number_of refusal.WideExclusive = 21
number_of refusal.TextDoesNotFit = 22
number_of refusal.NotSorted = 29
number_of refusal.OtherFlipFlop = 30
number_of refusal.WrongRows = 31
number_of refusal.WrongSheet = 32
number_of refusal.NoOutput = 33
number_of refusal.WrongStart = 34

-- a refusal of reading: 1 to 14, since none has 0, or 34
abbrev pub InReading : Refusal → Type 0
InReading r = (number_of r ≤ 14) ⊎ (number_of r ≡ 34)

-- a refusal of writing: 20 to 22
pub record InWriting (r : Refusal) : Type 0 where
  -- from 20
  pub low : 20 ≤ number_of r
  -- to 22
  pub high : number_of r ≤ 22

-- a refusal of a run: 20, or 29 to 31
abbrev pub InRunning : Refusal → Type 0
InRunning r = (number_of r ≡ 20) ⊎ (number_of r ≡ 29) ⊎ (number_of r ≡ 30) ⊎ (number_of r ≡ 31)
