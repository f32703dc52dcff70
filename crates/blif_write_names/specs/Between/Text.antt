-- Text in the output slice: "Each block is written into what is left of the output slice" (document 01). Assumes nothing: these are
-- definitions.
use Rattle.std.specs.Prelude.{◌≡◌, [], ◌∷◌, ◌++◌, ℕ, zero, suc, ◌+◌, ◌/◌, ◌%◌, min, length}
use Rattle.lists.specs.Lists.{Bytes, overwrite}
use Rattle.lists.specs.Between.Lists.{overwrite_at}
use Rattle.blif_writing.specs.Names.{decimal}

-- a writer of the text t was lent the slice o, left p in it and gave back r
pub record Wrote (t o p : Bytes) (r : ℕ) : Type 0 where
  -- the text is laid over the front of the slice, cut where the slice ends
  pub out : p ≡ overwrite t o
  -- "give back the length": the text's, or one more than the slice's where the text is longer
  pub len : r ≡ min (length t) (length o + 1)

-- a writer of the text t at place a of the slice o left p in it and gave back the place r after the text
pub record Appended (t o : Bytes) (a : ℕ) (p : Bytes) (r : ℕ) : Type 0 where
  -- the text is laid over what is left of the slice
  pub out : p ≡ overwrite_at a t o
  -- the place after it, or one past the slice's end where the text goes further
  pub len : r ≡ min (a + length t) (length o + 1)

-- ---- "the decimal number", digit by digit

-- the last digit of a number, and nothing for zero
abbrev pub last_digit : ℕ → Bytes
last_digit zero = []
last_digit (suc n) = (48 + suc n % 10) ∷ []

-- the last four digits of a number, from its first digit on
abbrev pub four_of : ℕ → Bytes
four_of n = ((last_digit (n / 1000) ++ last_digit (n / 100)) ++ last_digit (n / 10)) ++ last_digit n

-- the digits that stand before others: the number in decimal, and nothing for zero
abbrev pub leading : ℕ → Bytes
leading zero = []
leading (suc n) = decimal (suc n) []
