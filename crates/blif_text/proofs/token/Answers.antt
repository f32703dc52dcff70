-- `token` cuts the token's place out of the text. Assumes nothing.
use mathlib.Core.Path.{◌≡◌, ap₂}
use mathlib.Core.List.{List}
use Prim.Native.Nat.{ℕ, ◌+◌, ◌-◌}
use native.Mathlib.Omega.{arith}
use lib.ListN.{take, drop}
use Rattle.blif_text.specs.Between.Places.{token_start, token_length, token_of}
use Rattle.blif_text.proofs.token.Goals as goal

-- the part that the code cuts
part-is-token : (text : List ℕ) (cell : ℕ) {s l : ℕ} → s ≡ token_start cell → l ≡ token_length cell → take (s + l - s) (drop s text) ≡ token_of text cell
unfolding token_of
part-is-token text cell {s} {l} p q = let e : s + l - s ≡ token_length cell = omega arith in ap₂ (λ (a k : ℕ). take k (drop a text)) p e

pub returns : goal.returns
returns c = part-is-token c.args.text.now c.args.cell c.token_start-start.ensures c.token_length.ensures
