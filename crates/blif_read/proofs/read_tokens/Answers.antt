-- `read_tokens` marks the tokens and makes the tests of 4 to 6. Assumes nothing.
use Rattle.std.proofs.lemmas.Result.{err_from_is_err_and}
use mathlib.Core.Path.{◌≡◌, sym, ◌∙◌}
use mathlib.Core.List.{List}
use Prim.Native.Nat.{ℕ, ◌≤◌}
use native.Mathlib.Omega.{arith}
use lib.ListN.{length}
use Rattle.network.specs.Sizes.{max_pins}
use Rattle.blif_text.specs.Between.Places.{TokensMarked}
use Rattle.blif_text.proofs.RefusalLaws.{marked-front}
use Rattle.blif_read.proofs.Refusing.{holds-refused, bad-statement, marked-stand, passed-size, sized}
use Rattle.blif_read.proofs.read_tokens.Goals as goal

-- the tokens fit into the pins' cells
fits : {text cells : List ℕ} {n m : ℕ} → TokensMarked text cells n → length cells ≡ m → max_pins ≤ m → n ≤ length cells
fits t e h = omega (arith, t.few, e, h)

pub returns-in_err-first_bad : goal.returns-in_err-first_bad
returns-in_err-first_bad c = let p = err_from_is_err_and c.from_residual.result c.from_residual.ensures.1 in
    rw (p.1, p.2) (holds-refused _ _ _ _ _ (bad-statement c.requires.plain_text (sym c.first_bad.ensures ∙ c.in_err-first_bad.was)))

pub too_large-requires : goal.too_large-requires
too_large-requires c = let front = marked-front (fits c.mark_tokens-n.ensures.tokens_marked c.mark_tokens-n.auto.cells c.requires.enough.pins) c.mark_tokens-n.ensures.tokens_marked in
    let fine = sym c.first_bad.ensures ∙ c.in_ok-first_bad.was in
    (marked-stand c.requires.plain_text front fine, front.few)

pub returns-then-too_large : goal.returns-then-too_large
returns-then-too_large c = let front = marked-front (fits c.mark_tokens-n.ensures.tokens_marked c.mark_tokens-n.auto.cells c.requires.enough.pins) c.mark_tokens-n.ensures.tokens_marked in
    let fine = sym c.first_bad.ensures ∙ c.in_ok-first_bad.was in
    holds-refused _ _ _ _ _ (passed-size c.requires.plain_text front fine (sym c.too_large.ensures ∙ c.if-too_large.true))

pub read_names-requires-clause-sized : goal.read_names-requires-clause-sized
read_names-requires-clause-sized c = let room = fits c.mark_tokens-n.ensures.tokens_marked c.mark_tokens-n.auto.cells c.requires.enough.pins in
    let front = marked-front room c.mark_tokens-n.ensures.tokens_marked in
    let fine = sym c.first_bad.ensures ∙ c.in_ok-first_bad.was in sized c.requires.plain_text front fine (sym c.too_large.ensures ∙ c.if-too_large.false)
