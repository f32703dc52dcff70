-- The refusals in order: the first that takes the text is its answer, the others are left. Assumes nothing.
use Rattle.std.specs.Prelude.{⊤, Result, Err}
use mathlib.Core.Path.{◌≡◌, refl, sym, ap, ◌∙◌, subst}
use mathlib.Core.Bool.{Bool, true, false}
use mathlib.Core.List.{List, []}
use Prim.Native.Nat.{ℕ, ◌≤◌}
use native.Mathlib.Omega.{arith}
use lib.Dec.{ltb, leb}
use lib.ListN.{length}
use Rattle.lists.specs.Lists.{Bytes, any}
use Rattle.refusals.specs.Order.{◌or_else◌, refuse_if, fine}
use Rattle.refusals.specs.declared.Refusal.{Refusal}
use Rattle.refusals.specs.declared.Refusal.TheVariants as refusal
use Rattle.refusals.proofs.Order.{or_else-stop, or_else-go, refuse_if-yes, refuse_if-no}
use Rattle.sort_order.specs.Sorted.{sorted}
use Rattle.blif_text.specs.Statements.{parsed, first_bad}
use Rattle.blif_text.specs.Decls.{decls, defs, decls_of}
use Rattle.blif_text.specs.Between.Places.{TokensMarked}
use Rattle.blif_text.specs.Lines.{max_text}
use Rattle.blif_text.specs.Between.Walk.{stmts_from, StmtsAt}
use Rattle.blif_text.proofs.RefusalLaws.{stmts-start, stmts-all}
use Rattle.blif_reading.specs.Read.{too_large, naming, undefined, cover_faults, decl_fault, read_fault, answer, built_from, read_text}
use Rattle.blif_read.specs.Between.Stages.{Holds, PlainText, Sized}
use Rattle.network.specs.Net.{Net}

module _ (text : Bytes) where
  -- a text that a refusal takes
  pub refused-by : {r : Refusal} → read_fault text ≡ Err r → read_text text ≡ Err r
  unfolding read_text answer
  refused-by e = ap (λ (c : Result ⊤ Refusal). answer c (sorted (built_from (decls_of text)))) e

  -- a text that none takes up to the sort
  pub sorted-or-loop : read_fault text ≡ fine → read_text text ≡ answer fine (sorted (built_from (decls_of text)))
  unfolding read_text
  sorted-or-loop e = ap (λ (c : Result ⊤ Refusal). answer c (sorted (built_from (decls_of text)))) e

  -- a refusal says nothing of the cells
  pub holds-refused : (r : Refusal) (gs ps os : List ℕ) → read_text text ≡ Err r → Holds (read_text text) (Err r) gs ps os
  holds-refused r gs ps os e = subst (λ (x : Result Net Refusal). Holds x (Err r) gs ps os) (sym e) refl

  -- the first refusal of what is left takes the text
  pub refuses : {c : Result ⊤ Refusal} {r : Refusal} (left : Result ⊤ Refusal) → read_fault text ≡ (c or_else left) → c ≡ Err r → read_text text ≡ Err r
  refuses left e q = refused-by (e ∙ or_else-stop left q)

  -- it does not
  pub goes_on : {c : Result ⊤ Refusal} (left : Result ⊤ Refusal) → read_fault text ≡ (c or_else left) → c ≡ fine → read_fault text ≡ left
  goes_on left e q = e ∙ or_else-go q

  -- the same of a test
  pub refuses-refuse_if : (c : Bool) (r : Refusal) (left : Result ⊤ Refusal) → read_fault text ≡ (refuse_if c r or_else left) → c ≡ true → read_text text ≡ Err r
  refuses-refuse_if c r left e t = refuses left e (sym (refuse_if-yes r t))

  -- a test that fails
  pub passes-refuse_if : (c : Bool) (r : Refusal) (left : Result ⊤ Refusal) → read_fault text ≡ (refuse_if c r or_else left) → c ≡ false → read_fault text ≡ left
  passes-refuse_if c r left e t = goes_on left e (sym (refuse_if-no r t))

  -- ---- the text's length and bytes

  first-left : read_fault text ≡
      (refuse_if (ltb max_text (length text)) refusal.TextTooLong
      or_else refuse_if (any (leb 128) text) refusal.HighByte
      or_else first_bad (parsed text)
      or_else decl_fault (decls_of text))
  unfolding read_fault
  first-left = refl

  pub too_long_lem : ltb max_text (length text) ≡ true → read_text text ≡ Err refusal.TextTooLong
  too_long_lem e = refuses-refuse_if (ltb max_text (length text)) refusal.TextTooLong _ first-left e

  module _ (s : ltb max_text (length text) ≡ false) where
    second-left : read_fault text ≡ (refuse_if (any (leb 128) text) refusal.HighByte or_else first_bad (parsed text) or_else decl_fault (decls_of text))
    second-left = passes-refuse_if (ltb max_text (length text)) refusal.TextTooLong _ first-left s

    pub high_byte : any (leb 128) text ≡ true → read_text text ≡ Err refusal.HighByte
    high_byte e = refuses-refuse_if (any (leb 128) text) refusal.HighByte _ second-left e

    pub readable : length text ≤ max_text → any (leb 128) text ≡ false → PlainText text
    readable h e = record { small = h; left = passes-refuse_if (any (leb 128) text) refusal.HighByte _ second-left e }

-- ---- tokens and sizes

module _ {text : Bytes} (c : PlainText text) where
  pub bad-statement : {r : Refusal} → first_bad (parsed text) ≡ Err r → read_text text ≡ Err r
  bad-statement e = refuses text _ c.left e

  module _ {tokens : List ℕ} (m : TokensMarked text tokens (length tokens)) (z : first_bad (parsed text) ≡ fine) where
    -- the statements stand in the tokens
    pub marked-stand : StmtsAt text tokens (length tokens) 0
    marked-stand = stmts-start m (omega arith) z

    -- they declare what the text declares
    same-decls : decls (stmts_from text tokens (length tokens) 0) ≡ decls_of text
    unfolding decls_of
    same-decls = ap decls (stmts-all m)

    third-left : read_fault text ≡
        (refuse_if (too_large (decls_of text)) refusal.SizePassed
        or_else naming false [] (decls_of text)
        or_else refuse_if (undefined (decls_of text)) refusal.Undefined
        or_else cover_faults (defs (decls_of text)))
    unfolding decl_fault
    third-left = goes_on text _ c.left z

    pub passed-size : too_large (decls (stmts_from text tokens (length tokens) 0)) ≡ true → read_text text ≡ Err refusal.SizePassed
    passed-size e = refuses-refuse_if text (too_large (decls_of text)) refusal.SizePassed _ third-left (sym (ap too_large same-decls) ∙ e)

    pub sized : too_large (decls (stmts_from text tokens (length tokens) 0)) ≡ false → Sized text tokens
    sized e =
        let s : too_large (decls_of text) ≡ false = sym (ap too_large same-decls) ∙ e in
        record {
          stands = marked-stand;
          few = m.few;
          declared = sym same-decls;
          sized = s;
          left = passes-refuse_if text (too_large (decls_of text)) refusal.SizePassed _ third-left s;
        }
