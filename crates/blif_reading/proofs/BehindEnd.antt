-- What stands behind `.end` or `.exdc` is not read, but has to parse (document 02, CR 3). Assumes nothing.
use Rattle.std.specs.Prelude.{⊤, Result, Err}
use mathlib.Core.Path.{◌≡◌, refl, sym, ap, ap₂, ◌∙◌}
use mathlib.Core.Bool.{false}
use mathlib.Core.List.{List, ◌++◌}
use mathlib.Core.Option.{Option}
use Prim.Native.Nat.{◌≤◌}
use native.Mathlib.Omega.{arith}
use lib.Dec.{leb, ltb}
use lib.ListN.{length, length-append}
use borrow.Author.Tests.{le-ltb}
use Rattle.lists.specs.Lists.{Bytes, any}
use Rattle.lists.proofs.Every.{any_append}
use Rattle.refusals.specs.Order.{◌or_else◌, refuse_if, fine}
use Rattle.refusals.specs.declared.Refusal.{Refusal}
use Rattle.refusals.specs.declared.Refusal.TheVariants as refusal
use Rattle.refusals.proofs.Order.{or_else-fine}
use Rattle.network.specs.Net.{Net}
use Rattle.sort_order.specs.Sorted.{sorted}
use Rattle.blif_text.specs.Lines.{max_text}
use Rattle.blif_text.specs.Statements.{Parsed, parsed, first_bad, stmts}
use Rattle.blif_text.specs.Decls.{Decl, decls, decls_of}
use Rattle.blif_text.specs.Ended.{Ended, MayFollow}
use Rattle.blif_text.proofs.Appended.{parsed-append, stmts-append, bad-append, decls-append}
use Rattle.blif_reading.specs.Read.{answer, built_from, decl_fault, read_fault, read_text}

module _ (text rest : Bytes) (e : Ended text) where
  statements : parsed (text ++ rest) ≡ parsed text ++ parsed rest
  statements = parsed-append text rest e.whole e.closed

  refusals : first_bad (parsed (text ++ rest)) ≡ (first_bad (parsed text) or_else first_bad (parsed rest))
  refusals = ap first_bad statements ∙ bad-append (parsed text) (parsed rest)

  declarations : decls_of (text ++ rest) ≡ decls_of text
  unfolding decls_of
  declarations =
      ap (λ (ps : List Parsed). decls (stmts ps)) statements
      ∙ ap decls (stmts-append (parsed text) (parsed rest))
      ∙ decls-append (stmts (parsed text)) (stmts (parsed rest)) e.stopped

  module _ (f : MayFollow text rest) where
    fault : read_fault (text ++ rest) ≡ read_fault text
    unfolding read_fault
    fault =
        let long : ltb max_text (length (text ++ rest)) ≡ false = le-ltb max_text (length (text ++ rest)) f.few in
        let short : ltb max_text (length text) ≡ false = le-ltb max_text (length text) (omega (arith, f.few, length-append text rest)) in
        let bad : first_bad (parsed (text ++ rest)) ≡ first_bad (parsed text) = refusals ∙ ap (λ (c : Result ⊤ Refusal). first_bad (parsed text) or_else c) f.parses ∙ or_else-fine (first_bad (parsed text)) in
        λ i.
        refuse_if ((long ∙ sym short) i) refusal.TextTooLong
        or_else refuse_if (any_append (leb 128) text rest f.plain i) refusal.HighByte
        or_else bad i
        or_else decl_fault (declarations i)

    pub behind-end : read_text (text ++ rest) ≡ read_text text
    unfolding read_text
    behind-end = ap₂ (λ (c : Result ⊤ Refusal) (n : Option Net). answer c n) fault (ap (λ (ds : List Decl). sorted (built_from ds)) declarations)

  module _ (few : length (text ++ rest) ≤ max_text) (plain : any (leb 128) (text ++ rest) ≡ false) (good : first_bad (parsed text) ≡ fine) {r : Refusal}
      (bad : first_bad (parsed rest) ≡ Err r) where
    pub behind-end-refused : read_text (text ++ rest) ≡ Err r
    unfolding read_text read_fault answer ◌or_else◌ refuse_if
    behind-end-refused =
        ap₂ (λ (c : Result ⊤ Refusal) (n : Option Net). answer c n)
        (λ i.
        refuse_if (le-ltb max_text (length (text ++ rest)) few i) refusal.TextTooLong
        or_else refuse_if (plain i) refusal.HighByte
        or_else (refusals ∙ (λ j. good j or_else bad j)) i
        or_else decl_fault (decls_of (text ++ rest)))
        refl
