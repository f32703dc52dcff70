-- What a row declares, with the cube lines behind it. Assumes nothing.
use mathlib.Core.Path.{◌≡◌, refl, sym, ap, ap₂, ◌∙◌, subst}
use mathlib.Core.List.{List, [], ◌∷◌, ◌++◌, append-nil}
use Prim.Native.Nat.{ℕ, ◌+◌, ◌-◌, ◌≤◌, ◌<◌}
use native.Mathlib.Omega.{arith}
use lib.ListN.{length, take}
use Rattle.lists.specs.Lists.{Bytes}
use Rattle.blif_text.specs.Decls.{cover, Decl, model, inputs, outputs, gate, decls}
use Rattle.blif_text.specs.Between.PlacedStatements.{names_run}
use Rattle.blif_text.specs.Between.Walk.{rows_from, stmts_from, RowsAt, StmtsAt}
use Rattle.blif_text.specs.Between.Blocks.{latch_from}
use Rattle.blif_text.specs.declared.Keyword.{Keyword}
use Rattle.blif_text.specs.declared.Keyword.TheVariants as key
use Rattle.blif_text.proofs.RefusalLaws.{stmts-end}
use Rattle.blif_declarations.specs.Between.Rows.{names, RowIs, LinesAt}
use Rattle.blif_declarations.specs.Between.Declarations.{decl_at, PlacesIn, declared_by, behind_row, NextIs}
use Rattle.blif_declarations.specs.declared.Declaration.{Declaration}
use Rattle.blif_declarations.specs.declared.Declaration.TheVariants as next
use Rattle.blif_declarations.proofs.RowStarts.{stmts-behind}
use Rattle.blif_declarations.proofs.LineWalk.{cube-decls}

-- no statement, no declaration
no-decls : decls [] ≡ []
unfolding decls
no-decls = refl

-- behind the last statement nothing is declared
pub decls-end : {text tokens : List ℕ} {n at : ℕ} → StmtsAt text tokens n at → n ≤ at → decls (stmts_from text tokens n at) ≡ []
decls-end c h = ap decls (stmts-end c h) ∙ no-decls

-- the same place of an equal declaration
pub next-as : {text tokens : List ℕ} {n at behind : ℕ} {d e : Declaration} → NextIs text tokens n at d behind → d ≡ e → NextIs text tokens n at e behind
next-as {text} {tokens} {n} {at} {behind} x q = subst (λ (d : Declaration). NextIs text tokens n at d behind) q x

-- ---- what a row declares, with the cube lines behind it

module _ {text tokens : List ℕ} {n end k e : ℕ} (l : LinesAt text tokens n end k e) where
  -- a token is passed
  moves : {at : ℕ} {keyword : Keyword} → RowIs text tokens n at end keyword → at < e
  moves w = omega (arith, w.low, l.low)

  -- cube lines "elsewhere .. are not looked at"
  stray : (ds : List Decl) → ds ++ decls (stmts_from text tokens n end) ≡ ds ++ decls (stmts_from text tokens n e)
  stray ds = ap (λ (x : List Decl). ds ++ x) (sym l.same)

  -- "`.end` stops naming, building and size counting as `.exdc` does": the walk goes on behind the last row, where nothing is declared
  stops : {at : ℕ} {keyword : Keyword} → RowIs text tokens n at end keyword → (d : Declaration)
      → decls (stmts_from text tokens n at) ≡ decl_at text tokens n d → PlacesIn text tokens n d → NextIs text tokens n at d n
  stops w d e p =
      let b = stmts-behind w.rest in
      record {
        low = omega (arith, w.low, w.rest.rows.high);
        rest = b;
        are = e ∙ sym (append-nil (decl_at text tokens n d)) ∙ ap (λ (x : List Decl). decl_at text tokens n d ++ x) (sym (decls-end b (omega arith)));
        places = p;
      }

  pub row-declares : {at : ℕ} (keyword : Keyword) → RowIs text tokens n at end keyword
      → NextIs text tokens n at (declared_by keyword (names_run at end) k) (behind_row keyword e n)
  unfolding decls
  row-declares {at} key.Model w = record { low = moves w; rest = l.rest; are = ap decls w.starts ∙ stray (model ∷ []); places = tt }
  row-declares {at} key.Inputs w =
      record {
        low = moves w;
        rest = l.rest;
        are = ap decls w.starts ∙ stray (inputs (names text tokens (names_run at end)) ∷ []);
        places = omega (arith, w.low, w.rest.rows.high);
      }
  row-declares {at} key.Outputs w =
      record {
        low = moves w;
        rest = l.rest;
        are = ap decls w.starts ∙ stray (outputs (names text tokens (names_run at end)) ∷ []);
        places = omega (arith, w.low, w.rest.rows.high);
      }
  row-declares {at} key.Latch w =
      record {
        low = moves w;
        rest = l.rest;
        are = ap decls w.starts.0 ∙ stray (gate (latch_from text tokens (at + 1) (end - at - 1)) ∷ []);
        places = (omega (arith, w.starts.1), omega (arith, w.starts.1, w.rest.rows.high));
      }
  -- "Cube lines count only directly after their `.names`"
  row-declares {at} key.Names w =
      let m : end ≡ at + 1 + (end - at - 1) = omega (arith, w.low) in
      record {
        low = moves w;
        rest = l.rest;
        are =
            ap decls w.starts
            ∙ ap₂ (λ (x : List (List Bytes)) (y : List Decl). gate (cover (names text tokens (names_run at end)) x) ∷ y)
            (l.lines ∙ ap (λ (i : ℕ). take k (rows_from text tokens n i)) m) (sym l.same);
        places =
            record {
              few = omega (arith, m, w.rest.rows.high);
              behind = subst (RowsAt text tokens n) m w.rest.rows;
              enough = subst (λ (i : ℕ). k ≤ length (rows_from text tokens n i)) m l.enough;
              short = omega (arith, l.low, l.rest.rows.high);
            };
      }
  row-declares {at} key.End w = stops w next.End (ap decls w.starts) tt
  row-declares {at} key.Exdc w = stops w next.None (ap decls w.starts) tt
  row-declares {at} key.Unsupported w = absurd w.starts
  row-declares {at} key.Cube w = record { low = moves w; rest = l.rest; are = sym (cube-decls w) ∙ stray []; places = tt }
