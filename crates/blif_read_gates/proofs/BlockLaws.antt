-- The gates of one block: a latch, or a cover by its places. Assumes nothing.
use Rattle.refusals.specs.Order.{fine}
use mathlib.Core.Path.{◌≡◌, sym, ap, ◌∙◌, subst}
use mathlib.Core.Bool.{true, not}
use mathlib.Core.List.{List}
use Prim.Native.Nat.{ℕ, ◌+◌, ◌-◌}
use native.Mathlib.Omega.{arith}
use lib.ListN.{length, take}
use lib.Seq.{slice, length-take-le}
use borrow.Author.Tests.{not-false}
use Rattle.lists.specs.Lists.{Bytes, all}
use Rattle.network.specs.Record.{count_at}
use Rattle.blif_text.specs.Decls.{Def, cover}
use Rattle.blif_text.specs.Between.Places.{tokens_of}
use Rattle.blif_text.specs.Between.Walk.{rows_from}
use Rattle.blif_text.specs.Between.Blocks.{first_name, name_count, line_count, def_from, def_at, BlockIn, Blocks}
use Rattle.blif_text.proofs.BlockLaws.{cover-from}
use Rattle.blif_reading.specs.Read.{good_line, added, cover_fault}
use Rattle.refusals.specs.declared.Refusal.TheVariants as refusal
use Rattle.refusals.proofs.Order.{or_else-left, fine-refuse_if}
use Rattle.blif_read_gates.specs.Between.Steps.{GoodRows, CoverBuilt, BlockRoom, BlockBuilt}

-- the cells of block j's record are these
abbrev pub Cells : List ℕ → ℕ → ℕ → ℕ → ℕ → Type 0
Cells blocks j first names lines = (first ≡ first_name blocks j) × (names ≡ name_count blocks j) × (lines ≡ line_count blocks j)

-- the definition by these cells
def_is : (text tokens : List ℕ) (n : ℕ) (blocks : List ℕ) (j first names lines : ℕ) → Cells blocks j first names lines
    → def_at text tokens n blocks j ≡ def_from text tokens n first names lines
def_is text tokens n blocks j first names lines e = rw (e.0, e.1, e.2)

-- no refusal 12
pub cover-good : (ns : List Bytes) (ls : List (List Bytes)) → cover_fault (cover ns ls) ≡ fine → all (good_line (length ns - 1)) ls ≡ true
unfolding cover_fault
cover-good ns ls e = not-false (all (good_line (length ns - 1)) ls) (fine-refuse_if (not (all (good_line (length ns - 1)) ls)) refusal.WrongCubeLine (or_else-left _ _ e))

module _ {text tokens : List ℕ} {n : ℕ} {blocks : List ℕ} {j first names lines next at : ℕ} {gates pins_in : List ℕ} (some-names : names ≡ 0 → ⊥)
    (bs : Blocks text tokens n blocks (j + 1)) (e : Cells blocks j first names lines) (room : BlockRoom (def_at text tokens n blocks j) j next at gates pins_in) where
  b : BlockIn text tokens n first names lines
  b = rw (e.0, e.1, e.2) (bs.each j (omega arith))

  abbrev names_of : List Bytes
  names_of = tokens_of text (slice first (first + names) tokens)

  abbrev lines_of : List (List Bytes)
  lines_of = take lines (rows_from text tokens n (first + names))

  is-cover : def_at text tokens n blocks j ≡ cover names_of lines_of
  is-cover = def_is text tokens n blocks j first names lines e ∙ cover-from text tokens n first names lines some-names

  here : BlockRoom (cover names_of lines_of) j next at gates pins_in
  here = subst (λ (d : Def). BlockRoom d j next at gates pins_in) is-cover room

  lines_are : length lines_of ≡ lines
  lines_are = length-take-le lines (rows_from text tokens n (first + names)) (b.enough (omega arith))

  -- its lines are good
  pub cover-rows : GoodRows text tokens n (first + names) lines (count_at gates j)
  cover-rows =
      record {
        rows = b.behind (omega arith);
        enough = b.enough (omega arith);
        good = ap (λ (k : ℕ). all (good_line k) lines_of) here.counted ∙ cover-good names_of lines_of here.good;
      }

  -- and they are built
  pub cover-built : {new r : ℕ} {gates' pins_in' : List ℕ} → new ≡ added lines → CoverBuilt lines_of j next at gates pins_in gates' pins_in' r
      → BlockBuilt (def_at text tokens n blocks j) j next at gates pins_in gates' pins_in' (next + new) r
  cover-built {new} {r} {gates'} {pins_in'} a c =
      subst (λ (d : Def). BlockBuilt d j next at gates pins_in gates' pins_in' (next + new) r) (sym is-cover)
      (record {
        kept = c.kept;
        counted = ap (λ (k : ℕ). next + k) (a ∙ ap added (sym lines_are));
        end = c.end;
        main = λ signal_of g. c.main _ g;
        more = λ signal_of g i y q. c.more _ g i y q;
      })
