-- One step of the scan after the other, from the first place to the text's end. Assumes nothing.
use mathlib.Core.Path.{◌≡◌, refl, sym, ap, ap₂, ◌∙◌, subst}
use mathlib.Core.Bool.{Bool, true, false, true≢false, ◌||◌}
use mathlib.Core.List.{List, [], ◌∷◌}
use Prim.Native.Nat.{ℕ, ◌+◌, ◌-◌, ◌≤◌, ◌<◌}
use native.Mathlib.Numerals.{add-one}
use native.Mathlib.Omega.{arith}
use lib.Dec.{eqb}
use lib.ListN.{length, get_or, take, set, length-set}
use borrow.Author.Tests.{ne_eqb, eqb-true, eqb-false}
use Rattle.lists.specs.Lists.{overwrite}
use Rattle.lists.specs.Between.Lists.{overwrite_at}
use Rattle.lists.proofs.Over.{length-overwrite, take-overwrite}
use Rattle.lists.proofs.OverAt.{overwrite_at-nil, overwrite-first}
use Rattle.lists.proofs.Tests.{by_order, by-test, or-false}
use Rattle.std.proofs.Math.Bool.{or-true}
use Rattle.blif_text.specs.Lines.{is_blank}
use Rattle.blif_text.specs.Between.Places.{token_cell, token_cells, TokensMarked}
use Rattle.blif_text.specs.Between.Scan.{ends_word, other_than, NoneTo, FirstTo, LineAfter, StopTo, at-lf, cells_from, ScanAt, Scanned, WordPut}
use Rattle.blif_text.proofs.Loops.{none-start, none-next, none-join}
use Rattle.blif_text.proofs.ScanBytes.{blank_of, stop_le, stop-high}
use Rattle.blif_text.proofs.CellsFrom.{line-stops, from_end, from-stop, from-blank, from-blanks, from-lfs, from-comment, comment-moves, from-word, from-alone, from_goes}
use Rattle.blif_text.proofs.TokenCells.{tokens-marked}

-- ---- steps

module _ {text cells : List ℕ} {i count : ℕ} {fresh : Bool} where
  -- nothing is marked
  scan-on : {next : ℕ} {first : Bool} → ScanAt text cells next count → cells_from text i fresh ≡ cells_from text next first → Scanned text cells i count fresh cells next count first
  scan-on s e = record { ready = s; same_count = ap (λ (l : List ℕ). count + length l) (sym e); same-cells = ap (λ (l : List ℕ). overwrite_at count l cells) (sym e) }

  -- a word is marked
  pub scan-put : {end next : ℕ} {cells' : List ℕ} {at' count' : ℕ} {fresh' : Bool} → WordPut cells i count fresh end next cells' at' count' fresh'
      → Scanned text cells i count fresh (set cells count (token_cell fresh i (end - i))) next (count + 1) false → Scanned text cells i count fresh cells' at' count' fresh'
  scan-put p s = rw (p.cell, p.place, p.counted, p.first) s

  word-put : {x next : ℕ} → ScanAt text cells next (count + 1) → cells_from text i fresh ≡ x ∷ cells_from text next false → Scanned text cells i count fresh (set cells count x) next (count + 1) false
  word-put {x} {next} s e =
      record {
        ready = record { small = s.small; room = omega (arith, length-set cells count x, s.room); high = s.high; few = s.few; fewer = s.fewer };
        same_count = omega (arith, ap length e);
        same-cells = rw (e, add-one count) (sym (overwrite-first count x (cells_from text next false) cells));
      }

module _ {text cells : List ℕ} {i count : ℕ} (c : ScanAt text cells i count) (h : i < length text) where
  -- further on in the text, with no token more
  further : {next : ℕ} → i < next → next ≤ length text → ScanAt text cells next count
  further a b = record { small = c.small; room = c.room; high = b; few = omega (arith, c.few); fewer = λ l e. omega (arith, c.few) }

  -- an LF, and those behind it
  pub scan-lf : {next : ℕ} {fresh : Bool} → get_or text i 0 ≡ 10 → NoneTo (other_than 10) text (i + 1) next → Scanned text cells i count fresh cells next count true
  scan-lf {fresh = fresh} e s = scan-on (further (omega (arith, s.low)) s.high) (from-stop text fresh i (i + 1) (at-lf h e refl) ∙ from-lfs text s)

  pub scan-comment : {next : ℕ} {fresh : Bool} → get_or text i 0 ≡ 35 → LineAfter text i next → Scanned text cells i count fresh cells next count true
  scan-comment {fresh = fresh} e a = scan-on (further (comment-moves h e a) (stop-high text a.end _ a.to.passed.high (line-stops a))) (from-comment text fresh i h e a)

  -- what ends a word is a blank where it is no `#`
  a_blank : ends_word (get_or text i 0) ≡ true → (get_or text i 0 ≡ 35 → ⊥) → is_blank (get_or text i 0) ≡ true
  a_blank e f = blank_of (get_or text i 0) e (ne_eqb 35 (get_or text i 0) (λ q. f (sym q)))

  no_lf : (get_or text i 0 ≡ 10 → ⊥) → eqb 10 (get_or text i 0) ≡ false
  no_lf g = ne_eqb 10 (get_or text i 0) (λ q. g (sym q))

  -- a blank that is no LF, and a run of one such blank
  pub scan-blank : (c : ℕ) {next : ℕ} {fresh : Bool} → ends_word (get_or text i 0) ≡ true → (get_or text i 0 ≡ 35 → ⊥) → (get_or text i 0 ≡ 10 → ⊥) → is_blank c ≡ true → eqb 10 c ≡ false
      → NoneTo (other_than c) text (i + 1) next → Scanned text cells i count fresh cells next count fresh
  scan-blank c {fresh = fresh} e f g b n s =
      scan-on (further (omega (arith, s.low)) s.high) (from-blank text fresh i h (a_blank e f) (no_lf g) ∙ from-blanks text fresh c b n s)

  -- a run of one blank: LFs end the statement, others leave it as it is
  pub scan-blanks : {next : ℕ} {fresh : Bool} → ends_word (get_or text i 0) ≡ true → (get_or text i 0 ≡ 35 → ⊥) → NoneTo (other_than (get_or text i 0)) text (i + 1) next
      → Scanned text cells i count fresh cells next count (fresh || eqb (get_or text i 0) 10)
  scan-blanks {next} {fresh} e f s =
      by-test (eqb (get_or text i 0) 10)
      (λ q.
      let p : get_or text i 0 ≡ 10 = eqb-true (get_or text i 0) 10 q in
      rw (q, or-true fresh) (scan-lf p (subst (λ (c : ℕ). NoneTo (other_than c) text (i + 1) next) p s)))
      (λ q.
      let g : get_or text i 0 ≡ 10 → ⊥ = eqb-false (get_or text i 0) 10 q in
      rw (q, or-false fresh) (scan-blank (get_or text i 0) e f g (a_blank e f) (no_lf g) s))

  -- ---- a word

  module _ (f : ends_word (get_or text i 0) ≡ false) {e : ℕ} (w : FirstTo ends_word text (i + 1) e) where
    word_none : NoneTo ends_word text i e
    word_none = none-join (none-next (none-start ends_word c.high) h f) w.passed

    pub scan-word : {fresh : Bool} → (get_or text (e - 1) 0 ≡ 92 → (next : ℕ) → StopTo text e next → ⊥) → Scanned text cells i count fresh (set cells count (token_cell fresh i (e - i))) e (count + 1) false
    scan-word {fresh} n =
        word-put
        (record {
          small = c.small;
          room = c.room;
          high = w.passed.high;
          few = omega (arith, c.fewer h f, w.passed.low);
          fewer = λ l q. absurd (true≢false (sym (w.stop l) ∙ q));
        })
        (from-word text fresh (omega (arith, w.passed.low)) word_none n w.stop)

    -- a backslash ends the line
    module _ {next : ℕ} (s : get_or text (e - 1) 0 ≡ 92) (t : StopTo text e next) where
      pub goes-moves : i < next
      goes-moves = omega (arith, w.passed.low, stop_le text e next t)

      -- it stands alone
      pub scan-alone : {fresh : Bool} → e ≡ i + 1 → Scanned text cells i count fresh cells next count fresh
      scan-alone {fresh} q = scan-on (further goes-moves (stop-high text e next w.passed.high t)) (from-alone text fresh (omega arith) word_none s t q)

      -- it ends a word
      pub scan-goes : {fresh : Bool} → (e ≡ i + 1 → ⊥) → Scanned text cells i count fresh (set cells count (token_cell fresh i (e - 1 - i))) next (count + 1) false
      scan-goes {fresh} d =
          let m : i < e - 1 = by_order e (i + 1) (λ o. absurd (d (omega (arith, w.passed.low)))) (λ o. omega arith) in
          let far : e ≤ next = stop_le text e next t in
          word-put
          (record {
            small = c.small;
            room = c.room;
            high = stop-high text e next w.passed.high t;
            few = omega (arith, c.fewer h f);
            fewer = λ l q. omega (arith, c.fewer h f);
          })
          (from_goes text fresh (omega arith) word_none s t m)

-- ---- the whole scan

module _ {text cells cells' : List ℕ} {i count : ℕ} {fresh : Bool} (c : Scanned text cells 0 0 true cells' i count fresh) (h : length text ≤ i) where
  none_left : cells_from text i fresh ≡ []
  none_left = from_end text fresh i h

  all-counted : count ≡ length (token_cells text)
  unfolding token_cells cells_from
  all-counted = omega (arith, ap length none_left, c.same_count)

  -- every cell
  pub scan-cells : cells' ≡ overwrite (token_cells text) cells
  unfolding token_cells cells_from
  scan-cells = sym (ap (λ (l : List ℕ). overwrite_at count l cells') none_left ∙ overwrite_at-nil count cells') ∙ c.same-cells

  few : count ≤ 16384
  few = omega (arith, c.ready.few, c.ready.high, c.ready.small)

  front : take count cells' ≡ token_cells text
  front =
      ap₂ take all-counted scan-cells
      ∙ take-overwrite (token_cells text) cells (omega (arith, all-counted, few, c.ready.room, ap length scan-cells, length-overwrite (token_cells text) cells))

  pub scan-done : TokensMarked text cells' count
  scan-done = tokens-marked text c.ready.small all-counted front few
