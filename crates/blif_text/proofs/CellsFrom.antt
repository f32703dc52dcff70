-- The cells of the tokens from a place on, by what stands there. Assumes nothing.
use mathlib.Core.Path.{◌≡◌, refl, sym, ap, ap₂, ◌∙◌, subst}
use mathlib.Core.Bool.{Bool, true, false}
use mathlib.Core.List.{List, [], ◌∷◌, ◌++◌, head_d, append-nil}
use mathlib.Core.Logic.{⊎_elim}
use Prim.Native.Nat.{ℕ, zero, suc, ◌+◌, ◌-◌, ◌≤◌, ◌<◌}
use native.Mathlib.Omega.{arith}
use lib.Dec.{eqb}
use lib.ListN.{length}
use borrow.Author.Tests.{ne_eqb, eqb-true, not-false}
use Rattle.lists.specs.Lists.{Bytes, range}
use Rattle.lists.proofs.Range.{length-range}
use Rattle.lists.proofs.Tests.{by_order, by-test}
use Rattle.blif_text.specs.Lines.{continues, is_blank}
use Rattle.blif_text.specs.Between.PlaceRows.{byte_at, bytes_at, cr_before_lf, place_lines, place_tokens, place_rows}
use Rattle.blif_text.specs.Between.Places.{token_cell, places_cell, row_cells, rows_cells}
use Rattle.blif_text.specs.Between.Scan.{ends_word, other_than, NoneTo, LineAfter, StopTo, at-end, at-lf, cells_from}
use Rattle.blif_text.proofs.Loops.{none-as}
use Rattle.blif_text.proofs.Parts.{first_of, rest_of}
use Rattle.blif_text.proofs.ScanBytes.{word_blank, not-lf, stop_le}
use Rattle.blif_text.proofs.PlaceLines.{line_from, lines_behind, lines_end, lines-cr, line-byte, behind-byte, stops, stop-or, behind-none, line_word}
use Rattle.blif_text.proofs.LineCells.{line_cells, lines-cells, cells-none, cells-blank, cells-comment, WordAt, tokens-word, cells-word, cells-last, goes_last, cells-goes, still, tokens_none}

-- where a line ends, it stops
pub line-stops : {text : Bytes} {i next : ℕ} (a : LineAfter text i next) → StopTo text a.end next
line-stops {text} {next = next} a =
    ⊎_elim
    (λ (s : (a.end < length text) × (next ≡ a.end + 1)). at-lf s.0 (sym (eqb-true 10 (byte_at text a.end) (a.to.stop s.0))) s.1)
    (λ (s : (length text ≤ a.end) × (next ≡ a.end)). at-end s.0 s.1)
    a.is

pub comment-moves : {text : Bytes} {i next : ℕ} → i < length text → byte_at text i ≡ 35 → LineAfter text i next → i < next
comment-moves {text} {i} {next} h e a =
    let far : a.end ≤ next = stop_le text a.end next (line-stops a) in
    by_order a.end i
    (λ o.
    let q : a.end ≡ i = omega (arith, a.to.passed.low) in
    let z : 10 ≡ 35 = eqb-true 10 (byte_at text a.end) (a.to.stop (omega arith)) ∙ ap (byte_at text) q ∙ e in
    absurd (omega arith))
    (λ o. omega arith)

hash-in : (text : Bytes) (i : ℕ) → byte_at text i ≡ 35 → cr_before_lf text i ≡ false
unfolding cr_before_lf
hash-in text i e = rw e

module _ (text : Bytes) (f : Bool) where
  from-line : (i : ℕ) {l : List ℕ} {ls : List (List ℕ)} → line_from text i ≡ l → lines_behind text i ≡ ls → cells_from text i f ≡ line_cells text f l ls
  unfolding cells_from
  from-line i p q = lines-cells text f (place_lines text i) ∙ ap₂ (line_cells text f) p q

  pub from_end : (i : ℕ) → length text ≤ i → cells_from text i f ≡ []
  unfolding cells_from place_rows rows_cells
  from_end i h = ap (λ (ls : List (List ℕ)). rows_cells f (place_rows text ls)) (lines_end text i h)

  pub from-stop : (i next : ℕ) → StopTo text i next → cells_from text i f ≡ cells_from text next true
  unfolding cells_from
  from-stop i next s = from-line i (stops text i next s).0 (stops text i next s).1 ∙ cells-none text f (place_lines text next)

  module _ (i : ℕ) (h : i < length text) where
    pub from-blank : is_blank (byte_at text i) ≡ true → eqb 10 (byte_at text i) ≡ false → cells_from text i f ≡ cells_from text (i + 1) f
    from-blank b e =
        by-test (cr_before_lf text i)
        (λ k. from-line i (ap first_of (lines-cr text i h k)) (ap rest_of (lines-cr text i h k)) ∙ sym (from-line (i + 1) refl refl))
        (λ k.
        from-line i (line-byte text i h e k) (behind-byte text i h e)
        ∙ cells-blank text f (lines_behind text (i + 1)) i (line_from text (i + 1)) b
        ∙ sym (from-line (i + 1) refl refl))

    pub from-comment : {next : ℕ} → byte_at text i ≡ 35 → LineAfter text i next → cells_from text i f ≡ cells_from text next true
    unfolding cells_from
    from-comment {next} e a =
        let n : eqb 10 (byte_at text i) ≡ false = rw e in
        from-line i (line-byte text i h n (hash-in text i e)) (behind-none text a.to.passed ∙ (stops text a.end next (line-stops a)).1)
        ∙ cells-comment text f (place_lines text next) i (line_from text (i + 1)) e

-- ---- a run of one byte

module _ (text : Bytes) (f : Bool) (c : ℕ) (one : (k : ℕ) → k < length text → byte_at text k ≡ c → cells_from text k f ≡ cells_from text (k + 1) f) where
  from_bytes : (n i r : ℕ) → i + n ≡ r → r ≤ length text → ((k : ℕ) → i ≤ k → k < r → byte_at text k ≡ c) → cells_from text i f ≡ cells_from text r f
  from_bytes zero i r q h s = let p : i ≡ r = omega arith in ap (λ (j : ℕ). cells_from text j f) p
  from_bytes (suc n) i r q h s = one i (omega arith) (s i (omega arith) (omega arith)) ∙ from_bytes n (i + 1) r (omega arith) h (λ k a b. s k (omega arith) b)

  -- what one such byte leaves as it is, a run of them does
  from-run : {i r : ℕ} → NoneTo (other_than c) text i r → cells_from text i f ≡ cells_from text r f
  from-run {i} {r} s =
      from_bytes (r - i) i r (omega (arith, s.low)) s.high (λ k a b. sym (eqb-true c (byte_at text k) (not-false (eqb c (byte_at text k)) (s.none k a b))))

pub from-blanks : (text : Bytes) (f : Bool) (c : ℕ) → is_blank c ≡ true → eqb 10 c ≡ false → {i r : ℕ} → NoneTo (other_than c) text i r → cells_from text i f ≡ cells_from text r f
from-blanks text f c b n s = from-run text f c (λ k h e. from-blank text f k h (ap is_blank e ∙ b) (ap (eqb 10) e ∙ n)) s

pub from-lfs : (text : Bytes) {i r : ℕ} → NoneTo (other_than 10) text i r → cells_from text i true ≡ cells_from text r true
from-lfs text s = from-run text true 10 (λ k h e. from-stop text true k (k + 1) (at-lf h e refl)) s

-- ---- a word

range_snoc : (i n : ℕ) → range i (suc n) ≡ range i n ++ (i + n) ∷ []
range_snoc i zero = let q : i ≡ i + 0 = omega arith in ap (λ (j : ℕ). j ∷ []) q
range_snoc i (suc n) =
    let q : suc i + n ≡ i + suc n = omega arith in
    ap (λ (l : List ℕ). i ∷ l) (range_snoc (suc i) n ∙ ap (λ (j : ℕ). range (suc i) n ++ j ∷ []) q)

none-range : (text : Bytes) (n i e : ℕ) → i + n ≤ e → ((k : ℕ) → i ≤ k → k < e → ends_word (byte_at text k) ≡ false) → WordAt text (range i n)
none-range text zero i e h f = refl
none-range text (suc n) i e h f = rw (f i (omega arith) (omega arith)) (none-range text n (suc i) e (omega arith) (λ k a b. f k (omega arith) b))

module _ (text : Bytes) (f : Bool) {i e : ℕ} (h : i < e) (c : NoneTo ends_word text i e) where
  -- the places from i up to z
  module _ (z : ℕ) (m : i < z) (l : z ≤ e) where
    rest : List ℕ
    rest = range (suc i) (z - suc i)

    places : range i (z - i) ≡ i ∷ rest
    unfolding rest
    places = let q : z - i ≡ suc (z - suc i) = omega arith in ap (range i) q

    places-word : WordAt text (i ∷ rest)
    places-word = subst (WordAt text) places (none-range text (z - i) i e (omega arith) c.none)

    places-cell : places_cell f (i ∷ rest) ≡ token_cell f i (z - i)
    unfolding rest head_d
    places-cell =
        let q : suc (length (range (suc i) (z - suc i))) ≡ z - i = omega (arith, length-range (suc i) (z - suc i)) in
        ap (token_cell f i) q

  behind : lines_behind text i ≡ lines_behind text e
  behind = behind-none text (none-as (λ b q. not-lf b (word_blank b q)) c)

  line-is : {l : List ℕ} → line_from text e ≡ l → line_from text i ≡ range i (e - i) ++ l
  line-is q = line_word text (none-as word_blank c) ∙ ap (λ (l : List ℕ). range i (e - i) ++ l) q

  -- its places but the last
  front : List ℕ
  front = range i (e - 1 - i)

  front-word : WordAt text front
  unfolding front
  front-word = none-range text (e - 1 - i) i e (omega arith) c.none

  last : range i (e - i) ≡ front ++ (e - 1) ∷ []
  unfolding front
  last =
      let p : e - i ≡ suc (e - 1 - i) = omega arith in
      let q : i + (e - 1 - i) ≡ e - 1 = omega arith in
      ap (range i) p ∙ range_snoc i (e - 1 - i) ∙ ap (λ (j : ℕ). range i (e - 1 - i) ++ j ∷ []) q

  goes : continues (bytes_at text (range i (e - i))) ≡ eqb 92 (byte_at text (e - 1))
  goes = ap (λ (l : List ℕ). continues (bytes_at text l)) last ∙ goes_last text front (e - 1) front-word

  module _ {ls : List (List ℕ)} (q : lines_behind text e ≡ ls) where
    -- at the end of a line that does not go on
    word-last : line_from text e ≡ [] → (byte_at text (e - 1) ≡ 92 → ⊥) → cells_from text i f ≡ token_cell f i (e - i) ∷ cells_from text e false
    word-last p n =
        let ps = places e h (omega arith) in
        from-line text f i (line-is p ∙ ap (λ (l : List ℕ). l ++ []) ps) (behind ∙ q)
        ∙ cells-last text f ls i (rest e h (omega arith)) (places-word e h (omega arith))
        (sym (ap (λ (l : List ℕ). continues (bytes_at text l)) ps) ∙ goes ∙ ne_eqb 92 (byte_at text (e - 1)) (λ z. n (sym z)))
        ∙ ap₂ (λ (x : ℕ) (l : List ℕ). x ∷ l) (places-cell e h (omega arith)) (sym (from-line text false e p q))

    -- before a blank or a comment
    word-before : {l : List ℕ} → line_from text e ≡ e ∷ l → ends_word (byte_at text e) ≡ true → cells_from text i f ≡ token_cell f i (e - i) ∷ cells_from text e false
    word-before {l} p n =
        let ps = places e h (omega arith) in
        from-line text f i (line-is p ∙ ap (λ (r : List ℕ). r ++ e ∷ l) ps) (behind ∙ q)
        ∙ cells-word text f ls i (rest e h (omega arith)) (places-word e h (omega arith)) e l n
        ∙ ap₂ (λ (x : ℕ) (l : List ℕ). x ∷ l) (places-cell e h (omega arith)) (sym (from-line text false e p q))

  pub from-word : (byte_at text (e - 1) ≡ 92 → (next : ℕ) → StopTo text e next → ⊥) → (e < length text → ends_word (byte_at text e) ≡ true) → cells_from text i f ≡ token_cell f i (e - i) ∷ cells_from text e false
  from-word n s =
      ⊎_elim
      (λ (t : (next : ℕ) × StopTo text e next). word-last refl (stops text e t.0 t.1).0 (λ z. n z t.0 t.1))
      (λ (t : (e < length text) × (eqb 10 (byte_at text e) ≡ false) × (cr_before_lf text e ≡ false)). word-before refl (line-byte text e t.0 t.1 t.2) (s t.0))
      (stop-or text e)

  -- ---- a backslash that ends the line

  module _ (b : byte_at text (e - 1) ≡ 92) {next : ℕ} (t : StopTo text e next) where
    goes_on : cells_from text i f ≡ row_cells f (place_tokens text front) ++ cells_from text next (still f (place_tokens text front))
    unfolding cells_from
    goes_on =
        from-line text f i (line-is (stops text e next t).0 ∙ append-nil (range i (e - i)) ∙ last) (behind ∙ (stops text e next t).1)
        ∙ cells-goes text f (place_lines text next) front (e - 1) front-word b

    -- it stands alone
    pub from-alone : e ≡ i + 1 → cells_from text i f ≡ cells_from text next f
    unfolding front row_cells
    from-alone q =
        let z : e - 1 - i ≡ 0 = omega arith in
        goes_on
        ∙ ap (λ (ts : List (List ℕ)). row_cells f ts ++ cells_from text next (still f ts)) (ap (λ (n : ℕ). place_tokens text (range i n)) z ∙ tokens_none text)

    -- it ends a word
    pub from_goes : i < e - 1 → cells_from text i f ≡ token_cell f i (e - 1 - i) ∷ cells_from text next false
    unfolding front row_cells
    from_goes m =
        goes_on
        ∙ ap (λ (ts : List (List ℕ)). row_cells f ts ++ cells_from text next (still f ts))
        (ap (place_tokens text) (places (e - 1) m (omega arith)) ∙ tokens-word text i (rest (e - 1) m (omega arith)) (places-word (e - 1) m (omega arith)))
        ∙ ap (λ (x : ℕ). x ∷ cells_from text next false) (places-cell (e - 1) m (omega arith))
