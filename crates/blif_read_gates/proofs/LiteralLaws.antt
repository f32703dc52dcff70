-- Literals written one after the other. Assumes nothing.
use mathlib.Core.Path.{◌≡◌, refl, sym, ap, ap₂, ◌∙◌}
use mathlib.Core.Bool.{true, false}
use mathlib.Core.List.{List, [], ◌∷◌, ◌++◌}
use Prim.Native.Nat.{ℕ, ◌+◌, ◌≤◌, ◌<◌}
use native.Mathlib.Omega.{arith}
use lib.Dec.{eqb}
use lib.ListN.{length, get_or, take, drop, set, length-append, drop_of_length-le}
use lib.Seq.{get_or-take, get_or-drop}
use borrow.Author.Tests.{eq-eqb, ne_eqb}
use Rattle.lists.specs.Lists.{Bytes}
use Rattle.lists.specs.Between.Lists.{overwrite_at}
use Rattle.lists.proofs.OverAt.{overwrite_at-nil}
use Rattle.lists.proofs.Laying.{one_store, Laying, laying-more, laying-done}
use Rattle.lists.proofs.Places.{drop-next, length_run}
use Rattle.blif_read_gates.specs.Between.Steps.{turn_cell, column_cells, literal_cells, literals_at}
use Rattle.blif_read_gates.proofs.CellLaws.{overwrite-front, front_at, front_less, one-literal}

-- ---- one column

-- the cells t are laid over o, and counted
abbrev pub LaidAt : ℕ → List ℕ → List ℕ → List ℕ → ℕ → Type 0
LaidAt k t o o' r = (o' ≡ overwrite_at k t o) × (r ≡ length t)

pub literal-zero : (b c k x : ℕ) (o : List ℕ) → b ≡ 48 → x ≡ turn_cell c → LaidAt k (column_cells b c) o (set o k x) 1
literal-zero b c k x o e q =
    let t : eqb 48 b ≡ true = eq-eqb 48 b (sym e) in
    rw t (one_store k x o ∙ ap (λ (y : ℕ). overwrite_at k (y ∷ []) o) q, refl)

pub literal-one : (b c k : ℕ) (o : List ℕ) → (b ≡ 48 → ⊥) → b ≡ 49 → LaidAt k (column_cells b c) o (set o k c) 1
literal-one b c k o n e =
    let s : eqb 48 b ≡ false = ne_eqb 48 b (λ z. n (sym z)) in
    let t : eqb 49 b ≡ true = eq-eqb 49 b (sym e) in
    rw (s, t) (one_store k c o, refl)

pub literal-dash : (b c k : ℕ) (o : List ℕ) → (b ≡ 48 → ⊥) → (b ≡ 49 → ⊥) → LaidAt k (column_cells b c) o o 0
literal-dash b c k o n m =
    let s : eqb 48 b ≡ false = ne_eqb 48 b (λ z. n (sym z)) in
    let t : eqb 49 b ≡ false = ne_eqb 49 b (λ z. m (sym z)) in
    rw (s, t) (sym (overwrite_at-nil k o), refl)

-- ---- one column after the other

-- the sources of a line
abbrev sources_of : Bytes → List ℕ → ℕ → List ℕ
sources_of columns pins_in source = take (length columns) (drop source pins_in)

-- the literals of the first i columns are laid, m of them
pub record Writing (columns pins₀ pins_in : List ℕ) (source at m i : ℕ) : Type 0 where
  pub within : i ≤ length columns
  pub few : m ≤ i
  pub front : take at pins_in ≡ take at pins₀
  pub laying : Laying (literals_at columns source pins₀) pins₀ at (literal_cells (drop i columns) (drop i (sources_of columns pins₀ source))) pins_in (at + m)
  pub counted : m + length (literal_cells (drop i columns) (drop i (sources_of columns pins₀ source))) ≡ length (literals_at columns source pins₀)

module _ {columns pins₀ pins_in : List ℕ} {source at m i : ℕ} (before : source + length columns ≤ at) (room : at + length columns ≤ length pins₀) (w : Writing columns pins₀ pins_in source at m i) where
  module _ (l : i < length columns) where
    abbrev src : List ℕ
    src = sources_of columns pins₀ source

    src-long : length src ≡ length columns
    src-long = length_run source (length columns) pins₀ (omega arith)

    src-at : get_or src i 0 ≡ get_or pins_in (source + i) 0
    src-at =
        get_or-take (length columns) (drop source pins₀) i 0 l
        ∙ get_or-drop source pins₀ i 0
        ∙ front_at at pins₀ pins_in (source + i) (sym w.front) (omega arith)

    -- the literals that are left: this column's, and the others
    left : literal_cells (drop i columns) (drop i src)
        ≡ column_cells (get_or columns i 0) (get_or pins_in (source + i) 0) ++ literal_cells (drop (i + 1) columns) (drop (i + 1) src)
    left =
        ap₂ (λ (a b : List ℕ). literal_cells a b) (drop-next columns i 0 l) (drop-next src i 0 (omega (arith, src-long)))
        ∙ ap (λ (x : ℕ). column_cells (get_or columns i 0) x ++ literal_cells (drop (i + 1) columns) (drop (i + 1) src)) src-at

    pub writing-next : {pins_in' : List ℕ} {r : ℕ} → LaidAt (at + m) (column_cells (get_or columns i 0) (get_or pins_in (source + i) 0)) pins_in pins_in' r
        → Writing columns pins₀ pins_in' source at (m + r) (i + 1)
    writing-next {pins_in'} {r} d =
        let col = column_cells (get_or columns i 0) (get_or pins_in (source + i) 0) in
        let more = literal_cells (drop (i + 1) columns) (drop (i + 1) src) in
        record {
          within = omega arith;
          few = omega (arith, w.few, d.1, one-literal (get_or columns i 0) (get_or pins_in (source + i) 0));
          front =
              ap (take at) d.0
              ∙ front_less at (at + m) (overwrite_at (at + m) col pins_in) pins_in (omega arith) (overwrite-front (at + m) col pins_in)
              ∙ w.front;
          laying = laying-more w.laying col left d.0 (omega (arith, d.1));
          counted = omega (arith, w.counted, ap length left, length-append col more, d.1);
        }

  pub writing-done : length columns ≤ i → LaidAt at (literals_at columns source pins₀) pins₀ pins_in m
  writing-done h =
      let e : drop i columns ≡ [] = drop_of_length-le columns h in
      let z : literal_cells (drop i columns) (drop i (sources_of columns pins₀ source)) ≡ [] = ap (λ (b : List ℕ). literal_cells b (drop i (sources_of columns pins₀ source))) e in
      (laying-done w.laying z, omega (arith, w.counted, ap length z))
