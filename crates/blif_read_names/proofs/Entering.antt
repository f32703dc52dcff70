-- Names of inputs entered one after the other, and a gate defined. Assumes nothing.
use Rattle.refusals.specs.Order.{fine}
use Rattle.std.specs.Prelude.{Err}
use mathlib.Core.Path.{◌≡◌, refl, sym, ap, ap₂, ◌∙◌, subst}
use mathlib.Core.Bool.{Bool, true, false, ◌||◌}
use mathlib.Core.List.{List, [], ◌∷◌, ◌++◌, map, map-append, append_assoc}
use Prim.Native.Nat.{ℕ, suc, ◌+◌, ◌*◌, ◌≤◌, ◌<◌}
use native.Mathlib.Omega.{arith}
use native.Mathlib.Numerals.{add-one}
use lib.ListN.{length, get_or, take, drop, length-map, drop_of_length-le}
use lib.Seq.{length-take-le, take_all, take-suc}
use borrow.Author.Tests.{not-true, not-false}
use Rattle.lists.specs.Lists.{Bytes, known}
use Rattle.lists.specs.Between.Lists.{overwrite_at}
use Rattle.lists.proofs.Places.{drop-next}
use Rattle.signal.specs.Signal.{Input, plain}
use Rattle.signal.specs.Cell.{sig_cell}
use Rattle.signal.specs.Between.Cell.{gate_cell, input_cell}
use Rattle.signal.proofs.Cells.{gate-cell, input-cell}
use Rattle.blif_text.specs.Between.Places.{token_of, tokens_of}
use Rattle.blif_text.specs.Between.Blocks.{block_width}
use Rattle.blif_text.specs.declared.Block.{Block}
use Rattle.name_index.specs.Between.Search.{Entry, entry}
use Rattle.name_index.specs.Between.Index.{entry_count, entries_of, Index, Entered}
use Rattle.name_index.proofs.IndexLaws.{index-counted}
use Rattle.refusals.specs.declared.Refusal.TheVariants as refusal
use Rattle.refusals.proofs.Order.{refused-ne-fine, refuse_if-yes, refuse_if-no}
use Rattle.blif_reading.specs.Read.{defined_twice}
use Rattle.blif_read_names.specs.Between.Entries.{input_entries}
use Rattle.blif_read_names.specs.Between.Naming.{names_in, InputsFit, InputsEntered, GateFits, GateDefined}

-- ---- lists

-- one input more
inputs-snoc : (xs : List Bytes) (i : ℕ) (x : Bytes) → input_entries i (xs ++ (x ∷ [])) ≡ input_entries i xs ++ (entry x (sig_cell (plain (Input (i + length xs)))) ∷ [])
inputs-snoc [] i x = let e : i ≡ i + 0 = omega arith in ap (λ (j : ℕ). entry x (sig_cell (plain (Input j))) ∷ []) e
inputs-snoc (y ∷ xs) i x =
    let e : suc i + length xs ≡ i + suc (length xs) = omega arith in
    ap (λ (l : List Entry). entry y (sig_cell (plain (Input i))) ∷ l)
    (inputs-snoc xs (suc i) x ∙ ap (λ (j : ℕ). input_entries (suc i) xs ++ (entry x (sig_cell (plain (Input j))) ∷ [])) e)

-- ---- tests

defined_twice-none : (earlier : List Bytes) → defined_twice earlier [] ≡ false
unfolding defined_twice
defined_twice-none earlier = refl

defined_twice-new : (earlier : List Bytes) (x : Bytes) (xs : List Bytes) → known x earlier ≡ false → defined_twice earlier (x ∷ xs) ≡ defined_twice (earlier ++ (x ∷ [])) xs
unfolding defined_twice
defined_twice-new earlier x xs e = ap (λ (b : Bool). b || defined_twice (earlier ++ (x ∷ [])) xs) e

defined_twice-known : (earlier : List Bytes) (x : Bytes) (xs : List Bytes) → known x earlier ≡ true → defined_twice earlier (x ∷ xs) ≡ true
unfolding defined_twice
defined_twice-known earlier x xs e = ap (λ (b : Bool). b || defined_twice (earlier ++ (x ∷ [])) xs) e

-- ---- inputs

-- the first j names are entered
pub record Entering (text names index₀ : List ℕ) (inputs : ℕ) (index : List ℕ) (j : ℕ) : Type 0 where
  pub fits : InputsFit text names index₀ inputs
  pub high : j ≤ length names
  pub kept : length index ≡ length index₀
  pub index_is : Index text index (entry_count index)
  pub entered : entry_count index ≡ entry_count index₀ + j
  pub added : entries_of text index (entry_count index) ≡ entries_of text index₀ (entry_count index₀) ++ input_entries inputs (tokens_of text (take j names))
  pub left : defined_twice (names_in text index₀ (entry_count index₀)) (tokens_of text names) ≡ defined_twice (names_in text index (entry_count index)) (tokens_of text (drop j names))

module _ {text names index₀ : List ℕ} {inputs : ℕ} {index : List ℕ} {j : ℕ} (c : Entering text names index₀ inputs index j) where
  module _ (h : j < length names) {index' : List ℕ} {s : ℕ} {r : Bool} (e : Entered text index (entry_count index) (get_or names j 0) s index' r) where
    -- the name at j
    abbrev x : Bytes
    x = token_of text (get_or names j 0)

    -- it is the next
    names-next : tokens_of text (drop j names) ≡ x ∷ tokens_of text (drop (j + 1) names)
    names-next = ap (tokens_of text) (drop-next names j 0 h)

    -- it is known
    pub entering-known : r ≡ false → InputsEntered text names index₀ (entry_count index₀) inputs index' (Err refusal.DefinedTwice)
    entering-known z =
        let k : known x (names_in text index (entry_count index)) ≡ true = not-false _ (sym e.new ∙ z) in
        record {
          refused = refuse_if-yes refusal.DefinedTwice (c.left ∙ ap (defined_twice (names_in text index (entry_count index))) names-next ∙ defined_twice-known _ _ (tokens_of text (drop (j + 1) names)) k);
          index_is = λ y. absurd (refused-ne-fine y);
          added = λ y. absurd (refused-ne-fine y);
        }

    -- it is new
    pub entering-next : r ≡ true → s ≡ input_cell (inputs + j) → length index' ≡ length index → Entering text names index₀ inputs index' (j + 1)
    entering-next z q l =
        let k : known x (names_in text index (entry_count index)) ≡ false = not-true _ (sym e.new ∙ z) in
        let before = tokens_of text (take j names) in
        let m : j ≡ length before = sym (length-map (take j names) (token_of text) ∙ length-take-le j names c.high) in
        let u : s ≡ sig_cell (plain (Input (inputs + length before))) =
        q ∙ input-cell (inputs + j) (omega (arith, c.fits.inputs)) ∙ ap (λ (n : ℕ). sig_cell (plain (Input (inputs + n)))) m in
        let a : entries_of text index' (entry_count index') ≡ entries_of text index (entry_count index) ++ (entry x s ∷ []) = ap (entries_of text index') (e.index z).counted ∙ e.added z in
        record {
          fits = c.fits;
          high = omega arith;
          kept = l ∙ c.kept;
          index_is = index-counted (e.index z);
          entered = omega (arith, (e.index z).counted, c.entered);
          added =
              a
              ∙ ap₂ (λ (y : List Entry) (t : ℕ). y ++ (entry x t ∷ [])) c.added u
              ∙ append_assoc (entries_of text index₀ (entry_count index₀)) (input_entries inputs before) _
              ∙ ap (λ (y : List Entry). entries_of text index₀ (entry_count index₀) ++ y) (sym (inputs-snoc before inputs x)
              ∙ ap (input_entries inputs) (sym (ap (tokens_of text) (ap (λ (n : ℕ). take n names) (add-one j) ∙ take-suc names j 0 h) ∙ map-append (token_of text) (take j names) _)));
          left =
              c.left
              ∙ ap (defined_twice (names_in text index (entry_count index))) names-next
              ∙ defined_twice-new (names_in text index (entry_count index)) x (tokens_of text (drop (j + 1) names)) k
              ∙ ap (λ (y : List Bytes). defined_twice y (tokens_of text (drop (j + 1) names)))
              (sym (ap (map (λ (y : Entry). y.name)) a ∙ map-append (λ (y : Entry). y.name) (entries_of text index (entry_count index)) (entry x s ∷ [])));
        }

  -- all are entered
  pub entering-done : length names ≤ j → InputsEntered text names index₀ (entry_count index₀) inputs index fine
  entering-done h =
      let q : entry_count index ≡ entry_count index₀ + length names = omega (arith, c.entered, c.high) in
      let earlier = names_in text index (entry_count index) in
      record {
        refused =
            refuse_if-no refusal.DefinedTwice (c.left ∙ ap (λ (y : List ℕ). defined_twice earlier (tokens_of text y)) (drop_of_length-le names h) ∙ defined_twice-none earlier);
        index_is = λ z. subst (Index text index) q c.index_is;
        added = λ z.
            sym (ap (entries_of text index) q) ∙ c.added
            ∙ ap (λ (y : List ℕ). entries_of text index₀ (entry_count index₀) ++ input_entries inputs (tokens_of text y)) (take_all j names h);
      }

-- ---- a gate

module _ {text index : List ℕ} {g cell : ℕ} {block : Block} {blocks : List ℕ} {index' : List ℕ} {s : ℕ} {r : Bool}
    (f : GateFits text index g cell block blocks) (e : Entered text index (entry_count index) cell s index' r) where
  -- its name is known
  pub gate-known : {blocks' : List ℕ} → r ≡ false → GateDefined text index (entry_count index) g (token_of text cell) block blocks index' blocks' (Err refusal.DefinedTwice)
  gate-known z =
      record {
        refused = refuse_if-yes refusal.DefinedTwice (not-false _ (sym e.new ∙ z));
        index_is = λ y. absurd (refused-ne-fine y);
        added = λ y. absurd (refused-ne-fine y);
        block-is = λ y. absurd (refused-ne-fine y);
      }

  -- its name is new
  pub gate-new : {blocks' : List ℕ} → r ≡ true → s ≡ gate_cell g → blocks' ≡ overwrite_at (g * block_width) (block.first ∷ block.names ∷ block.lines ∷ []) blocks
      → GateDefined text index (entry_count index) g (token_of text cell) block blocks index' blocks' fine
  gate-new z q b =
      record {
        refused = refuse_if-no refusal.DefinedTwice (not-true _ (sym e.new ∙ z));
        index_is = λ y. e.index z;
        added = λ y.
            e.added z
            ∙ ap (λ (t : ℕ). entries_of text index (entry_count index) ++ (entry (token_of text cell) t ∷ [])) (q ∙ gate-cell g (omega (arith, f.gates)));
        block-is = λ y. b;
      }
