-- The index as a whole: empty, searched, and with one name more. Assumes nothing.
use mathlib.Core.Path.{◌≡◌, sym, ap, ap₂, subst, ◌∙◌}
use mathlib.Core.Bool.{true, false, not, false≢true}
use mathlib.Core.List.{List, [], ◌∷◌, ◌++◌, map}
use Prim.Native.Nat.{ℕ, suc, ◌+◌, ◌*◌, ◌-◌, ◌%◌, ◌≤◌, ◌<◌}
use native.Mathlib.Omega.{arith}
use native.Mathlib.Decide.{ℕ_discrete}
use native.Mathlib.Numerals.{add-one}
use lib.ListN.{length, get_or, set, length-set, length-replicate, get_or-replicate}
use lib.Seq.{get_or-set_same, get_or-set_other}
use Rattle.lists.specs.Lists.{Bytes, same, known, zeros}
use Rattle.lists.proofs.Same.{same-is}
use Rattle.lists.proofs.Tests.{by_order}
use Rattle.blif_text.specs.Between.Places.{InText, token_of}
use Rattle.name_index.specs.Between.Search.{Entry, entry, signal_in}
use Rattle.name_index.specs.Between.Index.{trees, max_names, entry_width, index_cells, entry_count, name_at, signal_at, branch, entry_at, entries_of, hash_at, root_of, way_of, Leads, Index, Entered}
use Rattle.name_index.specs.Between.Steps.{Sought}
use Rattle.name_index.proofs.TreeLaws.{TreeCell, root, cell-before, cell_apart, sought-cell, leads-kept, passes-lead}
use Rattle.name_index.proofs.EntryLaws.{map-range-last, map-range-same, signal-none, signal-at, known-none, known_at}

-- ---- no names

pub index-empty : (text : Bytes) → Index text (zeros index_cells) 0
index-empty text =
    record {
      room = omega (arith, length-replicate {A = ℕ} index_cells 0);
      counted = get_or-replicate {A = ℕ} index_cells (trees + max_names * entry_width) 0 0 (omega arith);
      few = omega arith;
      inside = λ e l. absurd (omega arith);
      roots = λ h l. omega (arith, get_or-replicate {A = ℕ} index_cells h 0 0 (omega arith));
      rises = λ e bits f l q. absurd (omega arith);
      held = λ e l. absurd (omega arith);
      once = λ d e l u. absurd (omega arith);
    }

-- ---- its count

pub index-counted : {text cells : List ℕ} {k : ℕ} → Index text cells k → Index text cells (entry_count cells)
index-counted {text} {cells} x = subst (Index text cells) (sym x.counted) x

-- ---- a search

module _ {text cells : List ℕ} {k : ℕ} {name : Bytes} {r : ℕ} (x : Index text cells k) (f : Sought text cells k name r) where
  pub sought-none : get_or cells r 0 ≡ 0 → 0 ≡ signal_in (entries_of text cells k) name
  sought-none z = sym (signal-none (entry_at text cells) name 0 k (λ e a b. f.none z e (omega arith)))

  pub sought-signal : (get_or cells r 0 ≡ 0 → ⊥) → get_or cells (1024 + (get_or cells r 0 - 1) * 4 + 1) 0 ≡ signal_in (entries_of text cells k) name
  sought-signal n =
      let i : ℕ = get_or cells r 0 - 1 in
      let t : same name (token_of text (name_at cells i)) ≡ true = f.here (omega arith) in
      let q : name ≡ token_of text (name_at cells i) = same-is name (token_of text (name_at cells i)) t in
      let l : i < k = omega (arith, f.within) in
      let z : 0 + i ≡ i = omega arith in
      sym
      (signal-at (entry_at text cells) name 0 k i l
      (λ e a b. ap (λ (y : Bytes). same y (token_of text (name_at cells e))) q ∙ x.once e i (omega arith) l)
      (ap (λ (j : ℕ). same name (token_of text (name_at cells j))) z ∙ t)
      ∙ ap (signal_at cells) z)

  pub sought-known : (get_or cells r 0 ≡ 0 → ⊥) → known name (map (λ (e : Entry). e.name) (entries_of text cells k)) ≡ true
  sought-known n =
      let i : ℕ = get_or cells r 0 - 1 in
      let t : same name (token_of text (name_at cells i)) ≡ true = f.here (omega arith) in
      let z : 0 + i ≡ i = omega arith in
      known_at (entry_at text cells) name 0 k i (omega (arith, f.within)) (ap (λ (j : ℕ). same name (token_of text (name_at cells j))) z ∙ t)

  pub sought-unknown : get_or cells r 0 ≡ 0 → known name (map (λ (e : Entry). e.name) (entries_of text cells k)) ≡ false
  sought-unknown z = known-none (entry_at text cells) name 0 k (λ e a b. f.none z e (omega arith))

-- ---- one name more

-- the stores of entry k, of its number in a cell, and of the count
abbrev pub with_entry : List ℕ → ℕ → ℕ → ℕ → ℕ → List ℕ
with_entry cells k at cell signal =
    set (set (set (set (set (set cells (1024 + k * 4) cell) (1024 + k * 4 + 1) signal) (1024 + k * 4 + 2) 0) (1024 + k * 4 + 3) 0) at (k + 1)) 6144 (k + 1)

-- the cells after them, one by one
record Stored (cells : List ℕ) (k at cell signal : ℕ) (cells' : List ℕ) : Type 0 where
  long : length cells' ≡ length cells
  name : name_at cells' k ≡ cell
  its-signal : signal_at cells' k ≡ signal
  ends : (bits : ℕ) → get_or cells' (branch k bits) 0 ≡ 0
  linked : get_or cells' at 0 ≡ suc k
  count : entry_count cells' ≡ k + 1
  kept : (j : ℕ) → j < trees + k * entry_width → (j ≡ at → ⊥) → get_or cells' j 0 ≡ get_or cells j 0

stored : (cells : List ℕ) (k at cell signal : ℕ) → index_cells ≤ length cells → k < max_names → at < trees + k * entry_width
    → Stored cells k at cell signal (with_entry cells k at cell signal)
stored cells k at cell signal r l s =
    let a : ℕ = 1024 + k * 4 in
    let c1 : List ℕ = set cells a cell in
    let c2 : List ℕ = set c1 (a + 1) signal in
    let c3 : List ℕ = set c2 (a + 2) 0 in
    let c4 : List ℕ = set c3 (a + 3) 0 in
    let l1 : length c1 ≡ length cells = length-set cells a cell in
    let l2 : length c2 ≡ length cells = length-set c1 (a + 1) signal ∙ l1 in
    let l3 : length c3 ≡ length cells = length-set c2 (a + 2) 0 ∙ l2 in
    let l4 : length c4 ≡ length cells = length-set c3 (a + 3) 0 ∙ l3 in
    let c5 : List ℕ = set c4 at (k + 1) in
    let l5 : length c5 ≡ length cells = length-set c4 at (k + 1) ∙ l4 in
    let last : (j : ℕ) → j < 6144 → (j ≡ at → ⊥) → get_or (set c5 6144 (k + 1)) j 0 ≡ get_or c4 j 0 = λ j v u.
    get_or-set_other c5 6144 j (k + 1) 0 (λ z. omega arith) ∙ get_or-set_other c4 at j (k + 1) 0 u in
    let low : (j : ℕ) → j < a + 2 → get_or c4 j 0 ≡ get_or c2 j 0 = λ j u.
    get_or-set_other c3 (a + 3) j 0 0 (λ z. omega arith) ∙ get_or-set_other c2 (a + 2) j 0 0 (λ z. omega arith) in
    record {
      long = length-set c5 6144 (k + 1) ∙ l5;
      name = last a (omega arith) (λ z. omega arith) ∙ low a (omega arith) ∙ get_or-set_other c1 (a + 1) a signal 0 (λ z. omega arith) ∙ get_or-set_same cells a cell 0 (omega arith);
      its-signal = last (a + 1) (omega arith) (λ z. omega arith) ∙ low (a + 1) (omega arith) ∙ get_or-set_same c1 (a + 1) signal 0 (omega (arith, l1));
      ends = λ bits.
          last (branch k bits) (omega arith) (λ z. omega arith)
          ∙ by_order 1 (bits % 2)
          (λ u. let z : branch k bits ≡ a + 3 = omega arith in ap (λ (j : ℕ). get_or c4 j 0) z ∙ get_or-set_same c3 (a + 3) 0 0 (omega (arith, l3)))
          (λ u.
          let z : branch k bits ≡ a + 2 = omega arith in
          ap (λ (j : ℕ). get_or c4 j 0) z ∙ get_or-set_other c3 (a + 3) (a + 2) 0 0 (λ v. omega arith) ∙ get_or-set_same c2 (a + 2) 0 0 (omega (arith, l2)));
      linked = get_or-set_other c5 6144 at (k + 1) 0 (λ z. omega arith) ∙ get_or-set_same c4 at (k + 1) 0 (omega (arith, l4)) ∙ add-one k;
      count = get_or-set_same c5 6144 (k + 1) 0 (omega (arith, l5));
      kept = λ j u n.
          last j (omega arith) n ∙ low j (omega arith) ∙ get_or-set_other c1 (a + 1) j signal 0 (λ z. omega arith) ∙ get_or-set_other cells a j cell 0 (λ z. omega arith);
    }

-- an entry is the new one or one of the others
new-or : {X : Type 0} (k e : ℕ) → e < k + 1 → (e ≡ k → X) → (e < k → X) → X
new-or k e u f g = by_order k e (λ v. f (omega arith)) g

module _ {text cells : List ℕ} {k at cell signal : ℕ} (x : Index text cells k) (l : k < max_names) (i : InText text cell)
    (f : Sought text cells k (token_of text cell) at) (empty : get_or cells at 0 ≡ 0) {cells' : List ℕ} (w : Stored cells k at cell signal cells') where
  name-kept : (e : ℕ) → e < k → name_at cells' e ≡ name_at cells e
  name-kept e u = w.kept (1024 + e * 4) (omega arith) (λ z. cell_apart (sought-cell x f) e 0 (omega arith) (omega arith))

  entry_kept : (e : ℕ) → e < k → entry_at text cells' e ≡ entry_at text cells e
  entry_kept e u =
      ap₂ (λ (n v : ℕ). entry (token_of text n) v) (name-kept e u) (w.kept (1024 + e * 4 + 1) (omega arith) (λ z. cell_apart (sought-cell x f) e 1 (omega arith) z))

  -- each entry of the trees stands where it was, since the cell that is written held none
  tree-kept : (j e : ℕ) → TreeCell k j → get_or cells j 0 ≡ suc e → get_or cells' j 0 ≡ suc e
  tree-kept j e t q = w.kept j (cell-before t) (λ z. let y : get_or cells j 0 ≡ 0 = ap (λ (m : ℕ). get_or cells m 0) z ∙ empty in omega arith) ∙ q

  inside-new : (e : ℕ) → e < k + 1 → InText text (name_at cells' e)
  inside-new e u =
      new-or k e u
      (λ z. let n : name_at cells' e ≡ cell = ap (name_at cells') z ∙ w.name in rw n i)
      (λ v. rw (name-kept e v) (x.inside e v))

  roots-new : (h : ℕ) → h < trees → get_or cells' h 0 ≤ k + 1
  roots-new h u =
      elim (ℕ_discrete h at) [
        | yes z ↦ omega (arith, w.linked, ap (λ (j : ℕ). get_or cells' j 0) z)
        | no z ↦ omega (arith, w.kept h (omega arith) z, x.roots h u)
      ]

  rises-new : (e bits g : ℕ) → e < k + 1 → get_or cells' (branch e bits) 0 ≡ suc g → (e < g) × (g < k + 1)
  rises-new e bits g u q =
      new-or k e u
      (λ z. let y : get_or cells' (branch e bits) 0 ≡ 0 = ap (λ (j : ℕ). get_or cells' (branch j bits) 0) z ∙ w.ends bits in absurd (omega arith))
      (λ v.
      elim (ℕ_discrete (branch e bits) at) [
        | yes z ↦ let y : suc g ≡ suc k = sym q ∙ ap (λ (j : ℕ). get_or cells' j 0) z ∙ w.linked in (omega arith, omega arith)
        | no z ↦ let r : (e < g) × (g < k) = x.rises e bits g v (sym (w.kept (branch e bits) (omega arith) z) ∙ q) in (r.0, omega (arith, r.1))
      ])

  held_new : (e : ℕ) → e < k + 1 → Leads cells' (root_of (hash_at text cells' e)) (way_of (hash_at text cells' e)) e
  held_new e u =
      new-or k e u
      (λ z. rw (z, w.name) (passes-lead x tree-kept (root (omega arith)) f.way w.linked))
      (λ v. rw (name-kept e v) (leads-kept x tree-kept (root (omega arith)) (x.held e v)))

  once-new : (d e : ℕ) → d < e → e < k + 1 → same (token_of text (name_at cells' e)) (token_of text (name_at cells' d)) ≡ false
  once-new d e a u =
      new-or k e u
      (λ z.
      let n : name_at cells' e ≡ cell = ap (name_at cells') z ∙ w.name in
      rw (n, name-kept d (omega arith)) (f.none empty d (omega arith)))
      (λ v. rw (name-kept e v, name-kept d (omega arith)) (x.once d e a v))

  index-new : Index text cells' (k + 1)
  index-new =
      record {
        room = omega (arith, x.room, w.long);
        counted = w.count;
        few = omega arith;
        inside = inside-new;
        roots = roots-new;
        rises = rises-new;
        held = held_new;
        once = once-new;
      }

  entries-new : entries_of text cells' (k + 1) ≡ entries_of text cells k ++ (entry (token_of text cell) signal ∷ [])
  entries-new =
      let g = entry_at text cells' in
      let z : 0 + k ≡ k = omega arith in
      ap (entries_of text cells') (add-one k) ∙ map-range-last g 0 k
      ∙ ap₂ (λ (es : List Entry) (e : Entry). es ++ (e ∷ [])) (map-range-same g (entry_at text cells) 0 k (λ e a b. entry_kept e (omega arith)))
      (ap g z ∙ ap₂ (λ (n v : ℕ). entry (token_of text n) v) w.name w.its-signal)

module _ {text cells : List ℕ} {k cell signal at : ℕ} {name : Bytes} (x : Index text cells k) (n : name ≡ token_of text cell) (f : Sought text cells k name at) where
  pub entered-known : (get_or cells at 0 ≡ 0 → ⊥) → Entered text cells k cell signal cells false
  entered-known z =
      record {
        new = sym (ap not (sought-known x (rw n at f) z));
        index = λ t. absurd (false≢true t);
        added = λ t. absurd (false≢true t);
      }

  pub entered-new : get_or cells at 0 ≡ 0 → k < max_names → InText text cell
      → Entered text cells k cell signal (with_entry cells k at cell signal) true
  entered-new z l i =
      let g : Sought text cells k (token_of text cell) at = rw n at f in
      let w : Stored cells k at cell signal (with_entry cells k at cell signal) = stored cells k at cell signal x.room l (cell-before (sought-cell x g)) in
      record {
        new = sym (ap not (sought-unknown x g z));
        index = λ t. index-new x l i g z w;
        added = λ t. entries-new x l i g z w;
      }
