-- The way through a tree of the index, and the search along it. Assumes nothing.
use mathlib.Core.Path.{◌≡◌, refl, sym, ap, subst, ◌∙◌}
use mathlib.Core.Bool.{Bool, true, false, false≢true}
use mathlib.Core.List.{List}
use Prim.Native.Nat.{ℕ, suc, ◌+◌, ◌*◌, ◌-◌, ◌/◌, ◌≤◌, ◌<◌}
use native.Mathlib.Omega.{arith}
use lib.ListN.{length, get_or}
use Rattle.lists.specs.Lists.{Bytes, same}
use Rattle.lists.proofs.Same.{same-is}
use Rattle.lists.proofs.Tests.{by-test}
use Rattle.blif_text.specs.Between.Places.{InText, token_of}
use Rattle.name_index.specs.Between.Index.{trees, entry_width, name_at, branch, hash_of, root_of, way_of, Passes, stay, past, Leads, Index}
use Rattle.name_index.specs.Between.Steps.{Sought}

-- ---- the cells of the trees

-- a cell that holds a tree's first entry, or to which one of the first k entries leads on
pub data TreeCell (k at : ℕ) : Type 0 where
  root : at < trees → TreeCell k at
  link : (e bits : ℕ) → e < k → at ≡ branch e bits → TreeCell k at

-- it is before entry k
pub cell-before : {k at : ℕ} → TreeCell k at → at < trees + k * entry_width
cell-before (root l) = omega arith
cell-before (link e bits l z) = omega arith

-- and it has no name and no signal
pub cell_apart : {k at : ℕ} → TreeCell k at → (e i : ℕ) → i < 2 → trees + e * entry_width + i ≡ at → ⊥
cell_apart (root l) e i u z = omega arith
cell_apart (link f bits l y) e i u z = omega arith

module _ {text cells : List ℕ} {k : ℕ} (x : Index text cells k) where
  -- the entry it holds is one of the first k, and stands behind it
  cell_holds : {at : ℕ} (f : ℕ) → TreeCell k at → get_or cells at 0 ≡ suc f → (f < k) × (at < trees + f * entry_width)
  cell_holds {at} f (root l) q = (omega (arith, x.roots at l), omega arith)
  cell_holds {at} f (link e bits l z) q =
      let r : (e < f) × (f < k) = x.rises e bits f l (sym (ap (λ (j : ℕ). get_or cells j 0) z) ∙ q) in
      (r.1, omega (arith, r.0))

  -- it leads on to such cells
  cell-next : {at f : ℕ} (bits : ℕ) → TreeCell k at → get_or cells at 0 ≡ suc f → TreeCell k (branch f bits)
  cell-next {f = f} bits t q = link f bits (cell_holds f t q).0 refl

  -- and so does a way of many
  passes-cell : {at bits to : ℕ} → TreeCell k at → Passes cells at bits to → TreeCell k to
  passes-cell t stay = t
  passes-cell {bits = bits} t (past q p) = passes-cell (cell-next bits t q) p

  -- a search ends in one
  pub sought-cell : {name : Bytes} {at : ℕ} → Sought text cells k name at → TreeCell k at
  sought-cell f = passes-cell (root (omega arith)) f.way

  -- ---- other cells in which each entry of the trees stands where it was
  module _ {cells' : List ℕ} (kept : (at f : ℕ) → TreeCell k at → get_or cells at 0 ≡ suc f → get_or cells' at 0 ≡ suc f) where
    passes_kept : {at bits to : ℕ} → TreeCell k at → Passes cells at bits to → Passes cells' at bits to
    passes_kept t stay = stay
    passes_kept {at} {bits} t (past {f = f} q p) = past (kept at f t q) (passes_kept (cell-next bits t q) p)

    pub leads-kept : {at bits e : ℕ} → TreeCell k at → Leads cells at bits e → Leads cells' at bits e
    leads-kept {e = e} t l =
        record { cell = l.cell; way = passes_kept t l.way; holds = kept l.cell e (passes-cell t l.way) l.holds }

    -- a way leads to the entry at its end
    pub passes-lead : {at bits to e : ℕ} → TreeCell k at → Passes cells at bits to → get_or cells' to 0 ≡ suc e → Leads cells' at bits e
    passes-lead {to = to} t p z = record { cell = to; way = passes_kept t p; holds = z }

-- ---- one step of a way

module _ {cells : List ℕ} {e : ℕ} where
  -- a cell that holds nothing leads to no entry
  none-on : {at bits to : ℕ} → get_or cells at 0 ≡ 0 → Passes cells at bits to → get_or cells to 0 ≡ suc e → ⊥
  none-on z stay h = omega (arith, h)
  none-on z (past q p) h = omega (arith, q)

  -- one that holds another entry leads on
  other-on : {at bits to f : ℕ} → get_or cells at 0 ≡ suc f → (e ≡ f → ⊥) → Passes cells at bits to → get_or cells to 0 ≡ suc e → Leads cells (branch f bits) (bits / 2) e
  other-on q n stay h = absurd (n (omega arith))
  other-on {bits = bits} {to = to} {f = f} q n (past {f = g} r p) h =
      let z : g ≡ f = omega arith in
      subst (λ (j : ℕ). Leads cells (branch j bits) (bits / 2) e) z (record { cell = to; way = p; holds = h })

-- ---- the search

-- a way past entries of other names has come to a cell, from which the bits left lead to the name's entry if there is one
pub record Seeking (text cells : List ℕ) (k : ℕ) (name : Bytes) (at bits : ℕ) : Type 0 where
  pub index : Index text cells k
  pub cell : TreeCell k at
  pub way : (to : ℕ) → Passes cells at bits to → Passes cells (root_of (hash_of name)) (way_of (hash_of name)) to
  pub left : (e : ℕ) → e < k → same name (token_of text (name_at cells e)) ≡ true → Leads cells at bits e

pub seeking-start : {text cells : List ℕ} {k h : ℕ} {name : Bytes} → Index text cells k → h ≡ hash_of name → Seeking text cells k name (root_of h) (way_of h)
seeking-start {text} {cells} {name = name} x q =
    rw q
    (record {
      index = x;
      cell = root (omega arith);
      way = λ to p. p;
      left = λ e l t. rw (same-is name (token_of text (name_at cells e)) t) (x.held e l);
    })

module _ {text cells : List ℕ} {k : ℕ} {name : Bytes} {at bits : ℕ} (c : Seeking text cells k name at bits) where
  -- the cell is there
  pub seeking-there : at < length cells
  seeking-there = omega (arith, cell-before c.cell, c.index.few, c.index.room)

  -- it holds nothing: no entry has the name
  pub seeking-done : get_or cells at 0 ≡ 0 → Sought text cells k name at
  seeking-done z =
      record {
        there = seeking-there;
        within = omega arith;
        here = λ p. absurd (omega arith);
        none = λ u e l. by-test (same name (token_of text (name_at cells e))) (λ t. let d = c.left e l t in absurd (none-on z d.way d.holds)) (λ t. t);
        way = c.way at stay;
      }

  -- or it holds an entry
  module _ (n : get_or cells at 0 ≡ 0 → ⊥) where
    -- this one
    holds : get_or cells at 0 ≡ suc (get_or cells at 0 - 1)
    holds = omega arith

    -- one of the first k
    seeking-within : get_or cells at 0 - 1 < k
    seeking-within = (cell_holds c.index (get_or cells at 0 - 1) c.cell holds).0

    -- its cells are there
    pub seeking-room : trees + (get_or cells at 0 - 1) * entry_width + entry_width ≤ length cells
    seeking-room = omega (arith, seeking-within, c.index.few, c.index.room)

    -- its name is within the text
    pub seeking-inside : InText text (name_at cells (get_or cells at 0 - 1))
    seeking-inside = c.index.inside (get_or cells at 0 - 1) seeking-within

    -- it leads on behind the cell, for each bit
    pub seeking-less : (b : ℕ) → trees + k * entry_width - branch (get_or cells at 0 - 1) b < trees + k * entry_width - at
    seeking-less b = omega (arith, seeking-within, (cell_holds c.index (get_or cells at 0 - 1) c.cell holds).1)

    -- its name is compared
    module _ {other : Bytes} {b : Bool} (o : other ≡ token_of text (name_at cells (get_or cells at 0 - 1))) (s : b ≡ same name other) where
      told : same name (token_of text (name_at cells (get_or cells at 0 - 1))) ≡ b
      told = ap (same name) (sym o) ∙ sym s

      -- it is the name sought
      pub seeking-found : b ≡ true → Sought text cells k name at
      seeking-found t =
          record {
            there = seeking-there;
            within = omega (arith, seeking-within);
            here = λ p. told ∙ t;
            none = λ z. absurd (n z);
            way = c.way at stay;
          }

      -- or another, and the search goes on
      pub seeking-next : b ≡ false → Seeking text cells k name (branch (get_or cells at 0 - 1) bits) (bits / 2)
      seeking-next t =
          record {
            index = c.index;
            cell = cell-next c.index bits c.cell holds;
            way = λ to p. c.way to (past holds p);
            left = λ e l u.
                let d = c.left e l u in other-on holds (λ z. false≢true (sym (told ∙ t) ∙ sym (ap (λ (j : ℕ). same name (token_of text (name_at cells j))) z) ∙ u)) d.way d.holds;
          }
