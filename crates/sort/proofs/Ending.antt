-- What the moved cells hold is the sorted network. Assumes nothing.
use Rattle.std.specs.Prelude.{Some, None}
use mathlib.Core.Path.{◌≡◌, refl, sym, ap, ap₂, ◌∙◌, subst}
use mathlib.Core.Bool.{Bool, true, false}
use mathlib.Core.List.{List, [], ◌∷◌, ◌++◌, map, Memᴰ}
use mathlib.Core.Option.{Option, none, some}
use Prim.Native.Nat.{ℕ, ◌+◌, ◌*◌, ◌^◌, ◌≤◌, ◌<◌}
use native.Mathlib.Omega.{arith}
use lib.ListN.{length, get_or, get_elem?, take, drop, length-map}
use lib.Seq.{length-take-le, take_at}
use Rattle.lists.specs.Lists.{occ, overwrite}
use Rattle.lists.proofs.Counting.{get_or-occ, mem-occ}
use Rattle.lists.proofs.FirstPlace.{place, place_at}
use Rattle.lists.proofs.Places.{place-lt, get_or-place, map_on, map-map, run-get_or}
use Rattle.signal.specs.Signal.{Node, Const, Input, Var, Signal, remap}
use Rattle.signal.specs.Cell.{sig_cell, node_of, sig_of}
use Rattle.signal.specs.Between.Cell.{remap_cell}
use Rattle.signal.proofs.Remap.{Renames, remap-cell}
use Rattle.gates.specs.Gate.{Buf, Gate, Comb, pins}
use Rattle.network.specs.declared.Counts.{Counts}
use Rattle.network.specs.Net.{Net, GateIs, ValidNode}
use Rattle.network.specs.Cells.{lent, net_of}
use Rattle.network.specs.Record.{gate_width, record_of, first_at, count_at, run_at, gate_cells, pin_cells}
use Rattle.network.specs.Between.Record.{record_at, with_first}
use Rattle.network.proofs.RecordCells.{with_first-record_of, record_of-remap}
use Rattle.network.specs.Renumber.{remap_gate, place_of, gate_or, permuted}
use Rattle.network.proofs.PinCells.{pins-next}
use Rattle.network.proofs.Permuting.{place-of}
use Rattle.network.proofs.Renumbering.{pins-remap}
use Rattle.sort_order.specs.Order.{sort_order}
use Rattle.sort_order.specs.Sorted.{graph, sorted}
use Rattle.sort.specs.Between.Into.{sort_outcome, sort_into}
use Rattle.sort_order.specs.Between.Sortable.{Sortable}
use Rattle.sort.specs.Between.Steps.{ordered, cell_graph, Cells, Numbers, PlacesTable, moved_gates, moved_pins, pins_in, Movable, RenumberedCells}
use Rattle.sort_order.proofs.Ordering.{sort-length}
use Rattle.sort_order.proofs.Sorting.{graph-valid, order-sorted, none-sorted, order-has, order-orders}
use Rattle.sort_order.proofs.Keeps.{once, kept_pins}
use Rattle.network.proofs.GateRead.{gate-record, gate-is, cell-gate}
use Rattle.sort.proofs.Reading.{net-gates, net-outputs, net-size, graph-cells, sortable-cells, gates-room}

-- a list of cells, each a 32-bit number
abbrev pub WordCells : List ℕ → Type 0
WordCells l = (i : ℕ) → get_or l i 0 < 2 ^ 32

-- a run of 32-bit cells has such cells
word-run : (j k : ℕ) (l : List ℕ) → WordCells l → (c : ℕ) → Memᴰ c (take k (drop j l)) → c < 2 ^ 32
word-run j k l w = run-get_or 0 (λ x. x < 2 ^ 32) j k l w

-- ---- what `find_order` asks and answers, lent the first n of the cells z

module _ (gs ps z : List ℕ) (n : ℕ) (few : n ≤ length z) where
  lent_length : length (take n z) ≡ n
  lent_length = length-take-le n z few

  pub found-asks : Cells gs ps n → Cells gs ps (length (take n z)) × (length (take n z) * gate_width ≤ length gs)
  found-asks h = rw lent_length (h, gates-room h)

  pub found_none : (r : Bool) (l : List ℕ) → r ≡ false → ordered r l ≡ sort_order (cell_graph gs ps (length (take n z))) → none ≡ sort_order (cell_graph gs ps n)
  found_none r l e q = rw (e, lent_length) at q

  pub found_some : (r : Bool) (l : List ℕ) → length l ≡ length (take n z) → r ≡ true → ordered r l ≡ sort_order (cell_graph gs ps (length (take n z)))
      → some (take n (l ++ drop n z)) ≡ sort_order (cell_graph gs ps n)
  found_some r l k e q = ap some (take_at l (drop n z) n (k ∙ lent_length)) ∙ (rw (e, lent_length) at q)

-- ---- where there is no order, nothing is written

pub ends-loop : (n : Counts) (gs ps os ng np : List ℕ) → none ≡ sort_order (cell_graph gs ps n.gates) → {a b : ℕ} → Sortable (lent n gs ps os) a b
    → sort_outcome None ng np os ≡ sort_into (sorted (net_of (lent n gs ps os))) ng np os
unfolding sort_into
ends-loop n gs ps os ng np e s =
    let net = net_of (lent n gs ps os) in
    let q : sorted net ≡ none = none-sorted net s.valid (ap sort_order (graph-cells n gs ps os) ∙ sym e) in
    ap (λ (r : Option Net). sort_into r ng np os) (sym q)

-- ---- where there is one

module _ (n : Counts) (gs ps os : List ℕ) {a b : ℕ} (s : Sortable (lent n gs ps os) a b) (l : List ℕ) (e : some l ≡ sort_order (cell_graph gs ps n.gates)) where
  abbrev net : Net
  net = net_of (lent n gs ps os)

  is-order : sort_order (graph net) ≡ some l
  is-order = ap sort_order (graph-cells n gs ps os) ∙ sym e

  abbrev π : ℕ → ℕ
  π = place_of l

  -- gate o of the sorted network, by its old number
  abbrev new : ℕ → Gate
  new o = remap_gate π (gate_or net o)

  pub order-length : length l ≡ n.gates
  order-length = sort-length (graph net) (graph-valid net s.valid) l is-order ∙ net-size n gs ps os

  below : (g : ℕ) → 0 < occ g l → g < n.gates
  below g p = subst (λ (k : ℕ). g < k) (net-size n gs ps os) (order-has net s.valid l is-order g p)

  at-below : (i : ℕ) → i < length l → get_or l i 0 < n.gates
  at-below i h = below (get_or l i 0) (get_or-occ l i h)

  pub order-numbers : Numbers l
  order-numbers =
      record {
        below = λ i h. omega (arith, at-below i h, s.few);
        distinct = λ i j h k q.
            sym (place_at l i h (once net s.valid l is-order)) ∙ ap (λ (v : ℕ). place v l) q ∙ place_at l j k (once net s.valid l is-order);
      }

  -- ---- one gate

  module _ (g : ℕ) (u : g < n.gates) where
    abbrev x : Gate
    x = (s.readable g u).0

    net-gate : GateIs net g x
    net-gate = ap (λ (xs : List Gate). get_elem? xs g) (net-gates n gs ps os) ∙ cell-gate gs ps n.gates g x u (s.readable g u).1

    gate-or : gate_or net g ≡ x
    gate-or = get_or-place (Comb Buf []) net.gates g x net-gate

    new-record : (at : ℕ) → with_first at (record_at gs g) ≡ record_of at (new g)
    new-record at =
        ap (with_first at) (gate-record gs ps g x (s.readable g u).1) ∙ with_first-record_of (first_at gs g) at x ∙ sym (record_of-remap π at x)
        ∙ ap (λ (y : Gate). record_of at (remap_gate π y)) (sym gate-or)

    new-pins : pins (new g) ≡ map (remap π) (map sig_of (run_at gs ps g))
    new-pins =
        ap (λ (y : Gate). pins (remap_gate π y)) gate-or ∙ pins-remap π x ∙ ap (map (remap π)) (gate-is gs ps g x (s.readable g u).1).all-pins

    new-count : length (run_at gs ps g) ≡ length (pins (new g))
    new-count =
        sym (ap length new-pins ∙ length-map (map sig_of (run_at gs ps g)) (remap π) ∙ length-map (run_at gs ps g) sig_of)

    pin-valid : (c : ℕ) → Memᴰ c (run_at gs ps g) → ValidNode net (node_of c)
    pin-valid c m =
        s.valid.pins_valid g x (sig_of c) net-gate
        (subst (Memᴰ (sig_of c)) (sym (gate-is gs ps g x (s.readable g u).1).all-pins) (mathlib.Core.List.Memᴰ.map sig_of m))

  -- ---- pins, counted

  pins-in : (k : List ℕ) → ((g : ℕ) → Memᴰ g k → g < n.gates) → pins_in gs ps k ≡ length (pin_cells (map new k))
  unfolding pin_cells
  pins-in [] h = refl
  pins-in (g ∷ k) h =
      omega (arith, new-count g (h g (mathlib.Core.List.Memᴰ.head refl)), pins-next (new g) (map new k), pins-in k (λ v m. h v (mathlib.Core.List.Memᴰ.tail m)))

  mem_below : (g : ℕ) → Memᴰ g l → g < n.gates
  mem_below g m = below g (mem-occ g l m)

  pub pins-all : pins_in gs ps l ≡ length (pin_cells (permuted l net).gates)
  pins-all = pins-in l mem_below

  pub order-movable : (ng np : List ℕ) → n.gates * gate_width ≤ length ng → length (pin_cells net.gates) ≤ length np → Movable gs ps l ng np
  order-movable ng np h k =
      record {
        few = omega (arith, order-length, s.few);
        runs = λ i v. (sortable-cells n gs ps os s).runs (get_or l i 0) (at-below i v);
        room = omega (arith, order-length);
        pin_room = omega (arith, pins-all, kept_pins net s.valid l is-order);
        few_pins = omega (arith, pins-all, kept_pins net s.valid l is-order, s.few_pins);
      }

  -- ---- cells renumbered by the table

  module _ (t : List ℕ) (tab : PlacesTable l (length l) t) where
    renames : (v : ℕ) → v < n.gates → (v < length t) × (get_or t v 0 ≡ π v)
    renames v h =
        let m : Memᴰ v l = (order-orders net s.valid l is-order).every v (subst (λ (k : ℕ). v < k) (sym (net-size n gs ps os)) h) in
        let p : get_elem? l (π v) ≡ some v = place-of l v m in
        let q : π v < length l = place-lt l (π v) v p in
        (omega (arith, tab.long, s.few), ap (λ (k : ℕ). get_or t k 0) (sym (get_or-place 0 l (π v) v p)) ∙ tab.each (π v) q)

    node-renames : (m : Node) → ValidNode net m → Renames t π m
    node-renames Const v = tt
    node-renames (Input i) v = tt
    node-renames (Var g) v = renames g (subst (λ (k : ℕ). g < k) (net-size n gs ps os) v)

    -- cells that hold valid signals are renumbered as the signals are
    cells-renamed : (cs : List ℕ) → ((c : ℕ) → Memᴰ c cs → c < 2 ^ 32) → ((c : ℕ) → Memᴰ c cs → ValidNode net (node_of c))
        → map (remap_cell t) cs ≡ map sig_cell (map (remap π) (map sig_of cs))
    cells-renamed cs w v =
        map_on (remap_cell t) (λ (c : ℕ). sig_cell (remap π (sig_of c))) cs (λ c m. remap-cell t π c (w c m) (node-renames (node_of c) (v c m)))
        ∙ sym (map-map (λ (y : Signal). sig_cell (remap π y)) sig_of cs)
        ∙ sym (map-map sig_cell (remap π) (map sig_of cs))

    module _ (wp : WordCells ps) where
      run-renamed : (g : ℕ) (u : g < n.gates) → map (remap_cell t) (run_at gs ps g) ≡ map sig_cell (pins (new g))
      run-renamed g u =
          cells-renamed (run_at gs ps g) (word-run (first_at gs g) (count_at gs g) ps wp) (pin-valid g u) ∙ ap (map sig_cell) (sym (new-pins g u))

      runs-are : (k : List ℕ) → ((g : ℕ) → Memᴰ g k → g < n.gates) → moved_pins gs ps t k ≡ pin_cells (map new k)
      unfolding pin_cells
      runs-are [] h = refl
      runs-are (g ∷ k) h = ap₂ (λ (p q : List ℕ). p ++ q) (run-renamed g (h g (mathlib.Core.List.Memᴰ.head refl))) (runs-are k (λ v m. h v (mathlib.Core.List.Memᴰ.tail m)))

    records-are : (at : ℕ) (k : List ℕ) → ((g : ℕ) → Memᴰ g k → g < n.gates) → moved_gates gs ps at k ≡ gate_cells at (map new k)
    unfolding gate_cells
    records-are at [] h = refl
    records-are at (g ∷ k) h =
        let u = h g (mathlib.Core.List.Memᴰ.head refl) in
        ap₂ (λ (c : List ℕ) (z : ℕ). c ++ moved_gates gs ps (at + z) k) (new-record g u at) (new-count g u)
        ∙ ap (λ (r : List ℕ). record_of at (new g) ++ r) (records-are (at + length (pins (new g))) k (λ v m. h v (mathlib.Core.List.Memᴰ.tail m)))

    outs-renamed : WordCells os → map (remap_cell t) (take n.outputs os) ≡ map sig_cell (permuted l net).outputs
    outs-renamed w =
        cells-renamed (take n.outputs os) (word-run 0 n.outputs os w)
        (λ c m. s.valid.outs_valid (sig_of c) (subst (Memᴰ (sig_of c)) (sym (net-outputs n gs ps os)) (mathlib.Core.List.Memᴰ.map sig_of m)))
        ∙ ap (λ (y : List Signal). map sig_cell (map (remap π) y)) (sym (net-outputs n gs ps os))

  -- ---- all cells

  pub ends-sorted : {ng np os' ng' np' : List ℕ} {r : ℕ} → WordCells ps → WordCells os → RenumberedCells gs ps l n.outputs os ng np os' ng' np' r
      → sort_outcome (Some r) ng' np' os' ≡ sort_into (sorted net) ng np os
  unfolding sort_into
  ends-sorted {ng} {np} {os'} {ng'} {np'} {r} wp wo d =
      let t = d.table in
      let q : sorted net ≡ some (permuted l net) = order-sorted net s.valid l is-order in
      let p1 : r ≡ length (pin_cells (permuted l net).gates) = d.moved.end ∙ pins-all in
      let p2 : ng' ≡ overwrite (gate_cells 0 (permuted l net).gates) ng = d.moved.records ∙ ap (λ (y : List ℕ). overwrite y ng) (records-are t d.tabled 0 l mem_below) in
      let p3 : np' ≡ overwrite (pin_cells (permuted l net).gates) np = d.moved.runs ∙ ap (λ (y : List ℕ). overwrite y np) (runs-are t d.tabled wp l mem_below) in
      let p4 : os' ≡ overwrite (map sig_cell (permuted l net).outputs) os = d.outputs ∙ ap (λ (y : List ℕ). overwrite y os) (outs-renamed t d.tabled wo) in
      (λ i. sort_outcome (Some (p1 i)) (p2 i) (p3 i) (p4 i)) ∙ ap (λ (y : Option Net). sort_into y ng np os) (sym q)
