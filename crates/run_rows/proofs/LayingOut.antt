-- What is laid out before the clocks: each gate's truth table and slots, and the list of the flip-flops. Assumes nothing.
use mathlib.Core.Path.{◌≡◌, sym, ap, ◌∙◌}
use mathlib.Core.List.{List, ◌++◌}
use Prim.Native.Nat.{ℕ, ◌+◌, ◌-◌, ◌*◌, ◌≤◌, ◌<◌}
use native.Mathlib.Omega.{arith}
use lib.ListN.{length, take, drop, set, length-set, length-drop}
use lib.Seq.{get_or-set_same, get_or-set_other}
use Rattle.lists.specs.Between.Lists.{overwrite_at}
use Rattle.lists.proofs.Tests.{below_next}
use Rattle.lists.proofs.Places.{length_run}
use Rattle.lists.proofs.Over.{overwrite-is}
use Rattle.lists.proofs.OverAt.{length-overwrite_at, overwrite_at-inside, overwrite_at-before, overwrite_at-rest}
use Rattle.lists.proofs.Counting.{get_or-table}
use Rattle.gates.specs.Between.Forms.{kind_of}
use Rattle.gates.specs.declared.Kind.{Kind}
use Rattle.network.specs.Record.{form_at, run_at}
use Rattle.network.specs.Between.Cells.{NetCells}
use Rattle.gate_bits.specs.Between.Slots.{slot_or, run_slots}
use Rattle.gate_bits.specs.Between.Tables.{kind_table, kind_pad}
use Rattle.gate_bits.proofs.SlotBits.{length-slots}
use Rattle.run_rows.specs.Between.Steps.{TableLaid, LaidOne, LaidOut, Flops}
use Rattle.run_rows.specs.Between.Asks.{TableRoom}

-- ---- one gate

-- a part of n cells, lent and put back with others
pub part-put : (k n : ℕ) (q o : List ℕ) → length q ≡ n → k + n ≤ length o → take k o ++ (q ++ drop n (drop k o)) ≡ overwrite_at k q o
part-put k n q o l h =
    ap (λ (m : ℕ). take k o ++ (q ++ drop m (drop k o))) (sym l)
    ∙ ap (λ (t : List ℕ). take k o ++ t) (sym (overwrite-is q (drop k o) (omega (arith, length-drop k o))))
    ∙ overwrite_at-rest k q o (omega arith)

module _ {cells ps : List ℕ} {g : ℕ} {slots tables : List ℕ} (room : TableRoom cells ps g slots tables) where
  -- the gate's six slots
  abbrev gate_slots : List ℕ
  gate_slots = run_slots (run_at cells ps g) (kind_pad (kind_of (form_at cells g))) 6

  six-long : length gate_slots ≡ 6
  six-long = length-slots (run_at cells ps g) (kind_pad (kind_of (form_at cells g))) 6

  -- the length of the part that is lent for them
  abbrev lent_long : ℕ
  lent_long = g * 6 + 6 - g * 6

  module _ {kind : Kind} {run : List ℕ} {pad : ℕ} {part : List ℕ} (k : kind ≡ kind_of (form_at cells g)) (r : run ≡ run_at cells ps g)
      (p : pad ≡ kind_pad kind) (s : part ≡ run_slots run pad (length (take lent_long (drop (g * 6) slots)))) where
    -- the part comes back with the gate's slots
    slots-laid : take (g * 6) slots ++ (part ++ drop lent_long (drop (g * 6) slots)) ≡ overwrite_at (g * 6) gate_slots slots
    slots-laid =
        let e : lent_long ≡ 6 = omega arith in
        let is : part ≡ gate_slots = s ∙ rw (r, p, k, e, length_run (g * 6) 6 slots room.slot) in
        rw (is, e) (part-put (g * 6) 6 gate_slots slots six-long room.slot)

    pub laid_one : {t : ℕ} → t ≡ kind_table kind
        → LaidOne cells ps g slots tables (take (g * 6) slots ++ (part ++ drop lent_long (drop (g * 6) slots))) (set tables g t)
    laid_one {t} e =
        rw slots-laid
        (record {
          laid =
              record {
                table = get_or-set_same tables g t 0 room.table ∙ e ∙ ap kind_table k;
                slot = λ i l.
                    overwrite_at-inside (g * 6) gate_slots slots i 0 (omega (arith, six-long)) (omega (arith, room.slot))
                    ∙ get_or-table (slot_or (run_at cells ps g) (kind_pad (kind_of (form_at cells g)))) 6 i l;
              };
          kept = λ h l was.
              record {
                table = get_or-set_other tables g h t 0 (λ x. omega arith) ∙ was.table;
                slot = λ i m. overwrite_at-before (g * 6) gate_slots slots (h * 6 + i) 0 (omega arith) ∙ was.slot i m;
              };
          slots_long = length-overwrite_at (g * 6) gate_slots slots;
          tables_long = length-set tables g t;
        })

-- ---- each gate

-- the gates before g are laid out in the slots and tables, which were others of the same lengths
pub record LayingOut (cells ps slots tables slots' tables' : List ℕ) (g : ℕ) : Type 0 where
  -- each of them
  pub laid : LaidOut cells ps g slots' tables'
  -- as many slots
  pub slots_long : length slots' ≡ length slots
  -- as many tables
  pub tables_long : length tables' ≡ length tables

module _ {cells ps slots tables : List ℕ} where
  module _ {slots' tables' : List ℕ} {g : ℕ} (c : LayingOut cells ps slots tables slots' tables' g) where
    pub laying-out-room : {i : ℕ} → NetCells i (length tables) cells ps → length tables * 6 ≤ length slots → g < length tables'
        → TableRoom cells ps g slots' tables'
    laying-out-room net room h =
        let below : g < length tables = omega (arith, c.tables_long) in
        record { has = (net.each g below).has; slot = omega (arith, c.slots_long); table = h }

    pub laying-out-next : {slots'' tables'' : List ℕ} → LaidOne cells ps g slots' tables' slots'' tables''
        → LayingOut cells ps slots tables slots'' tables'' (g + 1)
    laying-out-next {slots''} {tables''} one =
        record {
          laid = record { each = below_next (TableLaid cells ps slots'' tables'') g (λ h l. one.kept h l (c.laid.each h l)) one.laid };
          slots_long = one.slots_long ∙ c.slots_long;
          tables_long = one.tables_long ∙ c.tables_long;
        }

-- ---- the flip-flops

-- the flip-flops before gate g, of n gates, are listed in the first k cells of a list, which was another of the same length
pub record Listing (cells : List ℕ) (n : ℕ) (flops flops' : List ℕ) (k g : ℕ) : Type 0 where
  -- no more than n gates
  pub within : g ≤ n
  -- as many cells
  pub long : length flops' ≡ length flops
  -- those before gate g
  pub listed : Flops cells g flops' k
