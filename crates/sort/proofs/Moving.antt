-- The translation table, and gates, pins and outputs moved by it. Assumes nothing.
use mathlib.Core.Path.{◌≡◌, refl, sym, ap, ◌∙◌}
use mathlib.Core.List.{List, [], ◌∷◌, ◌++◌, map}
use Prim.Native.Nat.{ℕ, suc, ◌+◌, ◌*◌, ◌≤◌, ◌<◌}
use native.Mathlib.Omega.{arith}
use native.Mathlib.Nat.{zero-add}
use lib.ListN.{length, get_or, take, drop, set, length-set, length-map, take-append-drop, drop_of_length-le}
use lib.Seq.{get_or-set_other}
use Rattle.lists.specs.Lists.{overwrite}
use Rattle.lists.specs.Between.Lists.{overwrite_at}
use Rattle.lists.proofs.Places.{drop-next}
use Rattle.signal.specs.Between.Cell.{remap_cell}
use Rattle.network.specs.Record.{gate_width, run_at}
use Rattle.network.specs.Between.Record.{record_at, with_first}
use Rattle.network.proofs.RecordCells.{record-in, length-record_at}
use Rattle.sort.specs.Between.Steps.{PlacesTable, moved_gates, moved_pins, pins_in, RoomFor, GateMoved, Movable, Moved}
use Rattle.lists.proofs.OverAt.{length-overwrite_at, overwrite_at-nil, overwrite-first, overwrite-append}

-- ---- the translation table

-- the first i numbers of the order have their place
pub record Tabling (o t : List ℕ) (i : ℕ) : Type 0 where
  pub within : i ≤ length o
  pub tabled : PlacesTable o i t

-- ---- a run of pins

-- what is left of the run, laid from here on, gives what the whole run gives
pub record Copying (f : ℕ → ℕ) (run to₀ to : List ℕ) (at i : ℕ) : Type 0 where
  pub within : i ≤ length run
  pub same : length to ≡ length to₀
  pub rest : overwrite_at (at + i) (map f (drop i run)) to ≡ overwrite_at at (map f run) to₀

pub copying-start : {f : ℕ → ℕ} {run to : List ℕ} {at : ℕ} → Copying f run to to at 0
copying-start {f} {run} {to} {at} =
    let e : at + 0 ≡ at = omega arith in
    record { within = omega arith; same = refl; rest = ap (λ (k : ℕ). overwrite_at k (map f run) to) e }

pub copying-next : {f : ℕ → ℕ} {run to₀ to : List ℕ} {at i x : ℕ} → i < length run → x ≡ f (get_or run i 0) → Copying f run to₀ to at i
    → Copying f run to₀ (set to (at + i) x) at (i + 1)
copying-next {f} {run} {to₀} {to} {at} {i} {x} l q h =
    let e : at + (i + 1) ≡ suc (at + i) = omega arith in
    let r = map f (drop (i + 1) run) in
    record {
      within = omega arith;
      same = length-set to (at + i) x ∙ h.same;
      rest =
          ap (λ (k : ℕ). overwrite_at k r (set to (at + i) x)) e
          ∙ sym (overwrite-first (at + i) x r to)
          ∙ ap (λ (y : ℕ). overwrite_at (at + i) (y ∷ r) to) q
          ∙ ap (λ (s : List ℕ). overwrite_at (at + i) (map f s) to) (sym (drop-next run i 0 l))
          ∙ h.rest;
    }

pub copying-done : {f : ℕ → ℕ} {run to₀ to : List ℕ} {at i : ℕ} → length run ≤ i → Copying f run to₀ to at i → to ≡ overwrite_at at (map f run) to₀
copying-done {f} {run} {to₀} {to} {at} {i} l h =
    let e : drop i run ≡ [] = drop_of_length-le run l in
    sym (overwrite_at-nil (at + i) to) ∙ ap (λ (s : List ℕ). overwrite_at (at + i) (map f s) to) (sym e) ∙ h.rest

-- ---- all gates

-- what is left of the order, laid from here on, gives what the whole order gives
pub record Moving (gates pins t o ng₀ np₀ ng np : List ℕ) (at i : ℕ) : Type 0 where
  pub within : i ≤ length o
  pub same-gates : length ng ≡ length ng₀
  pub same-pins : length np ≡ length np₀
  pub records : overwrite_at (i * gate_width) (moved_gates gates pins at (drop i o)) ng ≡ overwrite (moved_gates gates pins 0 o) ng₀
  pub runs : overwrite_at at (moved_pins gates pins t (drop i o)) np ≡ overwrite (moved_pins gates pins t o) np₀
  pub end : at + pins_in gates pins (drop i o) ≡ pins_in gates pins o

pub moving-start : {gates pins t o ng np : List ℕ} → Moving gates pins t o ng np ng np 0 0
moving-start = record { within = omega arith; same-gates = refl; same-pins = refl; records = refl; runs = refl; end = omega arith }

module _ {gates pins t o ng₀ np₀ ng np : List ℕ} {at i : ℕ} (m : Movable gates pins o ng₀ np₀) (l : i < length o) (h : Moving gates pins t o ng₀ np₀ ng np at i) where
  abbrev run : List ℕ
  run = run_at gates pins (get_or o i 0)

  -- the pins that are left: this gate's run, and the others
  pins-left : pins_in gates pins (drop i o) ≡ length run + pins_in gates pins (drop (i + 1) o)
  pins-left = ap (pins_in gates pins) (drop-next o i 0 l)

  pub moving-fits : RoomFor i at (length run) ng np
  moving-fits =
      record {
        record-room = record-in l (omega (arith, m.room, h.same-gates));
        run_room = omega (arith, pins-left, h.end, m.pin_room, h.same-pins);
        few = omega (arith, pins-left, h.end, m.few_pins);
      }

  pub moving-next : {ng' np' : List ℕ} {r : ℕ} → GateMoved gates pins t (get_or o i 0) i at ng np ng' np' r → Moving gates pins t o ng₀ np₀ ng' np' r (i + 1)
  moving-next {ng'} {np'} {r} g =
      let rest = drop (i + 1) o in
      let cells = with_first at (record_at gates (get_or o i 0)) in
      let lc : length cells ≡ gate_width = length-overwrite_at 1 (at ∷ []) (record_at gates (get_or o i 0)) ∙ length-record_at gates (get_or o i 0) (m.runs i l).cells in
      let w : (i + 1) * gate_width ≡ i * gate_width + length cells = omega (arith, lc) in
      let lr : length (map (remap_cell t) run) ≡ length run = length-map run (remap_cell t) in
      record {
        within = omega arith;
        same-gates = ap length g.records ∙ length-overwrite_at (i * gate_width) cells ng ∙ h.same-gates;
        same-pins = ap length g.runs ∙ length-overwrite_at at (map (remap_cell t) run) np ∙ h.same-pins;
        records =
            rw (w, g.end, g.records)
            (sym (overwrite-append (i * gate_width) cells (moved_gates gates pins (at + length run) rest) ng)
            ∙ ap (λ (s : List ℕ). overwrite_at (i * gate_width) (moved_gates gates pins at s) ng) (sym (drop-next o i 0 l))
            ∙ h.records);
        runs =
            rw (g.end, g.runs, ← lr)
            (sym (overwrite-append at (map (remap_cell t) run) (moved_pins gates pins t rest) np)
            ∙ ap (λ (s : List ℕ). overwrite_at at (moved_pins gates pins t s) np) (sym (drop-next o i 0 l))
            ∙ h.runs);
        end = omega (arith, g.end, pins-left, h.end);
      }

pub moving-done : {gates pins t o ng₀ np₀ ng np : List ℕ} {at i : ℕ} → length o ≤ i → Moving gates pins t o ng₀ np₀ ng np at i
    → Moved gates pins t o ng₀ np₀ ng np at
moving-done {gates} {pins} {t} {o} {ng₀} {np₀} {ng} {np} {at} {i} l h =
    let e : drop i o ≡ [] = drop_of_length-le o l in
    record {
      records = sym (overwrite_at-nil (i * gate_width) ng) ∙ ap (λ (s : List ℕ). overwrite_at (i * gate_width) (moved_gates gates pins at s) ng) (sym e) ∙ h.records;
      runs = sym (overwrite_at-nil at np) ∙ ap (λ (s : List ℕ). overwrite_at at (moved_pins gates pins t s) np) (sym e) ∙ h.runs;
      end = omega (arith, h.end, ap (pins_in gates pins) e);
    }

-- ---- outputs

-- they are copied onto themselves, renamed; the cells from here on are as they were
pub record Renaming (f : ℕ → ℕ) (s₀ s : List ℕ) (i : ℕ) : Type 0 where
  pub copied : Copying f s₀ s₀ s 0 i
  pub behind : (k : ℕ) → i ≤ k → get_or s k 0 ≡ get_or s₀ k 0

pub renaming-start : {f : ℕ → ℕ} {s : List ℕ} → Renaming f s s 0
renaming-start = record { copied = copying-start; behind = λ k h. refl }

pub renaming-next : {f : ℕ → ℕ} {s₀ s : List ℕ} {i x : ℕ} → i < length s₀ → x ≡ f (get_or s i 0) → Renaming f s₀ s i → Renaming f s₀ (set s i x) (i + 1)
renaming-next {f} {s₀} {s} {i} {x} l q h = record {
  copied = rw (zero-add i) at (copying-next l (q ∙ ap f (h.behind i (omega arith))) h.copied);
  behind = λ k u. get_or-set_other s i k x 0 (λ z. omega arith) ∙ h.behind k (omega arith);
}

-- a list renamed in place is laid over its own front of what goes on behind it
renamed-front : (f : ℕ → ℕ) (s r : List ℕ) → overwrite (map f s) s ++ r ≡ overwrite (map f s) (s ++ r)
renamed-front f [] r = refl
renamed-front f (x ∷ s) r = ap (λ (l : List ℕ). f x ∷ l) (renamed-front f s r)

pub renaming-done : {f : ℕ → ℕ} (n : ℕ) (o : List ℕ) {s : List ℕ} {i : ℕ} → length (take n o) ≤ i → Renaming f (take n o) s i → s ++ drop n o ≡ overwrite (map f (take n o)) o
renaming-done {f} n o {s} l h =
    ap (λ (t : List ℕ). t ++ drop n o) (copying-done l h.copied)
    ∙ renamed-front f (take n o) (drop n o)
    ∙ ap (overwrite (map f (take n o))) (take-append-drop n o)
