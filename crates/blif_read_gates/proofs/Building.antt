-- Block after block: the gates built so far, and those placed first that are left. Assumes nothing.
use mathlib.Core.Path.{◌≡◌, refl, sym, ap, ap₂, ◌∙◌, subst}
use mathlib.Core.List.{List, [], ◌∷◌, ◌++◌, map, map-append, append-nil}
use mathlib.Core.Logic.{⊎_elim}
use mathlib.Core.Option.{some}
use Prim.Native.Nat.{ℕ, ◌+◌, ◌≤◌, ◌<◌}
use native.Mathlib.Omega.{arith}
use lib.ListN.{length, get_elem?, take, length-append, length-map}
use lib.Seq.{take_all, length-take-le}
use Rattle.lists.specs.Lists.{Bytes, sum_of}
use Rattle.lists.proofs.Places.{place-lt, map-place}
use Rattle.signal.specs.Signal.{Signal}
use Rattle.gates.specs.Gate.{Gate}
use Rattle.blif_text.specs.Decls.{Def}
use Rattle.blif_meaning.specs.Model.{Block}
use Rattle.blif_reading.specs.Build.{block_gate, new_gates, block_gates, all_new_gates}
use Rattle.blif_reading.specs.TextModel.{block_of}
use Rattle.blif_reading.proofs.WorkingLaws.{gate-parts}
use Rattle.blif_reading.specs.Between.Working.{GateIn, GatesIn, placed}
use Rattle.blif_reading.proofs.ModelToBuilt.{block_gates-length}
use Rattle.blif_read_gates.specs.declared.Built.{Built}
use Rattle.blif_read_gates.specs.Between.Pins.{built_pins}
use Rattle.blif_read_gates.specs.Between.Covers.{Buildable, BuiltBy}
use Rattle.blif_read_gates.specs.Between.Steps.{added_of, added_pins, BlockRoom, BlockBuilt}
use Rattle.blif_read_gates.proofs.Counting.{placed-long, block_gates-append, new_gates-append, new_gates-long, take_next, sum-next, sum-part, pins-split, gates-split, no-fault, built-few}
use Rattle.blif_read_gates.proofs.LinesLaws.{append-place, one_place}

-- the gates of the first j definitions are built, the others stand as they were placed first
pub record Standing (signal_of : Bytes → Signal) (ds : List Def) (g j at : ℕ) (gates pins_in : List ℕ) : Type 0 where
  pub mains_in : GatesIn gates pins_in at (block_gates signal_of g (map block_of (take j ds)))
  pub placed_in : (h : ℕ) (d : Def) → j ≤ h → get_elem? ds h ≡ some d → GateIn gates pins_in at h (placed signal_of d)
  pub extras_in : (i : ℕ) (y : Gate) → get_elem? (all_new_gates signal_of (map block_of (take j ds))) i ≡ some y → GateIn gates pins_in at (g + i) y

-- j definitions are done: `next` is the number of the next gate of a line, `at` the next pin
pub record Building (ds : List Def) (gates₀ pins₀ : List ℕ) (used g j next at : ℕ) (gates pins_in : List ℕ) : Type 0 where
  pub within : j ≤ g
  pub same-gates : length gates ≡ length gates₀
  pub same-pins : length pins_in ≡ length pins₀
  pub counted : next ≡ g + sum_of added_of (take j ds)
  pub end : at ≡ used + sum_of built_pins (take j ds)
  pub stands : (signal_of : Bytes → Signal) → GatesIn gates₀ pins₀ used (map (placed signal_of) ds) → Standing signal_of ds g j at gates pins_in

pub building-start : {ds : List Def} {gates pins_in : List ℕ} {used g : ℕ} → Building ds gates pins_in used g 0 g used gates pins_in
building-start {ds} {gates} {pins_in} {used} {g} =
    record {
      within = omega arith;
      same-gates = refl;
      same-pins = refl;
      counted = omega arith;
      end = omega arith;
      stands = λ signal_of first.
          record {
            mains_in = λ h x e. absurd (let z : ◌≡◌ {A = ℕ} 0 1 = cc in omega arith);
            placed_in = λ h d l e. first h (placed signal_of d) (map-place (placed signal_of) ds h d e);
            extras_in = λ i y e. absurd (let z : ◌≡◌ {A = ℕ} 0 1 = cc in omega arith);
          };
    }

-- ---- one block more

module _ {ds : List Def} {gates₀ pins₀ : List ℕ} {used g j next at : ℕ} {gates pins_in : List ℕ} {d : Def} (size : length ds ≡ g) (b : Buildable ds gates₀ pins₀ used)
    (w : Building ds gates₀ pins₀ used g j next at gates pins_in) (this : get_elem? ds j ≡ some d) where
  low : j < g
  low = omega (arith, place-lt ds j d this, size)

  -- there is room for its gates
  pub building-room : BlockRoom d j next at gates pins_in
  building-room =
      let a = (w.stands b.first.0 b.first.1).placed_in j d (omega arith) this in
      let long = placed-long b.first.0 d in
      record {
        room = record { gate_room = omega (arith, b.room.gate_room, w.same-gates); pin_room = omega (arith, b.room.pin_room, w.same-pins) };
        good = no-fault ds j d b.good this;
        counted = (gate-parts a).count ∙ long;
        sources = omega (arith, a.within, (gate-parts a).first, long);
        fits = omega (arith, w.end, built-few j ds b.good, sum-next added_pins ds j d this, sum-part added_pins (j + 1) ds, b.start, pins-split ds, b.few_pins);
        before = omega (arith, low, w.counted);
        low = omega (arith, w.counted, sum-next added_of ds j d this, sum-part added_of (j + 1) ds, gates-split ds, size, b.few_gates);
      }

  module _ {next' at' : ℕ} {gates' pins_in' : List ℕ} (p : BlockBuilt d j next at gates pins_in gates' pins_in' next' at') where
    module _ (signal_of : Bytes → Signal) (s : Standing signal_of ds g j at gates pins_in) where
      abbrev done : List (Block Bytes)
      done = map block_of (take j ds)

      next-is : g + length (all_new_gates signal_of done) ≡ next
      next-is = ap (λ (k : ℕ). g + k) (new_gates-long signal_of (take j ds)) ∙ sym w.counted

      now-done : map block_of (take (j + 1) ds) ≡ done ++ (block_of d ∷ [])
      now-done = ap (map block_of) (take_next ds j d this) ∙ map-append block_of (take j ds) (d ∷ [])

      main-count : length (block_gates signal_of g done) ≡ j
      main-count = block_gates-length signal_of g done ∙ length-map (take j ds) block_of ∙ length-take-le j ds (omega (arith, low, size))

      was : GateIn gates pins_in at j (placed signal_of d)
      was = s.placed_in j d (omega arith) this

      next-block_gates : GatesIn gates' pins_in' at' (block_gates signal_of g (map block_of (take (j + 1) ds)))
      next-block_gates h x e =
          let q : block_gates signal_of g (map block_of (take (j + 1) ds)) ≡ block_gates signal_of g done ++ (block_gate signal_of next (block_of d) ∷ []) =
          ap (block_gates signal_of g) now-done
          ∙ block_gates-append signal_of g done (block_of d ∷ [])
          ∙ ap (λ (k : ℕ). block_gates signal_of g done ++ (block_gate signal_of k (block_of d) ∷ [])) next-is in
          ⊎_elim
          (λ t.
          let l : h < j = omega (arith, place-lt (block_gates signal_of g done) h x t, main-count) in
          p.kept.stay h x (λ z. omega arith, omega (arith, low, w.counted)) (s.mains_in h x t))
          (λ t.
          let o = one_place (block_gate signal_of next (block_of d)) t.0 x t.2 in
          let a : j ≡ h = omega (arith, t.1, main-count, o.0) in
          subst (λ (k : ℕ). GateIn gates' pins_in' at' k x) a (subst (GateIn gates' pins_in' at' j) o.1 (p.main signal_of was)))
          (append-place (block_gates signal_of g done) (block_gate signal_of next (block_of d) ∷ []) h x (sym (ap (λ (l : List Gate). get_elem? l h) q) ∙ e))

      next-placed : (h : ℕ) (f : Def) → j + 1 ≤ h → get_elem? ds h ≡ some f → GateIn gates' pins_in' at' h (placed signal_of f)
      next-placed h f l e =
          p.kept.stay h (placed signal_of f) (λ z. omega arith, omega (arith, place-lt ds h f e, size, w.counted)) (s.placed_in h f (omega arith) e)

      next-new_gates : (i : ℕ) (y : Gate) → get_elem? (all_new_gates signal_of (map block_of (take (j + 1) ds))) i ≡ some y → GateIn gates' pins_in' at' (g + i) y
      next-new_gates i y e =
          let q : all_new_gates signal_of (map block_of (take (j + 1) ds)) ≡ all_new_gates signal_of done ++ new_gates signal_of (block_of d) =
          ap (all_new_gates signal_of) now-done
          ∙ new_gates-append signal_of done (block_of d ∷ [])
          ∙ ap (λ (l : List Gate). all_new_gates signal_of done ++ l) (append-nil (new_gates signal_of (block_of d))) in
          ⊎_elim
          (λ t.
          p.kept.stay (g + i) y (λ z. omega (arith, low), omega (arith, place-lt (all_new_gates signal_of done) i y t, next-is)) (s.extras_in i y t))
          (λ t.
          let a : next + t.0 ≡ g + i = omega (arith, t.1, next-is) in
          subst (λ (k : ℕ). GateIn gates' pins_in' at' k y) a (p.more signal_of was t.0 y t.2))
          (append-place (all_new_gates signal_of done) (new_gates signal_of (block_of d)) i y (sym (ap (λ (l : List Gate). get_elem? l i) q) ∙ e))

    -- its gates are built
    pub building-next : length gates' ≡ length gates → length pins_in' ≡ length pins_in → Building ds gates₀ pins₀ used g (j + 1) next' at' gates' pins_in'
    building-next sg sp =
        record {
          within = omega (arith, low);
          same-gates = sg ∙ w.same-gates;
          same-pins = sp ∙ w.same-pins;
          counted = omega (arith, p.counted, w.counted, sum-next added_of ds j d this);
          end = omega (arith, p.end, w.end, sum-next built_pins ds j d this);
          stands = λ signal_of first.
              let s = w.stands signal_of first in
              record { mains_in = next-block_gates signal_of s; placed_in = next-placed signal_of s; extras_in = next-new_gates signal_of s };
        }

-- ---- all blocks

pub building-done : {ds : List Def} {gates₀ pins₀ : List ℕ} {used g j : ℕ} {gates pins_in : List ℕ} (r : Built) → length ds ≡ g → Buildable ds gates₀ pins₀ used
    → Building ds gates₀ pins₀ used g j r.gates r.pins gates pins_in → g ≤ j → BuiltBy ds gates₀ pins₀ used gates pins_in r
building-done {ds} {gates₀} {pins₀} {used} {g} {j} {gates} {pins_in} r size b w h =
    let t : take j ds ≡ ds = take_all j ds (omega arith) in
    let next : r.gates ≡ g + sum_of added_of ds = rw t at w.counted in
    let end : r.pins ≡ used + sum_of built_pins ds = rw t at w.end in
    let few : sum_of built_pins ds ≤ sum_of added_pins ds = rw t at (built-few j ds b.good) in
    let main-count : (signal_of : Bytes → Signal) → length (block_gates signal_of (length (map block_of ds)) (map block_of ds)) ≡ length ds =
    λ signal_of. block_gates-length signal_of (length (map block_of ds)) (map block_of ds) ∙ length-map ds block_of in
    record {
      counted = λ signal_of.
          next
          ∙ ap₂ (λ (a c : ℕ). a + c) (sym (main-count signal_of ∙ size)) (sym (new_gates-long signal_of ds))
          ∙ sym (length-append (block_gates signal_of (length (map block_of ds)) (map block_of ds)) (all_new_gates signal_of (map block_of ds)));
      pins = end;
      few_gates = omega (arith, next, gates-split ds, size, b.few_gates);
      few_pins = omega (arith, end, few, pins-split ds, b.start, b.few_pins);
      gates-in = λ signal_of first k x e.
          let s = w.stands signal_of first in
          ⊎_elim
          (λ q. s.mains_in k x (rw (t, ← size) (rw (length-map ds block_of) at q)))
          (λ q.
          let a : g + q.0 ≡ k = omega (arith, q.1, main-count signal_of, size) in
          subst (λ (i : ℕ). GateIn gates pins_in r.pins i x) a (s.extras_in q.0 x (rw t q.2)))
          (append-place (block_gates signal_of (length (map block_of ds)) (map block_of ds)) (all_new_gates signal_of (map block_of ds)) k x e);
    }
