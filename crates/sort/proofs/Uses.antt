-- The use counts, gate by gate. Assumes nothing.
use mathlib.Core.Path.{◌≡◌, refl, ap, ◌∙◌}
use mathlib.Core.Bool.{true, false}
use mathlib.Core.List.{List, []}
use Prim.Native.Nat.{ℕ, zero, suc, ◌+◌, ◌≤◌, ◌<◌}
use native.Mathlib.Omega.{arith}
use native.Mathlib.Numerals.{add-one}
use lib.ListN.{length, get_or, replicate, length-replicate}
use Rattle.lists.specs.Lists.{occ, sum_to}
use Rattle.lists.proofs.Counting.{front-le}
use Rattle.lists.proofs.Places.{length_run}
use Rattle.network.specs.Sizes.{max_gates}
use Rattle.network.specs.Cells.{pins_below}
use Rattle.network.specs.Record.{first_at, count_at, run_at}
use Rattle.network.specs.Between.Record.{HasRun}
use Rattle.sort_order.specs.Order.{uses, use_count}
use Rattle.sort.specs.Between.Steps.{gate_ins, form_comb, uses_at, cell_graph, Cells, Within, Rises, Raised, Countable, Counted}
use Rattle.sort_order.proofs.Walk.{uses-ins}
use Rattle.sort.proofs.Naming.{within-rises}

pub get_or-zeros : (k v : ℕ) → get_or {A = ℕ} (replicate k 0) v 0 ≡ 0
get_or-zeros zero v = refl
get_or-zeros (suc k) zero = refl
get_or-zeros (suc k) (suc v) = get_or-zeros k v

-- a gate that can be read has as many pins as its record says
pub run-counted : {gates pins : List ℕ} {g : ℕ} → HasRun gates pins g → length (run_at gates pins g) ≡ count_at gates g
run-counted {gates} {pins} {g} h = length_run (first_at gates g) (count_at gates g) pins h.within

-- a gate's uses in cells
module _ (gates pins : List ℕ) (g : ℕ) where
  pub flop-uses : form_comb gates g ≡ false → uses_at gates pins g ≡ []
  unfolding uses_at
  flop-uses e = rw e

  pub comb-uses : form_comb gates g ≡ true → gate_ins (run_at gates pins g) ≡ uses_at gates pins g
  unfolding uses_at
  comb-uses e = rw e

-- are the uses of the graph
pub graph-uses : {gates pins : List ℕ} {n g : ℕ} → Cells gates pins n → g < n → uses_at gates pins g ≡ uses (cell_graph gates pins n) g
unfolding uses_at uses
graph-uses {g = g} h l = rw (h.combs g l, h.inputs g l)

-- the uses of the first k gates of n are counted
pub record CountedTo (gates pins : List ℕ) (n : ℕ) (c : List ℕ) (k : ℕ) : Type 0 where
  pub within : k ≤ n
  pub long : length c ≡ max_gates
  -- each count is how often these gates use its gate
  pub each : (v : ℕ) → get_or c v 0 ≡ sum_to k (λ g. occ v (uses (cell_graph gates pins n) g))
  -- and none passes the pins of these gates
  pub fits : Within (pins_below gates k) c

pub counted_start : {gates pins : List ℕ} {n : ℕ} {c : List ℕ} → c ≡ replicate max_gates 0 → CountedTo gates pins n c 0
counted_start e =
    record {
      within = omega arith;
      long = rw e (length-replicate {A = ℕ} max_gates 0);
      each = λ v. rw e (get_or-zeros max_gates v);
      fits = record { each = λ v. rw e (omega (arith, get_or-zeros max_gates v)) };
    }

module _ {gates pins : List ℕ} {n : ℕ} {c : List ℕ} {k : ℕ} (h : Cells gates pins n) (l : k < n) (q : CountedTo gates pins n c k) where
  pub counted-asks : Countable (uses_at gates pins k) (count_at gates k) c
  counted-asks =
      let G = cell_graph gates pins n in
      rw (graph-uses h l)
      record {
        index = λ v p. omega (arith, h.few, q.long, h.valid k v l (uses-ins G k v p).1);
        room = λ v. omega (arith, q.fits.each v, h.few_pins, front-le (count_at gates) n (suc k) l);
      }

  pub counted_next : {c' : List ℕ} → length c' ≡ length c → Raised (uses_at gates pins k) c c' → Rises (count_at gates k) c c' → CountedTo gates pins n c' (k + 1)
  counted_next e r s =
      rw add-one
      record {
        within = l;
        long = e ∙ q.long;
        each = λ v. omega (arith, q.each v, r.each v, ap (occ v) (graph-uses h l));
        fits = within-rises (omega arith) q.fits s;
      }

pub counted-done : {gates pins : List ℕ} {n : ℕ} {c : List ℕ} {k : ℕ} → n ≤ k → CountedTo gates pins n c k
    → Counted (cell_graph gates pins n) c × Within (pins_below gates n) c
unfolding use_count
counted-done {n = n} {k = k} l h =
    let e : k ≡ n = omega (arith, h.within) in
    (record { each = λ v. rw e at (h.each v) }, rw e at h.fits)
