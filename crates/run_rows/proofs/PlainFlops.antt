-- Whether a flip-flop is plain, told by the cells of its enable and its reset. Assumes nothing.
use mathlib.Core.Path.{◌≡◌, refl, sym, ap, ap₂, ◌∙◌}
use mathlib.Core.Bool.{false, not, ◌&&◌}
use mathlib.Core.List.{List}
use Prim.Native.Nat.{ℕ, ◌+◌, ◌/◌, ◌%◌, ◌<◌}
use native.Mathlib.Omega.{arith}
use lib.Dec.{eqb}
use lib.ListN.{length, get_or, drop, length-map, get_or-map}
use lib.Seq.{get_or-take, get_or-drop}
use borrow.Author.Tests.{eqb-true, eqb-false, eq-eqb, ne_eqb}
use Rattle.lists.proofs.Tests.{by_order, by-test}
use Rattle.signal.specs.Signal.{Signal, is_zero_s, is_one_s}
use Rattle.signal.specs.Cell.{sig_of}
use Rattle.signal.proofs.Cells.{const-test}
use Rattle.gates.specs.Gate.{Gate, Comb, Dff, pins, is_plain}
use Rattle.gates.specs.Forms.{flop_number, form_cell}
use Rattle.gates.proofs.Forms.{comb-other}
use Rattle.network.specs.Cells.{or_buf}
use Rattle.network.specs.Record.{form_at, first_at, count_at, run_at, gate_at}
use Rattle.network.specs.Between.Cells.{GateCells}

-- the signal 1 is the cell 1, the signal 0 the cell 0: a constant's node, and bit 0
one-is : (c : ℕ) → eqb c 1 ≡ is_one_s (sig_of c)
one-is c =
    by-test (eqb c 1) (λ t. let e : c ≡ 1 = eqb-true c 1 t in rw e)
    (λ t. t ∙ sym (ap (λ b. b && eqb (c % 2) 1) (sym (const-test c)) ∙ by-test (eqb (c / 2) 0)
    (λ h. rw (h, ne_eqb (c % 2) 1 (λ b. eqb-false c 1 t (omega (arith, eqb-true (c / 2) 0 h))))) (λ h. rw h)))

zero_is : (c : ℕ) → eqb c 0 ≡ is_zero_s (sig_of c)
zero_is c =
    by-test (eqb c 0) (λ t. let e : c ≡ 0 = eqb-true c 0 t in rw e)
    (λ t. t ∙ sym (ap (λ b. b && not (eqb (c % 2) 1)) (sym (const-test c)) ∙ by-test (eqb (c / 2) 0)
    (λ h. rw (h, eq-eqb (c % 2) 1 (by_order 1 (c % 2) (λ l. omega arith) (λ l. absurd (eqb-false c 0 t (omega (arith, eqb-true (c / 2) 0 h))))))) (λ h. rw h)))

module _ {inputs n g : ℕ} {cells ps : List ℕ} (c : GateCells inputs n cells ps g) where
  abbrev held : Gate
  held = or_buf (gate_at cells ps g)

  held-gate : held ≡ c.gate
  held-gate = ap or_buf c.is

  -- cell i of a flip-flop's pins
  pin-is : (i : ℕ) → i < count_at cells g → get_or (pins c.gate) i (sig_of 0) ≡ sig_of (get_or ps (first_at cells g + i) 0)
  pin-is i h =
      ap (λ l. get_or l i (sig_of 0)) c.run
      ∙ get_or-map sig_of (run_at cells ps g) i 0
      ∙ ap sig_of (get_or-take (count_at cells g) (drop (first_at cells g) ps) i 0 h ∙ get_or-drop (first_at cells g) ps i 0)

  pub flop-count : form_at cells g ≡ flop_number → count_at cells g ≡ 3
  flop-count e = sym c.count ∙ by c.gate (sym c.form ∙ e)
    where
      by : (x : Gate) → form_cell x ≡ flop_number → length (pins x) ≡ 3
      by (Dff ff) q = refl
      by (Comb f qs) q = absurd (comb-other f qs q)

  pub flop-three : form_at cells g ≡ flop_number → length (run_at cells ps g) ≡ 3
  flop-three e = sym (length-map (run_at cells ps g) sig_of) ∙ ap length (sym c.run) ∙ c.count ∙ flop-count e

  flop-plain : form_at cells g ≡ flop_number → is_plain held ≡ (eqb (get_or ps (first_at cells g + 1) 0) 1 && eqb (get_or ps (first_at cells g + 2) 0) 0)
  flop-plain e =
      ap is_plain held-gate
      ∙ by c.gate (sym c.form ∙ e) (pin-is 1 (omega (arith, flop-count e))) (pin-is 2 (omega (arith, flop-count e)))
      ∙ ap₂ (λ a b. a && b) (sym (one-is (get_or ps (first_at cells g + 1) 0))) (sym (zero_is (get_or ps (first_at cells g + 2) 0)))
    where
      by : (x : Gate) → form_cell x ≡ flop_number → {s t : Signal} → get_or (pins x) 1 (sig_of 0) ≡ s → get_or (pins x) 2 (sig_of 0) ≡ t → is_plain x ≡ (is_one_s s && is_zero_s t)
      by (Dff ff) q a b = ap₂ (λ x y. is_one_s x && is_zero_s y) a b
      by (Comb f qs) q a b = absurd (comb-other f qs q)

  -- another enable
  pub other-enable : {first : ℕ} → form_at cells g ≡ flop_number → first ≡ first_at cells g → (get_or ps (first + 1) 0 ≡ 1 → ⊥) → false ≡ is_plain held
  other-enable {first} e at d =
      sym (flop-plain e ∙ ap (λ b. b && eqb (get_or ps (first_at cells g + 2) 0) 0)
      (ap (λ (k : ℕ). eqb (get_or ps (k + 1) 0) 1) (sym at) ∙ ne_eqb (get_or ps (first + 1) 0) 1 d))

  -- an enable of one: the reset decides
  pub by-reset : {first : ℕ} → form_at cells g ≡ flop_number → first ≡ first_at cells g → get_or ps (first + 1) 0 ≡ 1
      → eqb (get_or ps (first + 2) 0) 0 ≡ is_plain held
  by-reset {first} e at q =
      sym (flop-plain e ∙ ap₂ (λ a b. a && b) (ap (λ (k : ℕ). eqb (get_or ps (k + 1) 0) 1) (sym at) ∙ eq-eqb (get_or ps (first + 1) 0) 1 q)
      (ap (λ (k : ℕ). eqb (get_or ps (k + 2) 0) 0) (sym at)))
