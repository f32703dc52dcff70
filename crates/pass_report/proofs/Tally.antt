-- The counts by document 01's clock. Assumes nothing.
use mathlib.Core.Path.{◌≡◌, refl, sym, ap, ◌∙◌, subst}
use mathlib.Core.Bool.{Bool, not}
use mathlib.Core.List.{List, [], ◌∷◌, map}
use mathlib.Core.Logic.{◌↔◌}
use Prim.Native.Nat.{ℕ, suc, ◌+◌}
use native.Mathlib.Omega.{arith}
use Rattle.lists.proofs.Tests.{by-test}
use Rattle.signal.specs.Signal.{Signal}
use Rattle.network.specs.Net.{Net}
use Rattle.network.specs.Clock.{sig_bit, Clock, Runs, done, tick, start_bits, NetRuns}
use Rattle.pass_report.specs.Counted.{Tallies, end, accept, reject}
use Rattle.pass_report.proofs.CountRows.{one, accepted_of, rejected_of, accepted-cons, rejected-cons}

module _ (net : Net) (first : Signal) (others : List Signal) (outputs : net.outputs ≡ first ∷ others) where
  -- a row of outputs starts with the first output's bit
  starts : {held next : ℕ → Bool} {row out : List Bool} (c : Clock net held row out next) → out ≡ sig_bit row c.bits first ∷ map (sig_bit row c.bits) others
  starts {row = row} c = c.answers ∙ ap (map (sig_bit row c.bits)) outputs

  -- what a row of outputs adds to the counts
  adds-accepted : {held next : ℕ → Bool} {row out : List Bool} (outs : List (List Bool)) {b : Bool} (c : Clock net held row out next)
      → sig_bit row c.bits first ≡ b → accepted_of (out ∷ outs) ≡ one b + accepted_of outs
  adds-accepted {row = row} outs {b} c e =
      let bits : List Bool = map (sig_bit row c.bits) others in
      ap (λ (o : List Bool). accepted_of (o ∷ outs)) (starts c ∙ ap (λ (x : Bool). x ∷ bits) e) ∙ accepted-cons b bits outs

  adds-rejected : {held next : ℕ → Bool} {row out : List Bool} (outs : List (List Bool)) {b : Bool} (c : Clock net held row out next)
      → sig_bit row c.bits first ≡ b → rejected_of (out ∷ outs) ≡ one (not b) + rejected_of outs
  adds-rejected {row = row} outs {b} c e =
      let bits : List Bool = map (sig_bit row c.bits) others in
      ap (λ (o : List Bool). rejected_of (o ∷ outs)) (starts c ∙ ap (λ (x : Bool). x ∷ bits) e) ∙ rejected-cons b bits outs

  as-counts : {held : ℕ → Bool} {rows : List (List Bool)} {a a' r r' : ℕ} → a ≡ a' → r ≡ r' → Tallies net first held rows a r → Tallies net first held rows a' r'
  as-counts {held} {rows} {a} {a'} {r} {r'} p q t = subst (λ (n : ℕ). Tallies net first held rows n r') p (subst (λ (n : ℕ). Tallies net first held rows a n) q t)

  -- the rows of outputs of a run, counted
  pub runs-tally : {held : ℕ → Bool} {rows outs : List (List Bool)} → Runs (Clock net) held rows outs → Tallies net first held rows (accepted_of outs) (rejected_of outs)
  runs-tally done = end
  runs-tally (tick {row = row} {out = out} {rows = rows} {outs = outs} c rest) =
      by-test (sig_bit row c.bits first)
      (λ e.
      let a : suc (accepted_of outs) ≡ accepted_of (out ∷ outs) = omega (arith, adds-accepted outs c e) in
      let r : rejected_of outs ≡ rejected_of (out ∷ outs) = omega (arith, adds-rejected outs c e) in
      as-counts a r (accept c e (runs-tally rest)))
      (λ e.
      let a : accepted_of outs ≡ accepted_of (out ∷ outs) = omega (arith, adds-accepted outs c e) in
      let r : suc (rejected_of outs) ≡ rejected_of (out ∷ outs) = omega (arith, adds-rejected outs c e) in
      as-counts a r (reject c e (runs-tally rest)))

  -- a tally is of a run
  pub tally-runs : {held : ℕ → Bool} {rows : List (List Bool)} {a r : ℕ} → Tallies net first held rows a r
      → (outs : List (List Bool)) × Runs (Clock net) held rows outs × (a ≡ accepted_of outs) × (r ≡ rejected_of outs)
  tally-runs end = ([], done, refl, refl)
  tally-runs (accept {out = out} c e t) =
      let x = tally-runs t in
      (out ∷ x.0, tick c x.1, omega (arith, x.2, adds-accepted x.0 c e), omega (arith, x.3, adds-rejected x.0 c e))
  tally-runs (reject {out = out} c e t) =
      let x = tally-runs t in
      (out ∷ x.0, tick c x.1, omega (arith, x.2, adds-accepted x.0 c e), omega (arith, x.3, adds-rejected x.0 c e))

  -- where there is one run from the start values, its counts are the only ones
  pub tallies-are : (rows outs : List (List Bool)) → ((other : List (List Bool)) → NetRuns net rows other ↔ (other ≡ outs)) → (a r : ℕ)
      → Tallies net first (start_bits net) rows a r ↔ ((a ≡ accepted_of outs) × (r ≡ rejected_of outs))
  tallies-are rows outs one-run a r = (
    (λ t.
        let x = tally-runs t in
        let same : x.0 ≡ outs = (one-run x.0).0 x.1 in
        (x.2 ∙ ap accepted_of same, x.3 ∙ ap rejected_of same)),
    (λ e. as-counts (sym e.0) (sym e.1) (runs-tally ((one-run outs).1 refl))),
  )
