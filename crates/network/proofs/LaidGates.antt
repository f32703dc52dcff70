-- A gate in hand laid into the cells, and a record copied. Assumes nothing.
use mathlib.Core.Path.{◌≡◌, sym, ap, ◌∙◌, subst}
use mathlib.Core.List.{List, [], ◌∷◌}
use Prim.Native.Nat.{ℕ, ◌+◌, ◌-◌, ◌*◌, ◌≤◌}
use native.Mathlib.Omega.{arith}
use lib.ListN.{take, drop, set}
use Rattle.lists.specs.Between.Lists.{overwrite_at}
use Rattle.lists.proofs.OverAt.{overwrite_at-same, overwrite-inner, overwrite-two, overwrite-three, overwrite-four}
use Rattle.lists.proofs.Laying.{one_store}
use Rattle.lists.proofs.Places.{part-run}
use Rattle.gates.specs.Between.Decode.{pins_in, pin_count}
use Rattle.gates.specs.declared.NaryType.{NaryType}
use Rattle.gates.specs.declared.PinRun.{PinRun}
use Rattle.gates.specs.declared.Gate as code
use Rattle.gates.specs.declared.Gate.TheVariants as G
use Rattle.network.specs.Record.{gate_width}
use Rattle.network.specs.Between.Record.{record_at, with_first, RecordIn, hand_record, RunFrom, LayRoom, GateLaid}
use Rattle.network.proofs.RecordCells.{length-record_at}

-- ---- cells that were worked out, stored

pub stored_one : (k : ℕ) (o : List ℕ) {x a : ℕ} → x ≡ a → set o k x ≡ overwrite_at k (a ∷ []) o
stored_one k o {x} e = one_store k x o ∙ ap (λ (i : ℕ). overwrite_at k (i ∷ []) o) e

pub stored-two : (k : ℕ) (o : List ℕ) {x y a b : ℕ} → x ≡ a → y ≡ b → set (set o k x) (k + 1) y ≡ overwrite_at k (a ∷ b ∷ []) o
stored-two k o {x} {y} e f = overwrite-two k x y o ∙ (λ i. overwrite_at k (e i ∷ f i ∷ []) o)

pub stored-three : (k : ℕ) (o : List ℕ) {x y z a b c : ℕ} → x ≡ a → y ≡ b → z ≡ c
    → set (set (set o k x) (k + 1) y) (k + 2) z ≡ overwrite_at k (a ∷ b ∷ c ∷ []) o
stored-three k o {x} {y} {z} e f g = overwrite-three k x y z o ∙ (λ i. overwrite_at k (e i ∷ f i ∷ g i ∷ []) o)

pub stored-four : (k : ℕ) (o : List ℕ) {w x y z a b c d : ℕ} → w ≡ a → x ≡ b → y ≡ c → z ≡ d
    → set (set (set (set o k w) (k + 1) x) (k + 2) y) (k + 3) z ≡ overwrite_at k (a ∷ b ∷ c ∷ d ∷ []) o
stored-four k o {w} {x} {y} {z} e f g h = overwrite-four k w x y z o ∙ (λ i. overwrite_at k (e i ∷ f i ∷ g i ∷ h i ∷ []) o)

-- ---- the pins

pub room_as : {x y : code.Gate} (at : ℕ) {n : ℕ} → x ≡ y → at + pin_count x ≤ n → at + pin_count y ≤ n
room_as at {n} e h = subst (λ (z : code.Gate). at + pin_count z ≤ n) e h

pub pins-as : {x y : code.Gate} (at : ℕ) (ps : List ℕ) {ps' : List ℕ} → x ≡ y → ps' ≡ overwrite_at at (pins_in y ps) ps → ps' ≡ overwrite_at at (pins_in x ps) ps
pins-as at ps e h = h ∙ ap (λ (z : code.Gate). overwrite_at at (pins_in z ps) ps) (sym e)

-- a run stands where it is wanted
pub run-stands : {x : code.Gate} {t : NaryType} {r : PinRun} (at : ℕ) (ps : List ℕ) → x ≡ G.Nary t r → RunFrom at x → ps ≡ overwrite_at at (pins_in x ps) ps
run-stands {x} {t} {r} at ps e h =
    let f : r.first ≡ at = subst (RunFrom at) e h in
    pins-as at ps e (sym (ap (λ (k : ℕ). overwrite_at at (take r.count (drop k ps)) ps) f ∙ overwrite_at-same at r.count ps))

-- ---- the gate

pub laid : {x : code.Gate} {g at : ℕ} {gates ps gates' ps' : List ℕ} {r n : ℕ} → LayRoom x g at gates ps → ps' ≡ overwrite_at at (pins_in x ps) ps
    → gates' ≡ overwrite_at (g * gate_width) (hand_record at x) gates → n ≡ pin_count x → r ≡ at + n → GateLaid x g at gates ps gates' ps' r
laid {x} {g} {at} {gates} {ps} m p q k e =
    record {
      records = q;
      runs = p;
      end = e ∙ ap (λ (i : ℕ). at + i) k;
    }

-- ---- a record copied

module _ {cells : List ℕ} {g : ℕ} (h : RecordIn cells g) (i first : ℕ) (to : List ℕ) where
  pub copied : {p : List ℕ} → p ≡ overwrite_at (i * gate_width) (take (g * gate_width + gate_width - g * gate_width) (drop (g * gate_width) cells)) to
      → set p (i * gate_width + 1) first ≡ overwrite_at (i * gate_width) (with_first first (record_at cells g)) to
  copied {p} e =
      let l = length-record_at cells g h in
      ap (λ (q : List ℕ). set q (i * gate_width + 1) first) (e ∙ ap (λ (c : List ℕ). overwrite_at (i * gate_width) c to) (part-run (g * gate_width) gate_width cells))
      ∙ one_store (i * gate_width + 1) first (overwrite_at (i * gate_width) (record_at cells g) to)
      ∙ overwrite-inner (i * gate_width) 1 (first ∷ []) (record_at cells g) to (omega (arith, l))
