-- `check_layout` makes the four tests in order. Assumes nothing.
use mathlib.Core.Path.{sym, ◌∙◌}
use mathlib.Core.Bool.{false≢true}
use lib.Seq.{length-take-le}
use Rattle.network.proofs.Records.{sizes-give, no-sizes, no-records, no_pins, network-is}
use Rattle.network.proofs.check_layout.Goals as goal
use Rattle.network.proofs.check_layout.Goals.{then-sizes_fit, else-sizes_fit, then-records_fit, else-records_fit}

pub records_fit-requires : goal.records_fit-requires
records_fit-requires c = let s = sizes-give (sym c.sizes_fit.ensures ∙ c.if-sizes_fit.true) in (s.few.gates, s.gates-lent)

pub slice_bounds-all_valid-end : goal.slice_bounds-all_valid-end
slice_bounds-all_valid-end c =
    elim c.if-sizes_fit.branch [
      | then-sizes_fit w ↦ sym (length-take-le _ _ (sizes-give (sym c.sizes_fit.ensures ∙ w.if-sizes_fit.true)).pins-lent)
      | else-sizes_fit w ↦ absurd (false≢true (sym w.if-sizes_fit.false ∙ sym w.value-is ∙ c.if-records_fit.true))
    ]

pub all_valid-requires : goal.all_valid-requires
all_valid-requires c =
    elim c.if-sizes_fit.branch [
      | then-sizes_fit w ↦ let s = sizes-give (sym c.sizes_fit.ensures ∙ w.if-sizes_fit.true) in record { few_inputs = s.few.inputs; few_gates = s.few.gates }
      | else-sizes_fit w ↦ absurd (false≢true (sym w.if-sizes_fit.false ∙ sym w.value-is ∙ c.if-records_fit.true))
    ]

pub slice_bounds-all_valid-end-then-all_valid : goal.slice_bounds-all_valid-end-then-all_valid
slice_bounds-all_valid-end-then-all_valid c =
    elim c.if-records_fit.branch [
      | then-records_fit w ↦ elim c.if-sizes_fit.branch [
        | then-sizes_fit v ↦ sym (length-take-le _ _ (sizes-give (sym c.sizes_fit.ensures ∙ v.if-sizes_fit.true)).outs-lent)
        | else-sizes_fit v ↦ absurd (false≢true (sym v.if-sizes_fit.false ∙ sym v.value-is ∙ w.if-records_fit.true))
      ]
      | else-records_fit w ↦ absurd (false≢true (sym w.if-records_fit.false ∙ sym w.value-is ∙ c.if-all_valid.true))
    ]

pub all_valid-requires-then-all_valid : goal.all_valid-requires-then-all_valid
all_valid-requires-then-all_valid c =
    elim c.if-records_fit.branch [
      | then-records_fit w ↦ elim c.if-sizes_fit.branch [
        | then-sizes_fit v ↦ let s = sizes-give (sym c.sizes_fit.ensures ∙ v.if-sizes_fit.true) in record { few_inputs = s.few.inputs; few_gates = s.few.gates }
        | else-sizes_fit v ↦ absurd (false≢true (sym v.if-sizes_fit.false ∙ sym v.value-is ∙ w.if-records_fit.true))
      ]
      | else-records_fit w ↦ absurd (false≢true (sym w.if-records_fit.false ∙ sym w.value-is ∙ c.if-all_valid.true))
    ]

pub returns-then-all_valid : goal.returns-then-all_valid
returns-then-all_valid c =
    elim c.if-records_fit.branch [
      | then-records_fit w ↦ elim c.if-sizes_fit.branch [
        | then-sizes_fit v ↦ network-is _ _ _ _ (sym v.if-sizes_fit.true ∙ c.sizes_fit.ensures)
            (sym w.if-records_fit.true ∙ v.value-is ∙ v.records_fit.ensures)
            (sym c.if-all_valid.true ∙ w.value-is ∙ w.all_valid.ensures) c.all_valid-then-all_valid.ensures
        | else-sizes_fit v ↦ absurd (false≢true (sym v.if-sizes_fit.false ∙ sym v.value-is ∙ w.if-records_fit.true))
      ]
      | else-records_fit w ↦ absurd (false≢true (sym w.if-records_fit.false ∙ sym w.value-is ∙ c.if-all_valid.true))
    ]

pub returns-else-all_valid : goal.returns-else-all_valid
returns-else-all_valid c =
    c.if-all_valid.false ∙ elim c.if-records_fit.branch [
      | then-records_fit w ↦ no_pins _ _ _ _ (sym c.if-all_valid.false ∙ w.value-is ∙ w.all_valid.ensures)
      | else-records_fit w ↦ elim c.if-sizes_fit.branch [
        | then-sizes_fit v ↦ no-records _ _ _ _ (sym w.if-records_fit.false ∙ v.value-is ∙ v.records_fit.ensures)
        | else-sizes_fit v ↦ no-sizes _ _ _ _ (sym v.if-sizes_fit.false ∙ c.sizes_fit.ensures)
      ]
    ]
