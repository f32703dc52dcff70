-- What `run_rows` answers and leaves in the output slice (document 02, CR 1: "Try a sequence on the netlist"). Assumes nothing: these are
-- definitions.
--   run_into l t n   of the network l and the rows' text t, into n bytes
use Rattle.std.specs.Prelude.{Bool, not, List, ℕ, ltb, length, if◌then◌else◌, Result, Ok, Err}
use Rattle.std.proofs.Math.Option.{Option, none, some}
use Rattle.lists.specs.Lists.{Bytes, all, zeros, overwrite}
use Rattle.refusals.specs.declared.Refusal.{Refusal}
use Rattle.refusals.specs.declared.Refusal.TheVariants as refusal
use Rattle.gates.specs.Gate.{is_plain}
use Rattle.network.specs.Net.{Net, topo_sorted}
use Rattle.network.specs.Settle.{run}
use Rattle.network.specs.Cells.{Lent, net_of, is_network}
use Rattle.run_rows.specs.Rows.{rows_text, rows_of}

-- an answer, and what the output slice holds then
pub record RunOutcome : Type 0 where
  -- what was answered: the length of the rows written, or a refusal
  pub answer : Result ℕ Refusal
  -- the bytes of the output slice
  pub out : Bytes

-- the same, from its parts
abbrev pub run_outcome : Result ℕ Refusal → Bytes → RunOutcome
run_outcome a o = record { answer = a; out = o }

-- "A refusal zeroes the output rows"
abbrev pub refused_run : Refusal → ℕ → RunOutcome
refused_run r n = run_outcome (Err r) (zeros n)

-- "Success gives the length, with zero bytes after it"
abbrev pub ran_rows : Bytes → ℕ → RunOutcome
ran_rows t n = run_outcome (Ok (length t)) (overwrite t (zeros n))

-- the rows of outputs, where they fit: "31 when .. the output rows do not fit"
abbrev pub output_rows : Bytes → ℕ → RunOutcome
output_rows t n = if ltb n (length t) then refused_run refusal.WrongRows n else ran_rows t n

-- of the rows that a text has, "one such row of outputs per clock"; where it has other lines, 31
abbrev pub run_on : Net → Option (List (List Bool)) → ℕ → RunOutcome
run_on net none n = refused_run refusal.WrongRows n
run_on net (some rows) n = output_rows (rows_text (run net rows)) n

-- "The order is 20, then these": "29 when a combinational gate has a gate input whose number is not lower than its own, 30 when a flip-flop
-- has another enable or reset, and 31"
unfoldable pub run_into : Lent → Bytes → ℕ → RunOutcome
run_into l t n =
    if not (is_network l) then refused_run refusal.NotANetwork n
    else (if not (topo_sorted (net_of l)) then refused_run refusal.NotSorted n
    else (if not (all is_plain (net_of l).gates) then refused_run refusal.OtherFlipFlop n
    else run_on (net_of l) (rows_of (net_of l).inputs t) n))
