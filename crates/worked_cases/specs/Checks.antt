-- Checks of `read_text` and `text_of`: document 01's cases and Quaigh's answers are such checks. Assumes nothing: these are definitions.
use Rattle.std.specs.Prelude.{Bool, true, false, ◌&&◌, List, [], ◌∷◌, ℕ, eqb, Result, Ok, Err}
use Rattle.std.specs.Bool.{beq}
use Rattle.lists.specs.Lists.{Bytes, same}
use Rattle.refusals.specs.Numbers.{number_of}
use Rattle.signal.specs.Signal.{Signal}
use Rattle.gates.specs.Gate.{Gate, pins, start_bit}
use Rattle.gates.specs.Forms.{form_cell}
use Rattle.network.specs.Net.{Net, net_from}
use Rattle.network.specs.Settle.{run}
use Rattle.blif_reading.specs.Read.{read_text}
use Rattle.blif_writing.specs.WrittenModel.{same_node}
use Rattle.blif_writing.specs.Text.{text_of}
use Rattle.refusals.specs.declared.Refusal.{Refusal}

-- ---- equal networks

-- the same lists, element by element
unfoldable pub same_list : {A : Type 0} → (A → A → Bool) → List A → List A → Bool
same_list p [] [] = true
same_list p [] (y ∷ ys) = false
same_list p (x ∷ xs) [] = false
same_list p (x ∷ xs) (y ∷ ys) = p x y && same_list p xs ys

-- the same signal
unfoldable pub same_signal : Signal → Signal → Bool
same_signal s t = same_node s.node t.node && beq s.inv t.inv

-- the same form, the same inputs and the same start value
unfoldable pub same_gate : Gate → Gate → Bool
same_gate x y = eqb (form_cell x) (form_cell y) && same_list same_signal (pins x) (pins y) && beq (start_bit x) (start_bit y)

-- the same inputs, gates and outputs
unfoldable pub same_net : Net → Net → Bool
same_net a b = eqb a.inputs b.inputs && same_list same_gate a.gates b.gates && same_list same_signal a.outputs b.outputs

-- ---- checks

-- what a text is read as: a network, or a refusal by its number; a message or panic of Quaigh is told by the number that document 01
-- gives it
pub data Answer : Type 0 where
  network : Net → Answer
  number : ℕ → Answer

-- reading gives this answer: the same network, or a refusal of the same number
unfoldable pub agrees : Result Net Refusal → Answer → Bool
agrees (Ok a) (network b) = same_net a b
agrees (Ok a) (number n) = false
agrees (Err r) (network b) = false
agrees (Err r) (number n) = eqb (number_of r) n

-- a text and what reading it gives; a network and the text that is written; a network, and what reading the text written for it gives; a
-- text, rows of inputs and the rows of outputs that the network read gives
pub data Check : Type 0 where
  reads : Bytes → Answer → Check
  writes : Net → Bytes → Check
  reads_back : Net → Answer → Check
  runs : Bytes → List (List Bool) → List (List Bool) → Check

-- the network of a result; the empty one where it is a refusal
abbrev pub net_in : Result Net Refusal → Net
net_in (Ok net) = net
net_in (Err r) = net_from 0 [] []

-- whether it is a network
abbrev pub is_read : Result Net Refusal → Bool
is_read (Ok net) = true
is_read (Err r) = false

-- the definitions give what the check says
unfoldable pub holds : Check → Bool
holds (reads t a) = agrees (read_text t) a
holds (writes net t) = same (text_of net) t
holds (reads_back net a) = agrees (read_text (text_of net)) a
holds (runs t rows outs) = is_read (read_text t) && same_list (same_list beq) (run (net_in (read_text t)) rows) outs
