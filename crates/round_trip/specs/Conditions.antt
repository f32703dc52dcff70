-- What demand 3 asks of a network. Assumes nothing: these are definitions.
use Rattle.std.specs.Prelude.{◌≡◌, true, false, ℕ, ◌≤◌, length}
use Rattle.lists.specs.Lists.{any}
use Rattle.gates.specs.Gate.{FlipFlop, PlainFlop, Gate, Dff}
use Rattle.network.specs.Net.{Net, GateIs, Valid, Formed, Loop}
use Rattle.network.specs.Cells.{Lent, net_of, is_network}
use Rattle.blif_text.specs.Lines.{max_text}
use Rattle.blif_writing.specs.WrittenModel.{wide}
use Rattle.blif_writing.specs.Text.{text_of}

-- every flip-flop is plain
abbrev pub PlainFlops : Net → Type 0
PlainFlops net = (g : ℕ) (ff : FlipFlop) → GateIs net g (Dff ff) → PlainFlop ff

-- a network "without a loop", whose flip-flops are plain
pub record PlainNet (net : Net) : Type 0 where
  -- no combinational loop
  pub free : Loop net → ⊥
  -- its flip-flops are plain
  pub flops : PlainFlops net

-- a network of demand 3: "Its networks have the layout and signals that 20 asks for, its exclusive gates are those of 21"
pub record RoundTripNet (net : Net) : Type 0 where
  -- every signal is valid
  pub valid : Valid net
  -- pin counts that the forms can have
  pub formed : Formed net
  -- no exclusive gate over 12 inputs
  pub narrow : (g : ℕ) (x : Gate) → GateIs net g x → wide x ≡ false
  -- no loop, and plain flip-flops
  pub plain : PlainNet net

-- a lent network that is written into n bytes: no refusal of 20 to 22 takes it
pub record WrittenFrom (l : Lent) (n : ℕ) : Type 0 where
  -- it has "the layout and signals that 20 asks for"
  pub network : is_network l ≡ true
  -- "its exclusive gates are those of 21"
  pub narrow : any wide (net_of l).gates ≡ false
  -- its text is not "longer .. than 32,768 bytes"
  pub short : length (text_of (net_of l)) ≤ max_text
  -- nor "than the output slice"
  pub room : length (text_of (net_of l)) ≤ n
