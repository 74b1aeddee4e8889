-- Which messages are due for a procedure, in the numbers that tables work with.
use Rattle.std.specs.Prelude.{◌≡◌, ℕ}
use Rattle.language.specs.Step.{Program}
use Rattle.language.specs.Sequential.{IsDue}
use Rattle.flow_graph.specs.declared.graph.Graphs.{Graphs}
use Rattle.flow_graph.specs.Drawn.{graphs_of}
use Rattle.flow_graph.specs.Graphs.{AreDrawnFrom}
use Rattle.flow_graph.specs.Numbers.{NumberedMessage, IsNumberOf}
use Rattle.summaries.specs.declared.due.Due.{Due}
use Rattle.summaries.specs.Dues.{due_of}

-- the message is due for the procedure of the program
abbrev pub IsDueFor : Program → ℕ → Due → Type 0
IsDueFor program procedure message = (k : NumberedMessage) → due_of k ≡ message → IsNumberOf (IsDue program procedure) k

-- the message is due for the procedure of each program that the graphs are drawn from
abbrev pub FitsIn : {GraphAlloc : Type 0} → Graphs GraphAlloc → ℕ → Due → Type 0
FitsIn graphs procedure message = (program : Program) → AreDrawnFrom program (graphs_of graphs) → IsDueFor program procedure message
