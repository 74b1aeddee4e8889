-- A program's threads by numbers, as its flow graphs have them.
use Rattle.std.specs.Prelude.{◌≡◌, ◌↔◌, ◌≤◌, ◌+◌, ◌-◌, ◌%◌, ◌^◌, ℕ, Bool, true, Option, Some, None, List, [], ◌∷◌, map, slice_get}
use Rattle.language.specs.Rest.{Code}
use Rattle.language.specs.Step.{Program, Routine, frame, frame_size, state, body_of, Fails}
use Rattle.language.specs.Words.{word_bits}
use Rattle.language.specs.Sequential.{Valuation}
use Rattle.language.specs.Flow.{IsRestOf}
use Rattle.language.specs.Messages.{IsValuationOf}
use Rattle.flow_graph.specs.Nodes.{point_at}
use Rattle.flow_graph.specs.Flows.{code, last_of, next_of, entered_by, resumed_by}
use Rattle.flow_graph.specs.Returns.{left_by}
use Rattle.flow_graph.specs.Drawn.{flows_of, opening_point, globals_of}
use Rattle.flow_graph.specs.declared.flow.Flow.{Flow}
use Rattle.flow_graph.specs.declared.graph.Graph.{Graph}
use Rattle.turns.specs.declared.numbered_frame.NumberedFrame.{NumberedFrame}
use Rattle.turns.specs.Machines.{Machine}
use Rattle.turns.specs.Between.{Threads}

-- a frame of this procedure, at this point, with these places
abbrev pub placed : ℕ → ℕ → ℕ → NumberedFrame
placed procedure point places = record { procedure = procedure; point = point; places = places }

-- which asserts fail: of which procedure, at which point, with which valuation
abbrev pub Failures : Type 0
Failures = ℕ → ℕ → ℕ → Bool

-- the valuation of a frame with these globals, a number of so many bits
abbrev pub valuation_at : ℕ → NumberedFrame → ℕ
valuation_at g f = (g + f.places) % 2 ^ word_bits

-- the globals and a frame of each procedure have as many values together as a number has bits, or fewer
abbrev pub AreNarrow : Program → Type 0
AreNarrow program = (q : ℕ) (routine : Routine) → slice_get program.routines q ≡ Some routine
    → program.globals + frame_size routine ≤ word_bits

module _ {Alloc : Type 0} where
  -- the globals of a valuation
  abbrev pub globals_in : Graph Alloc → ℕ → ℕ
  globals_in graph values = values % 2 ^ globals_of graph

  -- the values of a frame in a valuation
  abbrev pub places_in : Graph Alloc → ℕ → ℕ
  places_in graph values = values - values % 2 ^ globals_of graph

module _ {Alloc : Type 0} (graphs : List (Graph Alloc)) where
  -- there is a flow at the frame's point, and it has the property, with the graph of the frame's procedure
  abbrev pub AtPoint : NumberedFrame → (Graph Alloc → Flow Alloc → Type 0) → Type 0
  AtPoint f P =
      (graph : Graph Alloc) × (flow : Flow Alloc) × (slice_get graphs f.procedure ≡ Some graph)
      × (slice_get (flows_of graph) f.point ≡ Some flow) × P graph flow

  -- the flow at the frame's point leads to the other frame, by some choice
  abbrev pub Moves : ℕ → NumberedFrame → ℕ → NumberedFrame → Type 0
  Moves g f h k = AtPoint f (λ graph flow. (choice : ℕ) × (point : ℕ) × (values : ℕ) × (choice ≤ last_of flow)
      × (next_of flow (valuation_at g f) choice ≡ Some (point, values)) × (h ≡ globals_in graph values)
      × (k ≡ placed f.procedure point (places_in graph values)))

  -- the flow at the frame's point calls; the caller stays as it is below the first frame of the call
  abbrev pub CallsFrom : ℕ → NumberedFrame → NumberedFrame → NumberedFrame → Type 0
  CallsFrom g f e w = AtPoint f (λ graph flow. (callee : ℕ) × (entered : ℕ) × (back : ℕ) × (called : Graph Alloc)
      × (entered_by flow (valuation_at g f) ≡ Some (callee, entered, back)) × (slice_get graphs callee ≡ Some called)
      × (e ≡ placed callee (opening_point called) (places_in called entered)) × (w ≡ f))

  -- the frame is at the exit, and the frame below continues behind its call, with what the exit leaves
  abbrev pub ReturnsTo : ℕ → NumberedFrame → NumberedFrame → ℕ → NumberedFrame → Type 0
  ReturnsTo g f w h k = (own : Graph Alloc) × (slice_get graphs f.procedure ≡ Some own) × (f.point ≡ 0)
      × AtPoint w (λ graph flow. (callee : ℕ) × (entered : ℕ) × (back : ℕ)
      × (entered_by flow w.places ≡ Some (callee, entered, back))
      × (h ≡ globals_in graph (resumed_by flow w.places (left_by own (valuation_at g f))))
      × (k ≡ placed w.procedure back (places_in graph (resumed_by flow w.places (left_by own (valuation_at g f))))))

  -- what the top frame of a thread does, by numbers
  abbrev pub numbered_machine : Failures → Machine ℕ NumberedFrame
  numbered_machine fails = record {
    Moves = Moves;
    Calls = CallsFrom;
    Returns = ReturnsTo;
    Ends = λ g f. f.point ≡ 0;
    Fails = λ g f. fails f.procedure f.point (valuation_at g f) ≡ true;
  }

  -- the first frame of a thread; none, if its procedure has no graph
  abbrev pub first_frame : ℕ → Option (Graph Alloc) → List NumberedFrame
  first_frame procedure None = []
  first_frame procedure (Some graph) = placed procedure (opening_point graph) 0 ∷ []

  -- threads that begin in these procedures, with globals and places of 0
  abbrev pub numbered_threads : Failures → List ℕ → Threads ℕ NumberedFrame
  numbered_threads fails procedures = record {
    machine = numbered_machine fails;
    globals = 0;
    stacks = map (λ procedure. first_frame procedure (slice_get graphs procedure)) procedures;
  }

-- at the point of each rest, with the number of a valuation, a failure is told if and only if the program has one there
abbrev pub TellFailures : Program → Failures → Type 0
TellFailures program fails =
    (q : ℕ) (v : Valuation) (r : Code) → IsRestOf (body_of (slice_get program.routines q)) r → IsValuationOf program q v
    → (fails q (point_at r) (code v) ≡ true) ↔ Fails (state v.globals (frame q v.places r ∷ []))
