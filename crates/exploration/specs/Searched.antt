-- What a search knows of the threads.
use Rattle.std.specs.Prelude.{◌≡◌, ◌<◌, ◌≤◌, ◌+◌, ◌++◌, ℕ, suc, Bool, true, false, List, [], ◌∷◌, Some, length, slice_get}
use Rattle.language.specs.Lists.{Member}
use Rattle.flow_graph.specs.Asserted.{fails_at}
use Rattle.flow_graph.specs.Drawn.{graphs_of}
use Rattle.source_graphs.specs.declared.source.SourceGraphs.{SourceGraphs}
use Rattle.turns.specs.Machines.{Runs, TurnFails}
use Rattle.turns.specs.Between.{Threads, Between, FailsBelow}
use Rattle.turns.specs.Numbered.{numbered_threads}
use Rattle.turns.specs.Stacks.{InNode}
use Rattle.turns.specs.declared.numbered_frame.NumberedFrame.{NumberedFrame}
use Rattle.stack_sets.specs.Nodes.{by_number, nodes_in}
use Rattle.stack_sets.specs.declared.node.Node.{Node}
use Rattle.stack_sets.specs.Turns.{AreWhole}
use Rattle.stack_sets.specs.Within.{AreWithin, found_in}
use Rattle.exploration.specs.declared.kept_turns.KeptTurn.{KeptTurn}
use Rattle.exploration.specs.declared.moment.Moment.{Moment}
use Rattle.exploration.specs.declared.searching.Search.{Search}
use Rattle.exploration.specs.declared.tuple.Tuple.{Tuple}
use Rattle.exploration.specs.Met.{Stacks, AreHeld, AreMet}
use Rattle.exploration.specs.Turns.{AreTurns, turns_in}

-- a program's threads by numbers: the procedures in which they begin, by their flow graphs and asserts
abbrev pub threads_by : {Alloc : Type 0} → SourceGraphs Alloc → List ℕ → Threads ℕ NumberedFrame
threads_by source procedures = numbered_threads (graphs_of source.graphs) (fails_at source.asserts) procedures

module _ (p : Threads ℕ NumberedFrame) where
  -- no turn fails before that of this thread in this round
  abbrev pub NoneFailsBefore : ℕ → ℕ → Type 0
  NoneFailsBefore round thread =
      (FailsBelow p round → ⊥)
      × ((g : ℕ) (had : Stacks) (stack : List NumberedFrame) (left : Stacks) → Between p round g had (stack ∷ left) → length had < thread
      → TurnFails p.machine g stack → ⊥)

  module _ {Alloc : Type 0} (nodes : List (Node Alloc)) where
    -- what the tuple stands for is reached after this number of rounds or fewer
    abbrev pub IsReached : ℕ → Tuple → Type 0
    IsReached round t = (had left : Stacks) → length had ≡ t.thread → length had + length left ≡ length p.stacks
        → AreHeld nodes (had ++ left) t.nodes → (r : ℕ) × (r ≤ round) × Between p r t.globals had left

    -- no turn from what the tuple stands for fails
    abbrev pub NeverFails : Tuple → Type 0
    NeverFails t = (had : Stacks) (stack : List NumberedFrame) (left : Stacks) → length had ≡ t.thread
        → AreHeld nodes (had ++ stack ∷ left) t.nodes → TurnFails p.machine t.globals stack → ⊥

    -- what a turn from what the tuple stands for can end with is met
    abbrev pub IsExpanded : List Tuple → Tuple → Type 0
    IsExpanded tuples t = (h : ℕ) (had : Stacks) (stack stack' : List NumberedFrame) (left : Stacks) → length had ≡ t.thread
        → length had + suc (length left) ≡ length p.stacks → AreHeld nodes (had ++ stack ∷ left) t.nodes
        → Runs p.machine t.globals stack h stack' → AreMet nodes tuples h (had ++ stack' ∷ []) left

    -- The tuple is before the turn of a thread, and each of its nodes has some stack.
    pub record IsTuple (t : Tuple) : Type 0 where
      pub thread : t.thread < length p.stacks
      pub places : length t.nodes ≡ 8
      pub full : (q : ℕ) → Member q t.nodes → (stack : List NumberedFrame) × InNode (by_number nodes) q stack

    -- The turns that were made are turns, the start is met, and what the turns of the first tuples can end with is;
    -- none of these turns fails.
    pub record IsSearched (turns : List (KeptTurn Alloc)) (tuples : List Tuple) (expanded : ℕ) : Type 0 where
      pub whole : AreWhole nodes
      pub made : AreTurns p.machine nodes turns
      pub each : (t : Tuple) → Member t tuples → IsTuple t
      pub starts : AreMet nodes tuples p.globals [] p.stacks
      pub done : (j : ℕ) (t : Tuple) → j < expanded → slice_get tuples j ≡ Some t → IsExpanded tuples t × NeverFails t
      pub few : expanded ≤ length tuples

    -- what is reached before the turn of this thread in this round is met
    abbrev pub IsMetThen : List Tuple → ℕ → ℕ → Type 0
    IsMetThen tuples round thread =
        (g : ℕ) (had left : Stacks) → Between p round g had left → length had ≡ thread → AreMet nodes tuples g had left

    -- A search has come to the turn of this thread in this round: the tuples that are not expanded are before that
    -- turn, each is reached, what is reached there is met, and no turn before fails.
    pub record HasCome (turns : List (KeptTurn Alloc)) (tuples : List Tuple) (expanded round thread : ℕ) : Type 0 where
      pub searched : IsSearched turns tuples expanded
      pub within : thread < length p.stacks
      pub waits : (j : ℕ) (t : Tuple) → expanded ≤ j → slice_get tuples j ≡ Some t → t.thread ≡ thread
      pub reached : (t : Tuple) → Member t tuples → IsReached round t
      pub met : IsMetThen tuples round thread
      pub holds : NoneFailsBefore round thread

    -- the turn of the tuple does not fail and is expanded; or it fails in this round
    abbrev pub IsExpansion : List Tuple → Tuple → ℕ → Bool → Type 0
    IsExpansion tuples t round true = IsExpanded tuples t × NeverFails t
    IsExpansion tuples t round false = FailsBelow p (suc round)

    -- the tuple is before this turn, and what it stands for is reached by then
    abbrev pub IsNew : Moment → Tuple → Type 0
    IsNew next t = IsTuple t × (t.thread ≡ next.thread) × IsReached next.round t

-- the search is so, by its parts
abbrev pub IsSearch : {Alloc : Type 0} → Threads ℕ NumberedFrame → Search Alloc → Type 0
IsSearch p search = IsSearched p (nodes_in search.sets) (turns_in search.turns) search.tuples.keys search.expanded

abbrev pub IsAt : {Alloc : Type 0} → Threads ℕ NumberedFrame → Search Alloc → Moment → Type 0
IsAt p search moment =
    HasCome p (nodes_in search.sets) (turns_in search.turns) search.tuples.keys search.expanded moment.round moment.thread

-- what the search takes for nodes that have all stacks of others are such
abbrev pub KnowsWithin : {Alloc : Type 0} → Search Alloc → Type 0
KnowsWithin search = AreWithin (nodes_in search.sets) (found_in search.covers.known)
