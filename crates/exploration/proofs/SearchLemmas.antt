-- What a search knows after the turn of a tuple.
use Rattle.std.proofs.Common.{◌≡◌, ℕ, ◌<◌, ◌≤◌, List, length, slice_get, get_or, refl, sym, ◌∙◌, ap, subst, arith}
use Rattle.std.proofs.lemmas.List.{length-map}
use Rattle.std.proofs.lemmas.Option.{slice_get_within, get_or_from_slice_get}
use Rattle.language.specs.Lists.{Member}
use Rattle.turns.specs.Machines.{Machine}
use Rattle.turns.specs.Between.{Threads}
use Rattle.turns.specs.Turn.{SomeStackFails}
use Rattle.turns.specs.declared.numbered_frame.NumberedFrame.{NumberedFrame}
use Rattle.flow_graph.specs.Drawn.{graphs_of}
use Rattle.source_graphs.specs.declared.source.SourceGraphs.{SourceGraphs}
use Rattle.turns.specs.Numbered.{first_frame}
use Rattle.stack_sets.specs.Nodes.{by_number, IsPrefix}
use Rattle.stack_sets.specs.declared.node.Node.{Node}
use Rattle.stack_sets.specs.Turns.{AreWhole, AreEndings}
use Rattle.exploration.specs.declared.kept_turns.KeptTurn.{KeptTurn}
use Rattle.exploration.specs.declared.kept_turns.Start.{Start}
use Rattle.exploration.specs.declared.moment.Moment.{Moment}
use Rattle.exploration.specs.declared.tuple.Tuple.{Tuple}
use Rattle.exploration.specs.Met.{Adds, Ending, IsCovered, after_turn}
use Rattle.exploration.specs.Moments.{ComesNext, Follows}
use Rattle.exploration.specs.Turns.{HasStart, AreTurns, IsTurn}
use Rattle.exploration.specs.Searched.{threads_by, IsReached, NeverFails, IsExpanded, IsTuple, IsSearched, IsNew}
use Rattle.exploration.proofs.HeldLemmas.{member_get}
use Rattle.stack_sets.proofs.GrowLemmas.{in_within}
use Rattle.exploration.proofs.TurnLemmas.{turn_found}
use Rattle.exploration.proofs.GrowLemmas.{tuple_later, reached_later, searched_later}
use Rattle.exploration.proofs.ExpandLemmas.{never_fails, is_expanded, after_is, after_reached}

-- there are as many threads as procedures in which they begin
pub threads_count : {G : Type 0} (source : SourceGraphs G) (procedures : List ℕ)
    → length (threads_by source procedures).stacks ≡ length procedures
threads_count source procedures =
    length-map procedures (λ procedure. first_frame (graphs_of source.graphs) procedure (slice_get (graphs_of source.graphs) procedure))

-- the node of the thread whose turn is next is there
pub own_within : {A : Type 0} (p : Threads ℕ NumberedFrame) (nodes : List (Node A)) (t : Tuple) → IsTuple p nodes t → length p.stacks ≤ 8
    → get_or t.nodes t.thread 0 < length nodes
own_within p nodes t is few =
    let small : t.thread < length p.stacks = is.thread in
    let places : length t.nodes ≡ 8 = is.places in
    let (stack, inside) = is.full (get_or t.nodes t.thread 0) (member_get t.thread t.nodes (omega (arith, small, places, few))) in
    in_within nodes (get_or t.nodes t.thread 0) stack inside

-- the number of a turn that was made is below how many were
pub number_within : {A : Type 0} (start : Start) (turns : List (KeptTurn A)) (n : ℕ) → HasStart start (slice_get turns n) → n < length turns
number_within start turns n is = let (turn, at, m, e) = turn_found start turns n is in slice_get_within turns n turn at

-- what is read of a turn that was made
pub turn_read : {A : Type 0} (machine : Machine ℕ NumberedFrame) (nodes : List (Node A)) (turns : List (KeptTurn A)) (start : Start) (n : ℕ)
    (x : KeptTurn A) (es : List Ending) → AreTurns machine nodes turns → HasStart start (slice_get turns n) → x ≡ get_or turns n x
    → es ≡ x.endings.items
    → AreEndings machine nodes nodes start.globals start.node es × (SomeStackFails machine (by_number nodes) start.globals start.node → ⊥)
turn_read {A = A} machine nodes turns start n x es are is read same =
    let (turn, at, m, e) = turn_found start turns n is in
    let x_is : x ≡ turn = read ∙ get_or_from_slice_get turns n turn x at in
    let made : IsTurn machine nodes turn = are turn m in
    let es_is : es ≡ turn.endings.items = same ∙ ap (λ (z : KeptTurn A). z.endings.items) x_is in (
      subst (λ z. AreEndings machine nodes nodes start.globals start.node z) (sym es_is)
          (subst (λ z. AreEndings machine nodes nodes z.globals z.node turn.endings.items) e made.endings),
      λ bad. made.holds (subst (λ z. SomeStackFails machine (by_number nodes) z.globals z.node) (sym e) bad),
    )

module _ {A : Type 0} (p : Threads ℕ NumberedFrame) (old new : List (Node A)) (prefix : IsPrefix old new) (whole : AreWhole old)
    (t : Tuple) (is : IsTuple p old t) (node : ℕ) (at : node ≡ get_or t.nodes t.thread 0) (es : List Ending)
    (ends : AreEndings p.machine new new t.globals node es × (SomeStackFails p.machine (by_number new) t.globals node → ⊥))
    (moment next : Moment) (same : t.thread ≡ moment.thread) (follows : Follows (length p.stacks) moment next)
    (small : next.thread < length p.stacks) (reached : IsReached p old moment.round t) where
  abbrev now : IsTuple p new t
  now = tuple_later old new prefix whole p t is

  abbrev are : AreEndings p.machine new new t.globals (get_or t.nodes t.thread 0) es
  are = subst (λ z. AreEndings p.machine new new t.globals z es) at ends.0

  abbrev comes : ComesNext (length p.stacks) moment.round t.thread next.round next.thread
  comes = subst (λ z. ComesNext (length p.stacks) moment.round z next.round next.thread) (sym same) follows

  -- the tuple's turn is made
  pub expanded_by : (tuples : List Tuple) → ((e : Ending) → Member e es → IsCovered new tuples (after_turn t next.thread e))
      → IsExpanded p new tuples t × NeverFails p new t
  expanded_by tuples added = (
    is_expanded p new t now es are moment.round next.round next.thread comes tuples added,
    never_fails p new t now (subst (λ z. SomeStackFails p.machine (by_number new) t.globals z → ⊥) at ends.1),
  )

  new_is : (e : Ending) → Member e es → IsNew p new next (after_turn t next.thread e)
  new_is e m = (
    after_is p new t now es are moment.round next.round next.thread comes e m small,
    refl,
    after_reached p new t now es are moment.round next.round next.thread comes e m
        (reached_later old new prefix whole p moment.round t is reached),
  )

  abbrev IsAfter : Tuple → Type 0
  IsAfter t' = (e : Ending) × Member e es × (t' ≡ after_turn t next.thread e)

  -- the tuples after it are before the next turn
  pub added_by : (tuples tuples' : List Tuple) → Adds IsAfter tuples tuples' → Adds (IsNew p new next) tuples tuples'
  added_by tuples tuples' (more, e, ps) =
      (more, e, λ t' m. let (end, inside, same') = ps t' m in subst (IsNew p new next) (sym same') (new_is end inside))

  -- the search goes on
  pub searched_by : AreWhole new → (turns turns' : List (KeptTurn A)) (tuples tuples' : List Tuple) (expanded : ℕ)
      → IsSearched p old turns tuples expanded → AreTurns p.machine new turns' → Adds IsAfter tuples tuples'
      → IsSearched p new turns' tuples' expanded
  searched_by whole' turns turns' tuples tuples' expanded was made (more, e, ps) =
      searched_later old new prefix whole p turns turns' tuples tuples' more expanded was whole' made e
      (λ t' m. let (end, inside, same') = ps t' m in subst (IsTuple p new) (sym same') (new_is end inside).0)
