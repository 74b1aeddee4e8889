use Rattle.std.proofs.Common.{◌≡◌, ◌<◌, ℕ, length, slice_get, sym, subst, arith}
use Rattle.turns.specs.Between.{Threads}
use Rattle.turns.specs.Turn.{SomeStackFails}
use Rattle.turns.specs.declared.numbered_frame.NumberedFrame.{NumberedFrame}
use Rattle.stack_sets.proofs.GrowLemmas.{within_later}
use Rattle.stack_sets.specs.Nodes.{nodes_in, by_number}
use Rattle.stack_sets.specs.Within.{found_in}
use Rattle.exploration.specs.declared.kept_turns.Start.{Start}
use Rattle.exploration.specs.Moments.{Follows}
use Rattle.exploration.specs.Searched.{threads_by}
use Rattle.exploration.specs.Turns.{HasStart, IsTurnFrom, turns_in}
use Rattle.exploration.proofs.ExpandLemmas.{fails_there}
use Rattle.exploration.proofs.SearchLemmas.{threads_count, own_within, number_within, turn_read, expanded_by, added_by, searched_by}
use Rattle.exploration.proofs.searching.Search.expand.Goals as goal

pub turn_from-requires-clause-within : goal.turn_from-requires-clause-within
turn_from-requires-clause-within g c =
    let p : Threads ℕ NumberedFrame = threads_by c.args.source.now c.args.procedures.now in
    let count = threads_count c.args.source.now c.args.procedures.now in
    subst (λ z. z < length (nodes_in c.args.self.now.sets)) (sym c.node.ensures)
    (own_within p (nodes_in c.args.self.now.sets) c.args.tuple.now c.requires.tuple (omega (arith, count, c.requires.few)))

pub returns-in_default-clause-turn : goal.returns-in_default-clause-turn
returns-in_default-clause-turn g c =
    let p : Threads ℕ NumberedFrame = threads_by c.args.source.now c.args.procedures.now in
    let count = threads_count c.args.source.now c.args.procedures.now in
    let start : Start = record { globals = c.args.tuple.now.globals; node = c.node.result } in
    let bad : SomeStackFails p.machine (by_number (nodes_in c.args.self.now.sets)) c.args.tuple.now.globals c.node.result =
    subst (λ z. IsTurnFrom p.machine (nodes_in c.args.self.now.sets) (turns_in c.turn_from.new.turns) start z) c.in_default.is
    c.in_ok-number.ensures.turn in
    fails_there p (nodes_in c.args.self.now.sets) c.args.tuple.now c.requires.tuple c.args.moment.round
    (omega (arith, count, c.requires.few))
    c.requires.reached
    (subst (λ z. SomeStackFails p.machine (by_number (nodes_in c.args.self.now.sets)) c.args.tuple.now.globals z) c.node.ensures bad)

pub index-requires : goal.index-requires
index-requires g c =
    let p : Threads ℕ NumberedFrame = threads_by c.args.source.now c.args.procedures.now in
    let start : Start = record { globals = c.args.tuple.now.globals; node = c.node.result } in
    let within : c.in-Some.number < length (turns_in c.turn_from.new.turns) =
    number_within start (turns_in c.turn_from.new.turns) c.in-Some.number
    (subst (λ z. IsTurnFrom p.machine (nodes_in c.args.self.now.sets) (turns_in c.turn_from.new.turns) start z) c.in-Some.is
    c.in_ok-number.ensures.turn) in
    omega (arith, within, c.turn_from.new.turns.turns.ok.0)

pub meet_all-requires-clause-known : goal.meet_all-requires-clause-known
meet_all-requires-clause-known g c =
    within_later (nodes_in c.args.self.now.sets) (nodes_in c.turn_from.new.sets) c.turn_from.ensures.keeps c.requires.search.whole
    (found_in c.args.self.now.covers.known) c.requires.known

pub returns-clause-search : goal.returns-clause-search
returns-clause-search g c = λ yes.
    let p : Threads ℕ NumberedFrame = threads_by c.args.source.now c.args.procedures.now in
    let count : length p.stacks ≡ length c.args.procedures.now = threads_count c.args.source.now c.args.procedures.now in
    let start : Start = record { globals = c.args.tuple.now.globals; node = c.node.result } in
    let made : HasStart start (slice_get (turns_in c.turn_from.new.turns) c.in-Some.number) =
    subst (λ z. IsTurnFrom p.machine (nodes_in c.args.self.now.sets) (turns_in c.turn_from.new.turns) start z) c.in-Some.is
    c.in_ok-number.ensures.turn in
    let ends =
    turn_read p.machine (nodes_in c.turn_from.new.sets) (turns_in c.turn_from.new.turns) start c.in-Some.number c.index.result.now
    c.as_slice-endings.result.now c.in_ok-number.ensures.kept made c.index.ensures c.as_slice-endings.ensures.value in
    searched_by p (nodes_in c.args.self.now.sets) (nodes_in c.turn_from.new.sets) c.turn_from.ensures.keeps c.requires.search.whole
    c.args.tuple.now c.requires.tuple c.node.result c.node.ensures c.as_slice-endings.result.now ends c.args.moment c.args.next
    c.requires.thread (subst (λ z. Follows z c.args.moment c.args.next) (sym count) c.requires.follows)
    (omega (arith, count, c.requires.next)) c.requires.reached c.in_ok-number.ensures.whole (turns_in c.args.self.now.turns)
    (turns_in c.turn_from.new.turns) c.args.self.now.tuples.keys c.meet_all.new.tuples.keys c.args.self.now.expanded c.requires.search
    c.in_ok-number.ensures.kept c.meet_all.ensures.adds

pub returns-clause-turn : goal.returns-clause-turn
returns-clause-turn g c =
    let p : Threads ℕ NumberedFrame = threads_by c.args.source.now c.args.procedures.now in
    let count : length p.stacks ≡ length c.args.procedures.now = threads_count c.args.source.now c.args.procedures.now in
    let start : Start = record { globals = c.args.tuple.now.globals; node = c.node.result } in
    let made : HasStart start (slice_get (turns_in c.turn_from.new.turns) c.in-Some.number) =
    subst (λ z. IsTurnFrom p.machine (nodes_in c.args.self.now.sets) (turns_in c.turn_from.new.turns) start z) c.in-Some.is
    c.in_ok-number.ensures.turn in
    let ends =
    turn_read p.machine (nodes_in c.turn_from.new.sets) (turns_in c.turn_from.new.turns) start c.in-Some.number c.index.result.now
    c.as_slice-endings.result.now c.in_ok-number.ensures.kept made c.index.ensures c.as_slice-endings.ensures.value in
    expanded_by p (nodes_in c.args.self.now.sets) (nodes_in c.turn_from.new.sets) c.turn_from.ensures.keeps c.requires.search.whole
    c.args.tuple.now c.requires.tuple c.node.result c.node.ensures c.as_slice-endings.result.now ends c.args.moment c.args.next
    c.requires.thread (subst (λ z. Follows z c.args.moment c.args.next) (sym count) c.requires.follows)
    (omega (arith, count, c.requires.next)) c.requires.reached c.meet_all.new.tuples.keys c.in_ok-meet_all.ensures.covered

pub returns-clause-adds : goal.returns-clause-adds
returns-clause-adds g c =
    let p : Threads ℕ NumberedFrame = threads_by c.args.source.now c.args.procedures.now in
    let count : length p.stacks ≡ length c.args.procedures.now = threads_count c.args.source.now c.args.procedures.now in
    let start : Start = record { globals = c.args.tuple.now.globals; node = c.node.result } in
    let made : HasStart start (slice_get (turns_in c.turn_from.new.turns) c.in-Some.number) =
    subst (λ z. IsTurnFrom p.machine (nodes_in c.args.self.now.sets) (turns_in c.turn_from.new.turns) start z) c.in-Some.is
    c.in_ok-number.ensures.turn in
    let ends =
    turn_read p.machine (nodes_in c.turn_from.new.sets) (turns_in c.turn_from.new.turns) start c.in-Some.number c.index.result.now
    c.as_slice-endings.result.now c.in_ok-number.ensures.kept made c.index.ensures c.as_slice-endings.ensures.value in
    added_by p (nodes_in c.args.self.now.sets) (nodes_in c.turn_from.new.sets) c.turn_from.ensures.keeps c.requires.search.whole
    c.args.tuple.now c.requires.tuple c.node.result c.node.ensures c.as_slice-endings.result.now ends c.args.moment c.args.next
    c.requires.thread (subst (λ z. Follows z c.args.moment c.args.next) (sym count) c.requires.follows)
    (omega (arith, count, c.requires.next)) c.requires.reached c.args.self.now.tuples.keys c.meet_all.new.tuples.keys
    c.meet_all.ensures.adds
