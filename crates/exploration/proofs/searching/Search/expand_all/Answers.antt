use Rattle.std.proofs.Common.{◌≡◌, ◌<◌, ◌+◌, ℕ, true, [], length, get_or, sym, ap, subst, arith}
use Rattle.turns.specs.Between.{Threads}
use Rattle.turns.specs.declared.numbered_frame.NumberedFrame.{NumberedFrame}
use Rattle.stack_sets.specs.Nodes.{nodes_in}
use Rattle.exploration.specs.declared.tuple.Tuple.{Tuple}
use Rattle.exploration.specs.Moments.{Follows}
use Rattle.exploration.specs.Searched.{threads_by, IsExpansion, IsSearch, IsSearched}
use Rattle.exploration.specs.Turns.{turns_in}
use Rattle.exploration.proofs.SearchLemmas.{threads_count}
use Rattle.exploration.proofs.PassLemmas.{IsPassing, passing_begins, passing_tuple, passing_on, passing_ends}
use Rattle.exploration.proofs.searching.Search.expand_all.Goals as goal

pub loop-self-init : goal.loop-self-init
loop-self-init g c =
    let p : Threads ℕ NumberedFrame = threads_by c.args.source.now c.args.procedures.now in record {
      passing = passing_begins p (nodes_in c.args.self.now.sets) (turns_in c.args.self.now.turns) c.args.self.now.tuples.keys
          c.args.self.now.expanded c.args.moment c.args.next c.requires.come;
      known = c.requires.known;
      all = c.len-end.ensures.len;
      work = omega arith;
    }

pub expand-requires-clause-tuple : goal.expand-requires-clause-tuple
expand-requires-clause-tuple g c =
    let p : Threads ℕ NumberedFrame = threads_by c.args.source.now c.args.procedures.now in
    let d : Tuple = record { globals = 0; thread = 0; nodes = [] } in
    let t : Tuple = get_or c.as_slice.result.now c.loop-self.self.expanded d in
    (passing_tuple p (nodes_in c.loop-self.self.sets) (turns_in c.loop-self.self.turns) c.args.self.now.tuples.keys
    c.loop-self.self.tuples.keys c.loop-self.self.expanded c.args.moment c.args.next c.loop-self.invariant.passing
    (omega (arith, c.loop-self-test.true, c.loop-self.invariant.all)) t d
    (ap (λ z. get_or z c.loop-self.self.expanded d) c.as_slice.ensures.keys)).0

pub expand-requires-clause-thread : goal.expand-requires-clause-thread
expand-requires-clause-thread g c =
    let p : Threads ℕ NumberedFrame = threads_by c.args.source.now c.args.procedures.now in
    let d : Tuple = record { globals = 0; thread = 0; nodes = [] } in
    let t : Tuple = get_or c.as_slice.result.now c.loop-self.self.expanded d in
    (passing_tuple p (nodes_in c.loop-self.self.sets) (turns_in c.loop-self.self.turns) c.args.self.now.tuples.keys
    c.loop-self.self.tuples.keys c.loop-self.self.expanded c.args.moment c.args.next c.loop-self.invariant.passing
    (omega (arith, c.loop-self-test.true, c.loop-self.invariant.all)) t d
    (ap (λ z. get_or z c.loop-self.self.expanded d) c.as_slice.ensures.keys)).1

pub expand-requires-clause-reached : goal.expand-requires-clause-reached
expand-requires-clause-reached g c =
    let p : Threads ℕ NumberedFrame = threads_by c.args.source.now c.args.procedures.now in
    let d : Tuple = record { globals = 0; thread = 0; nodes = [] } in
    let t : Tuple = get_or c.as_slice.result.now c.loop-self.self.expanded d in
    (passing_tuple p (nodes_in c.loop-self.self.sets) (turns_in c.loop-self.self.turns) c.args.self.now.tuples.keys
    c.loop-self.self.tuples.keys c.loop-self.self.expanded c.args.moment c.args.next c.loop-self.invariant.passing
    (omega (arith, c.loop-self-test.true, c.loop-self.invariant.all)) t d
    (ap (λ z. get_or z c.loop-self.self.expanded d) c.as_slice.ensures.keys)).2

pub loop-self-preserved : goal.loop-self-preserved
loop-self-preserved g c =
    let p : Threads ℕ NumberedFrame = threads_by c.args.source.now c.args.procedures.now in
    let d : Tuple = record { globals = 0; thread = 0; nodes = [] } in
    let t : Tuple = get_or c.as_slice.result.now c.loop-self.self.expanded d in
    let small : c.loop-self.self.expanded < length c.args.self.now.tuples.keys =
    omega (arith, c.loop-self-test.true, c.loop-self.invariant.all) in
    let facts = passing_tuple p (nodes_in c.loop-self.self.sets) (turns_in c.loop-self.self.turns) c.args.self.now.tuples.keys
    c.loop-self.self.tuples.keys c.loop-self.self.expanded c.args.moment c.args.next c.loop-self.invariant.passing small t d
    (ap (λ z. get_or z c.loop-self.self.expanded d) c.as_slice.ensures.keys) in
    let same : c.expand.new.self.expanded ≡ c.loop-self.self.expanded = c.expand.ensures.same in
    let searched : IsSearch p c.expand.new.self = c.in_ok-expand.ensures.search c.if-not-branch.false in
    let turn : IsExpansion p (nodes_in c.expand.new.self.sets) c.expand.new.self.tuples.keys t c.args.moment.round true =
    subst (λ z. IsExpansion p (nodes_in c.expand.new.self.sets) c.expand.new.self.tuples.keys t c.args.moment.round z) c.if-not-branch.false
    c.in_ok-expand.ensures.turn in record {
      passing = subst (λ z. IsPassing p (nodes_in c.expand.new.self.sets) (turns_in c.expand.new.self.turns) c.args.self.now.tuples.keys
          c.expand.new.self.tuples.keys (z + 1) c.args.moment c.args.next) (sym same)
          (passing_on p (nodes_in c.loop-self.self.sets) (nodes_in c.expand.new.self.sets) (turns_in c.loop-self.self.turns)
          (turns_in c.expand.new.self.turns) c.args.self.now.tuples.keys c.loop-self.self.tuples.keys c.expand.new.self.tuples.keys
          c.loop-self.self.expanded c.args.moment c.args.next c.loop-self.invariant.passing small c.expand.ensures.keeps
          (subst
          (λ z. IsSearched p (nodes_in c.expand.new.self.sets) (turns_in c.expand.new.self.turns) c.expand.new.self.tuples.keys z) same
          searched)
          t facts.3 turn c.in_ok-expand.ensures.adds);
      known = c.in_ok-expand.ensures.known c.if-not-branch.false;
      all = c.loop-self.invariant.all;
      work = omega (arith, c.expand.ensures.work, c.loop-self.invariant.work);
    }

pub returns-clause-come : goal.returns-clause-come
returns-clause-come g c = λ yes.
    let p : Threads ℕ NumberedFrame = threads_by c.args.source.now c.args.procedures.now in
    let count : length p.stacks ≡ length c.args.procedures.now = threads_count c.args.source.now c.args.procedures.now in
    passing_ends p (nodes_in c.loop-self.self.sets) (turns_in c.loop-self.self.turns) c.args.self.now.tuples.keys
    c.loop-self.self.tuples.keys c.loop-self.self.expanded c.args.moment c.args.next c.loop-self.invariant.passing
    (omega (arith, c.loop-self-test.false, c.loop-self.invariant.all)) c.requires.come.within
    (subst (λ z. Follows z c.args.moment c.args.next) (sym count) c.requires.follows) c.requires.come.holds
