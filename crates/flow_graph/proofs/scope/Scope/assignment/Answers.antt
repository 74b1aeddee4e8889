-- Each target is written, unless it is declared nowhere or written again.
use Rattle.std.proofs.Common.{◌≡◌, ◌+◌, ◌^◌, length, map, ap, sym, ◌∙◌, subst, arith, ◌++◌}
use Rattle.std.specs.Prelude.{IfOk}
use Rattle.trees.specs.Trees.{names_of, rhs_of, rhss_of}
use Rattle.flow_graph.specs.Assignments.{anys}
use Rattle.flow_graph.specs.Located.{bit_of_name}
use Rattle.flow_graph.specs.Formulas.{SaysSide}
use Rattle.flow_graph.specs.Views.{scope_seen}
use Rattle.flow_graph.proofs.Assignments.{kept_from, all_written, anys_same, anys_few, assigns, few_variables, names_below, one_written}
use Rattle.flow_graph.proofs.Assignments.{passed_over}
use Rattle.flow_graph.proofs.Assignments.{Compiled}
use Rattle.flow_graph.proofs.scope.Scope.assignment.Goals as goal
use Rattle.flow_graph.proofs.scope.Scope.assignment.Goals.{in-Some+in_ok-put, in_default}

pub loop-at-preserved : goal.loop-at-preserved
loop-at-preserved g c =
    let s = scope_seen c.args.self.now in
    let xs = c.args.targets.now in
    let ys = c.args.sides.now in
    elim c.match-lasting.branch [
      | in-Some+in_ok-put w ↦
          let made = w.in_ok-put.ensures in
          let says =
          subst
          (λ r. IfOk r (λ x. (x.mask ≡ 2 ^ w.in-Some.bit) × SaysSide x.side s (rhs_of w.index-sides-at.result))) made.1
          w.write.ensures in
          one_written s xs ys c.loop-at.at c.min-count.result c.loop-at.writes.items c.match-lasting.writes.items
          (kept_from s xs ys 0) c.index-targets-at.result
          c.loop-at-test.true
          (omega (arith, c.min-count.ensures)) c.index-targets-at.is w.index-sides-at.result made.0 w.in-Some.bit w.index-sides-at.is
          (sym w.in-Some.ensures.bit) says.0
          says.1 (ap (λ v. v.items) w.writes-is ∙ made.2) c.loop-at.invariant
      | in_default w ↦
          passed_over s xs ys c.loop-at.at c.min-count.result c.loop-at.writes.items c.match-lasting.writes.items
          (kept_from s xs ys 0) c.index-targets-at.result
          c.loop-at-test.true (omega (arith, c.min-count.ensures)) c.index-targets-at.is (sym c.lasting.ensures.bit ∙ w.in_default.is)
          (ap (λ v. v.items) w.writes-is) c.loop-at.invariant
    ]

pub last_choice-last-requires : goal.last_choice-last-requires
last_choice-last-requires g c =
    let s = scope_seen c.args.self.now in
    let xs = c.args.targets.now in
    let ys = c.args.sides.now in
    let ws = c.loop-at.writes.items in
    let all = all_written s xs ys c.loop-at.at ws (omega (arith, c.min-count.ensures)) c.loop-at.invariant in
    let few =
    anys_few (length s.globals + length s.locals) (map (bit_of_name s) (names_of xs)) (rhss_of ys)
    (names_below s (names_of xs) (length s.globals + length s.locals) (omega arith)) in
    let same = anys_same s ws (kept_from s xs ys 0) all in
    let view = ap anys c.as_slice.ensures.value in
    let room = few_variables c.args.self.now.globals.now c.args.self.now.formals.now c.args.self.now.locals.now c.requires in
    omega (arith, few, same, view, room)

pub returns : goal.returns
returns g c =
    let s = scope_seen c.args.self.now in
    let xs = c.args.targets.now in
    let ys = c.args.sides.now in
    let ws = c.loop-at.writes.items in
    let all = all_written s xs ys c.loop-at.at ws (omega (arith, c.min-count.ensures)) c.loop-at.invariant in
    assigns _ s (names_of xs) (rhss_of ys) all (c.last_choice-last.ensures ∙ ap (λ l. 2 ^ anys l) c.as_slice.ensures.value)

pub overflow_add-at : goal.overflow_add-at
overflow_add-at g c = omega (arith, c.loop-at-test.true)

pub bounds-targets-at : goal.bounds-targets-at
bounds-targets-at g c = omega (arith, c.loop-at-test.true, c.min-count.ensures)

pub bounds-sides-at : goal.bounds-sides-at
bounds-sides-at g c = omega (arith, c.loop-at-test.true, c.min-count.ensures)

pub slice_bounds-lasting-start : goal.slice_bounds-lasting-start
slice_bounds-lasting-start g c = omega (arith, c.loop-at-test.true, c.min-count.ensures)

pub slice_bounds-lasting-end : goal.slice_bounds-lasting-end
slice_bounds-lasting-end g c = omega (arith, c.loop-at-test.true, c.min-count.ensures)

pub loop-at-init : goal.loop-at-init
loop-at-init g c = λ ws compiled.
    let s = scope_seen c.args.self.now in
    subst (λ l. Compiled s (l ++ ws) (kept_from s c.args.targets.now c.args.sides.now 0)) (sym c.new-writes.ensures.items) compiled
