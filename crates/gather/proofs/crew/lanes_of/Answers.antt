-- One more lane.
use Rattle.std.proofs.Common.{◌≡◌, ◌<◌, ◌∷◌, [], Some, length, slice_get, refl, sym, ap, ◌∙◌}
use Rattle.std.proofs.Common.{subst, arith, length-append, rules}
use Rattle.std.proofs.lemmas.Option.{none-some}
use Rattle.std.proofs.lemmas.List.{length-map}
use Rattle.std.specs.Vec.Iter.{into_iter_items}
use Rattle.flow_graph.specs.Drawn.{graphs_of}
use Rattle.jobs.proofs.ResultLemmas.{come, came_at, came_near, come_all}
use Rattle.gather.proofs.Crews.{own_push}
use Rattle.gather.proofs.crew.lanes_of.Given.{Over}
use Rattle.gather.proofs.crew.lanes_of.Goals as goal
use Rattle.gather.proofs.crew.lanes_of.Goals.{After-len-number}
use Rattle.path_sets.proofs.PlaceLemmas.{get_map}

-- the number of the lane is how many result before it
number_is : (g : Over) (c : After-len-number g) → c.len-number.result ≡ length c.loop-pass.yielded
number_is g c = c.len-number.ensures ∙ (c.loop-pass.lanes.ok.0 ∙ c.loop-pass.invariant.1)

near : (g : Over) (c : After-len-number g) → c.len-number.result < length (graphs_of c.args.context.now.graphs.now)
near g c =
    let below = came_near c.loop-pass.yielded (into_iter_items c.loop-pass.pass-iterator) (into_iter_items
    c.next.new.self) c.args.passes.items c.in-Some.pass
    c.len-number.result c.loop-pass.invariant.0 c.in-Some.ensures.steps.0 (number_is g c) in
    omega (arith, below, c.requires.all, length-map c.args.passes.items g.B-Board.sight)

pub loop-pass-init : goal.loop-pass-init
loop-pass-init g c = (
  search rules,
  ap length c.in_ok-lanes.ensures.items,
  λ q lane at. absurd (none-some lane (subst (λ l. slice_get l q ≡ Some lane) c.in_ok-lanes.ensures.items at)),
  omega (arith, c.in_ok-lanes.ensures.capacity, c.len.ensures, c.args.passes.ok.0),
)

pub overflow_cast-number : goal.overflow_cast-number
overflow_cast-number g c = omega (arith, near g c, c.args.context.now.graphs.now.few)

pub push_reserved-requires : goal.push_reserved-requires
push_reserved-requires g c =
    let below = came_near c.loop-pass.yielded (into_iter_items c.loop-pass.pass-iterator) (into_iter_items
    c.next.new.self) c.args.passes.items c.in-Some.pass
    (length c.loop-pass.yielded) c.loop-pass.invariant.0 c.in-Some.ensures.steps.0 refl in
    omega (arith, below, c.loop-pass.invariant.1, c.loop-pass.invariant.3, c.loop-pass.lanes.ok.0)

pub loop-pass-preserved : goal.loop-pass-preserved
loop-pass-preserved g c =
    let a = (goal.at.loop-pass-preserved g c).After-len-number in
    let i = c.loop-pass.invariant in
    let id = g.B-Board.identity c.args.context.now.board.now in
    let rest = into_iter_items c.loop-pass.pass-iterator in
    let left = into_iter_items c.next.new.self in (
      come c.loop-pass.yielded rest left c.args.passes.items c.in-Some.pass i.0 c.in-Some.ensures.steps.0,
      omega (arith, c.push_reserved.ensures.len, i.1, length-append c.loop-pass.yielded (c.in-Some.pass ∷ [])),
      own_push g.B-Board.identity g.B-Board.sight c.args.context.now.graphs.now c.args.context.now.limit id c.loop-pass.lanes.items
          c.push_reserved.new.self.items _ c.len-number.result c.push_reserved.ensures.items (i.1 ∙ sym (number_is g a)) refl
          (record {
            drawn = c.requires.drawn;
            near = near g a;
            fresh = c.requires.fresh c.len-number.result (g.B-Board.sight c.in-Some.pass)
                (get_map g.B-Board.sight c.args.passes.items c.len-number.result c.in-Some.pass
                (came_at c.loop-pass.yielded rest left c.args.passes.items c.in-Some.pass c.len-number.result i.0
                c.in-Some.ensures.steps.0 (number_is g a)));
          }) i.2,
      omega (arith, i.3, c.push_reserved.ensures.capacity),
    )

pub returns : goal.returns
returns g c =
    let i = c.loop-pass.invariant in
    let all = come_all c.loop-pass.yielded (into_iter_items c.loop-pass.pass-iterator) c.args.passes.items i.0
    (omega (arith, c.in-None.ensures.steps.0, c.loop-pass.pass-iterator.rest.ok.0)) in
    record {
      all = omega (arith, all, i.1, c.requires.all, length-map c.args.passes.items g.B-Board.sight);
      own = i.2;
    }
