-- One more job is in its slot.
use Rattle.std.proofs.Common.{◌∷◌, [], length, ap, ◌∙◌, arith, length-append}
use Rattle.std.specs.Vec.Iter.{into_iter_items}
use Rattle.jobs.proofs.ResultLemmas.{come, came_at, came_near, come_all}
use Rattle.jobs.proofs.jobs.slots_of.Goals as goal

pub loop-job-preserved : goal.loop-job-preserved
loop-job-preserved g c =
    let i = c.loop-job.invariant in
    let pushed = c.push_reserved.ensures.items in (
      come c.loop-job.yielded (into_iter_items c.loop-job.job-iterator) (into_iter_items c.next.new.self) c.args.jobs.items c.in-Some.job
          i.0 c.in-Some.ensures.steps.0,
      omega (
        arith,
        ap length pushed,
        length-append c.loop-job.slots.items (c.new-in-loop-job.result ∷ []),
        length-append c.loop-job.yielded (c.in-Some.job ∷ []),
        i.1,
      ),
      omega (arith, c.push_reserved.ensures.capacity, i.2),
    )

pub loop-job-init : goal.loop-job-init
loop-job-init g c =
    let room = c.in_ok-slots.ensures.capacity in
    let long = c.len.ensures in
    let all = c.args.jobs.ok.0 in
    (c.into_iter-job-iterator.ensures.into_iter_gives.0, ap length c.in_ok-slots.ensures.items, omega (arith, room, long, all))

pub overflow_cast-number : goal.overflow_cast-number
overflow_cast-number g c =
    let i = c.loop-job.invariant in
    let near = came_near c.loop-job.yielded (into_iter_items c.loop-job.job-iterator) (into_iter_items c.next.new.self) c.args.jobs.items
    c.in-Some.job _ i.0 c.in-Some.ensures.steps.0 i.1 in
    omega (arith, near, c.requires.few, c.len-number.ensures, c.loop-job.slots.ok.0)

pub new-requires : goal.new-requires
new-requires g c =
    let i = c.loop-job.invariant in
    let number = c.len-number.ensures in
    let long = c.loop-job.slots.ok.0 in
    came_at c.loop-job.yielded (into_iter_items c.loop-job.job-iterator) (into_iter_items c.next.new.self) g.L.Lineup.jobs c.in-Some.job
    c.len-number.result (i.0 ∙ c.requires.all) c.in-Some.ensures.steps.0 (omega (arith, i.1, number, long))

pub push_reserved-requires : goal.push_reserved-requires
push_reserved-requires g c =
    let i = c.loop-job.invariant in
    let near = came_near c.loop-job.yielded (into_iter_items c.loop-job.job-iterator) (into_iter_items c.next.new.self) c.args.jobs.items
    c.in-Some.job _ i.0 c.in-Some.ensures.steps.0 i.1 in
    omega (arith, near, i.2, c.loop-job.slots.ok.0)

pub loop-job-smaller : goal.loop-job-smaller
loop-job-smaller g c =
    omega (
      arith,
      ap length c.in-Some.ensures.steps.0,
      c.loop-job.job-iterator.rest.ok.0,
      c.next.new.self.rest.ok.0,
    )

pub returns : goal.returns
returns g c =
    let i = c.loop-job.invariant in
    let all = come_all c.loop-job.yielded (into_iter_items c.loop-job.job-iterator) c.args.jobs.items i.0
    (omega (arith, c.in-None.ensures.steps.0, c.loop-job.job-iterator.rest.ok.0)) in
    i.1 ∙ (all ∙ ap length c.requires.all)
