-- Each new lane has its pass.
use Rattle.std.proofs.Common.{◌≡◌, ◌<◌, ◌+◌, ◌∷◌, ◌++◌, [], true, length, suc, sym, ap, ◌∙◌, subst, arith}
use Rattle.std.proofs.Common.{append_assoc, length-append}
use Rattle.std.proofs.lemmas.List.{length_push}
use Rattle.std.specs.Vec.Iter.{into_iter_items}
use Rattle.ticket_lock.specs.Lanes.{fresh_lane, fresh_lanes}
use Rattle.switchboard.specs.Sights.{fresh_sights}
use Rattle.switchboard.specs.Passes.{IsPass}
use Rattle.switchboard.proofs.Opening.{fresh_next, fresh_count, sights_push, sights_count, sight_fresh, pass_fresh, map_same}
use Rattle.switchboard.proofs.one_lock.board.OneLockBoard.open_with_budget.Given as given
use Rattle.switchboard.proofs.one_lock.board.OneLockBoard.open_with_budget.Goals as goal
use Rattle.switchboard.proofs.one_lock.board.OneLockBoard.open_with_budget.Goals.{In-Some}

-- the lane that came is the next new one
next_lane : (g : given.Over) (c : In-Some g) →
    let lock = c.in-Ok.lock in
    let came = c.loop-lane.yielded in
    (came ++ c.in-Some.lane ∷ into_iter_items c.next.new.self ≡ fresh_lanes lock.id c.args.budget lock.opening 0 c.args.boxes)
    × ((c.in-Some.lane ≡ fresh_lane lock.id c.args.budget lock.opening (0 + length came)) × (length came < c.args.boxes))
next_lane g c =
    fresh_next c.in-Ok.lock.id c.args.budget c.in-Ok.lock.opening c.args.boxes c.loop-lane.yielded c.in-Some.ensures.steps.0
    c.loop-lane.invariant.0

pub invariant_of-push_reserved : goal.invariant_of-push_reserved
invariant_of-push_reserved g c =
    let lock = c.in-Ok.lock in
    let r = next_lane g (goal.at.invariant_of-push_reserved g c).In-Some in
    let s = c.in-Ok.ensures.ok.0 ∙ c.in_ok-book.ensures in
    subst (λ w. IsPass g.M.Mail.fits c.in-Some.lane w c.args.boxes true) (sym c.of.ensures)
    (pass_fresh g.M.Mail.fits lock.id c.args.budget c.args.world.now c.args.boxes c.args.to (0 + length c.loop-lane.yielded)
    c.args.first c.in-Some.lane lock.opening s r.1.0 (omega (arith, r.1.1)) c.requires.boxes.1
    (omega (arith, c.requires.budget.0)) c.requires.boxes.0 c.requires.fits)

pub push_reserved-requires : goal.push_reserved-requires
push_reserved-requires g c =
    let lock = c.in-Ok.lock in
    let r = next_lane g (goal.at.push_reserved-requires g c).In-Some in
    let count = sights_count lock.id c.args.budget lock.opening 0 (length c.loop-lane.yielded) in
    omega (arith, r.1.1, ap length c.loop-lane.invariant.1, count, c.loop-lane.invariant.2, c.loop-lane.passes.ok)

pub loop-lane-preserved : goal.loop-lane-preserved
loop-lane-preserved g c =
    let lock = c.in-Ok.lock in
    let r = next_lane g (goal.at.loop-lane-preserved g c).In-Some in
    let s = c.in-Ok.ensures.ok.0 ∙ c.in_ok-book.ensures in
    let n = length c.loop-lane.yielded in
    let shown = sight_fresh lock.id c.args.budget c.args.world.now c.of.result.value c.args.boxes c.args.to (0 + n)
    c.args.first c.in-Some.lane lock.opening s c.of.ensures r.1.0 in
    let long : length (c.loop-lane.yielded ++ c.in-Some.lane ∷ []) ≡ suc n =
    omega (arith, length_push c.loop-lane.yielded c.in-Some.lane) in (
      append_assoc c.loop-lane.yielded (c.in-Some.lane ∷ []) (into_iter_items c.next.new.self) ∙ r.0,
      c.push_reserved.ensures.items
          ∙ ((λ i. c.loop-lane.invariant.1 i ++ shown i ∷ [])
          ∙ (sym (sights_push lock.id c.args.budget lock.opening 0 n)
          ∙ ap (fresh_sights lock.id c.args.budget lock.opening 0) (sym long))),
      omega (arith, c.loop-lane.invariant.2, c.push_reserved.ensures.capacity),
    )

pub returns : goal.returns
returns g c =
    let lock = c.in-Ok.lock in
    let it = c.loop-lane.lane-iterator in
    let s = c.in-Ok.ensures.ok.0 ∙ c.in_ok-book.ensures in
    let n = length c.loop-lane.yielded in
    let all : n ≡ c.args.boxes =
    omega (
      arith,
      ap length c.loop-lane.invariant.0,
      length-append c.loop-lane.yielded (into_iter_items it),
      fresh_count lock.id c.args.budget lock.opening 0 c.args.boxes,
      c.in-None.ensures.steps.0,
      it.rest.ok.0,
    ) in (
      c.in-Ok.ensures.ok.1,
      map_same _ ∙ (c.loop-lane.invariant.1 ∙ (λ i. fresh_sights lock.id c.args.budget (s i) 0 (all i))),
    )

pub loop-lane-init : goal.loop-lane-init
loop-lane-init g c = (
  c.into_iter-lane-iterator.ensures.into_iter_gives.0 ∙ c.in-Ok.ensures.ok.2
      ∙ ap (λ b. fresh_lanes c.in-Ok.lock.id c.args.budget b 0 c.args.boxes) (sym c.in-Ok.ensures.ok.0),
  c.in_ok-passes.ensures.items,
  omega (arith, c.in_ok-passes.ensures.capacity, c.from.ensures),
)
