use Rattle.std.proofs.Common.{◌≡◌, ◌≤◌, ◌<◌, false, Ok, length, take, sym, ap, ◌∙◌, subst, arith}
use Rattle.std.proofs.lemmas.List.{length-append}
use Rattle.language.specs.Lists.{Member}
use Rattle.language.proofs.Members.{member_left}
use Rattle.flow_graph.specs.Asserted.{fails_at}
use Rattle.flow_graph.specs.Drawn.{graphs_of}
use Rattle.stack_sets.specs.Nodes.{nodes_in, by_number}
use Rattle.saturation.specs.Calls.{AreListed}
use Rattle.saturation.specs.Saturation.{IsClosedFor}
use Rattle.stack_sets.specs.Turns.{machine_by}
use Rattle.saturation.specs.Work.{Follows}
use Rattle.saturation.proofs.FollowLemmas.{extends_none, extends_then, member_at}
use Rattle.saturation.proofs.SaturationLemmas.{closed_more, closed_all, found_more, none_closed, none_listed, take_next, member_take}
use Rattle.saturation.proofs.SaturationLemmas.{take_whole}
use Rattle.saturation.proofs.saturating.saturate.Goals as goal

pub items-init : goal.items-init
items-init g c = (
  none_closed (machine_by c.args.graphs.now c.args.asserts.now) (by_number (nodes_in c.args.sets.now)) c.args.items.now.keys,
  none_listed c.new-calls.result c.new-calls.ensures.callers c.new-calls.ensures.finished,
  λ globals node found. found,
  extends_none (λ x. Unit {0}) c.args.items.now.keys,
  omega arith,
  omega arith,
)

pub returns-in_err-work_on-clause-stays : goal.returns-in_err-work_on-clause-stays
returns-in_err-work_on-clause-stays g c =
    extends_then (λ x. Unit {0}) c.args.items.now.keys c.items.items.keys c.work_on.new.items.keys c.items.invariant.3
    (c.in_err-work_on.ensures.only.0, c.in_err-work_on.ensures.only.1, λ item m. tt)

pub returns-then-branch-clause-stays : goal.returns-then-branch-clause-stays
returns-then-branch-clause-stays g c =
    extends_then (λ x. Unit {0}) c.args.items.now.keys c.items.items.keys c.work_on.new.items.keys c.items.invariant.3
    (c.in_ok-work_on.ensures.only.0, c.in_ok-work_on.ensures.only.1, λ item m. tt)

pub overflow_add-at : goal.overflow_add-at
overflow_add-at g c = omega (arith, c.items-test.true, c.len.ensures.small)

pub returns-clause-closed : goal.returns-clause-closed
returns-clause-closed g c = λ ok.
    let m = machine_by c.args.graphs.now c.args.asserts.now in
    let nodes = by_number (nodes_in c.args.sets.now) in
    let long : length c.items.items.keys ≤ c.items.at = omega (arith, c.items-test.false, c.len.ensures.len) in
    closed_all (graphs_of c.args.graphs.now) (fails_at c.args.asserts.now) nodes c.items.items.keys
    (subst (λ l. IsClosedFor m nodes l c.items.items.keys) (take_whole c.items.items.keys c.items.at long) c.items.invariant.0)

pub returns-clause-passes : goal.returns-clause-passes
returns-clause-passes g c = λ ok (item, n, bad).
    let m = machine_by c.args.graphs.now c.args.asserts.now in
    let nodes = by_number (nodes_in c.args.sets.now) in
    let long : length c.items.items.keys ≤ c.items.at = omega (arith, c.items-test.false, c.len.ensures.len) in
    (subst (λ l. IsClosedFor m nodes l c.items.items.keys) (take_whole c.items.items.keys c.items.at long) c.items.invariant.0).passes item
    n bad

pub items-preserved : goal.items-preserved
items-preserved g c =
    let m = machine_by c.args.graphs.now c.args.asserts.now in
    let nodes = by_number (nodes_in c.args.sets.now) in
    let all = c.items.items.keys in
    let new = c.work_on.new.items.keys in
    let done = take c.items.at all in
    let passed : Ok c.in_ok-work_on.field-0 ≡ Ok false = ap Ok c.if-branch.false in
    let small : c.items.at < length all = omega (arith, c.items-test.true, c.len.ensures.len) in
    let item = c.item_at-item.result in
    let here = c.item_at-item.ensures in
    let next = take_next all c.in_ok-work_on.ensures.only.0 new c.items.at item here c.in_ok-work_on.ensures.only.1 in (
      subst (λ l. IsClosedFor m nodes l new) (sym next)
          (closed_more (graphs_of c.args.graphs.now) (fails_at c.args.asserts.now) nodes c.items.calls done all new item
          (Follows m nodes c.items.calls item) c.items.invariant.0
          c.items.invariant.1 c.in_ok-work_on.ensures.only (c.in_ok-work_on.ensures.all passed) (c.in_ok-work_on.ensures.passes passed)),
      subst (AreListed c.work_on.new.calls) (sym next) (c.in_ok-work_on.ensures.listed passed done c.items.invariant.1),
      λ globals node found.
          found_more (graphs_of c.args.graphs.now)
          (fails_at c.args.asserts.now) nodes globals node c.items.calls done all new item c.items.invariant.1
          (member_take all c.items.at) (member_at all c.items.at item here) c.in_ok-work_on.ensures.only
          (c.items.invariant.2 globals node found),
      extends_then (λ x. Unit {0}) c.args.items.now.keys all new c.items.invariant.3
          (c.in_ok-work_on.ensures.only.0, c.in_ok-work_on.ensures.only.1, λ item m. tt),
      omega (arith, c.items.invariant.4, c.in_ok-work_on.ensures.work),
      omega (arith, small, ap length c.in_ok-work_on.ensures.only.1 ∙ length-append all c.in_ok-work_on.ensures.only.0),
    )

pub returns-in_err-work_on-clause-found : goal.returns-in_err-work_on-clause-found
returns-in_err-work_on-clause-found g c = λ globals node found.
    let all = c.items.items.keys in
    found_more (graphs_of c.args.graphs.now) (fails_at c.args.asserts.now) (by_number (nodes_in c.args.sets.now)) globals node c.items.calls
    (take c.items.at all) all c.work_on.new.items.keys c.item_at-item.result c.items.invariant.1 (member_take all c.items.at)
    (member_at all c.items.at c.item_at-item.result c.item_at-item.ensures) c.in_err-work_on.ensures.only
    (c.items.invariant.2 globals node found)

pub returns-then-branch-clause-found : goal.returns-then-branch-clause-found
returns-then-branch-clause-found g c = λ globals node found.
    let all = c.items.items.keys in
    found_more (graphs_of c.args.graphs.now) (fails_at c.args.asserts.now) (by_number (nodes_in c.args.sets.now)) globals node c.items.calls
    (take c.items.at all) all c.work_on.new.items.keys c.item_at-item.result c.items.invariant.1 (member_take all c.items.at)
    (member_at all c.items.at c.item_at-item.result c.item_at-item.ensures) c.in_ok-work_on.ensures.only
    (c.items.invariant.2 globals node found)

pub returns-then-branch-clause-fails : goal.returns-then-branch-clause-fails
returns-then-branch-clause-fails g c = λ ok.
    let all = c.items.items.keys in
    let now =
    member_left c.item_at-item.result all c.in_ok-work_on.ensures.only.0
    (member_at all c.items.at c.item_at-item.result c.item_at-item.ensures) in (
      c.item_at-item.result,
      subst (Member c.item_at-item.result) (sym c.in_ok-work_on.ensures.only.1) now,
      c.in_ok-work_on.ensures.fails (ap Ok c.if-branch.true),
    )
