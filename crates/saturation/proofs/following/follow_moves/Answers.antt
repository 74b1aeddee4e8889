use Rattle.std.proofs.Common.{subst, arith}
use Rattle.flow_graph.specs.Drawn.{graphs_of}
use Rattle.flow_graph.specs.Flows.{last_of}
use Rattle.turns.specs.Numbered.{numbered_machine}
use Rattle.saturation.specs.Items.{Found}
use Rattle.saturation.specs.Leads.{IsMove, IsNext, HaveAll}
use Rattle.saturation.proofs.FollowLemmas.{extends_as, extends_then}
use Rattle.saturation.proofs.MoveLemmas.{next_is_move, move_is_next, choice_before, is_last}
use Rattle.saturation.proofs.following.follow_moves.Goals as goal

pub returns-in_err-reach_next-clause-only : goal.returns-in_err-reach_next-clause-only
returns-in_err-reach_next-clause-only g c = λ fails.
    let Move : Found → Type 0 = IsMove (numbered_machine (graphs_of c.args.graphs.now) fails) c.args.top in
    extends_then Move _ _ _ (c.choices.invariant.1 fails)
    (extends_as _ Move (λ x is. next_is_move (graphs_of c.args.graphs.now) fails c.args.top c.in-Some.graph.now c.in-Some-flow_of.flow.now
    c.valuation-values.result c.in-Some.ensures.some c.in-Some-flow_of.ensures.some c.valuation-values.ensures c.choices.choice
    c.choices.invariant.3 x (subst (λ n. IsNext c.in-Some.graph.now c.args.top n x) c.choose-next.ensures.next is))
    _ _ c.in_err-reach_next.ensures.only)

pub returns-then-not-more-clause-only : goal.returns-then-not-more-clause-only
returns-then-not-more-clause-only g c = λ fails.
    let Move : Found → Type 0 = IsMove (numbered_machine (graphs_of c.args.graphs.now) fails) c.args.top in
    extends_then Move _ _ _ (c.choices.invariant.1 fails)
    (extends_as _ Move (λ x is. next_is_move (graphs_of c.args.graphs.now) fails c.args.top c.in-Some.graph.now c.in-Some-flow_of.flow.now
    c.valuation-values.result c.in-Some.ensures.some c.in-Some-flow_of.ensures.some c.valuation-values.ensures c.choices.choice
    c.choices.invariant.3 x (subst (λ n. IsNext c.in-Some.graph.now c.args.top n x) c.choose-next.ensures.next is))
    _ _ c.in_ok-reach_next.ensures.only)

pub returns-then-not-more-clause-all : goal.returns-then-not-more-clause-all
returns-then-not-more-clause-all g c = λ fails x move.
    let (choice, most, next) = move_is_next (graphs_of c.args.graphs.now) fails c.args.top c.in-Some.graph.now c.in-Some-flow_of.flow.now
    c.valuation-values.result c.in-Some.ensures.some c.in-Some-flow_of.ensures.some c.valuation-values.ensures x move in
    choice_before c.in-Some.graph.now c.args.top c.in-Some-flow_of.flow.now c.valuation-values.result c.choices.choice
    (IsNext c.in-Some.graph.now c.args.top c.choose-next.result.0) c.choices.items.keys c.reach_next.new.items.keys
    (c.choices.invariant.0) c.in_ok-reach_next.ensures.only
    (subst
    (λ n. HaveAll (IsNext c.in-Some.graph.now c.args.top n) c.reach_next.new.items.keys) c.choose-next.ensures.next
    c.in_ok-reach_next.ensures.all)
    choice
    (let least =
    is_last c.choices.choice
    (last_of c.in-Some-flow_of.flow.now) c.choose-next.result.1 c.choose-next.ensures.more c.if-not-more.true in
    omega (arith, least, most)) x next

pub choices-preserved : goal.choices-preserved
choices-preserved g c = (
  λ choice before. choice_before c.in-Some.graph.now c.args.top c.in-Some-flow_of.flow.now c.valuation-values.result c.choices.choice
      (IsNext c.in-Some.graph.now c.args.top c.choose-next.result.0) c.choices.items.keys c.reach_next.new.items.keys
      (c.choices.invariant.0) c.in_ok-reach_next.ensures.only
      (subst
      (λ n. HaveAll (IsNext c.in-Some.graph.now c.args.top n) c.reach_next.new.items.keys) c.choose-next.ensures.next
      c.in_ok-reach_next.ensures.all)
      choice before,
  λ fails.
      let Move : Found → Type 0 = IsMove (numbered_machine (graphs_of c.args.graphs.now) fails) c.args.top in
      extends_then Move _ _ _ (c.choices.invariant.1 fails)
      (extends_as _ Move (λ x is. next_is_move (graphs_of c.args.graphs.now) fails c.args.top c.in-Some.graph.now c.in-Some-flow_of.flow.now
      c.valuation-values.result c.in-Some.ensures.some c.in-Some-flow_of.ensures.some c.valuation-values.ensures c.choices.choice
      c.choices.invariant.3 x (subst (λ n. IsNext c.in-Some.graph.now c.args.top n x) c.choose-next.ensures.next is))
      _ _ c.in_ok-reach_next.ensures.only),
  omega (arith, c.choices.invariant.2, c.in_ok-reach_next.ensures.work),
  omega (arith, c.choose-next.ensures.more.0 c.if-not-more.false),
)

pub overflow_add-choice : goal.overflow_add-choice
overflow_add-choice g c = let below = c.choose-next.ensures.more.0 c.if-not-more.false in omega (arith, below, c.choose-next.ensures.few)
