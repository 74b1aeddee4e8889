use Rattle.std.proofs.Common.{◌≡◌, ◌<◌, Some, length, refl, sym, ◌∙◌, ap, arith}
use Rattle.std.proofs.Math.ListN.{length-set}
use Rattle.flow_graph.specs.Drawn.{graphs_of}
use Rattle.stack_sets.specs.Nodes.{nodes_in}
use Rattle.std.specs.Result.{result_ok}
use Rattle.exploration.proofs.StartLemmas.{alone_more, fits_same, get_set_other, first_is}
use Rattle.exploration.proofs.start.first_tuple.Goals as goal

pub loop-i-preserved : goal.loop-i-preserved
loop-i-preserved g c =
    let some : result_ok c.try_from.result ≡ Some c.in_ok-nodes.field-0 =
    sym c.ok.ensures.value ∙ c.ok_or.ensures.ok_part ∙ ap result_ok c.in_ok-nodes.was in
    let same : c.in_ok-nodes.field-0 ≡ c.in_ok-node.node =
    fits_same c.try_from.result (c.in_ok-node.node < 4294967296) c.in_ok-node.node c.in_ok-nodes.field-0 c.try_from.ensures some in
    let small : c.loop-i.i < length c.loop-i.nodes =
    omega (arith, c.loop-i.invariant.places, c.loop-i-test.true, c.requires.few) in record {
      begun = c.in_ok-node.ensures.begun;
      places = length-set c.loop-i.nodes c.loop-i.i c.in_ok-nodes.field-0 ∙ c.loop-i.invariant.places;
      done = alone_more (nodes_in c.loop-i.sets) (nodes_in c.first_node.new.sets) (graphs_of c.args.graphs.now) c.args.procedures.now
          c.loop-i.nodes c.loop-i.i c.in_ok-node.node c.in_ok-nodes.field-0 c.first_node.ensures.keeps c.loop-i.invariant.begun.whole small
          same c.loop-i.invariant.done c.in_ok-node.ensures.node;
      rest = λ k past.
          get_set_other c.loop-i.nodes c.loop-i.i c.in_ok-nodes.field-0 k (λ e. omega (arith, past, e))
          ∙ c.loop-i.invariant.rest k (omega (arith, past));
    }

pub returns-clause-tuple : goal.returns-clause-tuple
returns-clause-tuple g c =
    first_is (nodes_in c.loop-i.sets) (graphs_of c.args.graphs.now) c.args.procedures.now c.loop-i.nodes c.requires.few
    c.loop-i.invariant.places c.loop-i.invariant.begun (λ k small. c.loop-i.invariant.done k (omega (arith, small, c.loop-i-test.false)))
    (λ k past. c.loop-i.invariant.rest k (omega (arith, past, c.loop-i.auto.i-end))) _ refl refl refl
