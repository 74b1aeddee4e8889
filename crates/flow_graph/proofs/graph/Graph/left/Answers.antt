use Rattle.std.proofs.Common.{◌%◌, ◌^◌, ◌∙◌, ap}
use Rattle.flow_graph.proofs.NumberLemmas.{left_coded}
use Rattle.flow_graph.proofs.graph.Graph.left.Goals as goal

pub returns-clause-globals : goal.returns-clause-globals
returns-clause-globals g c v wide is =
    c.of.ensures ∙ ap (λ n. n % 2 ^ c.args.self.now.globals) is ∙ left_coded c.args.self.now.globals v wide

pub returns-clause-number : goal.returns-clause-number
returns-clause-number g c = λ i. record { globals = c.of.ensures i; result = c.has_any.ensures i }
