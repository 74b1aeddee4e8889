-- Statements begin at the first of them; if there is none, at what is after.
use Rattle.std.proofs.Common.{length, sym, ◌∙◌, ap, arith}
use Rattle.std.proofs.lemmas.Bool.{eqb-true, eqb-false}
use Rattle.std.proofs.lemmas.List.{nil_from_length}
use Rattle.language.specs.Resolve.{resolve_block}
use Rattle.language.specs.Rest.{join}
use Rattle.language.specs.Sequential.{numbered}
use Rattle.trees.specs.Trees.{block_of}
use Rattle.flow_graph.specs.Nodes.{point_at}
use Rattle.flow_graph.proofs.LoweringLemmas.{begins}
use Rattle.flow_graph.proofs.lowering.first_point.Goals as goal

pub returns-then-is_empty : goal.returns-then-is_empty
returns-then-is_empty g c s k at_k =
    let none = nil_from_length c.args.stmts.now (eqb-true (length c.args.stmts.now) 0 (sym c.is_empty.ensures ∙ c.if-is_empty.true)) in
    sym at_k ∙ ap (λ l. point_at (join (numbered c.args.first (resolve_block s (block_of l))) k)) (sym none)

pub returns-else-is_empty : goal.returns-else-is_empty
returns-else-is_empty g c s k at_k =
    let some = eqb-false (length c.args.stmts.now) 0 (sym c.is_empty.ensures ∙ c.if-is_empty.false) in
    begins c.args.stmts.now c.args.first s k (omega (arith, some))
