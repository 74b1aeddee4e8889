use Rattle.std.proofs.lemmas.Result.{IfOk-weaker}
use Rattle.trees.specs.Trees.{block_of}
use Rattle.resolved.specs.Statements.{statements_of}
use Rattle.scopes.proofs.Pushed.{behind_none}
use Rattle.scopes.proofs.statements.statements.Goals as goal

pub returns : goal.returns
returns g c =
    IfOk-weaker c.flatten.result _ _
    (λ v h. behind_none _ (λ l. statements_of (block_of l)) h c.new.ensures.items c.deref.ensures.value)
    c.flatten.ensures
