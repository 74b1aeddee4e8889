use Rattle.std.proofs.Common.{◌++◌, ◌∙◌, ap}
use Rattle.std.proofs.lemmas.Result.{IfOk-weaker}
use Rattle.trees.specs.Trees.{names_of}
use Rattle.scopes.proofs.Pushed.{behind_none}
use Rattle.scopes.proofs.names.own_names.Goals as goal

pub returns : goal.returns
returns g c =
    IfOk-weaker c.lend-2.result _ _
    (λ v h. h ∙ ap (λ l. l ++ names_of c.deref-2.result.now)
    (behind_none _ names_of c.in_ok-formals.ensures c.new.ensures.items c.deref.ensures.value)
    ∙ ap (λ l. names_of c.args.proc.now.formals.items ++ names_of l) c.deref-2.ensures.value)
    c.lend-2.ensures
