use Rattle.std.proofs.Common.{◌∙◌, ◌++◌}
use Rattle.trees.specs.Trees.{names_of}
use Rattle.round_rewrite.proofs.procedures.procedure.Goals as goal

pub returns : goal.returns
returns g c =
    let formals = c.in_ok-formals.ensures ∙ (λ i. names_of (c.new.ensures.items i) ++ names_of (c.deref.ensures.value i)) in
    λ i. record {
      name = c.in_ok-name.ensures i;
      formals = formals i;
      locals = c.in_ok-locals.ensures.locals i;
      body = c.in_ok-locals.ensures.body i;
    }
