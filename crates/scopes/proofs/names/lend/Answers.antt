use Rattle.std.proofs.Common.{◌+◌, ◌++◌, drop, refl, ◌∙◌, ap, arith}
use Rattle.trees.specs.Trees.{name_of, names_of}
use Rattle.resolved.specs.Statements.{lent}
use Rattle.scopes.proofs.Pushed.{one_pushed, all_pushed}
use Rattle.scopes.proofs.names.lend.Goals as goal

pub loop-name-preserved : goal.loop-name-preserved
loop-name-preserved g c =
    ap (λ l. lent l ++ names_of (drop (c.loop-name.name-index + 1) c.args.names.now)) c.in_ok-push.ensures.items
    ∙ one_pushed (λ r. name_of r.now) name_of c.loop-name.into.items _ c.args.names.now c.loop-name.name-index c.name-item.result _
    (omega arith) c.name-item.is refl c.loop-name.invariant

pub returns : goal.returns
returns g c = all_pushed name_of (lent c.loop-name.into.items) c.args.names.now c.loop-name.name-index _ (omega arith) c.loop-name.invariant
