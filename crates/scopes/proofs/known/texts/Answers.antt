use Rattle.std.proofs.Common.{◌<◌, List, length, take, sym, subst, arith}
use Rattle.language.specs.Tree as tree
use Rattle.trees.specs.Trees.{name_of}
use Rattle.scopes.specs.Known.{AreTexts}
use Rattle.resolved.specs.Statements.{lent}
use Rattle.scopes.proofs.Seen.{one_taken}
use Rattle.scopes.proofs.known.texts.Goals as goal

pub loop-name-preserved : goal.loop-name-preserved
loop-name-preserved g c =
    let lt : c.loop-name.name-index < length c.args.names.now = omega arith in
    subst (λ (l : List tree.Name). AreTexts c.seen_again.new.seen l)
    (sym (one_taken (λ r. name_of r.now) c.args.names.now c.loop-name.name-index c.name-item.result lt c.name-item.is))
    (c.in_ok-seen_again.ensures.told (lent (take c.loop-name.name-index c.args.names.now)) c.loop-name.invariant)
