use Rattle.trees.specs.Trees.{name_of}
use Rattle.scopes.proofs.Seen.{texts_more}
use Rattle.scopes.proofs.known.seen_again.Goals as goal

pub returns-then-branch-clause-told : goal.returns-then-branch-clause-told
returns-then-branch-clause-told g c =
    λ ns told.
    texts_more c.args.seen.now c.insert.new.self c.as_str.result ns
    (name_of c.args.name.now) c.as_str.ensures.value c.in_ok-insert.ensures.keys told

pub returns-else-branch-clause-told : goal.returns-else-branch-clause-told
returns-else-branch-clause-told g c =
    λ ns told.
    texts_more c.args.seen.now c.insert.new.self c.as_str.result ns
    (name_of c.args.name.now) c.as_str.ensures.value c.in_ok-insert.ensures.keys told
