use Rattle.std.proofs.Common.{refl}
use Rattle.trees.specs.Trees.{thread_of}
use Rattle.scopes.proofs.Positions.{placed, unplaced}
use Rattle.scopes.proofs.limits.thread_too_many.Goals as goal

pub returns-in-Some : goal.returns-in-Some
returns-in-Some g c =
    placed thread_of
    (λ line. line.at) c.args.threads.now 8 c.in-Some.line.now c.in-Some.line.now.at c.in-Some.ensures.lookup.3.0 c.in-Some.ensures.lookup.1
    refl

pub returns-in-None : goal.returns-in-None
returns-in-None g c = unplaced thread_of (λ line. line.at) c.args.threads.now 8 c.in-None.ensures.lookup.3
