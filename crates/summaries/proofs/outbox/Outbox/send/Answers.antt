use Rattle.summaries.proofs.Mails.{once_after}
use Rattle.summaries.proofs.outbox.Outbox.send.Goals as goal

pub invariant_of-self-clause-once : goal.invariant_of-self-clause-once
invariant_of-self-clause-once g c =
    once_after c.args.message c.args.self.now.sent.items c.append.new.list.items c.append.result
    c.append.ensures.ok c.append.ensures.err c.requires c.args.self.now.once
