use Rattle.std.proofs.Common.{◌<◌, ◌+◌, length, take, get_or, sym, subst, ap, arith}
use Rattle.summaries.specs.declared.outbox.Outgoing.{Outgoing}
use Rattle.summaries.specs.declared.outbox.Outgoing.TheVariants.{EntryFor}
use Rattle.language.specs.Lists.{Member}
use Rattle.summaries.proofs.Mails.{next_new}
use Rattle.summaries.proofs.outbox.Outbox.next.Goals as goal
use Rattle.std.proofs.lemmas.List.{take_more}

pub returns-clause-new : goal.returns-clause-new
returns-clause-new g c =
    let keys = c.args.self.now.sent.items in
    let n = c.args.self.now.answered in
    let none : Outgoing = EntryFor 0 in
    let same = c.as_slice-sent.ensures.value in
    let within : n < length keys = omega (arith, c.if-self-sent.false, ap length same) in
    subst (λ ks. Member (get_or ks n none) (take n keys) → ⊥) (sym same)
    (next_new keys n (n + 1) (get_or keys n none) (take_more keys n none within) c.args.self.now.once)
