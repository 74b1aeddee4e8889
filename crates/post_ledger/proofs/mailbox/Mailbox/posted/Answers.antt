-- The Post of a number has its message, and the sender in the step of that number.
use Rattle.std.proofs.Common.{◌<◌, length, refl, sym, ap, ◌∙◌, arith, slice_get}
use Rattle.std.proofs.lemmas.Option.{slice_get_read}
use Rattle.post_ledger.specs.History.{posts}
use Rattle.post_ledger.proofs.Keeping.{enough_steps, posted_there}
use Rattle.post_ledger.proofs.mailbox.Mailbox.posted.Goals as goal

pub returns : goal.returns
returns g c =
    let i = c.self.inside in
    let posted = ap posts (sym c.self.view_is) ∙ c.self.invariant.counts.history.all_posted in
    let inside : c.args.number < length i.messages.items = omega (arith, c.requires, ap length posted, c.self.invariant.all_sent) in
    let within : c.args.number < length i.steps.items = omega (arith, inside, enough_steps _ _ c.self.invariant.all_sent) in
    ap (λ l. slice_get l c.args.number) posted
    ∙ posted_there i.messages.items i.steps.items c.args.number c.index.result.now c.index-2.result.now
    (slice_get_read i.steps.items (length i.steps.items) c.args.number c.index.result.now refl within c.index.ensures)
    (slice_get_read i.messages.items (length i.messages.items) c.args.number c.index-2.result.now refl inside c.index-2.ensures)
