-- The oldest Post is taken: the one with the number of the Takes so far.
use Rattle.std.proofs.Common.{◌≡◌, ◌∷◌, ◌++◌, [], Some, length, map, sym, ap, ap₂, ◌∙◌, arith, slice_get}
use Rattle.std.specs.Vec.{vec_capacity}
use Rattle.post_ledger.specs.declared.event.Event.TheVariants.{Take}
use Rattle.post_ledger.specs.declared.mailbox.Kind.TheVariants as kind
use Rattle.post_ledger.specs.Kept.{events_of, numbered_of, posted_of}
use Rattle.post_ledger.specs.History.{posts, takes}
use Rattle.post_ledger.proofs.Keeping.{counts_fields, counts_take, step_more, taken_event}
use Rattle.post_ledger.proofs.mailbox.Mailbox.take_from.Goals as goal

pub invariant_of-self : goal.invariant_of-self
invariant_of-self g c =
    let i = c.self.inside in
    let p = c.posted-sender.result in
    let here : slice_get (posted_of i.messages.items i.steps.items) i.taken ≡ Some (p.0, p.1) =
    ap (λ l. slice_get l i.taken) (sym c.self.invariant.counts.history.all_posted)
    ∙ ap (λ h. slice_get (posts h) i.taken) c.self.view_is ∙ c.posted-sender.ensures in
    let more = step_more i.messages.items i.steps.items c.push_reserved.new.self.items c.new.result (kind.Take, i.taken)
    c.self.invariant.all_sent c.push_reserved.ensures.items c.new.ensures in
    counts_fields i.messages.items c.push_reserved.new.self.items (vec_capacity c.push_reserved.new.self) more.0 more.1
    (omega (arith, c.push_reserved.ensures.capacity)) c.self.invariant.all_sent
    (counts_take _ (map numbered_of i.steps.items) (vec_capacity i.steps) i.taken i.open p.0 p.1 c.self.invariant.counts here)

pub returns-clause-some : goal.returns-clause-some
returns-clause-some g c =
    let i = c.self.inside in
    let p = c.posted-sender.result in
    let taken : i.taken ≡ length (takes c.args.self.now) =
    sym c.self.invariant.counts.history.all_taken ∙ ap (λ l. length (takes l)) c.self.view_is in
    let here : slice_get (posted_of i.messages.items i.steps.items) i.taken ≡ Some (p.0, p.1) =
    ap (λ l. slice_get l i.taken) (sym c.self.invariant.counts.history.all_posted)
    ∙ ap (λ h. slice_get (posts h) i.taken) c.self.view_is ∙ c.posted-sender.ensures in
    let more = step_more i.messages.items i.steps.items c.push_reserved.new.self.items c.new.result (kind.Take, i.taken)
    c.self.invariant.all_sent c.push_reserved.ensures.items c.new.ensures in (
      c.from.ensures ∙ taken,
      ap (slice_get (posts c.args.self.now)) (sym taken) ∙ c.posted-sender.ensures,
      ap₂ events_of more.0 more.1
          ∙ taken_event (posted_of i.messages.items i.steps.items) (map numbered_of i.steps.items) i.taken p.0 p.1 here
          ∙ ap (λ l. l ++ Take p.0 p.1 ∷ []) c.self.view_is,
    )
