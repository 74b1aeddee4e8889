-- The completed Take was open, so there is room for its Done.
use Rattle.std.proofs.Common.{◌<◌, ◌∷◌, ◌++◌, [], length, map, sym, ap, ap₂, ◌∙◌, subst, arith}
use Rattle.std.specs.Prelude.{Contains}
use Rattle.std.specs.Vec.{vec_capacity}
use Rattle.std.proofs.lemmas.List.{length-map}
use Rattle.post_ledger.specs.declared.event.Event.TheVariants.{Done}
use Rattle.post_ledger.specs.declared.mailbox.Kind.TheVariants as kind
use Rattle.post_ledger.specs.Kept.{events_of, numbered_of, posted_of}
use Rattle.post_ledger.specs.History.{takes, dones}
use Rattle.post_ledger.proofs.Keeping.{counts_done, counts_fields, done_event, open_now, step_more}
use Rattle.post_ledger.proofs.mailbox.Mailbox.done.Goals as goal

pub push_reserved-requires : goal.push_reserved-requires
push_reserved-requires g c =
    let some = open_now c.args.self.now c.args.take c.self.invariant.counts c.self.view_is c.requires.taken c.requires.open in
    omega (arith, some, c.self.invariant.counts.room, length-map c.self.inside.steps.items numbered_of)

pub overflow_sub-self : goal.overflow_sub-self
overflow_sub-self g c =
    open_now c.args.self.now c.args.take c.self.invariant.counts c.self.view_is c.requires.taken c.requires.open

pub invariant_of-self : goal.invariant_of-self
invariant_of-self g c =
    let i = c.self.inside in
    let more = step_more i.messages.items i.steps.items c.push_reserved.new.self.items c.new.result (kind.Done, c.args.take)
    c.self.invariant.all_sent c.push_reserved.ensures.items c.new.ensures in
    counts_fields i.messages.items c.push_reserved.new.self.items (vec_capacity c.push_reserved.new.self) more.0 more.1
    (omega (arith, c.push_reserved.ensures.capacity)) c.self.invariant.all_sent
    (counts_done _ (map numbered_of i.steps.items) (vec_capacity i.steps) i.taken i.open c.args.take c.self.invariant.counts
    (subst (λ l. c.args.take < length (takes l)) (sym c.self.view_is) c.requires.taken)
    (subst (λ l. Contains (dones l) c.args.take → ⊥) (sym c.self.view_is) c.requires.open))

pub returns : goal.returns
returns g c =
    let i = c.self.inside in
    let more = step_more i.messages.items i.steps.items c.push_reserved.new.self.items c.new.result (kind.Done, c.args.take)
    c.self.invariant.all_sent c.push_reserved.ensures.items c.new.ensures in
    ap₂ events_of more.0 more.1 ∙ done_event (posted_of i.messages.items i.steps.items) (map numbered_of i.steps.items) c.args.take
    ∙ ap (λ l. l ++ Done c.args.take ∷ []) c.self.view_is
