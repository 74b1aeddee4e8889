-- The step with a number is the event with that number.
use Rattle.std.proofs.Common.{◌≡◌, ◌≤◌, Some, length, map, refl, sym, ap, ◌∙◌, arith, slice_get, ◌∷◌, []}
use Rattle.std.proofs.lemmas.List.{length-map}
use Rattle.std.proofs.lemmas.Option.{slice_get_past}
use Rattle.post_ledger.specs.declared.event.Event.{Event}
use Rattle.post_ledger.specs.declared.event.Event.TheVariants.{Post, Take, Done}
use Rattle.post_ledger.specs.declared.mailbox.Kind.{Kind}
use Rattle.post_ledger.specs.declared.mailbox.Kind.TheVariants as kind
use Rattle.post_ledger.specs.Kept.{IsNumbered, event_of, numbered_of, post_of, posted_of, take_of}
use Rattle.post_ledger.specs.History.{posts}
use Rattle.post_ledger.proofs.Keeping.{as_many, event_there, number_there, read_there}
use Rattle.post_ledger.proofs.mailbox.Mailbox.event.Given.{Over}
use Rattle.post_ledger.proofs.mailbox.Mailbox.event.Goals as goal
use Rattle.post_ledger.proofs.mailbox.Mailbox.event.Goals.{In_ok-step, in-Post, in-Take, in-Done}

pub returns-in_err-step : goal.returns-in_err-step
returns-in_err-step g c =
    let i = c.self.inside in
    let many = as_many _ _ c.self.invariant.counts.numbered in
    let now : length c.deref.result.now ≡ length i.steps.items = ap length c.deref.ensures.value in
    let past : length c.deref.result.now ≤ c.args.number = c.in_err-step.ensures.lookup.3 in
    c.from_residual.ensures
    ∙ sym (slice_get_past c.args.self.now c.args.number
    (omega (arith, many, length-map i.steps.items numbered_of, ap length c.self.view_is)))

-- the step that was read is that of the number, and its own number is below the count
module _ (g : Over) (c : In_ok-step g) (k : Kind) (is : c.in_ok-step.field-0.now.kind ≡ k) where
  there : slice_get (map numbered_of c.self.inside.steps.items) c.args.number ≡ Some (k, c.in_ok-step.field-0.now.number)
  there = read_there c.self.inside.steps.items c.deref.result.now c.args.number c.in_ok-step.field-0.now _ c.deref.ensures.value
      c.in_ok-step.ensures.lookup.0 c.in_ok-step.ensures.lookup.1 (ap (λ x. (x, c.in_ok-step.field-0.now.number)) is)

  numbered : IsNumbered (length (posted_of c.self.inside.messages.items c.self.inside.steps.items)) (k, c.in_ok-step.field-0.now.number)
  numbered = number_there _ _ c.args.number _ c.self.invariant.counts.numbered there

  -- the event of the step is the one with the number
  event : (e : Event g.row.M.Denot)
      → event_of (posted_of c.self.inside.messages.items c.self.inside.steps.items) (k, c.in_ok-step.field-0.now.number) ≡ e ∷ []
      → slice_get c.args.self.now c.args.number ≡ Some e
  event e one =
      ap (λ l. slice_get l c.args.number) (sym c.self.view_is)
      ∙ event_there _ _ c.args.number _ e c.self.invariant.counts.numbered there one

  -- a number below the count is that of a Post
  posted : posted_of c.self.inside.messages.items c.self.inside.steps.items ≡ posts c.args.self.now
  posted = sym c.self.invariant.counts.history.all_posted ∙ ap posts c.self.view_is

pub posted-sender-requires : goal.posted-sender-requires
posted-sender-requires g c =
    let at = (goal.at.posted-sender-requires g c).In_ok-step in
    omega (arith, numbered g at kind.Post c.in-Post.is, ap length (posted g at kind.Post c.in-Post.is))

pub posted-sender-requires-in-Take : goal.posted-sender-requires-in-Take
posted-sender-requires-in-Take g c =
    let at = (goal.at.posted-sender-requires-in-Take g c).In_ok-step in
    omega (arith, numbered g at kind.Take c.in-Take.is, ap length (posted g at kind.Take c.in-Take.is))

pub returns : goal.returns
returns g c =
    let at = (goal.at.returns g c).In_ok-step in
    let n = c.in_ok-step.field-0.now.number in
    let same = c.get-of.ensures in
    elim c.match-step.branch [
      | in-Post w ↦
          let p = w.posted-sender.result in
          let read = ap (λ l. slice_get l n) (posted g at kind.Post w.in-Post.is)
          ∙ ap (slice_get (posts c.args.self.now)) (sym same) ∙ w.posted-sender.ensures in
          ap Some w.event-is ∙ sym (event g at kind.Post w.in-Post.is (Post p.0 p.1) (ap post_of read))
      | in-Take w ↦
          let p = w.posted-sender-in-Take.result in
          let read = ap (λ l. slice_get l n) (posted g at kind.Take w.in-Take.is)
          ∙ ap (slice_get (posts c.args.self.now)) (sym same) ∙ w.posted-sender-in-Take.ensures in
          ap Some w.event-is ∙ sym (event g at kind.Take w.in-Take.is (Take p.0 p.1) (ap take_of read))
      | in-Done w ↦ ap Some (w.event-is ∙ ap Done (w.from.ensures ∙ same)) ∙ sym (event g at kind.Done w.in-Done.is (Done n) refl)
    ]
