-- Whether a Done among the events from here on names the take is said by the first of them and by those after it.
use Rattle.std.proofs.Common.{◌≡◌, ◌≢◌, ◌∷◌, ◌+◌, ℕ, List, Bool, true, ◌||◌, nat_eq, refl, sym, ap, ◌∙◌, drop, eq-eqb}
use Rattle.std.proofs.lemmas.Bool.{ne_eqb}
use Rattle.std.proofs.lemmas.List.{at_drop_all}
use Rattle.std.specs.List.{list_any}
use Rattle.post_ledger.specs.declared.event.Event.{Event}
use Rattle.post_ledger.specs.declared.event.Event.TheVariants.{Post, Take, Done}
use Rattle.post_ledger.specs.History.{dones}
use Rattle.post_ledger.proofs.Histories.{left_from}
use Rattle.post_ledger.proofs.legality.names_done.Goals as goal
use Rattle.post_ledger.proofs.legality.names_done.Goals.{in-Done+else-number-take, in_default}

module _ {M : Type 0} where
  abbrev any : ℕ → List (Event M) → Bool
  any number h = list_any (nat_eq number) (dones h)

  named : (number take : ℕ) (h : List (Event M)) → number ≡ take → any number (Done take ∷ h) ≡ true
  named number take h is = ap (λ b. b || any number h) (eq-eqb number take is)

  unnamed : (number take : ℕ) (h : List (Event M)) → (number ≢ take) → any number (Done take ∷ h) ≡ any number h
  unnamed number take h ne = ap (λ b. b || any number h) (ne_eqb number take ne)

  no_done : (number : ℕ) (e : Event M) (h : List (Event M)) → ((take : ℕ) → e ≢ Done take) → any number (e ∷ h) ≡ any number h
  no_done number (Post s m) h not = refl
  no_done number (Take s m) h not = refl
  no_done number (Done take) h not = absurd (not take refl)

pub loop-event-init : goal.loop-event-init
loop-event-init g c = refl

pub returns-then-number-take : goal.returns-then-number-take
returns-then-number-take g c =
    let i = c.loop-event.event-index in
    let first =
    left_from c.args.events.now i c.event-item.result (Done c.in-Done.take) c.loop-event-test.true c.event-item.is c.in-Done.is in
    sym (ap (any c.args.number) first ∙ named c.args.number c.in-Done.take (drop (i + 1) c.args.events.now) c.if-number-take.true)
    ∙ c.loop-event.invariant

pub loop-event-preserved : goal.loop-event-preserved
loop-event-preserved g c =
    let h = c.args.events.now in
    let i = c.loop-event.event-index in
    let e = c.event-item.result in
    elim c.match-event.branch [
      | in-Done+else-number-take w ↦
          let first = left_from h i e (Done w.in-Done.take) c.loop-event-test.true c.event-item.is w.in-Done.is in
          sym (ap (any c.args.number) first ∙ unnamed c.args.number w.in-Done.take (drop (i + 1) h) w.if-number-take.false)
          ∙ c.loop-event.invariant
      | in_default w ↦
          let first = left_from h i e e c.loop-event-test.true c.event-item.is refl in
          sym (ap (any c.args.number) first ∙ no_done c.args.number e (drop (i + 1) h) w.in_default.not-Done) ∙ c.loop-event.invariant
    ]

pub returns : goal.returns
returns g c =
    sym (at_drop_all (any c.args.number) c.args.events.now c.loop-event.event-index c.loop-event-test.false)
    ∙ c.loop-event.invariant
