-- The Post with a number, among the events from here on, is said by the first of them and by those after it.
use Rattle.std.proofs.Common.{◌≡◌, ◌≢◌, ◌∷◌, ◌+◌, ◌-◌, ℕ, suc, zero, List, Some, slice_get, refl, sym, ap, ◌∙◌, drop, arith}
use Rattle.std.proofs.lemmas.List.{at_drop_all}
use Rattle.post_ledger.specs.declared.event.Event.{Event}
use Rattle.post_ledger.specs.declared.event.Event.TheVariants.{Post, Take, Done}
use Rattle.post_ledger.specs.History.{posts}
use Rattle.post_ledger.proofs.Histories.{left_from}
use Rattle.post_ledger.proofs.legality.post_numbered.Goals as goal
use Rattle.post_ledger.proofs.legality.post_numbered.Goals.{in-Post+else-left-eq0, in_default}

module _ {M : Type 0} where
  this_one : (n s : ℕ) (m : M) (h : List (Event M)) → n ≡ 0 → slice_get (posts (Post s m ∷ h)) n ≡ Some (s, m)
  this_one n s m h is = ap (slice_get (posts (Post s m ∷ h))) is

  further : (n s : ℕ) (m : M) (h : List (Event M)) → n ≢ 0 → slice_get (posts (Post s m ∷ h)) n ≡ slice_get (posts h) (n - 1)
  further zero s m h ne = absurd (ne refl)
  further (suc n) s m h ne = let e : n ≡ suc n - 1 = omega arith in ap (slice_get (posts h)) e

  no_post : (n : ℕ) (e : Event M) (h : List (Event M)) → ((s : ℕ) (m : M) → e ≢ Post s m)
      → slice_get (posts (e ∷ h)) n ≡ slice_get (posts h) n
  no_post n (Post s m) h not = absurd (not s m refl)
  no_post n (Take s m) h not = refl
  no_post n (Done take) h not = refl

pub loop-event-init : goal.loop-event-init
loop-event-init g c = refl

pub returns-then-left-eq0 : goal.returns-then-left-eq0
returns-then-left-eq0 g c =
    let h = c.args.events.now in
    let i = c.loop-event.event-index in
    let p = c.in-Post in
    let first = left_from h i c.event-item.result (Post p.sender p.message) c.loop-event-test.true c.event-item.is p.is in
    sym (ap (λ l. slice_get (posts l) c.loop-event.left) first
    ∙ this_one c.loop-event.left p.sender p.message (drop (i + 1) h) c.if-left-eq0.true) ∙ c.loop-event.invariant

pub overflow_sub-left : goal.overflow_sub-left
overflow_sub-left g c = let ne = c.if-left-eq0.false in omega (arith, ne)

pub loop-event-preserved : goal.loop-event-preserved
loop-event-preserved g c =
    let h = c.args.events.now in
    let i = c.loop-event.event-index in
    let e = c.event-item.result in
    let n = c.loop-event.left in
    elim c.match-event.branch [
      | in-Post+else-left-eq0 w ↦
          let p = w.in-Post in
          let first = left_from h i e (Post p.sender p.message) c.loop-event-test.true c.event-item.is p.is in
          ap (slice_get (posts (drop (i + 1) h))) w.left-is
          ∙ sym (ap (λ l. slice_get (posts l) n) first ∙ further n p.sender p.message (drop (i + 1) h) w.if-left-eq0.false)
          ∙ c.loop-event.invariant
      | in_default w ↦
          let first = left_from h i e e c.loop-event-test.true c.event-item.is refl in
          ap (slice_get (posts (drop (i + 1) h))) w.left-is
          ∙ sym (ap (λ l. slice_get (posts l) n) first ∙ no_post n e (drop (i + 1) h) w.in_default.not-Post)
          ∙ c.loop-event.invariant
    ]

pub returns : goal.returns
returns g c =
    sym (at_drop_all (λ l. slice_get (posts l) c.loop-event.left) c.args.events.now c.loop-event.event-index c.loop-event-test.false)
    ∙ c.loop-event.invariant
