-- One event more: what it has of the sender at the side comes to the end of what was found.
use Rattle.std.proofs.Common.{◌≡◌, ◌∷◌, ◌++◌, ◌+◌, [], ℕ, List, ◌==◌, ◌∙◌, Option, Some, None, refl, sym, ap, drop, map, filter}
use Rattle.std.proofs.Common.{append_assoc, arith, suc}
use Rattle.std.proofs.lemmas.List.{append-nil, at_drop_all}
use Rattle.std.proofs.Math.Seq.{drop-cons}
use Rattle.std.proofs.lemmas.List.{map-append}
use Rattle.std.proofs.lemmas.List.Elements.{filter-append}
use Rattle.std.proofs.lemmas.Option.{MatchOption-at_some}
use Rattle.std.specs.Option.{MatchOption}
use Rattle.post_ledger.specs.declared.event.Event.{Event}
use Rattle.post_ledger.specs.declared.side.Side.{Side}
use Rattle.post_ledger.specs.declared.side.Side.TheVariants.{Posts, Takes}
use Rattle.post_ledger.specs.Sides.{messages_of, on_side}
use Rattle.post_ledger.specs.History.{posts, takes}
use Rattle.post_ledger.proofs.Histories.{posts-append, takes-append}
use Rattle.post_ledger.proofs.side.by_sender.Goals as goal
use Rattle.post_ledger.proofs.side.by_sender.Goals.{in-Some+in_ok-push, in_default}

module _ {M : Type 0} where
  of_both : (sender : ℕ) (xs ys : List (ℕ × M)) → messages_of sender (xs ++ ys) ≡ messages_of sender xs ++ messages_of sender ys
  of_both sender xs ys =
      let is_one = λ (p : ℕ × M). p.0 == sender in
      ap (map (λ (p : ℕ × M). p.1)) (filter-append is_one xs ys) ∙ map-append (λ (p : ℕ × M). p.1) (filter is_one xs) (filter is_one ys)

  on_both : (side : Side) (sender : ℕ) (xs ys : List (Event M))
      → on_side side sender (xs ++ ys) ≡ on_side side sender xs ++ on_side side sender ys
  on_both Posts sender xs ys = ap (messages_of sender) (posts-append xs ys) ∙ of_both sender (posts xs) (posts ys)
  on_both Takes sender xs ys = ap (messages_of sender) (takes-append xs ys) ∙ of_both sender (takes xs) (takes ys)

  on_none : (side : Side) (sender : ℕ) → on_side {M = M} side sender [] ≡ []
  on_none Posts sender = refl
  on_none Takes sender = refl

  none_of : (r : Option M) (N : Type 0) (S : M → Type 0) → MatchOption r N S → ((m : M) → r ≡ Some m → ⊥) → N
  none_of None N S h none = h
  none_of (Some m) N S h none = absurd (none m refl)

pub loop-event-preserved : goal.loop-event-preserved
loop-event-preserved g c =
    let history = c.args.history.now in
    let n = c.loop-event.event-index in
    let e = c.event-item.result in
    let on = on_side c.args.side c.args.sender in
    let found = c.loop-event.messages.items in
    let rest = drop (n + 1) history in
    let next : suc n ≡ n + 1 = omega arith in
    let here : drop n history ≡ e ∷ rest = drop-cons history n e c.loop-event-test.true
    ∙ ap (λ x. x ∷ drop (suc n) history) (sym c.event-item.is)
    ∙ ap (λ k. e ∷ drop k history) next in
    let parts : on (drop n history) ≡ on (e ∷ []) ++ on rest = ap on here ∙ on_both c.args.side c.args.sender (e ∷ []) rest in
    elim c.match-message_of.branch [
      | in-Some+in_ok-push w ↦
          let m = w.in-Some.message in
          let one = MatchOption-at_some _ _ m w.in-Some.is c.message_of.ensures in
          ap (λ l. l ++ on rest) (ap (λ v. v.items) w.messages-is ∙ w.in_ok-push.ensures.items)
          ∙ append_assoc found (m ∷ []) (on rest)
          ∙ ap (λ l. found ++ l) (sym (parts ∙ ap (λ l. l ++ on rest) one))
          ∙ c.loop-event.invariant
      | in_default w ↦
          let none = none_of c.message_of.result _ _ c.message_of.ensures w.in_default.not-Some in
          ap (λ v. v.items ++ on rest) w.messages-is
          ∙ ap (λ l. found ++ l) (sym (parts ∙ ap (λ l. l ++ on rest) none))
          ∙ c.loop-event.invariant
    ]

pub loop-event-init : goal.loop-event-init
loop-event-init g c = ap (λ l. l ++ on_side c.args.side c.args.sender c.args.history.now) c.new-messages.ensures.items

pub returns : goal.returns
returns g c =
    let history = c.args.history.now in
    let found = c.loop-event.messages.items in
    let none = at_drop_all (on_side c.args.side c.args.sender) history c.loop-event.event-index c.loop-event-test.false
    ∙ on_none c.args.side c.args.sender in
    sym (append-nil found) ∙ ap (λ l. found ++ l) (sym none) ∙ c.loop-event.invariant
