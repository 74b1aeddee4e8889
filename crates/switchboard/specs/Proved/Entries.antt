-- What is in a pass's own list, and what may come after a state of the board.
use Rattle.std.proofs.Common.{◌≡◌, inl, inr, ℕ, ◌<◌, List, [], ◌∷◌, length, Contains, refl, sym, ap, ◌∙◌, subst}
use Rattle.std.proofs.lemmas.Bool.{cases_eq}
use Rattle.post_ledger.specs.declared.event.Event.{Event}
use Rattle.post_ledger.specs.declared.event.Event.TheVariants as event
use Rattle.post_ledger.specs.declared.entry.Entry.{Entry}
use Rattle.post_ledger.specs.declared.entry.Entry.TheVariants as entry
use Rattle.post_ledger.specs.History.{takes, dones, MayFollow}
use Rattle.post_ledger.specs.Orders.{mailbox_of, event_of, maker_of, part, own, HasJob}
use Rattle.post_ledger.proofs.Histories.{at_push_cases}
use Rattle.post_ledger.proofs.Orders.{UnderJob, lawful_push, part_here, part_else, own_here, own_else}
use Rattle.switchboard.specs.Sights.{BoardState, IsSound}
use Rattle.switchboard.specs.Books.{with_new_event}

-- what no Post tells of a history
module _ {M X : Type 0} (f : List (Event M) → X) (posts : (s : ℕ) (m : M) (h : List (Event M)) → f (event.Post s m ∷ h) ≡ f h)
    (next : (e : Event M) (h k : List (Event M)) → f h ≡ f k → f (e ∷ h) ≡ f (e ∷ k)) where
  no_post : (p to s : ℕ) (m : M) (t : ℕ) (es : List (Entry M)) → f (part p (entry.Posted to s m t ∷ es)) ≡ f (part p es)
  no_post p to s m t es = elim (cases_eq to p) [
    | inl here ↦ ap f (part_here p (entry.Posted to s m t) es here) ∙ posts s m (part p es)
    | inr else ↦ ap f (part_else p (entry.Posted to s m t) es else)
  ]

  -- an event of the maker's own mailbox
  own_event : (p : ℕ) (e : Entry M) (es : List (Entry M)) → mailbox_of e ≡ maker_of e → f (part p es) ≡ f (part p (own p es)) →
      f (part p (e ∷ es)) ≡ f (part p (own p (e ∷ es)))
  own_event p e es one was = elim (cases_eq (maker_of e) p) [
    | inl mine ↦ ap f (part_here p e es (one ∙ mine)) ∙ (next (event_of e) (part p es) (part p (own p es)) was
        ∙ sym (ap (λ l. f (part p l)) (own_here p e es mine) ∙ ap f (part_here p e (own p es) (one ∙ mine))))
    | inr other ↦ ap f (part_else p e es (λ is. other (sym one ∙ is))) ∙
        (was ∙ sym (ap (λ l. f (part p l)) (own_else p e es other)))
  ]

  -- is in the own list of the mailbox's pass
  kept_own : (p : ℕ) (order : List (Entry M)) → f (part p order) ≡ f (part p (own p order))
  kept_own p [] = refl
  kept_own p (entry.Posted to s m t ∷ es) = no_post p to s m t es ∙ (kept_own p es ∙ elim (cases_eq s p) [
    | inl mine ↦ sym (ap (λ l. f (part p l)) (own_here p (entry.Posted to s m t) es mine) ∙ no_post p to s m t (own p es))
    | inr other ↦ sym (ap (λ l. f (part p l)) (own_else p (entry.Posted to s m t) es other))
  ])
  kept_own p (entry.Taken of s m ∷ es) = own_event p (entry.Taken of s m) es refl (kept_own p es)
  kept_own p (entry.Completed of t ∷ es) = own_event p (entry.Completed of t) es refl (kept_own p es)

module _ {M : Type 0} where
  -- the Takes and the Dones of a mailbox are in its pass's own list
  pub takes_own : (p : ℕ) (order : List (Entry M)) → takes (part p order) ≡ takes (part p (own p order))
  takes_own = kept_own takes (λ s m h. refl) next
    where
      next : (e : Event M) (h k : List (Event M)) → takes h ≡ takes k → takes (e ∷ h) ≡ takes (e ∷ k)
      next (event.Post s m) h k same = same
      next (event.Take s m) h k same = ap (λ l. (s, m) ∷ l) same
      next (event.Done t) h k same = same

  pub dones_own : (p : ℕ) (order : List (Entry M)) → dones (part p order) ≡ dones (part p (own p order))
  dones_own = kept_own dones (λ s m h. refl) next
    where
      next : (e : Event M) (h k : List (Event M)) → dones h ≡ dones k → dones (e ∷ h) ≡ dones (e ∷ k)
      next (event.Post s m) h k same = same
      next (event.Take s m) h k same = same
      next (event.Done t) h k same = ap (λ l. t ∷ l) same

  -- a job stays a job if the own list stays
  pub job_stays : (p job : ℕ) (a b : List (Entry M)) → own p a ≡ own p b → HasJob p job a → HasJob p job b
  job_stays p job a b same has = (
    subst (λ l. job < length l) (takes_own p a ∙ (ap (λ l. takes (part p l)) same ∙ sym (takes_own p b))) has.0,
    subst (λ l. Contains l job → ⊥) (dones_own p a ∙ (ap (λ l. dones (part p l)) same ∙ sym (dones_own p b))) has.1,
  )

module _ {M W : Type 0} (fits : W → ℕ → M → Type 0) where
  -- a message posted fits its mailbox
  abbrev pub Fit : W → Entry M → Type 0
  Fit w (entry.Posted to s m t) = fits w to m
  Fit w (entry.Taken of s m) = Unit {0}
  Fit w (entry.Completed of t) = Unit {0}

  -- what an entry needs to come after a state
  pub record Allowed (e : Entry M) (x : BoardState M W) : Type 0 where
    pub near : mailbox_of e < x.boxes
    pub follows : MayFollow (part (mailbox_of e) x.order) (event_of e)
    pub under : UnderJob x.order e
    pub fit : Fit x.world e

  -- the state stays sound
  pub sound_push : (e : Entry M) (x : BoardState M W) → IsSound fits x → Allowed e x → IsSound fits (with_new_event e x)
  sound_push e x s may = record {
    lawful = lawful_push x.boxes x.order e s.lawful may.near may.follows may.under;
    fitting = λ i to sender m t at. elim (at_push_cases x.order e (entry.Posted to sender m t) i at) [
      | inl old ↦ s.fitting i to sender m t old
      | inr last ↦ subst (Fit x.world) last.1 may.fit
    ];
    by = s.by;
  }
