-- What was posted to a mailbox, of an order in which no pass posted a message twice.
use Rattle.std.proofs.Common.{◌≡◌, ◌≢◌, inl, inr, ℕ, List, [], ◌∷◌, map, refl, sym, ap, ◌∙◌, subst}
use Rattle.std.proofs.lemmas.Bool.{cases_eq}
use Rattle.language.specs.Lists.{Member, NoneTwice}
use Rattle.language.proofs.Members.{member_map, map_member}
use Rattle.post_ledger.specs.declared.event.Event.{Event}
use Rattle.post_ledger.specs.declared.event.Event.TheVariants as event
use Rattle.post_ledger.specs.declared.entry.Entry.{Entry}
use Rattle.post_ledger.specs.declared.entry.Entry.TheVariants.{Posted, Taken, Completed}
use Rattle.post_ledger.specs.History.{posts, takes}
use Rattle.post_ledger.specs.Orders.{mailbox_of, event_of, maker_of, part, own}
use Rattle.post_ledger.proofs.Orders.{part_here, part_else, own_here, own_else}
use Rattle.procedure_worker.specs.Own.{messages_taken, posted_in}
use Rattle.gather.specs.Reports.{posted_to}
use Rattle.gather.proofs.Lists.{in_own, in_part, own_member}

-- if no image occurs twice, no item does
pub none_twice_of_map : {X Y : Type 0} (f : X → Y) (xs : List X) → NoneTwice (map f xs) → NoneTwice xs
none_twice_of_map f [] once = tt
none_twice_of_map f (x ∷ xs) once = (λ m. once.0 (member_map f xs x m), none_twice_of_map f xs once.1)

module _ {M : Type 0} where
  -- the message of a post
  abbrev post_message : M → Entry M → M
  post_message d (Posted a b c t) = c
  post_message d (Taken a b c) = d
  post_message d (Completed a t) = d

  -- a post of the list is among its posted messages
  pub posted_member : (es : List (Entry M)) (to s : ℕ) (m : M) (t : ℕ) → Member (Posted to s m t) es
      → Member (to, m) (posted_in es)
  posted_member [] to s m t h = absurd h
  posted_member (Posted a b c u ∷ es) to s m t (inl is) = inl (λ i. (mailbox_of (is i), post_message m (is i)))
  posted_member (Posted a b c u ∷ es) to s m t (inr h) = inr (posted_member es to s m t h)
  posted_member (Taken a b c ∷ es) to s m t (inl is) = let no : ⊥ = cc in absurd no
  posted_member (Taken a b c ∷ es) to s m t (inr h) = posted_member es to s m t h
  posted_member (Completed a u ∷ es) to s m t (inl is) = let no : ⊥ = cc in absurd no
  posted_member (Completed a u ∷ es) to s m t (inr h) = posted_member es to s m t h

  first_post : (q : ℕ) (es : List (Entry M)) (x : ℕ × M) (e : Entry M) → mailbox_of e ≡ q
      → (Member x (posts (part q es)) → (t : ℕ) × Member (Posted q x.0 x.1 t) es)
      → Member x (posts (event_of e ∷ part q es)) → (t : ℕ) × Member (Posted q x.0 x.1 t) (e ∷ es)
  first_post q es x (Posted to s m t) same more (inl is) = (t, inl (λ i. Posted (sym same i) (is i).0 (is i).1 t))
  first_post q es x (Posted to s m t) same more (inr h) = let (u, there) = more h in (u, inr there)
  first_post q es x (Taken of s m) same more h = let (u, there) = more h in (u, inr there)
  first_post q es x (Completed of t) same more h = let (u, there) = more h in (u, inr there)

  -- for each Post of a mailbox the order has an entry
  pub post_there : (q : ℕ) (es : List (Entry M)) (x : ℕ × M) → Member x (posts (part q es))
      → (t : ℕ) × Member (Posted q x.0 x.1 t) es
  post_there q [] x h = absurd h
  post_there q (e ∷ es) x h = elim (cases_eq (mailbox_of e) q) [
    | inl same ↦ first_post q es x e same (post_there q es x) (subst (λ l. Member x (posts l)) (part_here q e es same) h)
    | inr other ↦
        let (t, there) = post_there q es x (subst (λ l. Member x (posts l)) (part_else q e es other) h) in (t, inr there)
  ]

  -- without its first entry, a list has no message twice that it had once
  once_less : (e : Entry M) (es : List (Entry M)) → NoneTwice (posted_in (e ∷ es)) → NoneTwice (posted_in es)
  once_less (Posted to s m t) es once = once.1
  once_less (Taken of s m) es once = once
  once_less (Completed of t) es once = once

  own_less : (s : ℕ) (e : Entry M) (es : List (Entry M)) → NoneTwice (posted_in (own s (e ∷ es)))
      → NoneTwice (posted_in (own s es))
  own_less s e es once = elim (cases_eq (maker_of e) s) [
    | inl same ↦ once_less e (own s es) (subst (λ l. NoneTwice (posted_in l)) (own_here s e es same) once)
    | inr other ↦ subst (λ l. NoneTwice (posted_in l)) (own_else s e es other) once
  ]

  -- each message to the mailbox has one sender
  abbrev pub HaveSenders : ℕ → List (Entry M) → Type 0
  HaveSenders q es = (s s' : ℕ) (m : M) (t t' : ℕ) → Member (Posted q s m t) es → Member (Posted q s' m t') es → s ≡ s'

  with_post : (q : ℕ) (e : Entry M) (es : List (Entry M)) → ((s : ℕ) → NoneTwice (posted_in (own s (e ∷ es))))
      → HaveSenders q (e ∷ es) → mailbox_of e ≡ q → NoneTwice (posted_to (part q es))
      → NoneTwice (posted_to (event_of e ∷ part q es))
  with_post q (Posted to s m t) es once senders same rest = (
    λ there.
        let (x, among, is) = map_member (λ (p : ℕ × M). p.1) (posts (part q es)) m there in
        let (u, posted) = post_there q es x among in
        let again : Member (Posted q x.0 m u) es = subst (λ z. Member (Posted q x.0 z u) es) (sym is) posted in
        let sender : x.0 ≡ s = senders x.0 s m u t (inr again) (inl (λ i. Posted (sym same i) s m t)) in
        let mine : Member (q, m) (posted_in (own s es)) =
        subst (λ z. Member (q, m) (posted_in (own z es))) sender
        (posted_member (own x.0 es) q x.0 m u (in_own es (Posted q x.0 m u) again)) in
        let twice : NoneTwice ((to, m) ∷ posted_in (own s es)) =
        subst (λ l. NoneTwice (posted_in l)) (own_here s (Posted to s m t) es refl) (once s) in
        twice.0 (subst (λ z. Member (z, m) (posted_in (own s es))) (sym same) mine),
    rest,
  )
  with_post q (Taken of s m) es once senders same rest = rest
  with_post q (Completed of t) es once senders same rest = rest

  -- if no pass posted a message twice, and each message has one sender, no message was posted twice to a mailbox
  pub posted_once : (q : ℕ) (es : List (Entry M)) → ((s : ℕ) → NoneTwice (posted_in (own s es))) → HaveSenders q es
      → NoneTwice (posted_to (part q es))
  posted_once q [] once senders = tt
  posted_once q (e ∷ es) once senders =
      let rest = posted_once q es (λ s. own_less s e es (once s)) (λ s s' m t t' a b. senders s s' m t t' (inr a) (inr b)) in
      elim (cases_eq (mailbox_of e) q) [
        | inl same ↦ subst (λ l. NoneTwice (posted_to l)) (sym (part_here q e es same)) (with_post q e es once senders same rest)
        | inr other ↦ subst (λ l. NoneTwice (posted_to l)) (sym (part_else q e es other)) rest
      ]

  -- the entry of a message that was taken
  taken_back : (es : List (Entry M)) (m : M) → Member m (messages_taken es) → (q : ℕ) × (s : ℕ) × Member (Taken q s m) es
  taken_back [] m h = absurd h
  taken_back (Posted a b c u ∷ es) m h = let (q, s, there) = taken_back es m h in (q, s, inr there)
  taken_back (Taken a b c ∷ es) m (inl is) = (a, b, inl (λ i. Taken a b (is i)))
  taken_back (Taken a b c ∷ es) m (inr h) = let (q, s, there) = taken_back es m h in (q, s, inr there)
  taken_back (Completed a u ∷ es) m h = let (q, s, there) = taken_back es m h in (q, s, inr there)

  takes_there : (h : List (Event M)) (s : ℕ) (m : M) → Member (event.Take s m) h → Member (s, m) (takes h)
  takes_there [] s m there = absurd there
  takes_there (event.Post a b ∷ h) s m (inl is) = let no : ⊥ = cc in absurd no
  takes_there (event.Post a b ∷ h) s m (inr there) = takes_there h s m there
  takes_there (event.Take a b ∷ h) s m (inl is) = inl (ap (λ (e : Event M). of_take (s, m) e) is)
    where
      of_take : ℕ × M → Event M → ℕ × M
      of_take d (event.Post x y) = d
      of_take d (event.Take x y) = (x, y)
      of_take d (event.Done t) = d
  takes_there (event.Take a b ∷ h) s m (inr there) = inr (takes_there h s m there)
  takes_there (event.Done t ∷ h) s m (inl is) = let no : ⊥ = cc in absurd no
  takes_there (event.Done t ∷ h) s m (inr there) = takes_there h s m there

  -- what a pass took is among the Takes of its mailbox
  pub taken_part : (q : ℕ) (es : List (Entry M)) (m : M) → Member m (messages_taken (own q es))
      → (s : ℕ) × Member (s, m) (takes (part q es))
  taken_part q es m h =
      let (of, s, mine) = taken_back (own q es) m h in
      let (there, made) = own_member q es (Taken of s m) mine in
      let event = in_part es (Taken of s m) there in
      (s, subst (λ z. Member (s, m) (takes (part z es))) made (takes_there (part of es) s m event))

  -- this maker made no entry of an order in which none is by it
  pub own_nothing : (s : ℕ) (es : List (Entry M)) → ((e : Entry M) → Member e es → maker_of e ≢ s) → own s es ≡ []
  own_nothing s [] none = refl
  own_nothing s (e ∷ es) none =
      own_else s e es (none e (inl refl)) ∙ own_nothing s es (λ x h. none x (inr h))
