-- What a pass's own list has of an order, and what a mailbox's history has of it.
use Rattle.std.proofs.Common.{◌≡◌, inl, inr, ℕ, List, [], ◌∷◌, sym, ap, subst}
use Rattle.std.proofs.lemmas.Bool.{cases_eq}
use Rattle.language.specs.Lists.{Member}
use Rattle.post_ledger.specs.declared.event.Event.{Event}
use Rattle.post_ledger.specs.declared.event.Event.TheVariants as event
use Rattle.post_ledger.specs.declared.entry.Entry.{Entry}
use Rattle.post_ledger.specs.declared.entry.Entry.TheVariants.{Posted, Taken, Completed}
use Rattle.post_ledger.specs.History.{posts, takes}
use Rattle.post_ledger.specs.Orders.{mailbox_of, event_of, maker_of, part, own}
use Rattle.post_ledger.proofs.Orders.{part_here, part_else, own_here, own_else}
use Rattle.procedure_worker.specs.Own.{messages_taken, posted_in}

module _ {M : Type 0} where
  -- an entry of a pass's own list is one of the order, and the pass made it
  pub own_member : (p : ℕ) (es : List (Entry M)) (e : Entry M) → Member e (own p es) → Member e es × (maker_of e ≡ p)
  own_member p [] e h = absurd h
  own_member p (x ∷ es) e h = elim (cases_eq (maker_of x) p) [
    | inl same ↦ elim (subst (Member e) (own_here p x es same) h) [
      | inl is ↦ (inl is, subst (λ z. maker_of z ≡ p) (sym is) same)
      | inr there ↦ let (m, made) = own_member p es e there in (inr m, made)
    ]
    | inr other ↦ let (m, made) = own_member p es e (subst (Member e) (own_else p x es other) h) in (inr m, made)
  ]

  -- and each entry of the order is in its maker's own list
  pub in_own : (es : List (Entry M)) (e : Entry M) → Member e es → Member e (own (maker_of e) es)
  in_own [] e h = absurd h
  in_own (x ∷ es) e (inl is) =
      subst (Member e) (sym (own_here (maker_of e) x es (ap maker_of (sym is)))) (inl is)
  in_own (x ∷ es) e (inr h) = elim (cases_eq (maker_of x) (maker_of e)) [
    | inl same ↦ subst (Member e) (sym (own_here (maker_of e) x es same)) (inr (in_own es e h))
    | inr other ↦ subst (Member e) (sym (own_else (maker_of e) x es other)) (in_own es e h)
  ]

  -- each entry of the order is an event of its mailbox
  pub in_part : (es : List (Entry M)) (e : Entry M) → Member e es → Member (event_of e) (part (mailbox_of e) es)
  in_part [] e h = absurd h
  in_part (x ∷ es) e (inl is) =
      subst (Member (event_of e)) (sym (part_here (mailbox_of e) x es (ap mailbox_of (sym is)))) (inl (ap event_of is))
  in_part (x ∷ es) e (inr h) = elim (cases_eq (mailbox_of x) (mailbox_of e)) [
    | inl same ↦ subst (Member (event_of e)) (sym (part_here (mailbox_of e) x es same)) (inr (in_part es e h))
    | inr other ↦ subst (Member (event_of e)) (sym (part_else (mailbox_of e) x es other)) (in_part es e h)
  ]

  -- an entry for each message that a pass posted
  posted_there : (es : List (Entry M)) (x : ℕ × M) → Member x (posted_in es)
      → (s : ℕ) × (t : ℕ) × Member (Posted x.0 s x.1 t) es
  posted_there [] x h = absurd h
  posted_there (Posted to s m t ∷ es) x (inl is) =
      (s, t, inl (λ i. Posted (is i).0 s (is i).1 t))
  posted_there (Posted to s m t ∷ es) x (inr h) = let (s', t', there) = posted_there es x h in (s', t', inr there)
  posted_there (Taken of s m ∷ es) x h = let (s', t', there) = posted_there es x h in (s', t', inr there)
  posted_there (Completed of t ∷ es) x h = let (s', t', there) = posted_there es x h in (s', t', inr there)

  -- what a pass posted is in the history of its mailbox
  pub posted_part : (p : ℕ) (es : List (Entry M)) (x : ℕ × M) → Member x (posted_in (own p es))
      → (t : ℕ) × Member (Posted x.0 p x.1 t) es
  posted_part p es x h =
      let (s, t, there) = posted_there (own p es) x h in
      let (m, made) = own_member p es (Posted x.0 s x.1 t) there in
      (t, subst (λ n. Member (Posted x.0 n x.1 t) es) made m)

  posts_there : (h : List (Event M)) (s : ℕ) (m : M) → Member (event.Post s m) h
      → Member (s, m) (posts h)
  posts_there [] s m there = absurd there
  posts_there (event.Post s' m' ∷ h) s m (inl is) =
      inl (ap (λ (e : Event M). of_post (s, m) e) is)
    where
      of_post : ℕ × M → Event M → ℕ × M
      of_post d (event.Post a b) = (a, b)
      of_post d (event.Take a b) = d
      of_post d (event.Done t) = d
  posts_there (event.Post s' m' ∷ h) s m (inr there) = inr (posts_there h s m there)
  posts_there (event.Take s' m' ∷ h) s m (inl is) = let no : ⊥ = cc in absurd no
  posts_there (event.Take s' m' ∷ h) s m (inr there) = posts_there h s m there
  posts_there (event.Done t ∷ h) s m (inl is) = let no : ⊥ = cc in absurd no
  posts_there (event.Done t ∷ h) s m (inr there) = posts_there h s m there

  -- what was posted to a mailbox is among its Posts
  pub post_in : (es : List (Entry M)) (to s : ℕ) (m : M) (t : ℕ) → Member (Posted to s m t) es → Member (s, m)
      (posts (part to es))
  post_in es to s m t there = posts_there (part to es) s m (in_part es (Posted to s m t) there)

  first_take : (q : ℕ) (es : List (Entry M)) (x : ℕ × M) (e : Entry M) → mailbox_of e ≡ q
      → (Member x (takes (part q es)) → Member (Taken q x.0 x.1) es)
      → Member x (takes (event_of e ∷ part q es)) → Member (Taken q x.0 x.1) (e ∷ es)
  first_take q es x (Posted to s m t) same more h = inr (more h)
  first_take q es x (Taken of s m) same more (inl is) = inl (λ i. Taken (sym same i) (is i).0 (is i).1)
  first_take q es x (Taken of s m) same more (inr h) = inr (more h)
  first_take q es x (Completed of t) same more h = inr (more h)

  -- for each Take of a mailbox its pass made an entry
  pub take_there : (q : ℕ) (es : List (Entry M)) (x : ℕ × M) → Member x (takes (part q es)) → Member (Taken q x.0 x.1) es
  take_there q [] x h = absurd h
  take_there q (e ∷ es) x h = elim (cases_eq (mailbox_of e) q) [
    | inl same ↦ first_take q es x e same (take_there q es x) (subst (λ l. Member x (takes l)) (part_here q e es same) h)
    | inr other ↦ inr (take_there q es x (subst (λ l. Member x (takes l)) (part_else q e es other) h))
  ]

  taken_there : (es : List (Entry M)) (q s : ℕ) (m : M) → Member (Taken q s m) es → Member m (messages_taken es)
  taken_there [] q s m h = absurd h
  taken_there (Posted to s' m' t ∷ es) q s m (inl is) = let no : ⊥ = cc in absurd no
  taken_there (Posted to s' m' t ∷ es) q s m (inr h) = taken_there es q s m h
  taken_there (Taken of s' m' ∷ es) q s m (inl is) = inl (ap (λ (e : Entry M). of_take m e) is)
    where
      of_take : M → Entry M → M
      of_take d (Posted a b c t) = d
      of_take d (Taken a b c) = c
      of_take d (Completed a t) = d
  taken_there (Taken of s' m' ∷ es) q s m (inr h) = inr (taken_there es q s m h)
  taken_there (Completed of t ∷ es) q s m (inl is) = let no : ⊥ = cc in absurd no
  taken_there (Completed of t ∷ es) q s m (inr h) = taken_there es q s m h

  -- what was taken from a mailbox its pass took
  pub take_own : (q : ℕ) (es : List (Entry M)) (x : ℕ × M) → Member x (takes (part q es)) → Member x.1 (messages_taken (own q es))
  take_own q es x h =
      let e : Entry M = Taken q x.0 x.1 in taken_there (own q es) q x.0 x.1 (in_own es e (take_there q es x h))
