-- What own lists have that were appended.
use Rattle.std.proofs.Common.{◌≡◌, ◌∷◌, ◌++◌, [], ℕ, List, refl, ap, ◌∙◌}
use Rattle.std.proofs.lemmas.List.{append-nil}
use Rattle.post_ledger.specs.declared.entry.Entry.{Entry}
use Rattle.post_ledger.specs.declared.entry.Entry.TheVariants.{Posted, Taken, Completed}
use Rattle.procedure_worker.specs.Own.{messages_taken, posted_in}

module _ {M : Type 0} where
  taken-append : (a b : List (Entry M)) → messages_taken (a ++ b) ≡ messages_taken a ++ messages_taken b
  taken-append [] b = refl
  taken-append (Posted to s m t ∷ a) b = taken-append a b
  taken-append (Taken of s m ∷ a) b = ap (λ l. m ∷ l) (taken-append a b)
  taken-append (Completed of t ∷ a) b = taken-append a b

  posted-append : (a b : List (Entry M)) → posted_in (a ++ b) ≡ posted_in a ++ posted_in b
  posted-append [] b = refl
  posted-append (Posted to s m t ∷ a) b = ap (λ l. (to, m) ∷ l) (posted-append a b)
  posted-append (Taken of s m ∷ a) b = posted-append a b
  posted-append (Completed of t ∷ a) b = posted-append a b

  -- one more event
  pub taken_post : (l a : List (Entry M)) (to s : ℕ) (m : M) (t : ℕ) → a ≡ l ++ Posted to s m t ∷ []
      → messages_taken a ≡ messages_taken l
  taken_post l a to s m t is = ap messages_taken is ∙ (taken-append l (Posted to s m t ∷ []) ∙ append-nil (messages_taken l))

  pub taken_take : (l a : List (Entry M)) (of s : ℕ) (m : M) → a ≡ l ++ Taken of s m ∷ []
      → messages_taken a ≡ messages_taken l ++ m ∷ []
  taken_take l a of s m is = ap messages_taken is ∙ taken-append l (Taken of s m ∷ [])

  pub taken_done : (l a : List (Entry M)) (of t : ℕ) → a ≡ l ++ Completed of t ∷ [] → messages_taken a ≡ messages_taken l
  taken_done l a of t is = ap messages_taken is ∙ (taken-append l (Completed of t ∷ []) ∙ append-nil (messages_taken l))

  pub posted_post : (l a : List (Entry M)) (to s : ℕ) (m : M) (t : ℕ) → a ≡ l ++ Posted to s m t ∷ [] →
      posted_in a ≡ posted_in l ++ (to, m) ∷ []
  posted_post l a to s m t is = ap posted_in is ∙ posted-append l (Posted to s m t ∷ [])

  pub posted_take : (l a : List (Entry M)) (of s : ℕ) (m : M) → a ≡ l ++ Taken of s m ∷ [] → posted_in a ≡ posted_in l
  posted_take l a of s m is = ap posted_in is ∙ (posted-append l (Taken of s m ∷ []) ∙ append-nil (posted_in l))

  pub posted_done : (l a : List (Entry M)) (of t : ℕ) → a ≡ l ++ Completed of t ∷ [] → posted_in a ≡ posted_in l
  posted_done l a of t is = ap posted_in is ∙ (posted-append l (Completed of t ∷ []) ∙ append-nil (posted_in l))
