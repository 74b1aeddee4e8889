-- What a pass took and posted, by its own list.
use Rattle.std.specs.Prelude.{ℕ, List, [], ◌∷◌}
use Rattle.post_ledger.specs.declared.entry.Entry.{Entry}
use Rattle.post_ledger.specs.declared.entry.Entry.TheVariants.{Posted, Taken, Completed}

module _ {M : Type 0} where
  -- the messages of the Takes, in order
  abbrev pub messages_taken : List (Entry M) → List M
  messages_taken [] = []
  messages_taken (Posted to s m t ∷ es) = messages_taken es
  messages_taken (Taken of s m ∷ es) = m ∷ messages_taken es
  messages_taken (Completed of t ∷ es) = messages_taken es

  -- the messages of the Posts, each with its mailbox, in order
  abbrev pub posted_in : List (Entry M) → List (ℕ × M)
  posted_in [] = []
  posted_in (Posted to s m t ∷ es) = (to, m) ∷ posted_in es
  posted_in (Taken of s m ∷ es) = posted_in es
  posted_in (Completed of t ∷ es) = posted_in es
