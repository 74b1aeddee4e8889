-- A run of a board with two mailboxes: pass 0 takes the first message, posts two to mailbox 1 under its job, and pass 1
-- takes and completes both before pass 0 completes its own.
use Rattle.std.specs.Prelude.{ℕ, List, [], ◌∷◌}
use Rattle.post_ledger.specs.declared.entry.Entry.{Entry}
use Rattle.post_ledger.specs.declared.entry.Entry.TheVariants.{Posted, Taken, Completed}

-- up to the completions
abbrev pub beginning : List (Entry ℕ)
beginning = Posted 0 2 10 0 ∷ Taken 0 2 10 ∷ Posted 1 0 11 0 ∷ Posted 1 0 12 0 ∷ Taken 1 0 11 ∷ Taken 1 0 12 ∷ []

-- the whole
abbrev pub row : List (Entry ℕ)
row =
    Posted 0 2 10 0 ∷ Taken 0 2 10 ∷ Posted 1 0 11 0 ∷ Posted 1 0 12 0 ∷ Taken 1 0 11 ∷ Taken 1 0 12 ∷ Completed 1 0 ∷ Completed 1 1
    ∷ Completed 0 0 ∷ []
