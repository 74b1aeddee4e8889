-- Orders of a board: the events of all its mailboxes in one list.
use Rattle.std.specs.Prelude.{◌≡◌, ℕ, ◌+◌, ◌<◌, ◌==◌, if◌then◌else◌, List, [], ◌∷◌, Some, length, slice_get, take, Contains}
use Rattle.post_ledger.specs.declared.event.Event.{Event}
use Rattle.post_ledger.specs.declared.event.Event.TheVariants.{Post, Take, Done}
use Rattle.post_ledger.specs.declared.entry.Entry.{Entry}
use Rattle.post_ledger.specs.declared.entry.Entry.TheVariants.{Posted, Taken, Completed}
use Rattle.post_ledger.specs.History.{posts, takes, dones, IsLegal}

module _ {M : Type 0} where
  -- the mailbox of an entry
  abbrev pub mailbox_of : Entry M → ℕ
  mailbox_of (Posted to sender message job) = to
  mailbox_of (Taken of sender message) = of
  mailbox_of (Completed of job) = of

  -- the entry as an event of its mailbox
  abbrev pub event_of : Entry M → Event M
  event_of (Posted to sender message job) = Post sender message
  event_of (Taken of sender message) = Take sender message
  event_of (Completed of job) = Done job

  -- the pass that made the entry: of a Post its sender, of a Take or a Done the pass of the mailbox
  abbrev pub maker_of : Entry M → ℕ
  maker_of (Posted to sender message job) = sender
  maker_of (Taken of sender message) = of
  maker_of (Completed of job) = of

  -- the order's projection to a mailbox: its history
  abbrev pub part : ℕ → List (Entry M) → List (Event M)
  part mailbox [] = []
  part mailbox (entry ∷ entries) = if mailbox_of entry == mailbox then event_of entry ∷ part mailbox entries else part mailbox entries

  -- the order's projection to a pass: its own list
  abbrev pub own : ℕ → List (Entry M) → List (Entry M)
  own pass [] = []
  own pass (entry ∷ entries) = if maker_of entry == pass then entry ∷ own pass entries else own pass entries

  -- how many Posts the order has
  abbrev pub posted : List (Entry M) → ℕ
  posted [] = 0
  posted (entry ∷ entries) = length (posts (event_of entry ∷ [])) + posted entries

  -- how many Dones the order has
  abbrev pub completed : List (Entry M) → ℕ
  completed [] = 0
  completed (entry ∷ entries) = length (dones (event_of entry ∷ [])) + completed entries

  -- the pass has the job of its Take with this number: the Take is in the order, and no Done of it is
  abbrev pub HasJob : ℕ → ℕ → List (Entry M) → Type 0
  HasJob pass job order = (job < length (takes (part pass order))) × (Contains (dones (part pass order)) job → ⊥)

  -- Lawful, on a board with a given number of mailboxes: the order begins with the opening post, whose sender is the
  -- starter; the history of each mailbox is legal; and each later Post comes after its Take and not after that Take's
  -- Done.
  pub record IsLawful (boxes : ℕ) (order : List (Entry M)) : Type 0 where
    pub opens : (to : ℕ) × (m : M) × (rest : List (Entry M)) × (order ≡ Posted to boxes m 0 ∷ rest)
    pub inside : (i : ℕ) (e : Entry M) → slice_get order i ≡ Some e → mailbox_of e < boxes
    pub legal : (q : ℕ) → IsLegal (part q order)
    pub jobs : (i to s : ℕ) (m : M) (t : ℕ) → 0 < i → slice_get order i ≡ Some (Posted to s m t) → HasJob s t (take i order)

  -- a history has as many Posts as Takes as Dones
  abbrev pub IsCompleted : List (Event M) → Type 0
  IsCompleted history =
      (length (posts history) ≡ length (takes history)) × (length (takes history) ≡ length (dones history))

  -- closed: the history of each mailbox has as many Posts as Takes as Dones
  abbrev pub IsClosed : List (Entry M) → Type 0
  IsClosed order = (q : ℕ) → IsCompleted (part q order)
