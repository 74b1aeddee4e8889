-- Histories of one mailbox: what was posted, taken and completed, in order.
use Rattle.std.specs.Prelude.{◌≡◌, ℕ, ◌<◌, List, [], ◌∷◌, ◌++◌, Some, length, slice_get, take, Contains}
use Rattle.post_ledger.specs.declared.event.Event.{Event}
use Rattle.post_ledger.specs.declared.event.Event.TheVariants.{Post, Take, Done}

-- the senders and messages of the Posts, in order
abbrev pub posts : {M : Type 0} → List (Event M) → List (ℕ × M)
posts [] = []
posts (Post sender message ∷ es) = (sender, message) ∷ posts es
posts (Take sender message ∷ es) = posts es
posts (Done job ∷ es) = posts es

-- the senders and messages of the Takes, in order
abbrev pub takes : {M : Type 0} → List (Event M) → List (ℕ × M)
takes [] = []
takes (Post sender message ∷ es) = takes es
takes (Take sender message ∷ es) = (sender, message) ∷ takes es
takes (Done job ∷ es) = takes es

-- the Takes that the Dones name, in order
abbrev pub dones : {M : Type 0} → List (Event M) → List ℕ
dones [] = []
dones (Post sender message ∷ es) = dones es
dones (Take sender message ∷ es) = dones es
dones (Done job ∷ es) = job ∷ dones es

-- What may come after the events `before`: any Post; the Take of the Post that has the number of the
-- Takes before it; the Done of a Take before it that no Done before names.
abbrev pub MayFollow : {M : Type 0} → List (Event M) → Event M → Type 0
MayFollow before (Post sender message) = Unit {0}
MayFollow before (Take sender message) = slice_get (posts before) (length (takes before)) ≡ Some (sender, message)
MayFollow before (Done job) = (job < length (takes before)) × (Contains (dones before) job → ⊥)

-- Legal: each event may follow those before it.
abbrev pub IsLegal : {M : Type 0} → List (Event M) → Type 0
IsLegal history = (i : ℕ) (e : _) → slice_get history i ≡ Some e → MayFollow (take i history) e

-- the new history is the old one and the Take of the oldest Post that was not taken, which has this message
abbrev pub TakesOldest : {M : Type 0} → List (Event M) → List (Event M) → M → Type 0
TakesOldest old new message =
    (s : ℕ) × (slice_get (posts old) (length (takes old)) ≡ Some (s, message)) × (new ≡ old ++ Take s message ∷ [])
