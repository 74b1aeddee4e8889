-- The Post after that number of others from here is the one with the number from the front.
use Rattle.std.proofs.Common.{◌≡◌, drop, slice_get}
use Rattle.post_ledger.specs.History.{posts}
use Rattle.post_ledger.proofs.legality.post_numbered.Given as goal

abbrev pub invariant-loop-event : goal.invariant-loop-event
invariant-loop-event g l = slice_get (posts (drop l.event-index l.events)) l.left ≡ slice_get (posts l.events) l.number
