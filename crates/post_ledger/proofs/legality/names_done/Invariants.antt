-- Whether a Done names the take is still to be found in the events that are left.
use Rattle.std.proofs.Common.{◌≡◌, drop, nat_eq}
use Rattle.std.specs.List.{list_any}
use Rattle.post_ledger.specs.History.{dones}
use Rattle.post_ledger.proofs.legality.names_done.Given as goal

abbrev pub invariant-loop-event : goal.invariant-loop-event
invariant-loop-event g l = list_any (nat_eq l.number) (dones (drop l.event-index l.events)) ≡ list_any (nat_eq l.number) (dones l.events)
