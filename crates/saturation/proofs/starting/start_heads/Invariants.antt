use Rattle.std.proofs.Common.{◌+◌, ◌≤◌, length, take}
use Rattle.saturation.specs.Items.{Extends}
use Rattle.saturation.specs.Leads.{HaveAll, OfSome}
use Rattle.saturation.specs.Starts.{IsStart}
use Rattle.saturation.proofs.starting.start_heads.Given as goal

abbrev pub invariant-loop-head : goal.invariant-loop-head
invariant-loop-head g l =
    HaveAll (OfSome (IsStart l.globals) (take l.head-index l.heads)) l.items.keys
    × Extends (OfSome (IsStart l.globals) l.heads) l.initial.items.keys l.items.keys
    × (l.left + length l.items.keys ≤ l.initial.left + length l.initial.items.keys)
