use Rattle.std.proofs.Common.{take}
use Rattle.naming.specs.Moves.{HasNumber, AreMoved}
use Rattle.naming.proofs.moving.move_now.Given as goal

abbrev pub invariant-loop-head : goal.invariant-loop-head
invariant-loop-head g l = AreMoved l.base (HasNumber l.names) (take l.head-index l.head-items) l.heads.items
