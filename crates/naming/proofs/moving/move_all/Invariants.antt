use Rattle.std.proofs.Common.{take}
use Rattle.naming.specs.Moves.{IsNumber, AreMoved}
use Rattle.naming.proofs.moving.move_all.Given as goal

abbrev pub invariant-loop-head : goal.invariant-loop-head
invariant-loop-head g l = AreMoved l.base (IsNumber l.names) (take l.head-index l.head-items) l.heads.items
