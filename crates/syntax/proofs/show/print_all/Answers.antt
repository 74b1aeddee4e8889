use Rattle.std.specs.String.{string_bytes}
use Rattle.syntax.proofs.PrintedPrograms.{joined_more}
use Rattle.syntax.proofs.show.print_all.Goals as goal

pub loop-item-preserved : goal.loop-item-preserved
loop-item-preserved g c =
    joined_more g.T.Written.parts g.T.Written.tree c.args.items.now c.loop-item.item-index c.item-item.result
    (string_bytes c.loop-item.out) (string_bytes c.print.new.out) _
    c.loop-item-test.true c.item-item.is c.loop-item.invariant c.in_ok-print.ensures
