use Rattle.std.proofs.Common.{arith}
use Rattle.std.specs.String.{string_bytes}
use Rattle.syntax.proofs.Prints.{comma_more, comma_whole}
use Rattle.syntax.proofs.show.print_list.Goals as goal

pub loop-item-preserved : goal.loop-item-preserved
loop-item-preserved g c =
    comma_more g.T.Written.parts g.T.Written.tree c.in-Some.others.now c.loop-item.item-index c.item-item.result
    (string_bytes c.loop-item.out) (string_bytes c.push_str.new.self) (string_bytes c.print-in-loop-item.new.out) _
    (omega arith) c.item-item.is c.loop-item.invariant c.in_ok-push_str.ensures.bytes c.in_ok-print-2.ensures

pub returns : goal.returns
returns g c =
    comma_whole g.T.Written.parts g.T.Written.tree c.args.items.now c.in-Some.others.now c.in-Some.first.now
    c.loop-item.item-index (string_bytes c.args.out.now) (string_bytes c.print.new.out)
    (string_bytes c.loop-item.out)
    c.in-Some.ensures.cases.0 c.in_ok-print.ensures (omega arith) c.loop-item.invariant
