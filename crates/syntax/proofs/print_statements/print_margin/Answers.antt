use Rattle.std.specs.String.{string_bytes}
use Rattle.syntax.proofs.PrintedBlocks.{two_more}
use Rattle.syntax.proofs.print_statements.print_margin.Goals as goal

pub loop-preserved : goal.loop-preserved
loop-preserved g c =
    two_more c.loop.counter _ (string_bytes c.loop.out) (string_bytes c.push_str.new.self) c.loop.invariant c.in_ok-push_str.ensures.bytes
