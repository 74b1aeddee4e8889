use Rattle.std.proofs.Common.{append_assoc}
use Rattle.std.specs.String.{string_bytes}
use Rattle.tokens.proofs.PartsCut.{text_of-append}
use Rattle.syntax.proofs.Prints.{put_last}
use Rattle.syntax.proofs.print_statements.print_call.Goals as goal

pub returns : goal.returns
returns g c =
    put_last c.print_list_between.result (string_bytes c.print_list_between.new.out) (string_bytes c.print.new.out) _ _
    c.print_list_between.ensures (rw c.in_ok-print.ensures (simp (text_of-append, append_assoc)))
