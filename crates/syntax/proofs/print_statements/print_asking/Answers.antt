use Rattle.std.proofs.Common.{append_assoc}
use Rattle.std.specs.String.{string_bytes}
use Rattle.tokens.proofs.PartsCut.{text_of-append}
use Rattle.syntax.proofs.Prints.{put_last}
use Rattle.syntax.proofs.print_statements.print_asking.Goals as goal

pub returns : goal.returns
returns g c =
    put_last c.print_call.result (string_bytes c.print_call.new.out) (string_bytes c.push_str.new.self) _ _ c.print_call.ensures
    (rw (c.in_ok-push_str.ensures.bytes, c.in_ok-print.ensures) (simp (text_of-append, append_assoc)))
