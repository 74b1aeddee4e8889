use Rattle.std.proofs.Common.{◌∙◌, sym}
use Rattle.std.specs.String.{string_bytes}
use Rattle.syntax.proofs.PrintedPrograms.{declaration_put}
use Rattle.syntax.proofs.printing.print_declaration.Goals as goal

pub returns : goal.returns
returns g c =
    declaration_put c.print_list_between.result c.args.level c.args.names.now (string_bytes c.args.out.now)
    (string_bytes c.print_margin.new.out) (string_bytes c.print_list_between.new.out)
    (sym c.is_empty.ensures ∙ c.if-is_empty.false) c.in_ok-print_margin.ensures c.print_list_between.ensures
