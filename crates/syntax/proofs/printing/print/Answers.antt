use Rattle.std.proofs.Common.{◌≡◌}
use Rattle.std.specs.String.{string_bytes}
use Rattle.trees.specs.Trees.{tree_of}
use Rattle.grammar.specs.Printed.{printed}
use Rattle.syntax.proofs.PrintedPrograms.{program_printed}
use Rattle.syntax.proofs.ReadsBack.{bytes_read_back}
use Rattle.syntax.proofs.printing.print.Goals as goal

pub returns : goal.returns
returns g c =
    let form : string_bytes c.print_all-2.new.out ≡ printed (tree_of c.args.program.now) =
    program_printed c.args.program.now c.deref.result.now c.deref-2.result.now c.deref-3.result.now
    (string_bytes c.new-out.result) (string_bytes c.print_declaration.new.out) (string_bytes c.print_all.new.out)
    (string_bytes c.print_all-2.new.out) c.new-out.ensures.bytes
    c.deref.ensures.value c.deref-2.ensures.value c.deref-3.ensures.value c.in_ok-print_declaration.ensures
    c.in_ok-print_all.ensures c.in_ok-print_all-2.ensures in
    record {
      form = form;
      back = λ ok. bytes_read_back (string_bytes c.print_all-2.new.out)
          (tree_of c.args.program.now) form ok;
    }
