use Rattle.std.proofs.Common.{◌++◌, refl, codes}
use Rattle.std.specs.String.{string_bytes}
use Rattle.tokens.specs.Parts.{text_of}
use Rattle.trees.specs.Trees.{names_of}
use Rattle.grammar.specs.Printed.{name_parts, separated}
use Rattle.syntax.proofs.PrintedPrograms.{procedure_printed, formals_put}
use Rattle.syntax.proofs.printing.ProcShow.print.Goals as goal

pub returns : goal.returns
returns g c =
    let named = string_bytes c.print.new.out in
    let formals = text_of (separated name_parts (names_of c.deref.result.now)) in
    procedure_printed c.push_str.result c.args.self.now c.deref.result.now c.deref-2.result.now c.deref-3.result.now
    (string_bytes c.args.out.now) named (named ++ codes "(") ((named ++ codes "(") ++ formals)
    (string_bytes c.print_list_between.new.out) (string_bytes c.print_declaration.new.out) (string_bytes c.print_block.new.out)
    (string_bytes c.push_str.new.self)
    c.deref.ensures.value c.deref-2.ensures.value c.deref-3.ensures.value
    c.in_ok-print.ensures refl refl
    (formals_put named formals (string_bytes c.print_list_between.new.out) c.in_ok-print_list_between.ensures)
    c.in_ok-print_declaration.ensures c.in_ok-print_block.ensures c.push_str.ensures.bytes
