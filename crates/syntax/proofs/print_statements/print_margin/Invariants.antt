use Rattle.std.proofs.Common.{◌≡◌, ◌++◌}
use Rattle.std.specs.String.{string_bytes}
use Rattle.tokens.specs.Parts.{text_of}
use Rattle.grammar.specs.Printed.{margin}
use Rattle.syntax.proofs.print_statements.print_margin.Given as goal

-- two spaces are printed for each level so far
abbrev pub invariant-loop : goal.invariant-loop
invariant-loop g l = string_bytes l.out ≡ string_bytes l.initial.out ++ text_of (margin l.counter)
