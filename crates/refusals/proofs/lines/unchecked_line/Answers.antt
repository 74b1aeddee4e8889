use Rattle.std.proofs.Common.{rules}
use Rattle.refusals.proofs.lines.unchecked_line.Goals as goal

pub returns-in-Undeclared-clause-line : goal.returns-in-Undeclared-clause-line
returns-in-Undeclared-clause-line g c = search rules
