use Rattle.std.proofs.Common.{rules}
use Rattle.std.proofs.lemmas.Str.{IsUtf8-from_ascii}
use Rattle.tokens.proofs.text.as_ascii.Goals as goal

pub returns-in_default-clause-ascii : goal.returns-in_default-clause-ascii
returns-in_default-clause-ascii c = λ ascii. c.in_default.ensures.cases.0 (IsUtf8-from_ascii _ ascii)

pub returns-clause-ascii : goal.returns-clause-ascii
returns-clause-ascii c = search rules
