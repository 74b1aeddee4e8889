use Rattle.std.proofs.Common.{rules}
use Rattle.tokens.proofs.vocabulary.Kind.is_operator.Goals as goal

pub returns-in-Implies : goal.returns-in-Implies
returns-in-Implies c = search rules
