use Rattle.std.proofs.Common.{rules}
use Rattle.tokens.specs.Token.{same_kind}
use Rattle.tokens.proofs.vocabulary.Kind.is.Goals as goal

pub returns-clause-value : goal.returns-clause-value
unfolding same_kind
returns-clause-value c = search rules

pub returns-clause-same : goal.returns-clause-same
returns-clause-same c = search rules
