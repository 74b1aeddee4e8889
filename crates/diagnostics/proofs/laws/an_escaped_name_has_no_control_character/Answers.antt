-- Each character of the name is written without a control character.
use Rattle.diagnostics.proofs.Escaping.{escaped_same, escaped_shown}
use Rattle.diagnostics.proofs.laws.an_escaped_name_has_no_control_character.Goals as goal

pub returns-clause-escaped : goal.returns-clause-escaped
returns-clause-escaped c = escaped_shown

pub returns-clause-same : goal.returns-clause-same
returns-clause-same c = escaped_same
