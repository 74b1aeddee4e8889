-- Each part is written after the last one.
use Rattle.std.proofs.Common.{◌++◌}
use Rattle.diagnostics.specs.Message.{caret_line, message_head, source_line, of_fault}
use Rattle.diagnostics.proofs.Appending.{at_last}
use Rattle.diagnostics.proofs.Locating.{located}
use Rattle.diagnostics.proofs.message.at_byte.Goals as goal

pub returns : goal.returns
returns g c =
    let r = c.push_caret.result in
    let place = c.position_of-place.result in
    let before = place.before.now in
    let behind = place.behind.now in
    let source = source_line before behind in
    let caret = caret_line before in
    let told = of_fault c.args.wrong behind in
    let lines = at_last r _ _ _ source caret c.in_ok-push_source.ensures c.push_caret.ensures in
    let rest = at_last r _ _ _ told (source ++ caret) c.in_ok-push_wrong.ensures lines in
    located r _ _ _ _ _ before behind (of_fault c.args.wrong) _ _ c.position_of-place.ensures
    (at_last r _ _ _ (message_head c.args.path.now place.line place.column) (told ++ (source ++ caret))
    c.in_ok-push_head.ensures rest)
