-- What is said about each fault is written part by part.
use Rattle.std.proofs.Common.{◌++◌, codes}
use Rattle.diagnostics.specs.Message.{first_item}
use Rattle.diagnostics.proofs.Appending.{at_last}
use Rattle.diagnostics.proofs.message.push_wrong.Goals as goal

pub returns-in_ok-push_name-in-Wide : goal.returns-in_ok-push_name-in-Wide
returns-in_ok-push_name-in-Wide g c =
    rw (c.in-Wide.is, ← c.first_word-in-Wide.ensures)
    (at_last c.push_width.result _ _ _ _ _ c.in_ok-push_name-in-Wide.ensures c.push_width.ensures)

pub returns-in_ok-push_name-in-Edges : goal.returns-in_ok-push_name-in-Edges
returns-in_ok-push_name-in-Edges g c =
    rw (c.in-Edges.is, ← c.first_word-in-Edges.ensures)
    (at_last c.push_edges.result _ _ _ _ _ c.in_ok-push_name-in-Edges.ensures c.push_edges.ensures)

pub returns-in_ok-push_first-in-Unexpected : goal.returns-in_ok-push_first-in-Unexpected
returns-in_ok-push_first-in-Unexpected g c =
    let item = first_item c.args.rest.now in
    let r = c.push-in-Unexpected-2.result in
    let end = at_last r _ _ _ item (codes "\n") c.in_ok-push_first-in-Unexpected.ensures
    c.push-in-Unexpected-2.ensures in
    rw c.in-Unexpected.is
    (at_last r _ _ _ (codes "unexpected ") (item ++ codes "\n") c.in_ok-push-in-Unexpected.ensures end)

pub returns-in_ok-push_first-in-NotAscii : goal.returns-in_ok-push_first-in-NotAscii
returns-in_ok-push_first-in-NotAscii g c =
    rw c.in-NotAscii.is
    (at_last c.push-in-NotAscii.result _ _ _ _ _ c.in_ok-push_first-in-NotAscii.ensures c.push-in-NotAscii.ensures)
