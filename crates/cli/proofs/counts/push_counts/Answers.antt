-- Each turn writes one more line, and the last turn is over the last procedure.
use Rattle.std.proofs.Common.{◌∙◌, ◌<◌, ◌≤◌, arith, length, refl, sym}
use Rattle.std.proofs.lemmas.Option.{slice_get_read}
use Rattle.std.specs.String.{string_bytes}
use Rattle.trees.specs.Trees.{tree_of}
use Rattle.cli.specs.Counts.{procedure_names}
use Rattle.cli.proofs.Counting.{all_written, line_pushed, there}
use Rattle.cli.proofs.counts.push_counts.Goals as goal

pub loop-number-preserved : goal.loop-number-preserved
loop-number-preserved g c =
    let names = procedure_names (tree_of c.args.program.now) in
    let ss = c.args.summaries.now.procedures in
    let hs = c.args.mailboxes.now in
    let k = c.loop-number.number in
    let below = c.loop-number-test.true in
    let len = c.len-number-end.ensures in
    let all = c.requires.all in
    let boxes = c.requires.boxes in
    let lt : k < length ss = omega (arith, below, len) in
    let lt_h : k < length hs = omega (arith, lt, all, boxes) in
    let (s, at) = there ss k lt in
    let history = c.index-mailboxes-number.result in
    let kept = slice_get_read hs (length hs) k history refl lt_h c.index-mailboxes-number.is in
    line_pushed names ss hs k (string_bytes c.args.lines.now) (string_bytes c.loop-number.lines)
    (string_bytes c.push_line.new.lines) c.name_of-name.result.now s history c.entries-entries.result.now
    c.pairs-pairs.result.now c.taken-taken.result c.name_of-name.ensures at kept (c.entries-entries.ensures s at)
    (c.pairs-pairs.ensures s at) c.taken-taken.ensures c.loop-number.invariant c.in_ok-push_line.ensures

pub returns : goal.returns
returns g c =
    let past = c.loop-number-test.false in
    let len = c.len-number-end.ensures in
    let all = c.requires.all in
    let boxes = c.requires.boxes in
    let names = procedure_names (tree_of c.args.program.now) in
    let ss = c.args.summaries.now.procedures in
    let hs = c.args.mailboxes.now in
    let past_names : length names ≤ c.loop-number.number = omega (arith, past, len, all) in
    let past_ss : length ss ≤ c.loop-number.number = omega (arith, past, len) in
    all_written names ss hs c.loop-number.number (string_bytes c.args.lines.now) (string_bytes c.loop-number.lines)
    past_names past_ss (boxes ∙ sym all) c.loop-number.invariant
