-- The tokens that are left, where what is sought stands or nothing is left.
use Rattle.std.proofs.Common.{◌≡◌, ◌∙◌, ◌≤◌, ap, sym, arith, drop, length}
use Rattle.std.proofs.Math.Seq.{drop-length}
use Rattle.std.proofs.Math.ListN.{drop_of_length-le}
use Rattle.fault_details.specs.Seeking.{seek}
use Rattle.fault_details.proofs.Suffixes.{found, nowhere, passed, stands_there, whole}
use Rattle.fault_details.proofs.seeking.seek.Goals as goal

pub returns-then-stands : goal.returns-then-stands
returns-then-stands c =
    let ts = c.args.tokens.now in
    let here = stands_there c.args.sought c.args.word.now ts c.loop-i.i c.stands.ensures c.if-stands.true in
    whole ts c.loop-i.i ∙ found c.args.sought c.args.word.now (drop c.loop-i.i ts) here ∙ c.loop-i.invariant

pub loop-i-preserved : goal.loop-i-preserved
loop-i-preserved c =
    passed c.args.sought c.args.word.now c.args.tokens.now c.loop-i.i (omega arith)
    (stands_there c.args.sought c.args.word.now c.args.tokens.now c.loop-i.i c.stands.ensures c.if-stands.false) ∙ c.loop-i.invariant

pub returns : goal.returns
returns c =
    let ts = c.args.tokens.now in
    let past : length ts ≤ c.loop-i.i = omega arith in
    let none = drop_of_length-le ts past in
    whole ts (length ts) ∙ drop-length ts ∙ sym (nowhere c.args.sought c.args.word.now)
    ∙ ap (seek c.args.sought c.args.word.now) (sym none) ∙ c.loop-i.invariant
