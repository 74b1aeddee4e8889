-- What the words ask for was done, and the status is that of it.
use Rattle.std.proofs.Common.{◌≤◌, inl, map, subst, sym}
use Rattle.std.specs.Fn.{FnOnceReturnsAt}
use Rattle.std.specs.String.{string_bytes}
use Rattle.explorer.specs.Ran.{AnswersWords, RunsWords}
use Rattle.streams.specs.Streams.{streams}
use Rattle.explorer.proofs.program.ended.Goals as goal

pub returns-in-Ok-clause-ends : goal.returns-in-Ok-clause-ends
returns-in-Ok-clause-ends g c =
    let opens = FnOnceReturnsAt g.O.FnOnce c.args.opener in
    let remaining = g.F.Read.remaining in
    let words = map string_bytes c.in-Ok.words.items in
    let old = streams (g.W.Stream.held c.args.writer.now) (g.L.Stream.held c.args.log.now) in
    let new = streams (g.W.Stream.held c.run.new.writer) (g.L.Stream.held c.run.new.log) in
    let runs = subst (λ l. RunsWords opens remaining (map string_bytes l) old new c.run.result) c.as_slice.ensures.value
    c.run.ensures.runs in
    inl (c.in-Ok.words, c.in-Ok.ensures, subst (RunsWords opens remaining words old new) (sym c.from.ensures) runs)

pub returns-in-Ok-clause-answers : goal.returns-in-Ok-clause-answers
returns-in-Ok-clause-answers g c few =
    let opens = FnOnceReturnsAt g.O.FnOnce c.args.opener in
    let remaining = g.F.Read.remaining in
    let words = map string_bytes c.in-Ok.words.items in
    let old = streams (g.W.Stream.held c.args.writer.now) (g.L.Stream.held c.args.log.now) in
    let new = streams (g.W.Stream.held c.run.new.writer) (g.L.Stream.held c.run.new.log) in
    let ran = c.run.ensures.answers (subst (λ n. n ≤ 1) c.from.ensures few) in
    let answers = subst (λ l. AnswersWords opens remaining (map string_bytes l) old new c.run.result)
    c.as_slice.ensures.value ran in
    (c.in-Ok.words, c.in-Ok.ensures, subst (AnswersWords opens remaining words old new) (sym c.from.ensures) answers)
