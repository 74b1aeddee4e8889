-- The words give an order, and their file is opened or not.
use Rattle.std.proofs.Common.{inl, inr, map, refl, subst, sym}
use Rattle.std.specs.String.{string_bytes}
use Rattle.std.proofs.lemmas.Fn.{gave_at}
use Rattle.explore_line.specs.Line.{AskFor}
use Rattle.explorer.proofs.running.run.Goals as goal

pub returns-in-Ok-opener-clause-runs : goal.returns-in-Ok-opener-clause-runs
returns-in-Ok-opener-clause-runs g c =
    let words = map string_bytes c.args.words.now in
    let order = c.in-Ok.found.0 in
    let asks = subst (AskFor words order) (sym c.as_str-path.ensures.value) c.in-Ok.ensures.asks in
    let opened = gave_at g.O.FnOnce c.in-Ok-opener.ensures refl in
    inr (order, _, asks, inl (c.in-Ok-opener.file, opened, (_, c.serve_telling.ensures.serves)))

pub returns-in-Ok-opener-clause-answers : goal.returns-in-Ok-opener-clause-answers
returns-in-Ok-opener-clause-answers g c few =
    let words = map string_bytes c.args.words.now in
    let order = c.in-Ok.found.0 in
    let asks = subst (AskFor words order) (sym c.as_str-path.ensures.value) c.in-Ok.ensures.asks in
    let opened = gave_at g.O.FnOnce c.in-Ok-opener.ensures refl in
    inr (order, _, asks, (c.in-Ok-opener.file, opened, (_, c.serve_telling.ensures.answers few)))

pub returns-clause-runs : goal.returns-clause-runs
returns-clause-runs g c =
    let words = map string_bytes c.args.words.now in
    let order = c.in-Ok.found.0 in
    let asks = subst (AskFor words order) (sym c.as_str-path.ensures.value) c.in-Ok.ensures.asks in
    let opened = gave_at g.O.FnOnce c.in-Err-opener.ensures refl in
    inr (order, _, asks, inr (c.in-Err-opener.error, opened, c.unread.ensures))
