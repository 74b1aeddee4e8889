-- Help has no message; refused words have a line, and the reason is reported.
use Rattle.std.proofs.Common.{true, subst, sym}
use Rattle.std.proofs.KnownBytes.{Appends-nil}
use Rattle.streams.specs.Ran.{Declines}
use Rattle.streams.specs.Streams.{Logs, Writes, streams}
use Rattle.streams.proofs.declining.decline.Goals as goal

pub returns-in-Help : goal.returns-in-Help
returns-in-Help g c =
    let held = g.L.Stream.held c.args.log.now in
    let old = streams (g.W.Stream.held c.args.writer.now) held in
    let new = streams (g.W.Stream.held c.say.new.writer) (g.L.Stream.held c.say.new.log) in
    let wrote = subst (λ b. Writes old new b 0 c.say.result) c.as_bytes.ensures.value c.say.ensures in
    subst (λ f. Declines f old new c.say.result) (sym c.in-Help.is) (held, (true, Appends-nil _), wrote)

pub returns-in-Refused : goal.returns-in-Refused
returns-in-Refused g c =
    let held = g.L.Stream.held c.args.log.now in
    let told = g.L.Stream.held c.tell.new.log in
    let old = streams (g.W.Stream.held c.args.writer.now) held in
    let new = streams (g.W.Stream.held c.say-in-Refused.new.writer) (g.L.Stream.held c.say-in-Refused.new.log) in
    subst (λ f. Declines f old new c.say-in-Refused.result) (sym c.in-Refused.is)
    (told, subst (Logs held told) c.as_bytes-in-Refused.ensures.value c.tell.ensures, c.say-in-Refused.ensures)
