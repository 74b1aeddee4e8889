-- The message and the line were written.
use Rattle.std.proofs.Common.{subst}
use Rattle.streams.specs.Streams.{Logs, Writes, streams}
use Rattle.streams.proofs.unserved.no_room.Goals as goal

pub returns : goal.returns
returns g c =
    let told = g.L.Stream.held c.tell.new.log in
    let old = streams (g.W.Stream.held c.args.writer.now) told in
    let new = streams (g.W.Stream.held c.say.new.writer) (g.L.Stream.held c.say.new.log) in (
      told,
      subst (Logs (g.L.Stream.held c.args.log.now) told) c.as_bytes.ensures.value c.tell.ensures,
      subst (λ line. Writes old new line 3 c.say.result) c.as_bytes-2.ensures.value c.say.ensures,
    )
