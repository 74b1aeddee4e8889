-- What is written depends on the kind of the error.
use Rattle.std.proofs.Common.{inl, inr, refl, rules}
use Rattle.streams.specs.Served.{file_line, without_memory}
use Rattle.streams.proofs.unserved.unread.Goals as goal

pub returns-then-eq : goal.returns-then-eq
returns-then-eq g c = record { said = without_memory; unread = inr (search rules, refl); says = c.no_room.ensures }

pub returns : goal.returns
returns g c =
    let (message, is, logs) = c.tell_reason.ensures in
    record {
      said = record { reply = file_line; status = 2; message = message };
      unread = inl (search rules, refl, refl, is);
      says = (g.L.Stream.held c.tell_reason.new.log, logs, c.say.ensures);
    }
