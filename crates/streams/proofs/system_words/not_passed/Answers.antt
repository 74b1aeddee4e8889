-- What is written depends on the kind of the error.
use Rattle.std.proofs.Common.{inl, inr, refl, rules}
use Rattle.streams.specs.Served.{without_memory}
use Rattle.streams.specs.Ended.{no_utf8}
use Rattle.streams.proofs.system_words.not_passed.Goals as goal

pub returns-then-ne-clause-tells : goal.returns-then-ne-clause-tells
returns-then-ne-clause-tells g c = record { said = without_memory; unread = inr (search rules, refl); says = c.no_room.ensures }

pub returns-clause-tells : goal.returns-clause-tells
returns-clause-tells g c = record {
  said = no_utf8;
  unread = inl (search rules, refl);
  says = (g.L.Stream.held c.tell.new.log, c.tell.ensures, c.say.ensures);
}
