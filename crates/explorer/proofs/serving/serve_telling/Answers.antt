-- The reply is the answer to the text that was read, and the message is about that.
use Rattle.std.proofs.Common.{inl, subst}
use Rattle.explorer.specs.Explained.{Explains}
use Rattle.explorer.specs.Lines.{line_of, status_of}
use Rattle.explorer.specs.Replies.{Replies, Stands}
use Rattle.explorer.specs.Served.{IsReply}
use Rattle.streams.specs.Streams.{Said, Writes, streams}
use Rattle.streams.specs.Written.{bytes_of}
use Rattle.streams.proofs.Answered.{answered}
use Rattle.streams.proofs.Giving.{replied}
use Rattle.explorer.proofs.Within.{refused, within}
use Rattle.explorer.proofs.serving.serve_telling.Goals as goal

pub returns-clause-serves : goal.returns-clause-serves
returns-clause-serves g c =
    let path = c.args.path.now in
    let order = c.args.order in
    let text = c.as_slice-text.result.now in
    let reply = c.answer-reply.result in
    let of = c.answer-reply.ensures in
    let (message, about, logs) = c.tell_why.ensures in
    let is_reply = replied Explains Replies Stands line_of status_of path text order reply message of.answers of.silent
    of.refuses about in
    let said : Said = record { reply = bytes_of reply; status = reply.status; message = message } in
    let told = g.L.Stream.held c.tell_why.new.log in
    let old = streams (g.W.Stream.held c.args.writer.now) told in
    let new = streams (g.W.Stream.held c.say.new.writer) (g.L.Stream.held c.say.new.log) in
    let wrote = subst (λ b. Writes old new b reply.status c.say.result) c.as_slice.ensures.value c.say.ensures in
    record {
      said = said;
      due = inl (
        c.in-Ok.text.items,
        c.in-Ok.ensures.gave,
        subst (λ t. IsReply path t order said) c.as_slice-text.ensures.value is_reply,
      );
      says = (told, logs, wrote);
    }

pub returns-clause-answers : goal.returns-clause-answers
returns-clause-answers g c = answered Explains Replies Stands line_of status_of refused within c.args.path.now c.args.order _ _ _ _ _
    (returns-clause-serves g c)
