use Rattle.std.proofs.Common.{◌≡◌, ◌++◌, ◌∷◌, [], refl, sym, ap, ◌∙◌, subst, map, take}
use Rattle.language.specs.Lists.{Member}
use Rattle.language.proofs.Members.{member_map}
use Rattle.summaries.specs.Mails.{mail}
use Rattle.summaries.specs.Found.{mail_of, calls_in, pairs_in, mails_in}
use Rattle.summaries.proofs.Quiet.{owed_sent}
use Rattle.summaries.proofs.TableInvariants.{same_keeps, next_behind, next_given, next_once}
use Rattle.summaries.proofs.table.Table.answer.Given.{Over}
use Rattle.summaries.proofs.table.Table.answer.Goals as goal
use Rattle.summaries.proofs.table.Table.answer.Goals.{In_ok-message}

pub returns-in_err-message-clause-keeps : goal.returns-in_err-message-clause-keeps
returns-in_err-message-clause-keeps g c =
    let f = c.args.self.now.found in
    same_keeps g.S.PathSet.members c.args.self.now (record f { outbox = c.next.new.self }) (λ at. refl) c.next.ensures.sent refl
    c.requires.table c.requires.fault

-- the message comes after those answered
next : (g : Over) (c : In_ok-message g) →
    let old = c.args.self.now.found.outbox in
    take c.next.new.self.answered old.sent.items ≡ take old.answered old.sent.items ++ c.in_ok-message.message ∷ []
next g c = ap (take c.next.new.self.answered) (sym c.next.ensures.sent) ∙ c.in_ok-message.ensures.some

pub mail-requires : goal.mail-requires
mail-requires g c =
    let self = c.args.self.now in
    let f = self.found in
    (c.requires.table.holds c.requires.fault).0.indexed.placed c.in_ok-message.message
    (next_given self.procedure
    (calls_in f) (pairs_in f) f.outbox.sent.items f.outbox.answered c.next.new.self.answered c.in_ok-message.message
    (next g (goal.at.mail-requires g c).In_ok-message))

pub returns-clause-keeps : goal.returns-clause-keeps
returns-clause-keeps g c =
    let f = c.args.self.now.found in
    same_keeps g.S.PathSet.members c.args.self.now (record f { outbox = c.next.new.self }) (λ at. refl) c.next.ensures.sent refl
    c.requires.table c.requires.fault

pub returns-clause-some : goal.returns-clause-some
returns-clause-some g c =
    let self = c.args.self.now in
    let f = self.found in
    let q = self.procedure in
    let cs = calls_in f in
    let ps = pairs_in f in
    let xs = f.outbox.sent.items in
    let n = f.outbox.answered in
    let m = c.next.new.self.answered in
    let x = c.in_ok-message.message in
    let behind = next g (goal.at.returns-clause-some g c).In_ok-message in
    let sound = (c.requires.table.holds c.requires.fault).0 in record {
      behind =
          ap (λ ys. take m (map (mail_of cs ps q) ys)) c.next.ensures.sent ∙ next_behind q cs ps xs n m x behind
          ∙ ap (λ y. take n (mails_in q f) ++ y ∷ []) (sym c.mail.ensures);
      due = λ k is.
          let given = member_map (mail_of cs ps q) xs x (next_given q cs ps xs n m x behind) in
          owed_sent self.graph.now q f (g.S.PathSet.members self.edges) sound c.mail.result.0 k
          (sound.given c.mail.result.0 k
          (subst (λ y. Member y (mails_in q f)) (sym c.mail.ensures ∙ ap (mail c.mail.result.0) (sym is)) given));
      once = λ there.
          next_once q cs ps xs n m x behind sound.indexed.calls_once sound.indexed.pairs_once sound.indexed.placed f.outbox.once
          (subst (λ y. Member y (take n (mails_in q f))) c.mail.ensures there);
    }
