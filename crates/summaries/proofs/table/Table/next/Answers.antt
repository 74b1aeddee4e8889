use Rattle.std.proofs.Common.{◌≡◌, ◌<◌, ◌^◌, ℕ, [], refl, sym, ◌∙◌, subst, length, arith}
use Rattle.std.specs.Bool.{OnFalse}
use Rattle.std.proofs.lemmas.List.{length-map}
use Rattle.summaries.specs.declared.found.Found.{Found}
use Rattle.summaries.specs.Found.{mail_of, calls_in, pairs_in, mails_in, answers_in}
use Rattle.summaries.proofs.Mails.{answers_few}
use Rattle.summaries.proofs.TableInvariants.{quiet_table}
use Rattle.summaries.proofs.table.Table.next.Goals as goal

pub returns-then-not-branch-clause-quiet : goal.returns-then-not-branch-clause-quiet
returns-then-not-branch-clause-quiet g c =
    let t = c.step.new.self in
    let step = c.in_ok-step.ensures in
    let held = step.keeps.table.holds step.keeps.fault in
    let none = subst (λ b. OnFalse b (t.found.pending.items ≡ [])) c.if-not-branch.true step.none in
    let old = c.answer.new.self in
    let given =
    subst (λ b. OnFalse b (mails_in t.procedure t.found ≡ mails_in old.procedure old.found)) c.if-not-branch.true step.given in
    quiet_table g.S.PathSet.members t held.0 held.1 none (step.answers ∙ c.in_default-answer.ensures.all ∙ sym given)

-- fewer than 2^64 messages are answered
few : {A : Type 0} (q : ℕ) (f : Found A) → length (answers_in q f) < 2 ^ 64
few q f =
    let long = length-map f.outbox.sent.items (mail_of (calls_in f) (pairs_in f) q) in
    let within = f.outbox.within in
    answers_few (mails_in q f) f.outbox.answered (2 ^ 64) (omega (arith, long, within)) f.outbox.few

pub returns-in-Some-clause-few : goal.returns-in-Some-clause-few
returns-in-Some-clause-few g c = few c.args.self.now.procedure c.args.self.now.found

pub returns-in-Some-answer-clause-few : goal.returns-in-Some-answer-clause-few
returns-in-Some-answer-clause-few g c = few c.answer.new.self.procedure c.answer.new.self.found

pub returns-in_err-step-clause-few : goal.returns-in_err-step-clause-few
returns-in_err-step-clause-few g c = few c.step.new.self.procedure c.step.new.self.found

pub returns-then-not-branch-clause-few : goal.returns-then-not-branch-clause-few
returns-then-not-branch-clause-few g c = few c.step.new.self.procedure c.step.new.self.found

pub work-init : goal.work-init
work-init g c = (c.requires, c.in_default.is, (refl, refl), refl, record { graph = refl; procedure = refl; limit = refl })

pub work-preserved : goal.work-preserved
work-preserved g c =
    let step = c.in_ok-step.ensures in
    let new = step.keeps in
    let old = c.in_default-answer.ensures in
    let mid = old.keeps in
    let so_far = c.work.invariant in (
      new.table,
      new.fault,
      (new.taken.0 ∙ mid.taken.0 ∙ so_far.2.0, new.taken.1 ∙ mid.taken.1 ∙ so_far.2.1),
      step.answers ∙ old.none ∙ so_far.3,
      record {
        graph = new.stays.graph ∙ mid.stays.graph ∙ so_far.4.graph;
        procedure = new.stays.procedure ∙ mid.stays.procedure ∙ so_far.4.procedure;
        limit = new.stays.limit ∙ mid.stays.limit ∙ so_far.4.limit;
      },
    )
