-- The reply is the answer if there is a report, and otherwise reports the refusal that stands.
use Rattle.std.proofs.Common.{Some, inl, inr}
use Rattle.path_sets.specs.EdgeLimits.{most_of}
use Rattle.round_rewrite.specs.Programs.{count_of}
use Rattle.checked.specs.Programs.{checked_tree}
use Rattle.streams.specs.Written.{bytes_of}
use Rattle.refusals.specs.declared.refusal.Refusal.TheVariants.{Memory}
use Rattle.cli.proofs.Answering.{answers, has_each, reported_rewriting}
use Rattle.cli.proofs.Refusing.{refuses}
use Rattle.cli.proofs.answers.verdict.Goals as goal

pub returns-in-Err : goal.returns-in-Err
returns-in-Err g c =
    let rounds = count_of c.args.rounds in
    let limit = Some (most_of c.args.edges) in
    inr (refuses c.args.text.now rounds limit c.in-Err.why c.refused.result (c.in-Err.ensures.stands rounds limit)
    c.refused.ensures)

pub reported-requires : goal.reported-requires
reported-requires g c =
    has_each (count_of c.args.rounds) (most_of c.args.edges) (checked_tree c.in-Ok.program) c.in-Ok-judge.report
    c.in-Ok.ensures.program.1 c.in-Ok-judge.ensures.report

pub returns-in-Ok-judge : goal.returns-in-Ok-judge
returns-in-Ok-judge g c =
    let text = c.args.text.now in
    let rounds = count_of c.args.rounds in
    let most = most_of c.args.edges in
    let t = checked_tree c.in-Ok.program in
    let report = c.in-Ok-judge.report in
    let reply = c.reported.result in
    let of = c.in-Ok.ensures.program in
    let is = c.in-Ok-judge.ensures.report in
    elim c.reported.ensures [
      | inl told ↦
          inl (answers text rounds most t report c.args.stats of is (bytes_of reply) reply.status told.0 told.1, told.2)
      | inr lacks ↦ inr (Memory, inl (reported_rewriting text rounds most t report of is), lacks.1)
    ]

pub returns : goal.returns
returns g c =
    let rounds = count_of c.args.rounds in
    let limit = Some (most_of c.args.edges) in
    inr (refuses c.args.text.now rounds limit c.in-Err-judge.why c.refused-in-Err-judge.result
    (c.in-Err-judge.ensures.stands c.args.text.now c.in-Ok.ensures.program.0) c.refused-in-Err-judge.ensures)
