use Rattle.std.proofs.Common.{sym, subst}
use Rattle.summaries.specs.declared.due.Due.TheVariants.{Summary}
use Rattle.summaries.specs.Tables.{TableTakes, failed_by}
use Rattle.summaries.proofs.TakenLemmas.{has_taken}
use Rattle.summaries.proofs.table.Table.take_summary.Goals as goal

pub returns : goal.returns
returns g c =
    let old = c.args.self.now in
    let mid = c.resume-resumed.new.self in
    let resume = c.resume-resumed.ensures in
    let members = g.S.PathSet.members in
    let message = Summary c.args.p c.args.r c.args.a c.args.b in
    subst (TableTakes members message c.keep.result old) (sym c.keep.ensures.table)
    (subst (λ r. TableTakes members message r old (failed_by c.resume-resumed.result mid)) (sym c.keep.ensures.result)
    (has_taken members message old mid c.in_default.is c.resume-resumed.result resume.worked resume.taken resume.only))
