use Rattle.std.proofs.Common.{sym, subst}
use Rattle.summaries.specs.declared.due.Due.TheVariants.{Entry}
use Rattle.summaries.specs.Tables.{TableTakes, failed_by}
use Rattle.summaries.proofs.TakenLemmas.{has_taken}
use Rattle.summaries.proofs.table.Table.take_entry.Goals as goal

pub returns : goal.returns
returns g c =
    let old = c.args.self.now in
    let mid = c.enter-entered.new.self in
    let enter = c.enter-entered.ensures in
    let members = g.S.PathSet.members in
    let message = Entry c.args.caller c.args.a in
    subst (TableTakes members message c.keep.result old) (sym c.keep.ensures.table)
    (subst (λ r. TableTakes members message r old (failed_by c.enter-entered.result mid)) (sym c.keep.ensures.result)
    (has_taken members message old mid c.in_default.is c.enter-entered.result enter.worked enter.taken enter.only))
