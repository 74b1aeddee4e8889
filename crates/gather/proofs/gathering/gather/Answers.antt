-- If no end names a cause, the tables are full; otherwise the least cause is returned.
use Rattle.std.proofs.Common.{subst}
use Rattle.path_sets.specs.EdgeLimits.{most_of}
use Rattle.summaries.proofs.TabulationLemmas.{few}
use Rattle.gather.specs.Findings.{ends_in}
use Rattle.gather.specs.Gathered.{NoneFailed}
use Rattle.gather.proofs.Causes.{by_memory}
use Rattle.gather.proofs.ReadingLemmas.{every_closed, board_closed, tables, tables_full, tables_limit, all_read}
use Rattle.gather.proofs.gathering.gather.Given.{Over}
use Rattle.gather.proofs.gathering.gather.Goals as goal
use Rattle.gather.proofs.gathering.gather.Goals.{In_default}

none_failed : (g : Over) (c : In_default g) → NoneFailed (ends_in c.args.findings.items)
none_failed g c = subst (λ l. NoneFailed (ends_in l)) c.deref.ensures.value c.in_default.ensures

pub returns-in_err-summaries : goal.returns-in_err-summaries
returns-in_err-summaries g c = λ histories closed of.
    let none = none_failed g (goal.at.returns-in_err-summaries g c).In_default in
    by_memory _ (ends_in c.args.findings.items) _ c.from_residual.result c.from_residual.ensures.1 (λ why is. is)
    (every_closed g.S.PathSet.members c.args.graphs.now histories closed c.args.findings.items of none)

pub returns : goal.returns
returns g c = λ histories closed of.
    let members = g.S.PathSet.members in
    let graphs = c.args.graphs.now in
    let findings = c.args.findings.items in
    let none = none_failed g (goal.at.returns g c).In_default in
    let off = all_read members graphs histories closed findings of none c.in_ok-summaries.summaries.items c.in_ok-summaries.ensures in
    let whole = tables_full members graphs histories closed findings of none in
    let all = tables members graphs histories closed findings of none in (
      record {
        shut = board_closed members graphs histories closed findings of none;
        ended = every_closed members graphs histories closed findings of none;
        summaries = λ p drawn. c.collect.ensures.summaries p all (whole p drawn) off;
        bad = λ p drawn. c.collect.ensures.bad p all (whole p drawn) off;
        few = λ p drawn.
            few members p all (whole p drawn).0 (whole p drawn).1 (most_of of.limit)
            (tables_limit members graphs histories closed findings of none);
      },
      tt,
    )
