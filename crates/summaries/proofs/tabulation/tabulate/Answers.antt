-- The tables are those of the program, and full in the end.
use Rattle.std.proofs.Common.{◌≡◌, Err, sym, ap, ◌∙◌, subst}
use Rattle.flow_graph.specs.Graphs.{AreDrawnFrom}
use Rattle.summaries.specs.declared.no_verdict.NoVerdict.TheVariants as verdict
use Rattle.summaries.proofs.Steps.{limit_told, new_tables}
use Rattle.summaries.proofs.TabulationLemmas.{few}
use Rattle.summaries.specs.Tabulated.{HasMoreEdges}
use Rattle.summaries.specs.Together.{HaveLimit, AreFull}
use Rattle.summaries.proofs.tabulation.tabulate.Given.{Over}
use Rattle.summaries.proofs.tabulation.tabulate.Goals as goal
use Rattle.summaries.proofs.tabulation.tabulate.Goals.{In_ok-read-in-Ok}
use Rattle.path_sets.specs.EdgeLimits.{most_of}

pub run-requires : goal.run-requires
run-requires g c κs within =
    let new = c.in_ok-tables.ensures in
    let asked = c.requires.1 in (
      within.0,
      (
        within.1.0,
        (
          within.1.1,
          new_tables g.S.PathSet.members g.program c.in_ok-tables.tables.items
              (subst (AreDrawnFrom g.program) (sym new.graphs) asked.1.1) new.new,
        ),
      ),
    )

pub returns-clause-limit : goal.returns-clause-limit
returns-clause-limit g c = λ q e.
    let named : c.no_verdict.result ≡ verdict.EdgeLimit q = cc in
    let (is, same) = limit_told _ q c.in-Err.fault (sym c.no_verdict.ensures ∙ named) in
    subst (λ n. HasMoreEdges g.program n (most_of c.args.limit)) same
    (c.in-Err.ensures.limit (ap Err is) (most_of c.args.limit) c.in_ok-tables.ensures.limit)

-- no table owes anything in the end
tables_full : (g : Over) (c : In_ok-read-in-Ok g) → AreFull g.S.PathSet.members g.program c.deref.result.now
tables_full g c =
    let ran = c.in-Ok.ensures in
    subst (AreFull g.S.PathSet.members g.program) (sym c.deref.ensures.value) (ran.tables, ran.quiet)

pub returns-in-Ok-clause-summaries : goal.returns-in-Ok-clause-summaries
returns-in-Ok-clause-summaries g c = c.collect.ensures.summaries g.program c.deref.result.now
    (tables_full g ((goal.at.returns-in-Ok-clause-summaries g c).In_ok-read-in-Ok)) c.in_ok-read-in-Ok.ensures

pub returns-in-Ok-clause-bad : goal.returns-in-Ok-clause-bad
returns-in-Ok-clause-bad g c = c.collect.ensures.bad g.program c.deref.result.now
    (tables_full g ((goal.at.returns-in-Ok-clause-bad g c).In_ok-read-in-Ok)) c.in_ok-read-in-Ok.ensures

pub returns-in-Ok-clause-few : goal.returns-in-Ok-clause-few
returns-in-Ok-clause-few g c =
    let full = tables_full g ((goal.at.returns-in-Ok-clause-few g c).In_ok-read-in-Ok) in
    few g.S.PathSet.members g.program c.deref.result.now full.0 full.1 (most_of c.args.limit)
    (subst (HaveLimit (most_of c.args.limit)) (sym c.deref.ensures.value)
    (c.in-Ok.ensures.limits (most_of c.args.limit) c.in_ok-tables.ensures.limit))

pub returns-in-Ok-clause-limit : goal.returns-in-Ok-clause-limit
returns-in-Ok-clause-limit g c = λ q is. let no : ⊥ = cc in absurd no
