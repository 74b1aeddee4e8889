use Rattle.gather.proofs.report.check_rounds.Goals as goal

pub returns-clause-report : goal.returns-clause-report
returns-clause-report g c = c.check_rounds_with.ensures.report

pub returns-clause-none : goal.returns-clause-none
returns-clause-none g c = c.check_rounds_with.ensures.none
