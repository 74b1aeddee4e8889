-- What is read off full tables is what the program's procedures do.
use Rattle.std.proofs.Common.{◌↔◌, ◌∙◌, subst}
use Rattle.language.specs.Sequential.{SomeBad}
use Rattle.summaries.specs.Tabulated.{SomePairBad}
use Rattle.summaries.proofs.Steps.{as_many}
use Rattle.summaries.proofs.TabulationLemmas.{all_summaries, all_bad}
use Rattle.summaries.proofs.tabulation.collect.Goals as goal

pub returns-clause-summaries : goal.returns-clause-summaries
returns-clause-summaries g c = λ p ts full off. (
  off.all ∙ as_many g.S.PathSet.members p _ ts full.0,
  all_summaries g.S.PathSet.members p ts full.0 full.1 c.args.procedures.items off,
)

pub returns-clause-bad : goal.returns-clause-bad
returns-clause-bad g c = λ p ts full off.
    subst (λ b. SomePairBad (record { procedures = c.args.procedures.items; bad = c.bad-bad.result }) ↔ SomeBad p b)
    c.bad-bad.ensures
    (all_bad g.S.PathSet.members p ts full.0 full.1 c.args.procedures.items off c.bad-bad.result)
