use Rattle.summaries.proofs.TableLemmas.{kept_edge, answer_due, answered_due, over_limit}
use Rattle.summaries.proofs.laws.a_table_keeps_path_edges_and_answers_what_is_due.Goals as goal

pub returns-clause-edges : goal.returns-clause-edges
returns-clause-edges g c = kept_edge g.S.PathSet.members

pub returns-clause-answer : goal.returns-clause-answer
returns-clause-answer g c = λ p q old t to d is. answer_due g.S.PathSet.members p q t is old to d

pub returns-clause-answered : goal.returns-clause-answered
returns-clause-answered g c = λ p q t x is fault there. answered_due g.S.PathSet.members p q t is fault x there

pub returns-clause-limit : goal.returns-clause-limit
returns-clause-limit g c = over_limit g.S.PathSet.members
