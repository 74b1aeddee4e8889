use Rattle.std.proofs.Common.{refl, ap, arith, length}
use Rattle.trees.specs.Trees.{name_of, names_of, rhs_of, rhss_of}
use Rattle.round_rewrite.specs.Writing.{naming_of}
use Rattle.round_rewrite.proofs.TargetLemmas.{empty, draws_next}
use Rattle.round_rewrite.proofs.writer.Writer.+draws.Goals as goal

pub returns-in_default-clause-count : goal.returns-in_default-clause-count
returns-in_default-clause-count g t c = rw (empty c.args.xs.now c.in_default.ensures.cases) refl

pub returns-in_default-split_first-clause-count : goal.returns-in_default-split_first-clause-count
returns-in_default-split_first-clause-count g t c =
    rw (c.in-Some.ensures.cases.0, empty c.args.rs.now c.in_default-split_first.ensures.cases) refl

pub returns-clause-count : goal.returns-clause-count
returns-clause-count g t c =
    draws_next (naming_of c.args.self.now) c.args.self.now.rounds.last (names_of c.args.xs.now) (rhss_of c.args.rs.now)
    (name_of c.in-Some.x.now) (names_of c.in-Some.more.now) (rhs_of c.in-Some-split_first.r.now)
    (rhss_of c.in-Some-split_first.others.now) c.draws_for.result c.draws.result
    (ap names_of c.in-Some.ensures.cases.0) (ap rhss_of c.in-Some-split_first.ensures.cases.0)
    c.draws_for.ensures.count c.draws.ensures.count

pub returns-clause-few : goal.returns-clause-few
returns-clause-few g t c =
    omega (arith, ap length c.in-Some.ensures.cases.0, c.draws.ensures.few, c.draws_for.ensures.few)

pub overflow_add-result : goal.overflow_add-result
overflow_add-result g t c =
    omega (arith, ap length c.in-Some.ensures.cases.0, c.draws.ensures.few, c.draws_for.ensures.few)
