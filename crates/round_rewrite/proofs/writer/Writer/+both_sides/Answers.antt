use Rattle.std.proofs.Common.{append-nil, sym, ap}
use Rattle.std.proofs.lemmas.Result.{IfOk-weaker}
use Rattle.trees.specs.Trees.{name_of, names_of, rhs_of, rhss_of}
use Rattle.round_rewrite.specs.Writing.{naming_of}
use Rattle.round_rewrite.proofs.TargetLemmas.{empty, targets_next, sides_next}
use Rattle.round_rewrite.proofs.writer.Writer.+both_sides.Goals as goal

pub returns-clause-targets : goal.returns-clause-targets
returns-clause-targets g t c =
    IfOk-weaker c.both_sides.result _ _
    (λ _ l. targets_next (naming_of c.args.self.now) c.args.self.now.rounds.last (names_of c.args.xs.now)
    (rhss_of c.args.rs.now) (name_of c.in-Some.x.now) (names_of c.in-Some.more.now)
    (rhs_of c.in-Some-split_first.r.now) (rhss_of c.in-Some-split_first.others.now)
    (names_of c.args.left.now.items) (names_of c.targets_for.new.into.items) (names_of c.both_sides.new.left.items)
    (ap names_of c.in-Some.ensures.cases.0) (ap rhss_of c.in-Some-split_first.ensures.cases.0)
    c.in_ok-targets_for.ensures l)
    c.both_sides.ensures.targets

pub returns-clause-sides : goal.returns-clause-sides
returns-clause-sides g t c =
    IfOk-weaker c.both_sides.result _ _
    (λ _ l. sides_next (naming_of c.args.self.now) c.args.self.now.rounds.last c.args.number c.draws_for.result
    (names_of c.args.xs.now) (rhss_of c.args.rs.now) (name_of c.in-Some.x.now) (names_of c.in-Some.more.now)
    (rhs_of c.in-Some-split_first.r.now) (rhss_of c.in-Some-split_first.others.now)
    (rhss_of c.args.right.now.items) (rhss_of c.sides_for.new.into.items) (rhss_of c.both_sides.new.right.items)
    (ap names_of c.in-Some.ensures.cases.0) (ap rhss_of c.in-Some-split_first.ensures.cases.0)
    c.in_ok-sides_for.ensures c.draws_for.ensures.count l)
    c.both_sides.ensures.sides

pub returns-in_default-clause-targets : goal.returns-in_default-clause-targets
returns-in_default-clause-targets g t c = rw (empty c.args.xs.now c.in_default.ensures.cases) (sym (append-nil _))

pub returns-in_default-clause-sides : goal.returns-in_default-clause-sides
returns-in_default-clause-sides g t c = rw (empty c.args.xs.now c.in_default.ensures.cases) (sym (append-nil _))

pub returns-in_default-split_first-clause-targets : goal.returns-in_default-split_first-clause-targets
returns-in_default-split_first-clause-targets g t c =
    rw (c.in-Some.ensures.cases.0, empty c.args.rs.now c.in_default-split_first.ensures.cases) (sym (append-nil _))

pub returns-in_default-split_first-clause-sides : goal.returns-in_default-split_first-clause-sides
returns-in_default-split_first-clause-sides g t c =
    rw (c.in-Some.ensures.cases.0, empty c.args.rs.now c.in_default-split_first.ensures.cases) (sym (append-nil _))
