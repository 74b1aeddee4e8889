use Rattle.std.proofs.Common.{◌≡◌, ◌∙◌, ap, sym, subst, arith, []}
use Rattle.trees.specs.Trees.{names_of, items_of, all_before}
use Rattle.round_rewrite.specs.Table.{numbers, checks}
use Rattle.round_rewrite.specs.Names.{by_names}
use Rattle.round_rewrite.specs.Writing.{Lays}
use Rattle.round_rewrite.proofs.Mains.{checks_next}
use Rattle.round_rewrite.proofs.main_procedure.MainWriter.checks.Goals as goal

pub loop-round-preserved : goal.loop-round-preserved
loop-round-preserved g c =
    let next = checks_next (by_names []) c.args.self.now.rounds.last (names_of c.args.self.now.globals.now) c.loop-round.round in
    λ k. c.in_ok-check.ensures k ∙ (c.loop-round.invariant _ ∙ ap (all_before (items_of c.args.into.now.items)) (sym (next k)))

pub returns : goal.returns
returns g c =
    let last = c.args.self.now.rounds.last in
    let all : c.loop-round.round ≡ last = omega (arith, c.loop-round-test.false, c.loop-round.auto.round-end) in
    subst (λ n. Lays c.args.into.now.items c.loop-round.into.items (checks (by_names []) last
    (names_of c.args.self.now.globals.now) (numbers 0 n)))
    all c.loop-round.invariant
