use Rattle.std.proofs.Common.{◌≡◌, ◌∙◌, ap, sym, subst, arith, []}
use Rattle.trees.specs.Trees.{names_of, items_of, all_before}
use Rattle.round_rewrite.specs.Table.{numbers, guesses}
use Rattle.round_rewrite.specs.Names.{by_names}
use Rattle.round_rewrite.specs.Writing.{Lays}
use Rattle.round_rewrite.proofs.Mains.{guesses_next}
use Rattle.round_rewrite.proofs.main_procedure.MainWriter.guesses.Goals as goal

pub loop-before-preserved : goal.loop-before-preserved
loop-before-preserved g c =
    let next = guesses_next (by_names []) c.args.self.now.rounds.last (names_of c.args.self.now.globals.now) c.loop-before.before in
    λ k. c.in_ok-guess.ensures k ∙ (c.loop-before.invariant _ ∙ ap (all_before (items_of c.args.into.now.items)) (sym (next k)))

pub returns : goal.returns
returns g c =
    let last = c.args.self.now.rounds.last in
    let all : c.loop-before.before ≡ last = omega (arith, c.loop-before-test.false, c.loop-before.auto.before-end) in
    subst (λ n. Lays c.args.into.now.items c.loop-before.into.items (guesses (by_names []) last
    (names_of c.args.self.now.globals.now) (numbers 1 n)))
    all c.loop-before.invariant
