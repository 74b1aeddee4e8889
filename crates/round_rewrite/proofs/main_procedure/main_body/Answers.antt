use Rattle.std.proofs.Common.{◌∙◌, ap, []}
use Rattle.language.specs.Tree.{done}
use Rattle.trees.specs.Trees.{names_of, threads_of, items_of, all_before}
use Rattle.round_rewrite.specs.Table.{numbers, guesses, starts, checks}
use Rattle.round_rewrite.specs.Names.{by_names}
use Rattle.round_rewrite.specs.Writing.{line_names}
use Rattle.round_rewrite.proofs.main_procedure.main_body.Goals as goal

pub returns : goal.returns
returns g c =
    let xs = names_of c.args.globals.now in
    let last = c.args.rounds.last in
    c.in_ok-checks.ensures done
    ∙ (c.in_ok-starts.ensures _
    ∙ (c.in_ok-guesses.ensures _
    ∙ ap (λ ss. all_before (items_of ss) (guesses (by_names []) last xs (numbers 1 last)
    (starts (by_names []) last (line_names (threads_of c.args.threads.now)) (checks (by_names []) last xs (numbers 0 last) done))))
    c.new-body.ensures.items))
