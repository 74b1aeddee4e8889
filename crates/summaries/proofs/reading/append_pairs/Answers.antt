-- The pair of one more exit is appended.
use Rattle.std.proofs.Common.{◌++◌, ◌∷◌, [], false, map, take, get_or, sym, ap, ◌∙◌}
use Rattle.std.proofs.lemmas.List.{take_all, take_more, map-append, append_assoc}
use Rattle.flow_graph.specs.declared.exit.Exit.{Exit}
use Rattle.summaries.specs.declared.pair.Pair.{Pair}
use Rattle.summaries.specs.Exits.{pair}
use Rattle.summaries.specs.Found.{left}
use Rattle.summaries.proofs.reading.append_pairs.Goals as goal

pub loop-exit-preserved : goal.loop-exit-preserved
loop-exit-preserved g c =
    let xs = c.args.left.now in
    let i = c.loop-exit.exit-index in
    let f : Exit → Pair = pair c.args.entry in
    let none : Exit = left 0 false in
    let x = get_or xs i none in
    c.in_ok-append.ensures.ok ∙ (λ j. c.loop-exit.invariant j ++ f x ∷ [])
    ∙ append_assoc c.args.pairs.now.items (map f (take i xs)) (f x ∷ [])
    ∙ ap (λ l. c.args.pairs.now.items ++ l)
    (sym (ap (map f) (take_more xs i none c.loop-exit-test.true) ∙ map-append f (take i xs) (x ∷ [])))

pub returns : goal.returns
returns g c =
    c.loop-exit.invariant
    ∙ ap (λ l. c.args.pairs.now.items ++ map (pair c.args.entry) l)
    (take_all c.loop-exit.exit-index c.args.left.now c.loop-exit-test.false)
