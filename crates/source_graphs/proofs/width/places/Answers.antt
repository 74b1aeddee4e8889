-- The places are counted one kind after the other.
use Rattle.std.proofs.Common.{◌∙◌, ap, arith}
use Rattle.language.specs.Resolve.{gives_value}
use Rattle.resolved.proofs.Counted.{as_number, width_counted}
use Rattle.trees.specs.Trees.{block_of}
use Rattle.source_graphs.proofs.width.places.Goals as goal

pub returns : goal.returns
returns g c =
    let proc = c.args.proc.now in
    let given =
    as_number c.give_value.result (gives_value (block_of proc.body.items))
    (c.give_value.ensures ∙ ap (λ l. gives_value (block_of l)) c.deref.ensures.value) in
    let counted = width_counted c.args.program.now proc in
    omega (arith, counted, given)
