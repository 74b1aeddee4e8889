use Rattle.std.proofs.Common.{◌∙◌, []}
use Rattle.trees.specs.Trees.{names_of, tree_of, threads_of}
use Rattle.round_rewrite.specs.Table.{main}
use Rattle.round_rewrite.specs.Names.{by_names}
use Rattle.round_rewrite.specs.Writing.{line_names}
use Rattle.round_rewrite.proofs.procedures.first.Goals as goal

pub returns : goal.returns
returns g c =
    let t = tree_of c.args.program.now in
    let body = c.in_ok-body.ensures
    ∙ (λ i.
    main (by_names []) c.args.rounds.last (names_of (c.deref.ensures.value i)) (line_names (threads_of (c.deref-2.ensures.value i)))) in
    λ i. record {
      name = c.in_ok-name.ensures i;
      formals = names_of (c.new-formals.ensures.items i);
      locals = names_of (c.new-locals.ensures.items i);
      body = body i;
    }
