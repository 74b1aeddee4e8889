use Rattle.std.proofs.Common.{refl, length}
use Rattle.trees.specs.Trees.{tree_of}
use Rattle.round_rewrite.specs.Places.{global_count}
use Rattle.round_rewrite.proofs.Widths.{narrow_procedures, few_needs}
use Rattle.round_rewrite.proofs.rewriting.narrow_rewritten.Goals as goal

pub procedures-requires : goal.procedures-requires
procedures-requires g c =
    let t = tree_of c.args.program.now in
    let n = global_count (length t.globals) c.args.rounds.last in
    few_needs n t.procedures (narrow_procedures t c.args.rounds.last n refl c.requires)
