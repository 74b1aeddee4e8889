use Rattle.std.proofs.Common.{sym, ◌∙◌}
use Rattle.path_sets.specs.Triples.{triple}
use Rattle.path_sets.proofs.OrderLemmas.{found_is_member, member_is_found}
use Rattle.path_sets.proofs.ordered_edges.OrderedEdgesPathSet.contains.Goals as goal

pub returns : goal.returns
returns g c =
    let t = triple c.args.entry c.args.point c.args.values in (
      λ is. found_is_member t c.args.self.now.edges.keys (sym c.contains.ensures ∙ is),
      λ there. c.contains.ensures ∙ member_is_found t c.args.self.now.edges.keys there,
    )
