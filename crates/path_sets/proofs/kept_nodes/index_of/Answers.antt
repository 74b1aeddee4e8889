use Rattle.std.proofs.Common.{◌≡◌, sym, subst, slice_get, Some}
use Rattle.path_sets.proofs.StoreLemmas.{put_in}
use Rattle.path_sets.proofs.kept_nodes.index_of.Goals as goal

pub returns-clause-at : goal.returns-clause-at
returns-clause-at g c =
    let (node, here, is) = c.in_ok-at.ensures.stored in
    subst (λ x. slice_get c.insert_full.new.self.keys c.in_ok-at.at ≡ Some x) (sym (c.requires c.args.node node is)) here

pub returns-clause-grown : goal.returns-clause-grown
returns-clause-grown g c =
    put_in g.T.PartialEq.eq g.met.T.Eq.laws.refl c.args.node c.args.kept.now.keys c.insert_full.new.self.keys c.in_ok-at.ensures.keys
