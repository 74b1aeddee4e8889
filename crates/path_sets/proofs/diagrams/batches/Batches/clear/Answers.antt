use Rattle.std.proofs.Common.{◌<◌, subst, sym, ◌∙◌, arith}
use Rattle.path_sets.proofs.BatchLemmas.{home_cleared, set_others, set_within}
use Rattle.path_sets.proofs.diagrams.batches.Batches.clear.Goals as goal

pub invariant_of-self : goal.invariant_of-self
invariant_of-self g c =
    let s = c.args.self.now in
    let bs = s.batches.items in
    let k = c.args.at in
    let w = c.new.result in
    record {
      home = home_cleared bs _ k (set_others bs k w) s.homes.items s.home (set_within bs k w c.requires ∙ c.new.ensures);
    }

pub returns-clause-here : goal.returns-clause-here
returns-clause-here g c =
    set_within c.args.self.now.batches.items c.args.at c.new.result c.requires ∙ c.new.ensures

pub returns-clause-others : goal.returns-clause-others
returns-clause-others g c = set_others c.args.self.now.batches.items c.args.at c.new.result

pub index-requires : goal.index-requires
index-requires g c = subst (λ n. c.args.at < n) (sym c.args.self.now.batches.ok.0) c.requires

pub index_mut-requires : goal.index_mut-requires
index_mut-requires g c = subst (λ n. c.args.at < n) (sym c.args.self.now.batches.ok.0) c.requires

pub overflow_add-at : goal.overflow_add-at
overflow_add-at g c = record { fits = omega (arith, c.ranges.at.fits, c.requires) }
