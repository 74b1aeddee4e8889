use Rattle.std.proofs.Common.{◌≡◌, Some, slice_get, refl, subst, ap, sym, ◌∙◌}
use Rattle.std.specs.Map.{keys_of}
use Rattle.std.proofs.lemmas.Option.{slice_get_read}
use Rattle.indexmap.specs.IndexMap.{keys}
use Rattle.path_sets.specs.Members.{Covers}
use Rattle.path_sets.specs.GatheredKeys.{AreWithin, masks_of}
use Rattle.path_sets.proofs.BatchLemmas.{covers_put, gathered_is, home_put, puts_in, set_here, within_put}
use Rattle.path_sets.proofs.diagrams.batches.Batches.gather_at.Given as given
use Rattle.path_sets.proofs.diagrams.batches.Batches.gather_at.Goals as goal
use Rattle.path_sets.proofs.diagrams.batches.Batches.gather_at.Goals.{After-index_mut}

module _ (g : given.Over) (c : After-index_mut g) where
  at : slice_get c.args.self.now.batches.items c.args.batch ≡ Some c.index_mut.result.now
  at = slice_get_read c.args.self.now.batches.items _ c.args.batch c.index_mut.result.now refl c.requires.batch.1
      c.index_mut.ensures.value

pub gather_at-requires-clause-here : goal.gather_at-requires-clause-here
gather_at-requires-clause-here g c =
    let i = (goal.at.gather_at-requires-clause-here g c).After-index_mut in
    let bs = c.args.self.now.batches.items in
    subst (λ es. slice_get (keys_of es) c.args.at ≡ Some c.args.key) (gathered_is bs c.args.batch c.index_mut.result.now (at
    g i)) c.requires.here

pub gather_at-requires-clause-may : goal.gather_at-requires-clause-may
gather_at-requires-clause-may g c =
    let i = (goal.at.gather_at-requires-clause-may g c).After-index_mut in
    let m = c.args.merged.now in
    let bs = c.args.self.now.batches.items in
    let own = gathered_is bs c.args.batch c.index_mut.result.now (at g i) in record {
      small = c.requires.bit;
      diagram = c.requires.diagram;
      within = subst (AreWithin (keys m.roots)) own (c.requires.fit.within c.args.batch);
      covers = subst (λ es. Covers m.nodes.kept.keys m.roots.entries (masks_of (keys m.roots) es)) own (c.requires.fit.covers c.args.batch);
    }

pub invariant_of-self : goal.invariant_of-self
invariant_of-self g c =
    let i = (goal.at.invariant_of-self g c).After-index_mut in
    let s = c.args.self.now in
    record {
      home = home_put s.batches.items c.args.batch c.index_mut.result.now c.gather_at.new.self (at g i) c.args.key c.gather_at.ensures.keys
          s.homes.items s.home c.requires.batch.0;
    }

pub returns-clause-ok : goal.returns-clause-ok
returns-clause-ok g c =
    let i = (goal.at.returns-clause-ok g c).After-index_mut in
    let s = c.args.self.now in
    let m = c.args.merged.now in
    record {
      puts = puts_in s.batches.items c.args.batch c.index_mut.result.now c.gather_at.new.self (at g i) c.args.key c.gather_at.ensures.keys
          s.homes.items m.nodes.kept.keys m.roots.entries c.args.bit s.home c.requires.batch.0 c.requires.fit.within m.unique
          c.requires.diagram c.requires.bit c.gather_at.result c.gather_at.ensures.ok.puts;
    }

pub returns-clause-keys : goal.returns-clause-keys
returns-clause-keys g c =
    let i = (goal.at.returns-clause-keys g c).After-index_mut in
    let bs = c.args.self.now.batches.items in
    ap keys_of (set_here bs c.args.batch c.index_mut.result.now c.gather_at.new.self (at g i))
    ∙ c.gather_at.ensures.same ∙ sym (ap keys_of (gathered_is bs c.args.batch c.index_mut.result.now (at g i)))

pub returns-clause-fit : goal.returns-clause-fit
returns-clause-fit g c =
    let i = (goal.at.returns-clause-fit g c).After-index_mut in
    let m = c.args.merged.now in
    let bs = c.args.self.now.batches.items in
    let k = c.args.batch in record {
      within = within_put bs k c.index_mut.result.now c.gather_at.new.self (at g i) c.args.key c.gather_at.ensures.keys (keys m.roots)
          c.requires.fit.within c.requires.diagram;
      covers = covers_put bs k c.index_mut.result.now c.gather_at.new.self (at g i) c.args.key c.gather_at.ensures.keys m.nodes.kept.keys
          m.roots.entries c.requires.fit.covers c.gather_at.ensures.covers;
    }
