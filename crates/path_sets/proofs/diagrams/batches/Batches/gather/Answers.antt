use Rattle.std.proofs.Common.{◌≡◌, ◌<◌, IfSome, length, Some, slice_get, slice_set, refl, subst, sym, ap, ◌∙◌}
use Rattle.std.specs.Map.{keys_of}
use Rattle.std.proofs.lemmas.Option.{slice_get_read}
use Rattle.std.proofs.lemmas.Result.{IfOk-weaker, on_err_weaker}
use Rattle.indexmap.specs.IndexMap.{keys}
use Rattle.path_sets.specs.Batches.{gathered_at, masks_in}
use Rattle.path_sets.specs.Contents.{GathersEdge}
use Rattle.path_sets.specs.Members.{Covers}
use Rattle.path_sets.specs.GatheredKeys.{AreWithin, gathered_key, masks_of}
use Rattle.path_sets.proofs.BatchLemmas.{covers_put, home_put, puts_in, same_masks, set_here, gathered_is, within_put}
use Rattle.path_sets.proofs.diagrams.batches.Batches.gather.Given as given
use Rattle.path_sets.proofs.diagrams.batches.Batches.gather.Goals as goal
use Rattle.path_sets.proofs.diagrams.batches.Batches.gather.Goals.{After-index_mut}

module _ (g : given.Over) (c : After-index_mut g) where
  at : slice_get c.args.self.now.batches.items c.args.batch ≡ Some c.index_mut.result.now
  at = slice_get_read c.args.self.now.batches.items _ c.args.batch c.index_mut.result.now refl c.requires.batch.1
      c.index_mut.ensures.value

pub gather-requires : goal.gather-requires
gather-requires g c =
    let i = (goal.at.gather-requires g c).After-index_mut in
    let m = c.args.merged.now in
    let bs = c.args.self.now.batches.items in
    let own = gathered_is bs c.args.batch c.index_mut.result.now (at g i) in record {
      small = c.requires.bit;
      diagram = c.requires.diagram;
      within = subst (AreWithin (keys m.roots)) own (c.requires.fit.within c.args.batch);
      covers = subst (λ es. Covers m.nodes.kept.keys m.roots.entries (masks_of (keys m.roots) es)) own (c.requires.fit.covers c.args.batch);
    }

pub invariant_of-self : goal.invariant_of-self
invariant_of-self g c =
    let i = (goal.at.invariant_of-self g c).After-index_mut in
    let s = c.args.self.now in
    record {
      home = home_put s.batches.items c.args.batch c.index_mut.result.now c.gather.new.self (at g i) (gathered_key
          c.args.diagram c.args.values) c.gather.ensures.keys
          s.homes.items s.home c.requires.batch.0;
    }

pub returns-clause-ok : goal.returns-clause-ok
returns-clause-ok g c =
    let i = (goal.at.returns-clause-ok g c).After-index_mut in
    let s = c.args.self.now in
    let bs = s.batches.items in
    let k = c.args.batch in
    let m = c.args.merged.now in
    let ns = m.nodes.kept.keys in
    let rs = m.roots.entries in
    let diagrams = keys m.roots in
    let b = c.index_mut.result.now in
    let w = c.gather.new.self in
    IfOk-weaker c.gather.result
    (GathersEdge m (gathered_key c.args.diagram c.args.values) c.args.bit (masks_of diagrams b.masks.entries) (masks_of
    diagrams w.masks.entries))
    (GathersEdge m (gathered_key c.args.diagram c.args.values) c.args.bit (masks_in diagrams bs) (masks_in diagrams (slice_set bs k w)))
    (λ added gathers. record {
      puts = puts_in bs k b w (at g i) (gathered_key c.args.diagram c.args.values) c.gather.ensures.keys s.homes.items ns rs
          c.args.bit s.home c.requires.batch.0
          c.requires.fit.within m.unique c.requires.diagram c.requires.bit added gathers.puts;
    }) c.gather.ensures.ok

pub returns-clause-err : goal.returns-clause-err
returns-clause-err g c =
    let i = (goal.at.returns-clause-err g c).After-index_mut in
    let diagrams = keys c.args.merged.now.roots in
    on_err_weaker c.gather.result
    (same_masks diagrams c.args.self.now.batches.items c.args.batch c.index_mut.result.now c.gather.new.self (at g i)) c.gather.ensures.err

pub returns-clause-fit : goal.returns-clause-fit
returns-clause-fit g c =
    let i = (goal.at.returns-clause-fit g c).After-index_mut in
    let m = c.args.merged.now in
    let bs = c.args.self.now.batches.items in
    let k = c.args.batch in record {
      within = within_put bs k c.index_mut.result.now c.gather.new.self (at g i) (gathered_key c.args.diagram c.args.values)
          c.gather.ensures.keys (keys m.roots)
          c.requires.fit.within c.requires.diagram;
      covers = covers_put bs k c.index_mut.result.now c.gather.new.self (at g i) (gathered_key c.args.diagram c.args.values)
          c.gather.ensures.keys m.nodes.kept.keys
          m.roots.entries c.requires.fit.covers c.gather.ensures.covers;
    }

pub returns-clause-place : goal.returns-clause-place
returns-clause-place g c =
    let i = (goal.at.returns-clause-place g c).After-index_mut in
    subst (λ es. IfSome c.gather.new.place (λ n. slice_get (keys_of es) n ≡ Some (gathered_key c.args.diagram c.args.values)))
    (sym (set_here c.args.self.now.batches.items c.args.batch c.index_mut.result.now c.gather.new.self (at g i))) c.gather.ensures.place

pub returns-clause-known : goal.returns-clause-known
returns-clause-known g c = c.gather.ensures.known

pub returns-clause-same : goal.returns-clause-same
returns-clause-same g c same =
    let i = (goal.at.returns-clause-same g c).After-index_mut in
    let bs = c.args.self.now.batches.items in
    let k = c.args.batch in
    c.gather.ensures.same
    (sym (ap length (set_here bs k c.index_mut.result.now c.gather.new.self (at g i))) ∙ same
    ∙ ap length (gathered_is bs k c.index_mut.result.now (at g i)))

pub returns-clause-more : goal.returns-clause-more
returns-clause-more g c more =
    let i = (goal.at.returns-clause-more g c).After-index_mut in
    let bs = c.args.self.now.batches.items in
    let k = c.args.batch in
    c.gather.ensures.more
    (subst (λ n. length c.index_mut.result.now.masks.entries < n)
    (ap length (set_here bs k c.index_mut.result.now c.gather.new.self (at g i)))
    (subst (λ n. n < length (gathered_at (slice_set bs k c.gather.new.self) k))
    (ap length (gathered_is bs k c.index_mut.result.now (at g i))) more))
