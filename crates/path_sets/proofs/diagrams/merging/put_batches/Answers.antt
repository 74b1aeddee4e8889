use Rattle.std.proofs.Common.{◌≡◌, ◌<◌, get_or, length, inl, inr, sym, ◌∙◌, subst, arith}
use Rattle.std.proofs.lemmas.Bool.{cases_eq}
use Rattle.std.proofs.lemmas.Option.{slice_get-get_or}
use Rattle.indexmap.specs.IndexMap.{keys}
use Rattle.language.specs.Lists.{Member}
use Rattle.path_sets.specs.declared.diagrams.batch.Batch.{Batch}
use Rattle.path_sets.specs.Edges.{mask_edges}
use Rattle.path_sets.specs.Diagrams.{TakesGiven}
use Rattle.path_sets.specs.Batches.{masks_in, gathered_at}
use Rattle.path_sets.specs.GatheredKeys.{AreWithin, masks_of}
use Rattle.path_sets.proofs.BatchLemmas.{batch_within, in_batch, of_batch, gathered_is}
use Rattle.path_sets.proofs.TakesLemmas.{takes_of, takes_on}
use Rattle.path_sets.proofs.diagrams.merging.put_batches.Given as given
use Rattle.path_sets.proofs.diagrams.merging.put_batches.Goals as goal
use Rattle.path_sets.proofs.diagrams.merging.put_batches.Goals.{After-put_all}

pub put_all-requires : goal.put_all-requires
put_all-requires g c =
    let k = c.loop-at.at in
    let bs = c.args.batches.now in
    let own = get_or bs k c.index-batches-at.result in
    subst (λ diagrams. AreWithin diagrams own.masks.entries) (sym c.loop-at.invariant.same)
    (subst (AreWithin (keys c.args.merged.now.roots)) (gathered_is bs k own (slice_get-get_or bs k c.index-batches-at.result (omega arith)))
    (c.requires k))

module _ (g : given.Over) (c : After-put_all g) (small : c.loop-at.at < length c.args.batches.now) where
  abbrev own : Batch g.row.A.Denot
  own = get_or c.args.batches.now c.loop-at.at c.index-batches-at.result

  is : gathered_at c.args.batches.now c.loop-at.at ≡ own.masks.entries
  is = gathered_is c.args.batches.now c.loop-at.at own (slice_get-get_or c.args.batches.now c.loop-at.at c.index-batches-at.result small)

  -- with this batch more is taken, and nothing else
  taken : TakesGiven (λ t. Member t (mask_edges (masks_in (keys c.args.merged.now.roots) c.args.batches.now)))
      c.args.merged.now.nodes.kept.keys
      c.put_all.new.merged.nodes.kept.keys c.args.merged.now.roots.entries c.put_all.new.merged.roots.entries
  taken =
      let diagrams = keys c.args.merged.now.roots in
      let bs = c.args.batches.now in
      takes_on (λ t. Member t (mask_edges (masks_in diagrams bs))) _ c.loop-at.merged.nodes.kept.keys _ _
      c.loop-at.merged.roots.entries _ c.loop-at.invariant.taken
      (takes_of (λ t. Member t (mask_edges (masks_of (keys c.loop-at.merged.roots) own.masks.entries)))
      (λ t. Member t (mask_edges (masks_in diagrams bs))) _ _ _ _
      (λ t m. of_batch diagrams bs c.loop-at.at t (subst (λ es. Member t (mask_edges (masks_of diagrams es))) (sym is)
      (subst (λ ks. Member t (mask_edges (masks_of ks own.masks.entries))) c.loop-at.invariant.same m))) c.put_all.ensures.takes)

pub returns-in_err-put_all-clause-takes : goal.returns-in_err-put_all-clause-takes
returns-in_err-put_all-clause-takes g c =
    taken g (goal.at.returns-in_err-put_all-clause-takes g c).After-put_all (omega arith)

pub loop-at-preserved : goal.loop-at-preserved
loop-at-preserved g c =
    let p = (goal.at.loop-at-preserved g c).After-put_all in
    let diagrams = keys c.args.merged.now.roots in
    let bs = c.args.batches.now in
    record {
      same = c.put_all.ensures.keys ∙ c.loop-at.invariant.same;
      taken = taken g p (omega arith);
      all = λ k t less m. elim (cases_eq k c.loop-at.at) [
        | inl here ↦ c.in_ok-put_all.ensures.all t
            (subst (λ ks. Member t (mask_edges (masks_of ks (own g p (omega arith)).masks.entries))) (sym c.loop-at.invariant.same)
            (subst (λ es. Member t (mask_edges (masks_of diagrams es))) (is g p (omega arith))
            (subst (λ n. Member t (mask_edges (masks_of diagrams (gathered_at bs n)))) here m)))
        | inr ne ↦ c.put_all.ensures.takes.kept t (c.loop-at.invariant.all k t (omega (arith, less, ne)) m)
      ];
    }

pub returns-clause-all : goal.returns-clause-all
returns-clause-all g c t m =
    let diagrams = keys c.args.merged.now.roots in
    let (k, there) = in_batch diagrams c.args.batches.now t m in
    let within = batch_within diagrams c.args.batches.now k t there in
    c.loop-at.invariant.all k t (omega (arith, within)) there
