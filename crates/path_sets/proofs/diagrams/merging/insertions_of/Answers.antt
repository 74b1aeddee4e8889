use Rattle.std.proofs.Common.{◌≡◌, Some, slice_get, length, take, sym, ap, ◌∙◌, subst, arith}
use Rattle.path_sets.specs.Insertions.{AreInsertions}
use Rattle.path_sets.specs.Diagrams.{diagram_of}
use Rattle.path_sets.specs.GatheredKeys.{mask_key_at, masks_of}
use Rattle.path_sets.proofs.BatchLemmas.{key_of}
use Rattle.path_sets.proofs.InsertionLemmas.{next_insertion}
use Rattle.path_sets.proofs.PlaceLemmas.{at_index, item_there}
use Rattle.path_sets.proofs.GatheredKeyLemmas.{at_masks, mask_key_is, take_masks}
use Rattle.path_sets.proofs.diagrams.merging.insertions_of.Goals as goal

pub loop-at-preserved : goal.loop-at-preserved
loop-at-preserved g c = record {
  insertions = λ diagrams within.
      let es = c.args.masks.now.entries in
      let at = c.loop-at.at in
      let d = c.gathered_key_at-key.result in
      let s = d.0 in
      let insertion = c.insertion_of.result in
      let there = c.gathered_key_at-key.ensures in
      let (r, here) = item_there diagrams s.diagram (within s (key_of es d (at_index es d at there))) in
      let mask_key = mask_key_is diagrams s r here in
      next_insertion diagrams diagrams (masks_of diagrams es) at c.loop-at.insertions.items c.push.new.self.items
      (mask_key_at diagrams s, d.1) insertion
      (at_masks diagrams es at d there) c.in_ok-push.ensures.items (λ k diagram h. h) (c.loop-at.invariant.insertions diagrams within) (
        ap (slice_get diagrams) c.insertion_of.ensures.diagram ∙ here ∙ ap (λ p. Some (diagram_of p)) (sym mask_key),
        c.insertion_of.ensures.values ∙ c.word.ensures ∙ ap (λ p. p.values) (sym mask_key),
        c.insertion_of.ensures.mask,
      );
}

pub returns : goal.returns
returns g c diagrams within =
    let es = c.args.masks.now.entries in
    let end : c.loop-at.at ≡ length es = omega arith in
    subst (λ ps. AreInsertions diagrams ps c.loop-at.insertions.items)
    (ap (λ n. take n (masks_of diagrams es)) end ∙ take_masks diagrams es)
    (c.loop-at.invariant.insertions diagrams within)
