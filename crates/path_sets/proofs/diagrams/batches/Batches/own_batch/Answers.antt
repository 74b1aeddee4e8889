use Rattle.std.proofs.Common.{refl, sym, ap, ◌∙◌, arith}
use Rattle.std.proofs.lemmas.Option.{same_Some, slice_get_read}
use Rattle.path_sets.specs.Batches.{gathered_at}
use Rattle.path_sets.proofs.BatchLemmas.{gathered_behind, gathered_is}
use Rattle.path_sets.proofs.diagrams.batches.Batches.own_batch.Goals as goal
use Rattle.std.proofs.lemmas.List.{nil_from_length}

pub returns-then-at-len-clause-none : goal.returns-then-at-len-clause-none
returns-then-at-len-clause-none g c _ k is =
    let s = c.args.self.now in
    let i = c.index-at.result.now in
    let own = slice_get_read s.homes.items _ c.args.diagram i refl (omega arith) c.index-at.ensures in
    ap (gathered_at s.batches.items) (same_Some k i (sym is ∙ own)) ∙ gathered_behind s.batches.items i (omega arith)

pub returns-then-is_empty-clause-none : goal.returns-then-is_empty-clause-none
returns-then-is_empty-clause-none g c _ k is =
    let s = c.args.self.now in
    let bs = s.batches.items in
    let i = c.index-at.result.now in
    let own = slice_get_read s.homes.items _ c.args.diagram i refl (omega arith) c.index-at.ensures in
    let at = slice_get_read bs _ i c.index.result.now refl (omega arith) c.index.ensures in
    let none = nil_from_length c.index.result.now.masks.entries (c.is_empty.ensures.0 c.if-is_empty.true) in
    ap (gathered_at bs) (same_Some k i (sym is ∙ own)) ∙ gathered_is bs i c.index.result.now at ∙ none

pub returns-clause-some : goal.returns-clause-some
returns-clause-some g c =
    let s = c.args.self.now in (
      slice_get_read s.homes.items _ c.args.diagram c.index-at.result.now refl (omega arith) c.index-at.ensures,
      omega arith,
    )
