use Rattle.std.proofs.Common.{◌≡◌, ◌∷◌, [], Some, Ok, refl, ap, ◌∙◌, subst, length-append, arith}
use Rattle.summaries.specs.Grows.{triple_of, IsFoundBy}
use Rattle.path_sets.specs.EdgeLimits.{most_of}
use Rattle.summaries.specs.Tables.{limit_of, IsLessBeside, IsThere, Worked}
use Rattle.summaries.proofs.AsideLemmas.{aside_as}
use Rattle.summaries.proofs.FrontierLemmas.{same_found}
use Rattle.summaries.proofs.table.Table.follow.Goals as goal

pub edges-preserved : goal.edges-preserved
edges-preserved g c =
    let old = c.edges.self in
    let new = c.work.new.self in
    let members = g.S.PathSet.members in
    let next = c.in-Some.next in
    let ok = c.in_ok-next.ensures in
    let so_far = c.edges.invariant in
    let worked = subst (λ one. Worked members (IsFoundBy (Ok one)) (Ok one) old new) c.in-Some.is ok.worked in
    let there = subst (λ one. IsThere members (Ok one) new) c.in-Some.is ok.there in
    let less = subst (λ one. IsLessBeside members (Ok one) old new) c.in-Some.is ok.less in
    let longer = length-append new.found.pending.items (next ∷ []) in (
      (
        worked.holds.0,
        aside_as new.graph.now new.procedure new.found (members new.edges) (IsFoundBy (Ok (Some next))) (λ t. t ≡ triple_of next)
            (λ t (found, is, at). at ∙ ap triple_of (same_found next found is)) worked.holds.1,
      ),
      there (triple_of next) (next, refl, refl),
      worked.within,
      (ok.taken.0 ∙ so_far.3.0, ok.taken.1 ∙ so_far.3.1),
      worked.answers ∙ so_far.4,
      record {
        graph = worked.stays.graph ∙ so_far.5.graph;
        procedure = worked.stays.procedure ∙ so_far.5.procedure;
        limit = worked.stays.limit ∙ so_far.5.limit;
      },
      worked.fault ∙ so_far.6,
      (omega (arith, longer, less.0, so_far.7.0), omega (arith, less.1, so_far.7.1)),
    )

pub edges-smaller : goal.edges-smaller
edges-smaller g c =
    let old = c.edges.self in
    let new = c.work.new.self in
    let members = g.S.PathSet.members in
    let next = c.in-Some.next in
    let ok = c.in_ok-next.ensures in
    let less = subst (λ one. IsLessBeside members (Ok one) old new) c.in-Some.is ok.less in
    let longer = length-append new.found.pending.items (next ∷ []) in
    let limit : limit_of new ≡ limit_of old = ap most_of ok.worked.stays.limit in
    let within = ok.worked.within in
    omega (arith, longer, less.0, less.1, limit, within)
