-- The label stands at a statement, inside of it, or after it.
use Rattle.std.proofs.Common.{◌≡◌, ◌+◌, [], ◌∷◌, drop, refl, ◌∙◌, ap, sym, arith}
use Rattle.language.specs.Resolve.{resolve_block}
use Rattle.language.specs.Rest.{join, first_of_two}
use Rattle.language.specs.Sequential.{statements, numbered}
use Rattle.trees.specs.Trees.{block_of}
use Rattle.trees.proofs.Held.{smaller}
use Rattle.flow_graph.proofs.CountLemmas.{alone_counts, next_counts}
use Rattle.flow_graph.proofs.LabelLemmas.{place, place_next, place_nowhere, found_first, found_second}
use Rattle.flow_graph.proofs.labels.+finding.Goals as goal

pub find-find_at-requires : goal.find-find_at-requires
find-find_at-requires g t c κs within =
    let part = smaller c.args.stmts.now c.loop-stmt.stmt-index c.stmt-item.result c.loop-stmt-test.true c.stmt-item.is in
    (rw (← c.requires.1.0) (omega (arith, part)), within)

pub find-returns-in-Some : goal.find-returns-in-Some
find-returns-in-Some g t c s k most =
    let x = c.args.label.now in
    let stmt = c.stmt-item.result in
    let more = drop (c.loop-stmt.stmt-index + 1) c.args.stmts.now in
    let j = c.loop-stmt.at + statements (block_of (stmt ∷ [])) in
    let (so_far, same) = c.loop-stmt.invariant s k most in
    let next = next_counts c.args.stmts.now c.loop-stmt.stmt-index stmt c.loop-stmt-test.true c.stmt-item.is in
    let here = c.find_at.ensures s (join (numbered j (resolve_block s (block_of more))) k) (omega (arith, so_far, next, most)) in
    sym (
    same
    ∙ place_next x c.loop-stmt.at j s c.args.stmts.now c.loop-stmt.stmt-index stmt k c.loop-stmt-test.true c.stmt-item.is refl
    ∙ ap (λ o. first_of_two o (place x (numbered j (resolve_block s (block_of more))) k)) (sym here ∙ c.in-Some.is)
    )

pub find-loop-stmt-preserved : goal.find-loop-stmt-preserved
find-loop-stmt-preserved g t c s k most =
    let x = c.args.label.now in
    let stmt = c.stmt-item.result in
    let more = drop (c.loop-stmt.stmt-index + 1) c.args.stmts.now in
    let (so_far, same) = c.loop-stmt.invariant s k most in
    let next = next_counts c.args.stmts.now c.loop-stmt.stmt-index stmt c.loop-stmt-test.true c.stmt-item.is in
    let one = c.size_of.ensures (omega (arith, so_far, next, most)) in
    let j : c.saturating_add-at.result ≡ c.loop-stmt.at + statements (block_of (stmt ∷ [])) = omega
    (arith, so_far, next, one, most, c.saturating_add-at.ensures) in
    let here = c.find_at.ensures s (join (numbered c.saturating_add-at.result (resolve_block s (block_of more))) k)
    (omega (arith, so_far, next, most)) in (
      omega (arith, so_far, next, j),
      same
          ∙ place_next x c.loop-stmt.at c.saturating_add-at.result s c.args.stmts.now c.loop-stmt.stmt-index stmt
          k c.loop-stmt-test.true c.stmt-item.is j
          ∙ ap (λ o. first_of_two o (place x (numbered c.saturating_add-at.result (resolve_block s (block_of more))) k))
          (sym here ∙ c.in_default.is),
    )

pub find-returns : goal.find-returns
find-returns g t c s k most =
    sym ((c.loop-stmt.invariant s k most).1
    ∙ place_nowhere c.args.label.now c.loop-stmt.at s c.args.stmts.now c.loop-stmt.stmt-index k c.loop-stmt-test.false)

pub find_at-returns-in-Some : goal.find_at-returns-in-Some
find_at-returns-in-Some g t c =
    let first = c.inside.result.0.now in
    let second = c.inside.result.1.now in
    found_first c.args.label.now c.args.stmt.now c.args.number c.saturating_add-inside.result
    (sym c.is_labelled.ensures ∙ c.if-is_labelled.false) first second c.inside.ensures.first c.inside.ensures.second
    (λ most. omega (arith, c.saturating_add-inside.ensures, alone_counts c.args.stmt.now, most))
    c.in-Some.found c.in-Some.ensures

pub find_at-returns-in-None : goal.find_at-returns-in-None
find_at-returns-in-None g t c =
    let first = c.inside.result.0.now in
    let second = c.inside.result.1.now in
    let whole = alone_counts c.args.stmt.now in
    let is_first = ap statements c.inside.ensures.first in
    let next = c.saturating_add-inside.ensures in
    found_second c.args.label.now c.args.stmt.now c.args.number c.saturating_add-inside.result
    (sym c.is_labelled.ensures ∙ c.if-is_labelled.false) first second c.inside.ensures.first c.inside.ensures.second
    (λ most. omega (arith, next, whole, most)) c.saturating_add.result c.find-in-None.result
    (λ most.
    let size = c.size.ensures (omega (arith, whole, is_first, most)) in
    omega (arith, next, size, c.saturating_add.ensures, whole, is_first, most))
    c.in-None.ensures c.find-in-None.ensures

pub find_at-find-requires : goal.find_at-find-requires
find_at-find-requires g t c κs within =
    (rw (← c.requires.1.0) (omega (arith, ap statements c.inside.ensures.first)), within)

pub find_at-find-requires-in-None : goal.find_at-find-requires-in-None
find_at-find-requires-in-None g t c κs within =
    (rw (← c.requires.1.0) (omega (arith, ap statements c.inside.ensures.second)), within)

pub find-loop-stmt-init : goal.find-loop-stmt-init
find-loop-stmt-init g n c = λ s k fits. (refl, refl)
