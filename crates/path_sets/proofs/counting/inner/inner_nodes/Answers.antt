use Rattle.std.proofs.Common.{◌≡◌, ◌+◌, ◌-◌, true, false, length, get_or, slice_set, sym, ap, ◌∙◌, subst, arith}
use Rattle.std.proofs.lemmas.List.{get_or_read, length-set}
use Rattle.path_sets.proofs.WalkLemmas.{node_of}
use Rattle.path_sets.proofs.CountLemmas.{all_counted}
use Rattle.path_sets.proofs.ReachedLemmas.{Marked, root_marked, left_out, put_in, none_of}
use Rattle.path_sets.proofs.counting.inner.inner_nodes.Goals as goal
use Rattle.path_sets.proofs.counting.inner.inner_nodes.Goals.{then-index, else-index}

pub loop-at-init : goal.loop-at-init
loop-at-init g c =
    let s = c.args.nodes.now in
    let xs = c.in_ok-reached.reached.items in
    let n = c.args.number in
    let fresh = c.in_ok-reached.ensures.items_if_clones_equal (λ y same. same) in
    let long : length xs ≡ n + 1 = omega (arith, c.in_ok-reached.ensures.len) in
    root_marked s.kept.keys s.down s.ordered n xs c.requires long (λ i. ap (λ ys. get_or ys i false) fresh ∙ none_of (n + 1) i)
    (length-set xs n true ∙ long)

pub loop-at-preserved : goal.loop-at-preserved
loop-at-preserved g c =
    let s = c.args.nodes.now in
    let xs = c.loop-at.reached.items in
    let at = c.loop-at.at in
    let i = c.loop-at.invariant in
    let long = i.long in
    let least = i.least in
    let inner = c.loop-at-test.true in
    let read = get_or_read xs at c.index.result.now (omega (arith, long, least)) c.index.ensures false in
    elim c.if-index.branch [
      | then-index w ↦
          let x = w.index-node.result.now in
          let low = length-set xs x.low true ∙ i.long in
          let high = length-set (slice_set xs x.low true) x.high true ∙ low in
          subst (λ v. Marked s.kept.keys s.down s.ordered c.args.number v.items (at - 1) c.if-index.count) (sym w.reached-is)
          (subst (λ k. Marked s.kept.keys s.down s.ordered c.args.number (slice_set (slice_set xs x.low true) x.high true) (at - 1) k)
          (sym w.count-is)
          (put_in s.kept.keys s.down s.ordered c.args.number xs at c.loop-at.count i inner x (sym read ∙ w.if-index.true)
          (node_of s.kept.keys at x inner w.index-node.ensures) low high))
      | else-index w ↦
          subst (λ v. Marked s.kept.keys s.down s.ordered c.args.number v.items (at - 1) c.if-index.count) (sym w.reached-is)
          (subst (λ k. Marked s.kept.keys s.down s.ordered c.args.number xs (at - 1) k) (sym w.count-is)
          (left_out s.kept.keys s.down s.ordered c.args.number xs at c.loop-at.count i inner (sym read ∙ w.if-index.false)))
    ]

pub returns : goal.returns
returns g c =
    let s = c.args.nodes.now in
    all_counted s.kept.keys s.down s.ordered s.reduced s.once c.args.number c.loop-at.reached.items c.loop-at.at c.loop-at.count c.requires
    c.loop-at.invariant c.loop-at-test.false

pub overflow_add-number : goal.overflow_add-number
overflow_add-number g c = record { fits = omega (arith, c.ranges.number.fits) }

pub index_mut-requires : goal.index_mut-requires
index_mut-requires g c = omega (arith, c.in_ok-reached.ensures.len)

pub overflow_cast-at : goal.overflow_cast-at
overflow_cast-at g c = record { fits = omega arith }

pub index-requires : goal.index-requires
index-requires g c = omega arith

pub overflow_sub-at : goal.overflow_sub-at
overflow_sub-at g c = omega arith

pub overflow_cast-at-then-index : goal.overflow_cast-at-then-index
overflow_cast-at-then-index g c = record { fits = omega arith }

pub overflow_add-count : goal.overflow_add-count
overflow_add-count g c = record { fits = omega arith }

pub overflow_sub-at-in-loop-at : goal.overflow_sub-at-in-loop-at
overflow_sub-at-in-loop-at g c = omega arith

pub loop-at-smaller : goal.loop-at-smaller
loop-at-smaller g c = omega arith
