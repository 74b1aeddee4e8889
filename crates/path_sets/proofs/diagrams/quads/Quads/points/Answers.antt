use Rattle.std.proofs.Common.{sym, ◌∙◌, arith}
use Rattle.path_sets.proofs.QuadLemmas.{here, no_points, on_inside, on_same}
use Rattle.path_sets.proofs.diagrams.quads.Quads.points.Goals as goal

pub returns-then-rest-eq0 : goal.returns-then-rest-eq0
returns-then-rest-eq0 g c =
    let ns = c.args.self.now.kept.keys in
    sym (here ns c.loop-at.at c.loop-at.rest c.index.result.now c.loop-at-test.true c.index.ensures c.if-rest-eq0.true)
    ∙ c.loop-at.invariant.same

pub loop-at-preserved : goal.loop-at-preserved
loop-at-preserved g c =
    let s = c.args.self.now in
    let ns = s.kept.keys in
    let i = c.loop-at.invariant in
    let x = c.index.result.now in
    record {
      inside = rw c.child-at.ensures (on_inside ns s.down c.loop-at.at c.loop-at.rest x c.loop-at-test.true c.index.ensures i.inside);
      same = rw c.child-at.ensures (on_same ns c.loop-at.at c.loop-at.rest x c.loop-at-test.true c.index.ensures c.if-rest-eq0.false
          ∙ i.same);
    }

pub returns : goal.returns
returns g c =
    sym (no_points c.args.self.now.kept.keys c.loop-at.at c.loop-at.rest (omega (arith, c.loop-at-test.false))) ∙ c.loop-at.invariant.same
