use Rattle.std.proofs.Common.{◌*◌, List, arith, refl, sym, subst}
use Rattle.path_sets.specs.declared.counting.bit_node.BitNode.{BitNode}
use Rattle.path_sets.specs.Diagrams.{KeepsNodes}
use Rattle.path_sets.specs.OneBitDiagrams.{AreSolved}
use Rattle.path_sets.proofs.OneBitLemmas.{found_more, found_on, last_answers, next_below, none_answers, on, children_answer, stays_below}
use Rattle.path_sets.proofs.counting.one_bit.+at_point.Goals as goal

pub at_point-returns-then-subproblem-clause-answers : goal.at_point-returns-then-subproblem-clause-answers
at_point-returns-then-subproblem-clause-answers g t c =
    last_answers c.args.quads.now.kept.keys c.args.bit c.args.nodes.now.kept.keys c.args.subproblem 1
    (omega arith) c.if-subproblem-eq-LEVELS.true
    c.if-subproblem.true

pub at_point-returns-else-subproblem-clause-answers : goal.at_point-returns-else-subproblem-clause-answers
at_point-returns-else-subproblem-clause-answers g t c =
    last_answers c.args.quads.now.kept.keys c.args.bit c.args.nodes.now.kept.keys c.args.subproblem 0
    (omega arith) c.if-subproblem-eq-LEVELS.true
    c.if-subproblem.false

pub at_point-returns-then-not-subproblem-clause-answers : goal.at_point-returns-then-not-subproblem-clause-answers
at_point-returns-then-not-subproblem-clause-answers g t c =
    none_answers c.args.quads.now.kept.keys c.args.bit c.args.nodes.now.kept.keys c.args.subproblem c.requires.level
    c.if-subproblem-le-FULL.true c.if-not-subproblem.true

pub at_point-returns-in-Some-clause-answers : goal.at_point-returns-in-Some-clause-answers
at_point-returns-in-Some-clause-answers g t c = c.requires.memo c.args.subproblem c.in-Some.number.now (sym c.in-Some.ensures.value)

pub at_point-returns-in_err-insert-clause-memo : goal.at_point-returns-in_err-insert-clause-memo
at_point-returns-in_err-insert-clause-memo g t c =
    subst (AreSolved c.args.quads.now.kept.keys c.args.bit c.from_children.new.nodes.kept.keys) (sym c.in_err-insert.ensures.err)
    c.in_ok-number.ensures.memo

pub at_point-returns-clause-memo : goal.at_point-returns-clause-memo
at_point-returns-clause-memo g t c =
    found_more c.args.quads.now.kept.keys c.args.bit c.from_children.new.nodes.kept.keys c.from_children.new.memo.entries
    c.insert.new.self.entries c.args.subproblem c.in_ok-number.number c.in_ok-number.ensures.memo c.in_ok-number.ensures.answers
    c.in_ok-insert.ensures.updates.0

-- the nodes that there were before the four ways on
before_low : (n0 n1 n2 n3 n4 n5 : List BitNode) → KeepsNodes n0 n1 → KeepsNodes n1 n2 → KeepsNodes n2 n3 → KeepsNodes n3 n4
    → KeepsNodes n4 n5
    → KeepsNodes n0 n5
before_low n0 n1 n2 n3 n4 n5 a b c d e = on n0 n4 n5 (on n0 n2 n4 (on n0 n1 n2 a b) (on n2 n3 n4 c d)) e

pub from_children-returns-in_err-low-clause-keeps : goal.from_children-returns-in_err-low-clause-keeps
from_children-returns-in_err-low-clause-keeps g t c =
    before_low c.args.nodes.now.kept.keys c.at_point.new.nodes.kept.keys c.at_point-2.new.nodes.kept.keys
    c.at_point-3.new.nodes.kept.keys c.at_point-4.new.nodes.kept.keys c.make.new.self.kept.keys c.in_ok-none.ensures.keeps
    c.in_ok-first.ensures.keeps c.in_ok-second.ensures.keeps c.in_ok-both.ensures.keeps c.make.ensures.keeps

pub from_children-returns-in_err-low-clause-memo : goal.from_children-returns-in_err-low-clause-memo
from_children-returns-in_err-low-clause-memo g t c =
    found_on c.args.quads.now.kept.keys c.args.bit c.at_point-4.new.nodes.kept.keys c.make.new.self.kept.keys c.make.ensures.keeps
    c.at_point-4.new.memo.entries c.in_ok-both.ensures.memo

pub from_children-returns-in_err-high-clause-keeps : goal.from_children-returns-in_err-high-clause-keeps
from_children-returns-in_err-high-clause-keeps g t c =
    let n5 = c.make.new.self.kept.keys in
    on c.args.nodes.now.kept.keys n5 c.make-2.new.self.kept.keys
    (before_low c.args.nodes.now.kept.keys c.at_point.new.nodes.kept.keys c.at_point-2.new.nodes.kept.keys
    c.at_point-3.new.nodes.kept.keys c.at_point-4.new.nodes.kept.keys n5 c.in_ok-none.ensures.keeps
    c.in_ok-first.ensures.keeps c.in_ok-second.ensures.keeps c.in_ok-both.ensures.keeps c.make.ensures.keeps)
    c.make-2.ensures.keeps

pub from_children-returns-in_err-high-clause-memo : goal.from_children-returns-in_err-high-clause-memo
from_children-returns-in_err-high-clause-memo g t c =
    let n4 = c.at_point-4.new.nodes.kept.keys in
    let n5 = c.make.new.self.kept.keys in
    let n6 = c.make-2.new.self.kept.keys in
    found_on c.args.quads.now.kept.keys c.args.bit n4 n6 (on n4 n5 n6 c.make.ensures.keeps c.make-2.ensures.keeps)
    c.at_point-4.new.memo.entries c.in_ok-both.ensures.memo

pub from_children-make-requires : goal.from_children-make-requires
from_children-make-requires g t c =
    let n1 = c.at_point.new.nodes.kept.keys in
    let n2 = c.at_point-2.new.nodes.kept.keys in
    let n3 = c.at_point-3.new.nodes.kept.keys in
    let n4 = c.at_point-4.new.nodes.kept.keys in
    let none = next_below c.args.quads.now.kept.keys c.args.bit n1 n4 _ c.args.subproblem.level c.in_ok-none.none refl
    c.in_ok-none.ensures.answers
    (on n1 n3 n4 (on n1 n2 n3 c.in_ok-first.ensures.keeps c.in_ok-second.ensures.keeps) c.in_ok-both.ensures.keeps) in
    let second =
    next_below c.args.quads.now.kept.keys c.args.bit n3 n4 c.subproblem_at-second.result c.args.subproblem.level c.in_ok-second.second
    c.subproblem_at-second.ensures.level c.in_ok-second.ensures.answers c.in_ok-both.ensures.keeps in
    record { level = omega arith; inside = (none.0, second.0); deep = (none.1, second.1) }

pub from_children-make-requires-2 : goal.from_children-make-requires-2
from_children-make-requires-2 g t c =
    let n2 = c.at_point-2.new.nodes.kept.keys in
    let n3 = c.at_point-3.new.nodes.kept.keys in
    let n4 = c.at_point-4.new.nodes.kept.keys in
    let n5 = c.make.new.self.kept.keys in
    let first =
    next_below c.args.quads.now.kept.keys c.args.bit n2 n5 c.subproblem_at-first.result c.args.subproblem.level c.in_ok-first.first
    c.subproblem_at-first.ensures.level c.in_ok-first.ensures.answers
    (on n2 n4 n5 (on n2 n3 n4 c.in_ok-second.ensures.keeps c.in_ok-both.ensures.keeps) c.make.ensures.keeps) in
    let both = next_below c.args.quads.now.kept.keys c.args.bit n4 n5 c.subproblem_at-both.result c.args.subproblem.level c.in_ok-both.both
    c.subproblem_at-both.ensures.level c.in_ok-both.ensures.answers c.make.ensures.keeps in
    record { level = omega arith; inside = (first.0, both.0); deep = (first.1, both.1) }

pub from_children-make-requires-3 : goal.from_children-make-requires-3
from_children-make-requires-3 g t c =
    let low = stays_below c.make.new.self.kept.keys c.make-2.new.self.kept.keys c.in_ok-low.low (2 * c.args.subproblem.level)
    c.make-2.ensures.keeps c.in_ok-low.ensures.inside (omega (arith, c.in_ok-low.ensures.deep)) in
    record {
      level = omega arith;
      inside = (low.0, c.in_ok-high.ensures.inside);
      deep = (low.1, omega (arith, c.in_ok-high.ensures.deep));
    }

pub from_children-returns-clause-keeps : goal.from_children-returns-clause-keeps
from_children-returns-clause-keeps g t c =
    let n5 = c.make.new.self.kept.keys in
    let n6 = c.make-2.new.self.kept.keys in
    let n7 = c.make-3.new.self.kept.keys in
    on c.args.nodes.now.kept.keys n5 n7
    (before_low c.args.nodes.now.kept.keys c.at_point.new.nodes.kept.keys c.at_point-2.new.nodes.kept.keys
    c.at_point-3.new.nodes.kept.keys c.at_point-4.new.nodes.kept.keys n5 c.in_ok-none.ensures.keeps
    c.in_ok-first.ensures.keeps c.in_ok-second.ensures.keeps c.in_ok-both.ensures.keeps c.make.ensures.keeps)
    (on n5 n6 n7 c.make-2.ensures.keeps c.make-3.ensures.keeps)

pub from_children-returns-clause-memo : goal.from_children-returns-clause-memo
from_children-returns-clause-memo g t c =
    let n4 = c.at_point-4.new.nodes.kept.keys in
    let n5 = c.make.new.self.kept.keys in
    let n6 = c.make-2.new.self.kept.keys in
    let n7 = c.make-3.new.self.kept.keys in
    found_on c.args.quads.now.kept.keys c.args.bit n4 n7
    (on n4 n6 n7 (on n4 n5 n6 c.make.ensures.keeps c.make-2.ensures.keeps) c.make-3.ensures.keeps)
    c.at_point-4.new.memo.entries c.in_ok-both.ensures.memo

pub from_children-returns-clause-answers : goal.from_children-returns-clause-answers
from_children-returns-clause-answers g t c =
    let x = c.node-quad.result in
    let first = c.subproblem_at-first in
    let second = c.subproblem_at-second in
    let both = c.subproblem_at-both in
    children_answer c.args.quads.now.kept.keys c.args.bit c.at_point.new.nodes.kept.keys c.at_point-2.new.nodes.kept.keys
    c.at_point-3.new.nodes.kept.keys c.at_point-4.new.nodes.kept.keys c.make.new.self.kept.keys c.make-2.new.self.kept.keys
    c.in_ok-first.ensures.keeps c.in_ok-second.ensures.keeps c.in_ok-both.ensures.keeps c.make.ensures.keeps c.make-2.ensures.keeps
    c.args.subproblem first.result second.result both.result x c.in_ok-none.none c.in_ok-first.first c.in_ok-second.second
    c.in_ok-both.both c.in_ok-low.low c.in_ok-high.high c.node-quad.ensures.same
    (first.ensures.number, first.ensures.zero, first.ensures.level)
    (second.ensures.number, second.ensures.zero, second.ensures.level)
    (both.ensures.number, both.ensures.zero, both.ensures.level)
    c.in_ok-none.ensures.answers c.in_ok-first.ensures.answers c.in_ok-second.ensures.answers c.in_ok-both.ensures.answers
    c.in_ok-low.ensures.inside c.in_ok-low.ensures.joined c.in_ok-high.ensures.joined c.make-3.new.self.kept.keys c.make-3.result
    c.make-3.ensures.inside c.make-3.ensures.deep c.make-3.ensures.joined

pub from_children-overflow_add-level : goal.from_children-overflow_add-level
from_children-overflow_add-level g t c = record { fits = omega (arith, c.requires.level) }

pub from_children-overflow_mul-subproblem : goal.from_children-overflow_mul-subproblem
from_children-overflow_mul-subproblem g t c = record { fits = omega (arith, c.requires.level) }

pub from_children-overflow_add-subproblem : goal.from_children-overflow_add-subproblem
from_children-overflow_add-subproblem g t c = record { fits = omega (arith, c.requires.level) }

pub from_children-overflow_mul-subproblem-2 : goal.from_children-overflow_mul-subproblem-2
from_children-overflow_mul-subproblem-2 g t c = record { fits = omega (arith, c.requires.level) }

pub from_children-overflow_add-subproblem-2 : goal.from_children-overflow_add-subproblem-2
from_children-overflow_add-subproblem-2 g t c = record { fits = omega (arith, c.requires.level) }

pub from_children-overflow_mul-subproblem-3 : goal.from_children-overflow_mul-subproblem-3
from_children-overflow_mul-subproblem-3 g t c = record { fits = omega (arith, c.requires.level) }

pub at_point-returns-in-Some-clause-memo : goal.at_point-returns-in-Some-clause-memo
at_point-returns-in-Some-clause-memo g t c = c.requires.memo

pub at_point-returns-in_err-number-clause-keeps : goal.at_point-returns-in_err-number-clause-keeps
at_point-returns-in_err-number-clause-keeps g t c = c.from_children.ensures.keeps

pub at_point-returns-in_err-number-clause-memo : goal.at_point-returns-in_err-number-clause-memo
at_point-returns-in_err-number-clause-memo g t c = c.from_children.ensures.memo

pub at_point-returns-in_err-insert-clause-keeps : goal.at_point-returns-in_err-insert-clause-keeps
at_point-returns-in_err-insert-clause-keeps g t c = c.in_ok-number.ensures.keeps

pub at_point-returns-clause-keeps : goal.at_point-returns-clause-keeps
at_point-returns-clause-keeps g t c = c.in_ok-number.ensures.keeps

pub at_point-returns-clause-answers : goal.at_point-returns-clause-answers
at_point-returns-clause-answers g t c = c.in_ok-number.ensures.answers

pub from_children-node-quad-requires : goal.from_children-node-quad-requires
from_children-node-quad-requires g t c = c.requires.inside
