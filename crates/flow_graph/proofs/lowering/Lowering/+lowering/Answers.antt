-- Statements are lowered one after the other, and those inside of each after it.
use Rattle.std.proofs.Common.{◌≡◌, length, map, refl, sym, ◌∙◌, ap, subst, arith}
use Rattle.std.proofs.lemmas.List.{nil_from_length}
use Rattle.std.proofs.lemmas.Result.{IfOk-weaker}
use Rattle.language.specs.Resolve.{resolve_block}
use Rattle.language.specs.Rest.{join}
use Rattle.language.specs.Sequential.{statements, numbered}
use Rattle.language.specs.Flow.{rests}
use Rattle.trees.specs.Trees.{deed_of, block_of, rhs_of}
use Rattle.trees.proofs.Held.{held, first_counts}
use Rattle.trees.proofs.Folds.{deed_of-If, deed_of-While}
use Rattle.trees.proofs.Plain.{is_simple}
use Rattle.flow_graph.specs.Nodes.{point_at, node_of}
use Rattle.flow_graph.specs.Flows.{Lowered}
use Rattle.flow_graph.specs.Lowering.{lowering_scope, lowered_routine, lowered_widths, code_from, LoweredIn}
use Rattle.flow_graph.proofs.CountLemmas.{split_counts}
use Rattle.flow_graph.proofs.LoweringLemmas.{nodes_split, lowered_then, lowered_none}
use Rattle.flow_graph.proofs.Statements.{put_first, lowered_simple, lowered_branch, lowered_repeat}
use Rattle.flow_graph.proofs.lowering.Lowering.+lowering.Goals as goal

pub block-loop-stmt-init : goal.block-loop-stmt-init
block-loop-stmt-init g t c = (omega arith, refl, λ k new at_k few h. h)

pub block-statement-requires : goal.block-statement-requires
block-statement-requires g t c κs within =
    let stmt = c.in-Some.stmt.now in
    let more = c.in-Some.more.now in
    let whole = ap (λ l. statements (block_of l)) c.in-Some.ensures.cases.0 in
    let first = first_counts stmt more in
    (rw (← c.decreases) (omega (arith, c.loop-stmt.invariant.0, whole, first)), (within.0, (within.1, c.requires)))

pub block-loop-stmt-smaller : goal.block-loop-stmt-smaller
block-loop-stmt-smaller g t c = omega (arith, ap length c.in-Some.ensures.cases.0)

pub block-loop-stmt-preserved : goal.block-loop-stmt-preserved
block-loop-stmt-preserved g t c =
    let me = c.args.self.now in
    let s = lowering_scope me in
    let stmt = c.in-Some.stmt.now in
    let more = c.in-Some.more.now in
    let old = c.loop-stmt.flows.items in
    let mid = c.statement.new.flows.items in
    let e = c.in-Some.ensures.cases.0 in
    let whole = ap (λ l. statements (block_of l)) e in
    let split = split_counts stmt more in
    let lowered = c.in_ok-statement.ensures in
    let small = c.statement.new.flows.small in (
      omega (arith, c.loop-stmt.invariant.0, whole, split),
      omega (arith, c.loop-stmt.invariant.1, lowered.0, whole, split),
      λ k new at_k few h.
          let one = c.size_of.ensures (omega (arith, lowered.0, small)) in
          let behind : c.saturating_add-behind.result ≡ length mid =
          omega (arith, c.saturating_add-behind.ensures, c.len.ensures, c.loop-stmt.flows.ok.0, one, lowered.0, small) in
          let next = c.first_point.ensures s k at_k ∙ ap (λ j. point_at (join (numbered j (resolve_block s (block_of more))) k)) behind in
          let first = lowered.1 (join (code_from me (length mid) more) k) (sym next) (few.0, omega (arith, lowered.0, small)) in
          c.loop-stmt.invariant.2 k new at_k few
          (subst (λ ns. Lowered old new ns (lowered_widths me))
          (sym (ap (λ x. map (node_of (lowered_routine me)) (rests (code_from me (length old) x) k)) e ∙
          nodes_split (lowered_routine me) (length old) (length mid) s stmt more k lowered.0))
          (lowered_then old mid new _ _ _ first h)),
    )

pub block-returns : goal.block-returns
block-returns g t c =
    let me = c.args.self.now in
    let old = c.loop-stmt.flows.items in
    let s = lowering_scope me in
    let none = nil_from_length c.loop-stmt.rest.now c.in_default.ensures.cases in (
      omega (arith, c.loop-stmt.invariant.1, ap (λ l. statements (block_of l)) none),
      λ k at_k few.
          c.loop-stmt.invariant.2 k old at_k few
          (subst (λ x. Lowered old old (map (node_of (lowered_routine me)) (rests (code_from me (length old) x) k))
          (lowered_widths me)) (sym none) (lowered_none old (lowered_widths me))),
    )

pub statement-returns-in_ok-block-in-If : goal.statement-returns-in_ok-block-in-If
statement-returns-in_ok-block-in-If g t c =
    let me = c.args.self.now in
    let after = c.args.after in
    let mid = c.block.new.flows.items in
    let number = c.len-number.ensures ∙ c.args.flows.now.ok.0 in
    let core = ap deed_of c.in-If.is ∙ deed_of-If c.in-If.field-0 c.in-If.a c.in-If.b in
    let old = c.put.new.list.items in
    let left = subst (λ x. LoweredIn me old mid x after) c.deref.ensures.value c.in_ok-block-in-If.ensures in
    IfOk-weaker c.block-in-If.result _ _
    (λ u right.
    lowered_branch me c.args.stmt.now after (rhs_of c.in-If.field-0) c.in-If.a.items c.in-If.b.items _ _ _ _ core
    (put_first me c.args.stmt.now after _ _ _ c.flow.result c.flow.ensures c.in_ok-put.ensures number) left
    (subst (λ x. LoweredIn me mid c.block-in-If.new.flows.items x after) c.deref-in-If.ensures.value right))
    c.block-in-If.ensures

pub statement-returns-in-While : goal.statement-returns-in-While
statement-returns-in-While g t c =
    let me = c.args.self.now in
    let core = ap deed_of c.in-While.is ∙ deed_of-While c.in-While.field-0 c.in-While.a in
    let number = c.len-number.ensures ∙ c.args.flows.now.ok.0 in
    IfOk-weaker c.block-in-While.result _ _
    (λ u inside.
    lowered_repeat me c.args.stmt.now c.args.after (rhs_of c.in-While.field-0) c.in-While.a.items _ _ _ core
    (put_first me c.args.stmt.now c.args.after _ _ _ c.flow.result c.flow.ensures c.in_ok-put.ensures number)
    (subst (LoweredIn me c.put.new.list.items c.block-in-While.new.flows.items c.in-While.a.items) number
    (subst (λ x. LoweredIn me c.put.new.list.items c.block-in-While.new.flows.items x c.len-number.result)
    c.deref-in-While.ensures.value inside)))
    c.block-in-While.ensures

pub statement-returns-in_default : goal.statement-returns-in_default
statement-returns-in_default g t c =
    let (deed, is) = is_simple c.args.stmt.now.core c.in_default.not-If c.in_default.not-While in
    let number = c.len-number.ensures ∙ c.args.flows.now.ok.0 in
    let me = c.args.self.now in
    lowered_simple me c.args.stmt.now c.args.after deed _ _ is
    (put_first me c.args.stmt.now c.args.after _ _ _ c.flow.result c.flow.ensures c.in_ok-put.ensures number)

pub statement-block-requires : goal.statement-block-requires
statement-block-requires g t c κs within =
    let parts = ap held (ap deed_of c.in-If.is ∙ deed_of-If _ _ _) in
    let inside = ap (λ l. statements (block_of l)) c.deref.ensures.value in
    (rw (← c.decreases) (omega (arith, parts, inside)), (within.0, (within.1, c.requires)))

pub statement-block-requires-in-If : goal.statement-block-requires-in-If
statement-block-requires-in-If g t c κs within =
    let parts = ap held (ap deed_of c.in-If.is ∙ deed_of-If _ _ _) in
    let inside = ap (λ l. statements (block_of l)) c.deref-in-If.ensures.value in
    (rw (← c.decreases) (omega (arith, parts, inside)), (within.0, (within.1, c.requires)))

pub statement-block-requires-in-While : goal.statement-block-requires-in-While
statement-block-requires-in-While g t c κs within =
    let parts = ap held (ap deed_of c.in-While.is ∙ deed_of-While _ _) in
    let inside = ap (λ l. statements (block_of l)) c.deref-in-While.ensures.value in
    (rw (← c.decreases) (omega (arith, parts, inside)), (within.0, (within.1, c.requires)))
