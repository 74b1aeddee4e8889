-- After the exit's flow, those of the body.
use Rattle.std.proofs.Common.{◌≡◌, ◌++◌, ◌∷◌, [], length, refl, sym, ◌∙◌, ap, arith}
use Rattle.std.proofs.lemmas.List.{length-map}
use Rattle.language.specs.Tree.{done}
use Rattle.language.specs.Resolve.{resolve_block}
use Rattle.language.specs.Sequential.{numbered}
use Rattle.language.proofs.Rests.{join_done}
use Rattle.trees.specs.Trees.{name_of, names_of, block_of}
use Rattle.resolved.proofs.Counted.{width_counted}
use Rattle.flow_graph.specs.Nodes.{point_at}
use Rattle.flow_graph.specs.Drawing.{names_in}
use Rattle.flow_graph.specs.Located.{given_mask}
use Rattle.flow_graph.specs.declared.flow.Flow.TheVariants as flow
use Rattle.flow_graph.proofs.GraphLemmas.{routine_in, drawn_flows}
use Rattle.flow_graph.proofs.drawing.graph.Goals as goal

pub block-requires : goal.block-requires
block-requires g c =
    let gs = c.as_slice.ensures.value in
    let fs = c.as_slice-2.ensures.value in
    let ls = c.as_slice-3.ensures.value in
    let ps = c.as_slice-4.ensures.value in
    let body = c.as_slice-body.ensures.value in (
      omega (arith, c.requires.0, width_counted c.args.program.now c.args.proc.now, ap length gs, ap length fs, ap length ls),
      omega (arith, c.requires.1, ap length ps),
      c.mask_of_result-result.ensures
          ∙ λ t. given_mask (length (names_of (sym gs t))) (routine_in (sym gs t) (sym fs t) (sym ls t) (sym ps t) (sym body t)),
    )

pub overflow_cast-len : goal.overflow_cast-len
overflow_cast-len g c = omega (arith, c.requires.0, width_counted c.args.program.now c.args.proc.now, c.len.ensures)

pub returns : goal.returns
returns g c =
    let t = c.args.program.now in
    let p = c.args.proc.now in
    let s = names_in t p in
    let body = c.as_slice-body.ensures.value in
    let old = c.push.new.list.items in
    let start : old ≡ flow.Return ∷ [] = c.in_ok-push.ensures ∙ ap (λ l. l ++ (flow.Return ∷ [])) c.new-flows.ensures.items in
    let lowered = c.in_ok-block.ensures in
    let small = c.block.new.flows.small in
    let one = ap length start in (
      c.new.ensures ∙ c.len.ensures ∙ t.globals.ok.0 ∙ sym (length-map t.globals.items name_of),
      c.first_point.ensures s done refl ∙ ap point_at
          (join_done (numbered 1 (resolve_block s (block_of c.as_slice-body.result.now)))) ∙
          ap (λ l. point_at (numbered 1 (resolve_block s (block_of l)))) body,
      drawn_flows _ _ _ _ _ _ _ _ _ _ old c.block.new.flows.items c.as_slice.ensures.value c.as_slice-2.ensures.value
          c.as_slice-3.ensures.value c.as_slice-4.ensures.value body start
          (lowered.1 done refl (omega (arith, lowered.0, small, one), omega (arith, lowered.0, small, one))),
      c.mask_of_result-result.ensures,
    )
