-- The places are counted, and they are at most 128.
use Rattle.std.proofs.Common.{◌≡◌, ◌+◌, ◌∙◌, ap, sym, subst, arith}
use mir.Val.{bool_byte}
use Rattle.language.specs.Resolve.{gives_value}
use Rattle.resolved.specs.There.{IsThere}
use Rattle.trees.specs.Trees.{tree_of, proc_of, block_of}
use Rattle.resolved.specs.Narrow.{width}
use Rattle.resolved.proofs.Counted.{proc_there, as_number, width_counted, places_few, width_few}
use Rattle.resolved.proofs.sequential.Sequential.width.Goals as goal

pub overflow_add-result : goal.overflow_add-result
overflow_add-result g c =
    omega (
      arith,
      places_few c.args.self.now.program c.args.procedure c.index-proc.result.now c.requires c.index-proc.ensures c.args.self.now.narrow,
    )

pub overflow_add-result-2 : goal.overflow_add-result-2
overflow_add-result-2 g c =
    omega (
      arith,
      width_few c.args.self.now.program c.args.procedure c.index-proc.result.now c.give_value-given.result
          (c.give_value-given.ensures ∙ ap (λ l. gives_value (block_of l)) c.deref.ensures.value) c.requires c.index-proc.ensures
          c.args.self.now.narrow,
    )

pub overflow_cast-result : goal.overflow_cast-result
overflow_cast-result g c =
    omega (
      arith,
      width_few c.args.self.now.program c.args.procedure c.index-proc.result.now c.give_value-given.result
          (c.give_value-given.ensures ∙ ap (λ l. gives_value (block_of l)) c.deref.ensures.value) c.requires c.index-proc.ensures
          c.args.self.now.narrow,
    )

pub returns : goal.returns
returns g c =
    let program = c.args.self.now.program in
    let proc = c.index-proc.result.now in
    let given =
    as_number c.give_value-given.result _ (c.give_value-given.ensures ∙ ap (λ l. gives_value (block_of l)) c.deref.ensures.value) in
    let all = c.len-3.result + (c.len.result + c.len-2.result) + bool_byte c.give_value-given.result in
    let counted = width_counted program proc in
    let same : all ≡ width (tree_of program) (proc_of proc) = omega (arith, counted, given) in
    subst (λ o. IsThere o (λ p. all ≡ width (tree_of program) p))
    (sym (proc_there program.procs.items c.args.procedure proc c.requires c.index-proc.ensures)) same
