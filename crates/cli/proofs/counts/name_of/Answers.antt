-- The name is that of the procedure in the program's text.
use Rattle.std.proofs.Common.{◌≡◌, ◌∙◌, ◌<◌, ◌-◌, Some, suc, arith, ap, length, map, subst, sym, slice_get}
use Rattle.std.proofs.lemmas.List.{length-map}
use Rattle.language.specs.Tree.{Procedure}
use Rattle.trees.specs.Trees.{proc_of, tree_of}
use Rattle.cli.specs.Counts.{procedure_names}
use Rattle.cli.proofs.Counting.{named_at}
use Rattle.cli.proofs.counts.name_of.Goals as goal

pub returns-else-number-eq0 : goal.returns-else-number-eq0
returns-else-number-eq0 g c =
    let ps = c.args.program.now.procs.items in
    let i = c.args.number - 1 in
    let within = c.requires in
    let many = length-map (map proc_of ps) (λ (p : Procedure). p.name.text) ∙ length-map ps proc_of in
    let not_first = c.if-number-eq0.false in
    let lt : i < length ps = omega (arith, within, many, not_first) in
    let next : suc i ≡ c.args.number = omega (arith, not_first) in
    subst (λ n. slice_get (procedure_names (tree_of c.args.program.now)) n ≡ Some c.as_str.result.now) next
    (named_at ps i c.index.result.now lt c.index.ensures ∙ ap Some (sym c.as_str.ensures.value))
