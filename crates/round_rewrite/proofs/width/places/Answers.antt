use Rattle.std.proofs.Common.{◌≡◌, ◌∙◌, ap, sym, arith, ◌++◌, length}
use Rattle.std.proofs.lemmas.List.{length-map}
use Rattle.trees.specs.Trees.{name_of, names_of, proc_of, block_of}
use Rattle.language.specs.Resolve.{gives_value}
use Rattle.resolved.proofs.Counted.{as_number}
use Rattle.round_rewrite.specs.Writing.{procedure_needs}
use Rattle.round_rewrite.specs.Table.{temporaries}
use Rattle.round_rewrite.specs.Names.{by_names}
use Rattle.round_rewrite.proofs.width.places.Goals as goal

pub returns : goal.returns
returns g c =
    let p = c.args.proc.now in
    let formals : length c.as_slice-formals.result.now ≡ length (names_of p.formals.items) =
    ap length c.as_slice-formals.ensures.value ∙ sym (length-map p.formals.items name_of) in
    let locals : length c.as_slice-locals.result.now ≡ length (names_of p.locals.items) =
    ap length c.as_slice-locals.ensures.value ∙ sym (length-map p.locals.items name_of) in
    let needs : c.needs-needs.result ≡ procedure_needs (proc_of p) =
    c.needs-needs.ensures ∙ (λ i. temporaries (by_names (names_of (c.as_slice-formals.ensures.value i) ++
    names_of (c.as_slice-locals.ensures.value i))).is_shared (block_of (c.deref.ensures.value i))) in
    let given =
    as_number c.give_value.result (gives_value (block_of p.body.items))
    (c.give_value.ensures ∙ ap (λ l. gives_value (block_of l)) c.deref-2.ensures.value) in
    let count = c.global_count.ensures.count in
    omega (arith, formals, locals, needs, given, count)
