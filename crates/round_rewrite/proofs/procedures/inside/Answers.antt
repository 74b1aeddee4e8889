use Rattle.std.proofs.Common.{◌∙◌, ap, refl, [], arith, ◌++◌, map}
use Rattle.trees.specs.Trees.{names_of, block_of}
use Rattle.round_rewrite.specs.Table.{numbers, temporaries, rewritten}
use Rattle.round_rewrite.specs.Names.{by_names, drawn_name}
use Rattle.round_rewrite.proofs.Forms.{block_done}
use Rattle.round_rewrite.proofs.procedures.inside.Goals as goal

pub temporaries-requires : goal.temporaries-requires
temporaries-requires g c =
    let formals = ap names_of c.as_slice.ensures.value in
    let locals = ap names_of c.as_slice-2.ensures.value in
    let needs = c.needs.ensures ∙ (λ i. temporaries (by_names (formals i ++ locals i)).is_shared (block_of (c.deref-2.ensures.value i))) in
    let few = c.requires in
    omega (arith, needs, few)

pub returns : goal.returns
returns g c =
    let formals = ap names_of c.as_slice.ensures.value in
    let locals = ap names_of c.as_slice-2.ensures.value in
    let needs = c.needs.ensures ∙ (λ i. temporaries (by_names (formals i ++ locals i)).is_shared (block_of (c.deref-2.ensures.value i))) in
    let p = c.args.proc.now in
    let last = c.args.rounds.last in
    let kept = c.in_ok-kept.ensures ∙ (λ i. names_of (c.new.ensures.items i) ++ names_of (c.deref.ensures.value i)) in
    let body = block_done (by_names (names_of c.as_slice.result.now ++ names_of c.as_slice-2.result.now)) last []
    c.in_ok-body.body.items c.deref-3.result.now p.body.items refl c.deref-3.ensures.value c.in_ok-body.ensures in record {
      locals = c.in_ok-locals.ensures ∙ (λ i. kept i ++ map drawn_name (numbers 0 (needs i)));
      body = body ∙ (λ i. rewritten (by_names (formals i ++ locals i)) last (block_of p.body.items));
    }
