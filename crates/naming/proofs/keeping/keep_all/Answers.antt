use Rattle.std.proofs.Common.{◌≡◌, length, subst, sym, arith, rules}
use Rattle.std.proofs.lemmas.Grind.{common_steps}
use Rattle.stack_sets.specs.Nodes.{IsPrefix, nodes_in}
use Rattle.naming.proofs.KeepLemmas.{all_length, none_kept}
use Rattle.naming.proofs.MoveLemmas.{prefix_on}
use Rattle.naming.proofs.keeping.keep_all.Goals as goal

pub keep_known-requires : goal.keep_known-requires
keep_known-requires g c =
    none_kept c.args.base c.args.nodes.now (nodes_in c.args.sets.now) c.in_ok-names.names.items c.requires.base
    c.in_ok-names.ensures.count c.in_ok-names.ensures.none

pub returns-clause-count : goal.returns-clause-count
returns-clause-count g c =
    let many : length c.as_slice.result.now ≡ length c.args.nodes.now = first_of (search rules, grind (arith, common_steps)) in
    all_length c.args.base c.args.nodes.now c.as_slice.result.now c.in_ok-all.all.items c.len.result c.in_ok-all.ensures many

pub returns-clause-keeps : goal.returns-clause-keeps
returns-clause-keeps g c =
    subst (λ l. IsPrefix (nodes_in c.args.sets.now) l) (sym c.note_rest.ensures)
    (prefix_on (nodes_in c.args.sets.now) (nodes_in c.keep_known.new.sets) (nodes_in c.add_rest.new.sets) c.keep_known.ensures.keeps
    c.add_rest.ensures.keeps)
