use Rattle.naming.proofs.NamedLemmas.{adds_few, adds_level, has_node, empty_done}
use Rattle.naming.specs.declared.part.Part.TheVariants.{Ending}
use Rattle.naming.proofs.named.Named.put_empty.Goals as goal

pub bare_at-requires : goal.bare_at-requires
bare_at-requires g c =
    has_node c.number.new.self c.in_ok-index.index (Ending c.args.globals)
    (adds_level (Ending c.args.globals) c.args.self.now c.number.new.self c.in_ok-index.ensures.adds c.requires) c.in_ok-index.ensures.at

pub returns-clause-holds : goal.returns-clause-holds
returns-clause-holds g c = λ base done holds.
    empty_done base done c.args.globals c.in_ok-index.index c.args.self.now c.number.new.self c.bare_at.new.nodes.items
    c.in_ok-index.ensures.adds c.in_ok-index.ensures.at c.bare_at.ensures holds

pub returns-clause-few : goal.returns-clause-few
returns-clause-few g c = adds_few (Ending c.args.globals) c.args.self.now c.number.new.self c.in_ok-index.ensures.adds
