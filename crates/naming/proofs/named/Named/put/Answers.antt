use Rattle.std.proofs.Common.{arith}
use Rattle.stack_sets.specs.Nodes.{head_over}
use Rattle.naming.proofs.NamedLemmas.{adds_few, below_few, adds_level, below_level, has_node, put_level, put_done}
use Rattle.naming.proofs.named.Named.put.Goals as goal

pub put_on-requires : goal.put_on-requires
put_on-requires g c =
    has_node c.number.new.self c.in_ok-index.index c.args.part
    (adds_level c.args.part c.name.new.self c.number.new.self c.in_ok-index.ensures.adds
    (below_level c.args.below c.args.self.now c.name.new.self c.in_ok-below.ensures.adds c.requires)) c.in_ok-index.ensures.at

pub returns-clause-level : goal.returns-clause-level
returns-clause-level g c =
    put_level c.number.new.self (head_over c.args.frame c.in_ok-below.below) c.in_ok-index.index c.put_on.new.nodes.items
    c.in_ok-put_on.ensures
    (adds_level c.args.part c.name.new.self c.number.new.self c.in_ok-index.ensures.adds
    (below_level c.args.below c.args.self.now c.name.new.self c.in_ok-below.ensures.adds c.requires))

pub returns-clause-holds : goal.returns-clause-holds
returns-clause-holds g c = λ done item same holds.
    put_done c.args.base done item c.args.part c.args.frame c.args.below c.in_ok-below.below c.in_ok-index.index c.args.self.now
    c.name.new.self c.number.new.self c.put_on.new.nodes.items same c.in_ok-below.ensures.adds c.in_ok-below.ensures.named
    c.in_ok-index.ensures.adds c.in_ok-index.ensures.at c.in_ok-put_on.ensures holds

pub returns-clause-few : goal.returns-clause-few
returns-clause-few g c =
    let first = below_few c.args.below c.args.self.now c.name.new.self c.in_ok-below.ensures.adds in
    let second = adds_few c.args.part c.name.new.self c.number.new.self c.in_ok-index.ensures.adds in
    omega (arith, first, second)
