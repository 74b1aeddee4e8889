use Rattle.std.proofs.Common.{refl, sym, subst}
use Rattle.path_sets.specs.Diagrams.{HaveNumbers}
use Rattle.path_sets.specs.Walks.{IsNumber}
use Rattle.path_sets.proofs.diagrams.diagrams.Diagrams.settle.Given as given
use Rattle.path_sets.proofs.diagrams.diagrams.Diagrams.settle.Goals as goal
use Rattle.path_sets.proofs.diagrams.diagrams.Diagrams.settle.Goals.{After-index_of}

-- each root is a number still
numbers : (g : given.Over) (c : After-index_of g) → HaveNumbers c.args.self.now.nodes.kept.keys c.index_of.new.roots.entries
numbers g c e b =
    subst (IsNumber c.args.self.now.nodes.kept.keys) (sym (c.index_of.ensures.stay.numbers e b)) (c.args.self.now.numbers e b)

pub index_of-requires : goal.index_of-requires
index_of-requires g c = c.args.self.now.unique

pub invariant_of-self : goal.invariant_of-self
invariant_of-self g c = record {
  unique = c.index_of.ensures.unique;
  numbers = numbers g (goal.at.invariant_of-self g c).After-index_of;
}

pub invariant_of-self-2 : goal.invariant_of-self-2
invariant_of-self-2 g c = record {
  unique = c.index_of.ensures.unique;
  numbers = numbers g (goal.at.invariant_of-self-2 g c).After-index_of;
}

pub returns-in_err-at-clause-nodes : goal.returns-in_err-at-clause-nodes
returns-in_err-at-clause-nodes g c = refl

pub returns-in_err-at-clause-stay : goal.returns-in_err-at-clause-stay
returns-in_err-at-clause-stay g c = c.index_of.ensures.stay

pub returns-clause-nodes : goal.returns-clause-nodes
returns-clause-nodes g c = refl

pub returns-clause-at : goal.returns-clause-at
returns-clause-at g c = c.in_ok-at.ensures.at

pub returns-clause-stay : goal.returns-clause-stay
returns-clause-stay g c = c.index_of.ensures.stay
