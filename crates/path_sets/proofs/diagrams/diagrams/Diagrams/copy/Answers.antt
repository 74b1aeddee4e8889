use Rattle.std.proofs.Common.{◌≡◌, sym, ap, subst}
use Rattle.std.specs.List.{IsDistinct}
use Rattle.std.specs.Map.{keys_of}
use Rattle.path_sets.specs.Diagrams.{HaveNumbers, diagram_eq}
use Rattle.path_sets.proofs.diagrams.diagrams.Diagrams.copy.Given as given
use Rattle.path_sets.proofs.diagrams.diagrams.Diagrams.copy.Goals as goal
use Rattle.path_sets.proofs.diagrams.diagrams.Diagrams.copy.Goals.{In_ok-clone}
use Rattle.std.proofs.lemmas.Map.Entries.{entries_from_clone}

same : (g : given.Over) (c : In_ok-clone g) → c.in_ok-clone.field-0.entries ≡ c.args.self.now.roots.entries
same g c =
    entries_from_clone _ _ (λ x y is. is) (λ v w is. is) c.args.self.now.roots.entries c.in_ok-clone.field-0.entries
    c.in_ok-clone.ensures.cases

pub invariant_of-result : goal.invariant_of-result
invariant_of-result g c =
    let s = c.args.self.now in
    let is = same g (goal.at.invariant_of-result g c).In_ok-clone in
    record {
      unique = subst (IsDistinct diagram_eq) (sym (ap keys_of is)) s.unique;
      numbers = subst (λ ns. HaveNumbers ns c.in_ok-clone.field-0.entries) (sym c.in_ok-nodes.ensures)
          (subst (HaveNumbers s.nodes.kept.keys) (sym is) s.numbers);
    }

pub returns-clause-roots : goal.returns-clause-roots
returns-clause-roots g c = same g (goal.at.returns-clause-roots g c).In_ok-clone
