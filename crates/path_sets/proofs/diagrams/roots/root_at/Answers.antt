use Rattle.std.proofs.Common.{◌≡◌, Some, slice_get, sym, ap, ◌∙◌}
use Rattle.std.specs.Map.{lookup}
use Rattle.std.specs.Option.{option_map_or}
use Rattle.std.proofs.lemmas.Option.{same_Some}
use Rattle.path_sets.specs.declared.diagrams.roots.DiagramKey.{DiagramKey}
use Rattle.path_sets.specs.Diagrams.{diagram_eq}
use Rattle.path_sets.proofs.RootLemmas.{key_at}
use Rattle.path_sets.proofs.diagrams.roots.root_at.Goals as goal

pub returns : goal.returns
returns g c diagram here =
    let rs = c.args.roots.now.entries in
    let n = c.in-Some.number.now in
    let own = c.in-Some.field-0-0.now in
    let at : slice_get rs c.args.at ≡ Some (own, n) = sym c.in-Some.ensures.entry in
    let same : own ≡ diagram = same_Some own diagram (sym (key_at rs c.args.at (own, n) at) ∙ here) in
    let value : lookup (diagram_eq own) rs ≡ Some n = c.in-Some.ensures.value in
    sym (ap (λ o. option_map_or (λ k. k) o 0) (ap (λ (r : DiagramKey). lookup (diagram_eq r) rs) (sym same) ∙ value))
