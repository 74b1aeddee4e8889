use Rattle.std.proofs.Common.{ap, ◌∙◌, ◌%◌, ◌==◌, arith}
use Rattle.std.proofs.lemmas.Nat.Bits.{bit_at-zero}
use Rattle.path_sets.specs.Masks.{bit_of}
use Rattle.path_sets.specs.Diagrams.{merged_has}
use Rattle.path_sets.proofs.QuadLemmas.{no_points}
use Rattle.path_sets.proofs.diagrams.diagrams.Diagrams.new.Goals as goal

pub returns : goal.returns
returns g c =
    let ns = c.new.result.kept.keys in
    λ t. ap (λ es. merged_has ns es t) c.new-2.ensures.empty ∙ ap (λ m. bit_of m (t.point % 64)) (no_points ns 0 t.values (omega arith))
    ∙ ap (λ x. x == 1) (bit_at-zero (t.point % 64))
