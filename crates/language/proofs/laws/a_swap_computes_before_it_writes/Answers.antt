use Rattle.std.proofs.Common.{refl, [], ◌∷◌}
use Rattle.language.proofs.Swap.{swapped}
use Rattle.language.proofs.laws.a_swap_computes_before_it_writes.Goals as goal

pub returns : goal.returns
returns c =
    λ p a b l k m t fs u. (λ f. swapped a b l k t fs u f.0 f.1 f.2, λ e. (b ∷ a ∷ [], (refl, (refl, tt)), e))
