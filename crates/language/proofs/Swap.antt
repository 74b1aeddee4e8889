-- A swap of two globals.
use Rattle.std.proofs.Common.{◌≡◌, ℕ, List, [], ◌∷◌, Bool, sym, ◌∙◌, ap}
use Rattle.language.specs.Tree.{var, value}
use Rattle.language.specs.Value.{global, AreValues, written_globals, written_locals}
use Rattle.language.specs.Rest.{Code}
use Rattle.language.specs.Step.{Frame, frame, State, state}

pub swapped : (a b : Bool) (l : List Bool) (c : ℕ) (t : Code) (fs : List Frame) (u : State) (vs : List Bool) →
    AreValues (a ∷ b ∷ []) l (value (var (global 1)) ∷ value (var (global 0)) ∷ []) vs →
    state (written_globals (global 0 ∷ global 1 ∷ []) vs (a ∷ b ∷ [])) (frame c (written_locals (global 0 ∷ global 1 ∷ []) vs l) t ∷ fs)
    ≡ u →
    state (b ∷ a ∷ []) (frame c l t ∷ fs) ≡ u
swapped a b l c t fs u [] are e = absurd are
swapped a b l c t fs u (v ∷ []) are e = absurd are.1
swapped a b l c t fs u (v ∷ w ∷ []) are e =
    ap (λ x. state (x ∷ a ∷ []) (frame c l t ∷ fs)) (sym are.0) ∙ ap (λ x. state (v ∷ x ∷ []) (frame c l t ∷ fs)) (sym are.1.0) ∙ e
swapped a b l c t fs u (v ∷ w ∷ x ∷ vs) are e = absurd are.1.1
