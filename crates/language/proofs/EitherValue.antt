-- A global that gets any value.
use Rattle.std.proofs.Common.{◌≡◌, ◌⊎◌, ℕ, List, [], ◌∷◌, Bool, true, false, inl, inr}
use Rattle.language.specs.Tree.{any}
use Rattle.language.specs.Value.{global, AreValues, written_globals, written_locals}
use Rattle.language.specs.Rest.{Code}
use Rattle.language.specs.Step.{Frame, frame, State, state}

-- whatever value it gets, the global has it then
pub either : (a : Bool) (l : List Bool) (c : ℕ) (t : Code) (fs : List Frame) (u : State) (vs : List Bool)
    → AreValues (a ∷ []) l (any ∷ []) vs →
    state (written_globals (global 0 ∷ []) vs (a ∷ [])) (frame c (written_locals (global 0 ∷ []) vs l) t ∷ fs) ≡ u →
    (state (true ∷ []) (frame c l t ∷ fs) ≡ u) ⊎ (state (false ∷ []) (frame c l t ∷ fs) ≡ u)
either a l c t fs u [] are e = absurd are
either a l c t fs u (true ∷ []) are e = inl e
either a l c t fs u (false ∷ []) are e = inr e
either a l c t fs u (v ∷ w ∷ vs) are e = absurd are.1

-- it may get each of the two
pub gets : (a : Bool) (l : List Bool) (c : ℕ) (t : Code) (fs : List Frame) (u : State) →
    (state (true ∷ []) (frame c l t ∷ fs) ≡ u) ⊎ (state (false ∷ []) (frame c l t ∷ fs) ≡ u) →
    (vs : List Bool) × AreValues (a ∷ []) l (any ∷ []) vs
    × (state (written_globals (global 0 ∷ []) vs (a ∷ [])) (frame c (written_locals (global 0 ∷ []) vs l) t ∷ fs) ≡ u)
gets a l c t fs u (inl e) = (true ∷ [], (tt, tt), e)
gets a l c t fs u (inr e) = (false ∷ [], (tt, tt), e)
