-- Runs of worked programs: one thread and two of one procedure, values passed, a handshake.
use Rattle.std.proofs.Common.{ℕ, List, [], ◌∷◌, Bool, true, false, inl, inr, refl, subst, map, arith}
use Rattle.language.specs.Tree.{const, var, negation, value, assign, assert, call, one, done}
use Rattle.language.specs.Value.{global, local, AreValues, written_globals, written_locals}
use Rattle.language.specs.Rest.{Code}
use Rattle.language.specs.Step.{Frame, frame, State, state, zeros, StepsTo, Fails}
use Rattle.language.specs.Rounds.{starting_stack, Unsafe}
use Rattle.language.specs.Examples.{bare, setting, once, run_once, run_twice, passed_values}
use Rattle.language.proofs.OneThread.{Somewhere, never_unsafe}

-- the one value that is written is that of the expression
pub one_value : (g l : List Bool) (e : Bool) (P : List Bool → Type 0) (vs : List Bool) → AreValues g l (value (const e) ∷ []) vs → P vs
    → P (e ∷ [])
one_value g l e P [] are f = absurd are
one_value g l e P (v ∷ []) are f = subst (λ x. P (x ∷ [])) are.0 f
one_value g l e P (v ∷ w ∷ vs) are f = absurd are.1

-- the same for a place of the frame
one_local : (g : List Bool) (b : Bool) (P : List Bool → Type 0) (vs : List Bool) → AreValues g (b ∷ []) (value (var (local 0)) ∷ []) vs
    → P vs → P (b ∷ [])
one_local g b P [] are f = absurd are
one_local g b P (v ∷ []) are f = subst (λ x. P (x ∷ [])) are.0 f
one_local g b P (v ∷ w ∷ vs) are f = absurd are.1

-- the thread that runs once, wherever it has come to
data Once : List Bool → List Frame → Type 0 where
  at_check : Once (false ∷ []) (frame 0 [] once.body ∷ [])
  at_write : Once (false ∷ []) (frame 0 [] (setting done) ∷ [])
  at_end : Once (true ∷ []) (frame 0 [] done ∷ [])
  gone : Once (true ∷ []) []

once_step : (g : List Bool) (stack : List Frame) → Once g stack → (P : State → Type 0) → StepsTo run_once (state g stack) P
    → Somewhere Once P
once_step _ _ at_check P f = (_, _, at_write, f.1)
once_step _ _ at_write P (vs, are, f) = (
  _,
  _,
  at_end,
  one_value (false ∷ []) [] true
      (λ ws. P (state (written_globals (global 0 ∷ []) ws (false ∷ [])) (frame 0 (written_locals (global 0 ∷ []) ws []) done ∷ []))) vs
      are f,
)
once_step _ _ at_end P f = (_, _, gone, f)
once_step _ _ gone P f = absurd f

once_passes : (g : List Bool) (stack : List Frame) → Once g stack → Fails (state g stack) → ⊥
once_passes _ _ at_check f = grind (arith, f)
once_passes _ _ _ f = f

once_holds : (k : ℕ) → Unsafe run_once k → ⊥
once_holds k = never_unsafe run_once Once once_step once_passes 0 refl at_check k

twice_fails : Unsafe run_twice 1
twice_fails = (
  0,
  omega arith,
  zeros 1,
  map (starting_stack run_twice.routines) (0 ∷ 0 ∷ []),
  (refl, refl),
  inr (true ∷ [], frame 0 [] done ∷ [], (2, (refl, (true ∷ [], (refl, tt), refl))), inl (_, (0, refl), refl)),
)

pub second_fails : ((k : ℕ) → Unsafe run_once k → ⊥) × Unsafe run_twice 1
second_fails = (once_holds, twice_fails)

abbrev last_check : Code
last_check = one bare (assert (value (negation (var (global 0))))) done

abbrev last_call : Code
last_call = one bare (call 0 (const false ∷ [])) last_check

abbrev both_calls : Code
both_calls = one bare (call 0 (const true ∷ [])) last_call

abbrev writing : Code
writing = one bare (assign (global 0 ∷ []) (value (var (local 0)) ∷ [])) done

-- the thread that passes 1 and then 0, wherever it has come to
data Passing : List Bool → List Frame → Type 0 where
  first_asked : Passing (false ∷ []) (frame 1 [] both_calls ∷ [])
  first_entered : Passing (false ∷ []) (frame 0 (true ∷ []) writing ∷ frame 1 [] last_call ∷ [])
  first_written : Passing (true ∷ []) (frame 0 (true ∷ []) done ∷ frame 1 [] last_call ∷ [])
  second_asked : Passing (true ∷ []) (frame 1 [] last_call ∷ [])
  second_entered : Passing (true ∷ []) (frame 0 (false ∷ []) writing ∷ frame 1 [] last_check ∷ [])
  second_written : Passing (false ∷ []) (frame 0 (false ∷ []) done ∷ frame 1 [] last_check ∷ [])
  checked : Passing (false ∷ []) (frame 1 [] last_check ∷ [])
  ended : Passing (false ∷ []) (frame 1 [] done ∷ [])
  left : Passing (false ∷ []) []

-- the call writes the value that it was passed
written : (b v : Bool) (below : List Frame) (P : State → Type 0) (vs : List Bool)
    → AreValues (b ∷ []) (v ∷ []) (value (var (local 0)) ∷ []) vs →
    P (state (written_globals (global 0 ∷ []) vs (b ∷ [])) (frame 0 (written_locals (global 0 ∷ []) vs (v ∷ [])) done ∷ below))
    → P (state (v ∷ []) (frame 0 (v ∷ []) done ∷ below))
written b v below P vs are f =
    one_local (b ∷ []) v
    (λ ws. P (state (written_globals (global 0 ∷ []) ws (b ∷ [])) (frame 0 (written_locals (global 0 ∷ []) ws (v ∷ [])) done ∷ below)))
    vs are f

passing_step : (g : List Bool) (stack : List Frame) → Passing g stack → (P : State → Type 0) → StepsTo passed_values (state g stack) P
    → Somewhere Passing P
passing_step _ _ first_asked P f = (_, _, first_entered, f)
passing_step _ _ first_entered P (vs, are, f) = (_, _, first_written, written false true (frame 1 [] last_call ∷ []) P vs are f)
passing_step _ _ first_written P f = (_, _, second_asked, f)
passing_step _ _ second_asked P f = (_, _, second_entered, f)
passing_step _ _ second_entered P (vs, are, f) = (_, _, second_written, written true false (frame 1 [] last_check ∷ []) P vs are f)
passing_step _ _ second_written P f = (_, _, checked, f)
passing_step _ _ checked P f = (_, _, ended, f.1)
passing_step _ _ ended P f = (_, _, left, f)
passing_step _ _ left P f = absurd f

passing_passes : (g : List Bool) (stack : List Frame) → Passing g stack → Fails (state g stack) → ⊥
passing_passes _ _ checked f = grind (arith, f)
passing_passes _ _ _ f = f

pub passed_values_hold : (k : ℕ) → Unsafe passed_values k → ⊥
passed_values_hold k = never_unsafe passed_values Passing passing_step passing_passes 1 refl first_asked k
