-- Runs of programs whose procedures give values.
use Rattle.std.proofs.Common.{ℕ, zero, suc, List, [], ◌∷◌, Bool, true, false, inl, inr, refl, subst, arith}
use Rattle.language.specs.Tree.{const, var, negation, value, assign, assert, assume, leave_with, call_for, one, done}
use Rattle.language.specs.Value.{global, local, written_globals, written_locals}
use Rattle.language.specs.Rest.{Code}
use Rattle.language.specs.Step.{Frame, frame, waiting, State, state, StepsTo, Fails}
use Rattle.language.specs.Rounds.{FailsInRound, Unsafe}
use Rattle.language.specs.Examples.{bare, return_and_write, late_value}
use Rattle.language.proofs.OneThread.{Somewhere, turn, no_failure, never_unsafe}
use Rattle.language.proofs.WorkedRuns.{one_value}

-- p: return !v;   t: x:=p(0); assert(x);
abbrev giving : Code
giving = one bare (leave_with (negation (var (local 0)))) done

abbrev check : Code
check = one bare (assert (value (var (global 0)))) done

abbrev asking : Code
asking = one bare (call_for (global 0) 0 (const false ∷ [])) check

-- the thread whose call gives 1, wherever it has come to
data Returning : List Bool → List Frame → Type 0 where
  asked : Returning (false ∷ []) (frame 1 [] asking ∷ [])
  entered : Returning (false ∷ []) (frame 0 (false ∷ false ∷ []) giving ∷ waiting 1 [] (global 0) check ∷ [])
  returned : Returning (false ∷ []) (frame 0 (false ∷ true ∷ []) done ∷ waiting 1 [] (global 0) check ∷ [])
  written : Returning (true ∷ []) (frame 1 [] check ∷ [])
  ended : Returning (true ∷ []) (frame 1 [] done ∷ [])
  gone : Returning (true ∷ []) []

returning_step : (g : List Bool) (stack : List Frame) → Returning g stack → (P : State → Type 0)
    → StepsTo return_and_write (state g stack) P → Somewhere Returning P
returning_step _ _ asked P f = (_, _, entered, f)
returning_step _ _ entered P f = (_, _, returned, f)
returning_step _ _ returned P f = (_, _, written, f)
returning_step _ _ written P f = (_, _, ended, f.1)
returning_step _ _ ended P f = (_, _, gone, f)
returning_step _ _ gone P f = absurd f

returning_passes : (g : List Bool) (stack : List Frame) → Returning g stack → Fails (state g stack) → ⊥
returning_passes _ _ written f = grind (arith, f)
returning_passes _ _ _ f = f

pub return_and_write_holds : (k : ℕ) → Unsafe return_and_write k → ⊥
return_and_write_holds k = never_unsafe return_and_write Returning returning_step returning_passes 1 refl asked k

-- p: return !y;   a: x:=p();
abbrev late_giving : Code
late_giving = one bare (leave_with (negation (var (global 1)))) done

abbrev late_asking : Code
late_asking = one bare (call_for (global 0) 0 []) done

-- b: y:=1; assume(!x); assume(x); assert(0);
abbrev b3 : Code
b3 = one bare (assert (value (const false))) done

abbrev b2 : Code
b2 = one bare (assume (value (var (global 0)))) b3

abbrev b1 : Code
b1 = one bare (assume (value (negation (var (global 0))))) b2

abbrev b0 : Code
b0 = one bare (assign (global 1 ∷ []) (value (const true) ∷ [])) b1

abbrev b : Code → List Frame
b rest = frame 2 [] rest ∷ []

-- a in its first turn
data Early : List Bool → List Frame → Type 0 where
  asks : Early (false ∷ false ∷ []) (frame 1 [] late_asking ∷ [])
  reads : Early (false ∷ false ∷ []) (frame 0 (false ∷ []) late_giving ∷ waiting 1 [] (global 0) done ∷ [])
  holds : Early (false ∷ false ∷ []) (frame 0 (true ∷ []) done ∷ waiting 1 [] (global 0) done ∷ [])
  writes : Early (true ∷ false ∷ []) (frame 1 [] done ∷ [])
  leaves : Early (true ∷ false ∷ []) []

early_step : (g : List Bool) (stack : List Frame) → Early g stack → (P : State → Type 0) → StepsTo late_value (state g stack) P
    → Somewhere Early P
early_step _ _ asks P f = (_, _, reads, f)
early_step _ _ reads P f = (_, _, holds, f)
early_step _ _ holds P f = (_, _, writes, f)
early_step _ _ writes P f = (_, _, leaves, f)
early_step _ _ leaves P f = absurd f

early_passes : (g : List Bool) (stack : List Frame) → Early g stack → Fails (state g stack) → ⊥
early_passes _ _ asks f = f
early_passes _ _ _ f = f

-- b in its first turn: nobody changes x between its two looks
data Looking : List Bool → List Frame → Type 0 where
  starts : (x y : Bool) → Looking (x ∷ y ∷ []) (b b0)
  looks : (x : Bool) → Looking (x ∷ true ∷ []) (b b1)
  stays : Looking (false ∷ true ∷ []) (b b2)

looking_step : (g : List Bool) (stack : List Frame) → Looking g stack → (P : State → Type 0) → StepsTo late_value (state g stack) P
    → Somewhere Looking P
looking_step _ _ (starts x y) P (vs, are, f) = (
  _,
  _,
  looks x,
  one_value (x ∷ y ∷ []) [] true
      (λ ws.
      P (state (written_globals (global 1 ∷ []) ws (x ∷ y ∷ [])) (frame 2 (written_locals (global 1 ∷ []) ws []) b1 ∷ []))) vs
      are f,
)
looking_step _ _ (looks false) P f = (_, _, stays, f.1)
looking_step _ _ _ P f = grind (arith, f.0)

looking_passes : (g : List Bool) (stack : List Frame) → Looking g stack → Fails (state g stack) → ⊥
looking_passes _ _ (starts x y) f = f
looking_passes _ _ _ f = f

-- b begins its first turn with any globals that a has come to
begin : (g : List Bool) (stack : List Frame) → Early g stack → Looking g (b b0)
begin _ _ writes = starts true false
begin _ _ leaves = starts true false
begin _ _ _ = starts false false

first_round : FailsInRound late_value (false ∷ false ∷ []) ((frame 1 [] late_asking ∷ []) ∷ b b0 ∷ []) → ⊥
first_round (inl (s, run, bad)) = no_failure late_value Early early_step early_passes _ _ s asks run bad
first_round (inr (h, stack, run, inl (s, more, bad))) =
    no_failure late_value Looking looking_step looking_passes h (b b0) s
    (begin h stack (turn late_value Early early_step _ h _ stack asks run)) more bad
first_round (inr (h, stack, run, inr (h', stack', run', never))) = never

one_round_holds : Unsafe late_value 1 → ⊥
one_round_holds (zero, small, g, stacks, (same, fresh), bad) =
    first_round
    (subst (λ h. FailsInRound late_value h ((frame 1 [] late_asking ∷ []) ∷ b b0 ∷ [])) same
    (subst (FailsInRound late_value g) fresh bad))
one_round_holds (suc r, small, g, stacks, rounds, bad) = absurd (omega arith)

-- the value that was read in the first round is written in the second
two_rounds_fail : Unsafe late_value 2
two_rounds_fail = (
  1,
  omega arith,
  false ∷ true ∷ [],
  (frame 0 (true ∷ []) done ∷ waiting 1 [] (global 0) done ∷ []) ∷ b b2 ∷ [],
  (
    false ∷ true ∷ [],
    (frame 0 (true ∷ []) done ∷ waiting 1 [] (global 0) done ∷ []) ∷ b b2 ∷ [],
    (false ∷ false ∷ [], (2, refl), (false ∷ true ∷ [], (2, (true ∷ [], (refl, tt), (refl, refl))), (refl, refl))),
    (refl, refl),
  ),
  inr (true ∷ true ∷ [], frame 1 [] done ∷ [], (1, refl), inl (_, (1, (refl, refl)), refl)),
)

pub late_value_needs_two : (Unsafe late_value 1 → ⊥) × Unsafe late_value 2
late_value_needs_two = (one_round_holds, two_rounds_fail)
