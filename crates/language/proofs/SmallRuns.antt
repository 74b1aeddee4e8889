-- Runs of the small programs.
use Rattle.std.proofs.Common.{◌≡◌, ℕ, zero, suc, List, [], ◌∷◌, Bool, true, false, inl, inr, refl, ◌∙◌, ap, subst, map, arith}
use Rattle.language.specs.Tree.{const, var, negation, value, assert, one, done}
use Rattle.language.specs.Value.{global, AreValues, written_globals, written_locals}
use Rattle.language.specs.Rest.{Code}
use Rattle.language.specs.Step.{Program, Frame, frame, State, state, zeros, StepsTo, AfterSteps, Fails}
use Rattle.language.specs.Rounds.{Round, Rounds, FailsInRound, starting_stack, Unsafe}
use Rattle.language.specs.Examples.{bare, setting, writer_then_reader, reader_then_writer, spinner_then_failure, checked_write}
use Rattle.language.proofs.OneThread.{Somewhere, fails_after, never_unsafe}

-- without threads there are none later
round_of_none : (p : Program) (g g' : List Bool) (stacks' : List (List Frame)) → Round p g [] g' stacks' → stacks' ≡ []
round_of_none p g g' stacks' f = f.1

rounds_of_none : (p : Program) (n : ℕ) (g : List Bool) (stacks : List (List Frame)) (g' : List Bool) (stacks' : List (List Frame))
    → stacks ≡ [] → Rounds p n g stacks g' stacks' → stacks' ≡ []
rounds_of_none p zero g stacks g' stacks' e f = f.1 ∙ e
rounds_of_none p (suc n) g stacks g' stacks' e (h, mid, first, more) =
    rounds_of_none p n h mid g' stacks' (round_of_none p g h mid (subst (λ z. Round p g z h mid) e first)) more

pub none_fail : (p : Program) (k : ℕ) → p.threads ≡ [] → Unsafe p k → ⊥
none_fail p k e (r, small, g, stacks, rounds, fails) =
    subst (FailsInRound p g)
    (rounds_of_none p r (zeros p.globals) (map (starting_stack p.routines) p.threads) g stacks
    (ap (map (starting_stack p.routines)) e) rounds) fails

pub writer_first : Unsafe writer_then_reader 1
writer_first = (
  0,
  omega arith,
  zeros 1,
  map (starting_stack writer_then_reader.routines) (0 ∷ 1 ∷ []),
  (refl, refl),
  inr (true ∷ [], frame 0 [] done ∷ [], (1, (true ∷ [], (refl, tt), refl)), inl (_, (0, refl), refl)),
)

abbrev reading : Code
reading = one bare (assert (value (negation (var (global 0))))) done

abbrev reader : List Frame
reader = frame 1 [] reading ∷ []

abbrev writer : List Frame
writer = frame 0 [] (setting done) ∷ []

reader_passes : (n : ℕ) → AfterSteps reader_then_writer n (state (false ∷ []) reader) Fails → ⊥
reader_passes zero f = grind (arith, f)
reader_passes (suc zero) f = f.1
reader_passes (suc (suc zero)) f = f.1
reader_passes (suc (suc (suc n))) f = f.1

writer_passes : (n : ℕ) (g : List Bool) → AfterSteps reader_then_writer n (state g writer) Fails → ⊥
writer_passes zero g f = f
writer_passes (suc zero) g f = f.2
writer_passes (suc (suc zero)) g f = f.2
writer_passes (suc (suc (suc n))) g f = f.2

first_round : FailsInRound reader_then_writer (false ∷ []) (reader ∷ writer ∷ []) → ⊥
first_round (inl (s, (n, run), fails)) = reader_passes n (fails_after reader_then_writer n (state (false ∷ []) reader) s run fails)
first_round (inr (h, stack, turn, inl (s, (n, run), fails))) =
    writer_passes n h (fails_after reader_then_writer n (state h writer) s run fails)
first_round (inr (h, stack, turn, inr (h', stack', turn', never))) = never

reader_first_1 : Unsafe reader_then_writer 1 → ⊥
reader_first_1 (zero, small, g, stacks, (same, fresh), fails) =
    first_round
    (subst (λ h. FailsInRound reader_then_writer h (reader ∷ writer ∷ [])) same (subst (FailsInRound reader_then_writer g) fresh fails))
reader_first_1 (suc r, small, g, stacks, rounds, fails) = absurd (omega arith)

reader_first_2 : Unsafe reader_then_writer 2
reader_first_2 = (
  1,
  omega arith,
  true ∷ [],
  reader ∷ (frame 0 [] done ∷ []) ∷ [],
  (
    true ∷ [],
    reader ∷ (frame 0 [] done ∷ []) ∷ [],
    (false ∷ [], (0, refl), (true ∷ [], (1, (true ∷ [], (refl, tt), refl)), (refl, refl))),
    (refl, refl),
  ),
  inl (_, (0, refl), refl),
)

pub reader_first : (Unsafe reader_then_writer 1 → ⊥) × Unsafe reader_then_writer 2
reader_first = (reader_first_1, reader_first_2)

pub spinner_first : Unsafe spinner_then_failure 1
spinner_first = (
  0,
  omega arith,
  [],
  map (starting_stack spinner_then_failure.routines) (0 ∷ 1 ∷ []),
  (refl, refl),
  inr ([], starting_stack spinner_then_failure.routines 0, (0, refl), inl (_, (0, refl), refl)),
)

abbrev checking : Code
checking = one bare (assert (value (var (global 0)))) done

-- the globals and the stack of the one thread, wherever it has come to
data Sound : List Bool → List Frame → Type 0 where
  at_write : (b : Bool) → Sound (b ∷ []) (frame 0 [] (setting checking) ∷ [])
  at_check : Sound (true ∷ []) (frame 0 [] checking ∷ [])
  at_end : Sound (true ∷ []) (frame 0 [] done ∷ [])
  gone : Sound (true ∷ []) []

write_step : (b : Bool) (P : State → Type 0) (vs : List Bool) → AreValues (b ∷ []) [] (value (const true) ∷ []) vs →
    P (state (written_globals (global 0 ∷ []) vs (b ∷ [])) (frame 0 (written_locals (global 0 ∷ []) vs []) checking ∷ []))
    → Somewhere Sound P
write_step b P [] are f = absurd are
write_step b P (v ∷ []) are f =
    (true ∷ [], frame 0 [] checking ∷ [], at_check, subst (λ x. P (state (x ∷ []) (frame 0 [] checking ∷ []))) are.0 f)
write_step b P (v ∷ w ∷ vs) are f = absurd are.1

sound_step : (g : List Bool) (stack : List Frame) → Sound g stack → (P : State → Type 0) → StepsTo checked_write (state g stack) P
    → Somewhere Sound P
sound_step _ _ (at_write b) P (vs, are, f) = write_step b P vs are f
sound_step _ _ at_check P f = (_, _, at_end, f.1)
sound_step _ _ at_end P f = (_, _, gone, f)
sound_step _ _ gone P f = absurd f

sound_passes : (g : List Bool) (stack : List Frame) → Sound g stack → Fails (state g stack) → ⊥
sound_passes _ _ at_check f = grind (arith, f)
sound_passes _ _ _ f = f

pub checked_write_holds : (k : ℕ) → Unsafe checked_write k → ⊥
checked_write_holds k = never_unsafe checked_write Sound sound_step sound_passes 0 refl (at_write false) k
