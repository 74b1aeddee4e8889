-- What holds for a thread at each step holds after its turns; a program of one thread is safe if nothing fails for
-- which that holds.
use Rattle.std.proofs.Common.{◌≡◌, ℕ, zero, suc, List, [], ◌∷◌, Bool, inl, inr, sym, ◌∙◌, ap, subst, map}
use Rattle.language.specs.Step.{Program, Frame, State, state, zeros, StepsTo, AfterSteps, Runs, Fails}
use Rattle.language.specs.Rounds.{Round, Rounds, FailsInRound, starting_stack, Unsafe}
use Rattle.language.proofs.Runs.{after_map}

-- a run to a state that fails
pub fails_after : (p : Program) (n : ℕ) (s u : State) → AfterSteps p n s (λ v. v ≡ u) → Fails u → AfterSteps p n s Fails
fails_after p n s u run fails = after_map p n s (λ v. v ≡ u) Fails (λ v e. subst Fails (sym e) fails) run

-- some globals and stack with which the thread is sound have the property
abbrev pub Somewhere : (List Bool → List Frame → Type 0) → (State → Type 0) → Type 0
Somewhere Sound P = (g : List Bool) × (stack : List Frame) × Sound g stack × P (state g stack)

module _ (p : Program) (Sound : List Bool → List Frame → Type 0)
    (step : (g : List Bool) (stack : List Frame) → Sound g stack → (P : State → Type 0) → StepsTo p (state g stack) P
    → Somewhere Sound P) where
  abbrev AtSound : State → Type 0
  AtSound (state g stack) = Sound g stack

  steps : (n : ℕ) (g : List Bool) (stack : List Frame) → Sound g stack → (P : State → Type 0) → AfterSteps p n (state g stack) P
      → Somewhere Sound P
  steps zero g stack ok P f = (g, stack, ok, f)
  steps (suc n) g stack ok P f =
      let (h, stack', ok', f') = step g stack ok (λ t. AfterSteps p n t P) f in
      steps n h stack' ok' P f'

  -- it is sound after a turn
  pub turn : (g h : List Bool) (stack stack' : List Frame) → Sound g stack → Runs p (state g stack) (state h stack') → Sound h stack'
  turn g h stack stack' ok (n, run) =
      let (h', stack'', ok', e) = steps n g stack ok (λ u. u ≡ state h stack') run in
      subst AtSound e ok'

  -- the one stack is sound
  abbrev OneSound : List Bool → List (List Frame) → Type 0
  OneSound g stacks = (stack : List Frame) × (stacks ≡ stack ∷ []) × Sound g stack

  round : (g g' : List Bool) (stack : List Frame) (stacks' : List (List Frame)) → Sound g stack → Round p g (stack ∷ []) g' stacks'
      → OneSound g' stacks'
  round g g' stack [] ok f = absurd f
  round g g' stack (stack' ∷ more) ok (h, run, (e, none)) =
      (stack', ap (λ z. stack' ∷ z) none, subst (λ z. Sound z stack') (sym e) (turn g h stack stack' ok run))

  rounds : (r : ℕ) (g g' : List Bool) (stacks stacks' : List (List Frame)) → OneSound g stacks → Rounds p r g stacks g' stacks'
      → OneSound g' stacks'
  rounds zero g g' stacks stacks' (stack, e, ok) f = (stack, f.1 ∙ e, subst (λ z. Sound z stack) (sym f.0) ok)
  rounds (suc r) g g' stacks stacks' (stack, e, ok) (h, mid, first, more) =
      rounds r h g' mid stacks' (round g h stack mid ok (subst (λ z. Round p g z h mid) e first)) more

  module _ (passes : (g : List Bool) (stack : List Frame) → Sound g stack → Fails (state g stack) → ⊥) where
    -- it comes to no state that fails
    pub no_failure : (g : List Bool) (stack : List Frame) (s : State) → Sound g stack → Runs p (state g stack) s → Fails s → ⊥
    no_failure g stack s ok (n, run) bad =
        let (h, stack', ok', f) = steps n g stack ok Fails (fails_after p n (state g stack) s run bad) in
        passes h stack' ok' f

    fails : (g : List Bool) (stack : List Frame) → Sound g stack → FailsInRound p g (stack ∷ []) → ⊥
    fails g stack ok (inl (s, run, bad)) = no_failure g stack s ok run bad
    fails g stack ok (inr (h, stack', run, never)) = never

    -- the one thread starts at a sound state
    pub never_unsafe : (t : ℕ) → p.threads ≡ t ∷ [] → Sound (zeros p.globals) (starting_stack p.routines t) → (k : ℕ) → Unsafe p k → ⊥
    never_unsafe t one ok k (r, small, g, stacks, run, bad) =
        let (stack, e, ok') =
        rounds r (zeros p.globals) g (map (starting_stack p.routines) p.threads) stacks
        (_, ap (map (starting_stack p.routines)) one, ok) run in
        fails g stack ok' (subst (FailsInRound p g) e bad)
