-- A program is unsafe if and only if some turn of its threads fails.
use Rattle.std.proofs.Common.{◌≡◌, ◌↔◌, ℕ, zero, suc, ◌+◌, Bool, List, [], ◌∷◌, ◌++◌, inl, inr, refl, sym, ◌∙◌, ap, subst, map, arith}
use Rattle.language.specs.Tree.{one, assert}
use Rattle.language.specs.Step as language
use Rattle.language.specs.Step.{Program, Frame, frame, waiting, State, state, zeros, Fails}
use Rattle.language.specs.Rounds.{Round, Rounds, FailsInRound, starting_stack, Unsafe}
use Rattle.turns.specs.Machines.{TurnFails}
use Rattle.turns.specs.Between.{Between, begins, takes_turn, ends_round, FailsBelow}
use Rattle.turns.specs.Programs.{machine_of, threads_of}
use Rattle.turns.proofs.ProgramLemmas.{runs_there, runs_back}

abbrev Stacks : Type 0
Stacks = List (List Frame)

-- one more at the end of the one list is one more at the head of the other
next_over : {A : Type 0} (xs : List A) (x : A) (ys : List A) → (xs ++ x ∷ []) ++ ys ≡ xs ++ x ∷ ys
next_over [] x ys = refl
next_over (z ∷ zs) x ys = ap (λ l. z ∷ l) (next_over zs x ys)

all_over : {A : Type 0} (xs : List A) → xs ++ [] ≡ xs
all_over [] = refl
all_over (x ∷ xs) = ap (λ l. x ∷ l) (all_over xs)

-- callers do not matter to a failure
fails_over : (g : List Bool) (f : Frame) (fs gs : List Frame) → Fails (state g (f ∷ fs)) → Fails (state g (f ∷ gs))
fails_over g (waiting c l x r) fs gs bad = absurd bad
fails_over g (frame c l (one m (assert side) r)) fs gs bad = bad
fails_over g (frame c l _) fs gs bad = absurd bad

module _ (p : Program) where
  -- a turn fails as the program's definition has it
  abbrev pub ComesToFail : List Bool → List Frame → Type 0
  ComesToFail g stack = (s : State) × language.Runs p (state g stack) s × Fails s

  pub turn_there : (g : List Bool) (stack : List Frame) → ComesToFail g stack → TurnFails (machine_of p) g stack
  turn_there g stack (state h [], run, bad) = absurd bad
  turn_there g stack (state h (f ∷ fs), run, bad) = (h, f ∷ fs, runs_there p g h stack (f ∷ fs) run, fails_over h f fs [] bad)

  pub turn_back : (g : List Bool) (stack : List Frame) → TurnFails (machine_of p) g stack → ComesToFail g stack
  turn_back g stack (h, [], run, bad) = absurd bad
  turn_back g stack (h, f ∷ fs, run, bad) = (state h (f ∷ fs), runs_back p g h stack (f ∷ fs) run, fails_over h f [] fs bad)

  abbrev starting : Stacks
  starting = map (starting_stack p.routines) p.threads

  -- the rest of a round
  round_on : (r : ℕ) (g h : List Bool) (had stacks mid : Stacks) → Between (threads_of p) r g had stacks → Round p g stacks h mid
      → Between (threads_of p) r h (had ++ mid) []
  round_on r g h had [] mid at (e, none) =
      subst (λ z. Between (threads_of p) r h z []) (sym (all_over had) ∙ ap (λ z. had ++ z) (sym none))
      (subst (λ z. Between (threads_of p) r z had []) (sym e) at)
  round_on r g h had (stack ∷ stacks) [] at f = absurd f
  round_on r g h had (stack ∷ stacks) (stack' ∷ mid) at (g', run, more) =
      subst (λ z. Between (threads_of p) r h z []) (next_over had stack' mid)
      (round_on r g' h (had ++ stack' ∷ []) stacks mid
      (takes_turn r g g' had stack stack' stacks at (runs_there p g g' stack stack' run)) more)

  rounds_on : (n r : ℕ) (g h : List Bool) (stacks stacks' : Stacks) → Between (threads_of p) r g [] stacks → Rounds p n g stacks h stacks'
      → Between (threads_of p) (n + r) h [] stacks'
  rounds_on zero r g h stacks stacks' at (e, same) =
      let same_round : r ≡ zero + r = omega arith in
      subst (λ z. Between (threads_of p) z h [] stacks') same_round
      (subst (λ z. Between (threads_of p) r h [] z) (sym same) (subst (λ z. Between (threads_of p) r z [] stacks) (sym e) at))
  rounds_on (suc n) r g h stacks stacks' at (g', mid, first, more) =
      let shift : n + suc r ≡ suc n + r = omega arith in
      subst (λ z. Between (threads_of p) z h [] stacks') shift
      (rounds_on n (suc r) g' h mid stacks' (ends_round r g' mid (round_on r g g' [] stacks mid at first)) more)

  abbrev FailsAt : ℕ → Type 0
  FailsAt r = (g : List Bool) × (had : Stacks) × (stack : List Frame) × (left : Stacks) × Between (threads_of p) r g had (stack ∷ left)
      × TurnFails (machine_of p) g stack

  fails_on : (r : ℕ) (g : List Bool) (had stacks : Stacks) → Between (threads_of p) r g had stacks → FailsInRound p g stacks → FailsAt r
  fails_on r g had [] at f = absurd f
  fails_on r g had (stack ∷ stacks) at (inl bad) = (g, had, stack, stacks, at, turn_there g stack bad)
  fails_on r g had (stack ∷ stacks) at (inr (h, stack', run, more)) =
      fails_on r h (had ++ stack' ∷ []) stacks (takes_turn r g h had stack stack' stacks at (runs_there p g h stack stack' run)) more

  there : (k : ℕ) → Unsafe p k → FailsBelow (threads_of p) k
  there k (r, small, g, stacks, run, bad) =
      let none : r + zero ≡ r = omega arith in
      let at : Between (threads_of p) r g [] stacks =
      subst (λ z. Between (threads_of p) z g [] stacks) none (rounds_on r zero _ g _ stacks begins run) in
      let (h, had, stack, left, at', fails) = fails_on r g [] stacks at bad in
      (r, small, h, had, stack, left, at', fails)

  -- one turn more in a round
  round_further : (g g' h : List Bool) (before had : Stacks) (stack stack' : List Frame) → Round p g before g' had
      → language.Runs p (state g' stack) (state h stack') → Round p g (before ++ stack ∷ []) h (had ++ stack' ∷ [])
  round_further g g' h [] had stack stack' (e, none) run =
      subst (λ z. Round p g (stack ∷ []) h (z ++ stack' ∷ [])) (sym none)
      (h, subst (λ z. language.Runs p (state z stack) (state h stack')) e run, (refl, refl))
  round_further g g' h (first ∷ before) [] stack stack' f run = absurd f
  round_further g g' h (first ∷ before) (first' ∷ had) stack stack' (g'', turn, more) run =
      (g'', turn, round_further g'' g' h before had stack stack' more run)

  -- one round more
  rounds_further : (n : ℕ) (g g' h : List Bool) (stacks mid stacks' : Stacks) → Rounds p n g stacks g' mid → Round p g' mid h stacks'
      → Rounds p (suc n) g stacks h stacks'
  rounds_further zero g g' h stacks mid stacks' (e, same) last =
      (h, stacks', subst (λ z. Round p z stacks h stacks') e (subst (λ z. Round p g' z h stacks') same last), (refl, refl))
  rounds_further (suc n) g g' h stacks mid stacks' (g'', first, round, more) last =
      (g'', first, round, rounds_further n g'' g' h first mid stacks' more last)

  -- the rounds before, and the turns of the next round
  abbrev Split : ℕ → List Bool → Stacks → Stacks → Type 0
  Split r g had left = (g1 : List Bool) × (before : Stacks) × Rounds p r (zeros p.globals) starting g1 (before ++ left)
      × Round p g1 before g had

  split : (r : ℕ) (g : List Bool) (had left : Stacks) → Between (threads_of p) r g had left → Split r g had left
  split _ _ _ _ begins = (zeros p.globals, [], (refl, refl), (refl, refl))
  split _ _ _ _ (takes_turn r g h had stack stack' left at run) =
      let (g1, before, rounds, round) = split r g had (stack ∷ left) at in (
        g1,
        before ++ stack ∷ [],
        subst (λ z. Rounds p r (zeros p.globals) starting g1 z) (sym (next_over before stack left)) rounds,
        round_further g1 g h before had stack stack' round (runs_back p g h stack stack' run),
      )
  split _ _ _ _ (ends_round r g had at) =
      let (g1, before, rounds, round) = split r g had [] at in (
        g,
        [],
        rounds_further r _ g1 g _ before had (subst (λ z. Rounds p r (zeros p.globals) starting g1 z) (all_over before) rounds) round,
        (refl, refl),
      )

  fails_in : (g g' : List Bool) (before had : Stacks) (stack : List Frame) (left : Stacks) → Round p g before g' had
      → TurnFails (machine_of p) g' stack
      → FailsInRound p g (before ++ stack ∷ left)
  fails_in g g' [] had stack left (e, none) bad = inl (turn_back g stack (subst (λ z. TurnFails (machine_of p) z stack) e bad))
  fails_in g g' (first ∷ before) [] stack left f bad = absurd f
  fails_in g g' (first ∷ before) (first' ∷ had) stack left (h, run, more) bad =
      inr (h, first', run, fails_in h g' before had stack left more bad)

  back : (k : ℕ) → FailsBelow (threads_of p) k → Unsafe p k
  back k (r, small, g, had, stack, left, at, bad) =
      let (g1, before, rounds, round) = split r g had (stack ∷ left) at in
      (r, small, g1, before ++ stack ∷ left, rounds, fails_in g1 g before had stack left round bad)

  -- a program is unsafe if and only if some turn fails
  pub unsafe_fails : (k : ℕ) → Unsafe p k ↔ FailsBelow (threads_of p) k
  unsafe_fails k = (there k, back k)
