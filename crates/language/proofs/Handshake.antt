-- Runs of two threads that wait for each other in turn.
use Rattle.std.proofs.Common.{zero, suc, List, [], ◌∷◌, Bool, true, false, inl, inr, refl, subst, arith}
use Rattle.language.specs.Tree.{const, var, value, assign, assert, assume, one, done}
use Rattle.language.specs.Value.{global, written_globals, written_locals}
use Rattle.language.specs.Rest.{Code}
use Rattle.language.specs.Step.{Frame, frame, State, state, StepsTo, Runs, Fails}
use Rattle.language.specs.Rounds.{Round, FailsInRound, Unsafe}
use Rattle.language.specs.Examples.{bare, setting, handshake}
use Rattle.language.proofs.OneThread.{Somewhere, turn, no_failure}
use Rattle.language.proofs.WorkedRuns.{one_value}

-- a: assume(x); y:=1; assume(z); assert(0);
abbrev a3 : Code
a3 = one bare (assert (value (const false))) done

abbrev a2 : Code
a2 = one bare (assume (value (var (global 2)))) a3

abbrev a1 : Code
a1 = one bare (assign (global 1 ∷ []) (value (const true) ∷ [])) a2

abbrev a : Code → List Frame
a rest = frame 0 [] rest ∷ []

abbrev a0 : Code
a0 = one bare (assume (value (var (global 0)))) a1

-- b: x:=1; assume(y); z:=1;
abbrev b2 : Code
b2 = one bare (assign (global 2 ∷ []) (value (const true) ∷ [])) done

abbrev b1 : Code
b1 = one bare (assume (value (var (global 1)))) b2

abbrev b : Code → List Frame
b rest = frame 1 [] rest ∷ []

-- a in its first turn: it waits for x
data Waiting : List Bool → List Frame → Type 0 where
  waits : Waiting (false ∷ false ∷ false ∷ []) (a a0)

waiting_step : (g : List Bool) (stack : List Frame) → Waiting g stack → (P : State → Type 0) → StepsTo handshake (state g stack) P
    → Somewhere Waiting P
waiting_step _ _ waits P f = grind (arith, f.0)

waiting_passes : (g : List Bool) (stack : List Frame) → Waiting g stack → Fails (state g stack) → ⊥
waiting_passes _ _ waits f = f

-- b in its first turn: it waits for y
data Starting : List Bool → List Frame → Type 0 where
  starts : (x : Bool) → Starting (x ∷ false ∷ false ∷ []) (b (setting b1))
  stops : (x : Bool) → Starting (x ∷ false ∷ false ∷ []) (b b1)

starting_step : (g : List Bool) (stack : List Frame) → Starting g stack → (P : State → Type 0) → StepsTo handshake (state g stack) P
    → Somewhere Starting P
starting_step _ _ (starts x) P (vs, are, f) = (
  _,
  _,
  stops true,
  one_value (x ∷ false ∷ false ∷ []) [] true
      (λ ws.
      P (state (written_globals (global 0 ∷ []) ws (x ∷ false ∷ false ∷ [])) (frame 1 (written_locals (global 0 ∷ []) ws []) b1 ∷ [])))
      vs are f,
)
starting_step _ _ (stops x) P f = grind (arith, f.0)

-- a in its second turn: it waits for z
data Blocked : List Bool → List Frame → Type 0 where
  asks : (x y : Bool) → Blocked (x ∷ y ∷ false ∷ []) (a a0)
  answers : (x y : Bool) → Blocked (x ∷ y ∷ false ∷ []) (a a1)
  stays : (x y : Bool) → Blocked (x ∷ y ∷ false ∷ []) (a a2)

blocked_step : (g : List Bool) (stack : List Frame) → Blocked g stack → (P : State → Type 0) → StepsTo handshake (state g stack) P
    → Somewhere Blocked P
blocked_step _ _ (asks x y) P f = (_, _, answers x y, f.1)
blocked_step _ _ (answers x y) P (vs, are, f) = (
  _,
  _,
  stays x true,
  one_value (x ∷ y ∷ false ∷ []) [] true
      (λ ws.
      P (state (written_globals (global 1 ∷ []) ws (x ∷ y ∷ false ∷ [])) (frame 0 (written_locals (global 1 ∷ []) ws []) a2 ∷ []))) vs
      are f,
)
blocked_step _ _ (stays x y) P f = grind (arith, f.0)

blocked_passes : (g : List Bool) (stack : List Frame) → Blocked g stack → Fails (state g stack) → ⊥
blocked_passes _ _ (asks x y) f = f
blocked_passes _ _ _ f = f

-- b anywhere: it has no assert
data Unfailing : List Bool → List Frame → Type 0 where
  writes_x : (x y z : Bool) → Unfailing (x ∷ y ∷ z ∷ []) (b (setting b1))
  awaits_y : (x y z : Bool) → Unfailing (x ∷ y ∷ z ∷ []) (b b1)
  writes_z : (x y z : Bool) → Unfailing (x ∷ y ∷ z ∷ []) (b b2)
  ends : (x y z : Bool) → Unfailing (x ∷ y ∷ z ∷ []) (b done)
  gone : (x y z : Bool) → Unfailing (x ∷ y ∷ z ∷ []) []

unfailing_step : (g : List Bool) (stack : List Frame) → Unfailing g stack → (P : State → Type 0) → StepsTo handshake (state g stack) P
    → Somewhere Unfailing P
unfailing_step _ _ (writes_x x y z) P (vs, are, f) = (
  _,
  _,
  awaits_y true y z,
  one_value (x ∷ y ∷ z ∷ []) [] true
      (λ ws. P (state (written_globals (global 0 ∷ []) ws (x ∷ y ∷ z ∷ [])) (frame 1 (written_locals (global 0 ∷ []) ws []) b1 ∷ []))) vs
      are f,
)
unfailing_step _ _ (awaits_y x y z) P f = (_, _, writes_z x y z, f.1)
unfailing_step _ _ (writes_z x y z) P (vs, are, f) = (
  _,
  _,
  ends x y true,
  one_value (x ∷ y ∷ z ∷ []) [] true
      (λ ws. P (state (written_globals (global 2 ∷ []) ws (x ∷ y ∷ z ∷ [])) (frame 1 (written_locals (global 2 ∷ []) ws []) done ∷ [])))
      vs are f,
)
unfailing_step _ _ (ends x y z) P f = (_, _, gone x y z, f)
unfailing_step _ _ (gone x y z) P f = absurd f

unfailing_passes : (g : List Bool) (stack : List Frame) → Unfailing g stack → Fails (state g stack) → ⊥
unfailing_passes _ _ (writes_x x y z) f = f
unfailing_passes _ _ _ f = f

-- b fails after no turn of a
after_waiting : (g : List Bool) (stack : List Frame) (s : State) → Waiting g stack → Runs handshake (state g (b (setting b1))) s → Fails s
    → ⊥
after_waiting _ _ s waits run bad =
    no_failure handshake Unfailing unfailing_step unfailing_passes _ _ s (writes_x false false false) run bad

-- nor after a has given x and y values
after_start : (x y : Bool) (g : List Bool) (below : List Frame) (s : State) → Starting g below
    → Runs handshake (state (x ∷ y ∷ false ∷ []) below) s → Fails s → ⊥
after_start x y _ _ s (starts z) run bad = no_failure handshake Unfailing unfailing_step unfailing_passes _ _ s (writes_x x y false) run bad
after_start x y _ _ s (stops z) run bad = no_failure handshake Unfailing unfailing_step unfailing_passes _ _ s (awaits_y x y false) run bad

after_blocked : (g h : List Bool) (stack below : List Frame) (s : State) → Blocked h stack → Starting g below
    → Runs handshake (state h below) s → Fails s → ⊥
after_blocked g _ _ below s (asks x y) = after_start x y g below s
after_blocked g _ _ below s (answers x y) = after_start x y g below s
after_blocked g _ _ below s (stays x y) = after_start x y g below s

first_round : FailsInRound handshake (false ∷ false ∷ false ∷ []) (a a0 ∷ b (setting b1) ∷ []) → ⊥
first_round (inl (s, run, bad)) = no_failure handshake Waiting waiting_step waiting_passes _ _ s waits run bad
first_round (inr (h, stack, run, inl (s, more, bad))) =
    after_waiting h stack s (turn handshake Waiting waiting_step _ h _ stack waits run) more bad
first_round (inr (h, stack, run, inr (h', stack', run', never))) = never

-- once b has had its first turn, a waits for z in its second
blocked : (g : List Bool) (stack below : List Frame) (h : List Bool) → Waiting h stack → Starting g below → Blocked g stack
blocked _ _ _ _ waits (starts x) = asks x false
blocked _ _ _ _ waits (stops x) = asks x false

second_round : (g : List Bool) (stack below : List Frame) → Blocked g stack → Starting g below
    → FailsInRound handshake g (stack ∷ below ∷ []) → ⊥
second_round g stack below ok ok' (inl (s, run, bad)) = no_failure handshake Blocked blocked_step blocked_passes g stack s ok run bad
second_round g stack below ok ok' (inr (h, stack', run, inl (s, more, bad))) =
    after_blocked g h stack' below s (turn handshake Blocked blocked_step g h stack stack' ok run) ok' more bad
second_round g stack below ok ok' (inr (h, stack', run, inr (h', stack'', run', never))) = never

-- the globals and stacks after the first round
after_first : (g : List Bool) (stacks : List (List Frame))
    → Round handshake (false ∷ false ∷ false ∷ []) (a a0 ∷ b (setting b1) ∷ []) g stacks →
    FailsInRound handshake g stacks → ⊥
after_first g [] f bad = absurd f
after_first g (stack ∷ []) (h, run, f) bad = absurd f
after_first g (stack ∷ below ∷ more) (h, run, (h', run', (e, none))) bad =
    let waited = turn handshake Waiting waiting_step _ h _ stack waits run in
    let begun = turn handshake Starting starting_step h h' (b (setting b1)) below (begin h stack waited) run' in
    let bad' =
    subst (λ z. FailsInRound handshake z (stack ∷ below ∷ [])) e (subst (λ z. FailsInRound handshake g (stack ∷ below ∷ z)) none bad) in
    second_round h' stack below (blocked h' stack below h waited begun) begun bad'
  where
    begin : (h : List Bool) (stack : List Frame) → Waiting h stack → Starting h (b (setting b1))
    begin _ _ waits = starts false

two_rounds_hold : Unsafe handshake 2 → ⊥
two_rounds_hold (zero, small, g, stacks, (same, fresh), bad) =
    first_round (subst (λ h. FailsInRound handshake h (a a0 ∷ b (setting b1) ∷ [])) same (subst (FailsInRound handshake g) fresh bad))
two_rounds_hold (suc zero, small, g, stacks, (h, mid, first, (same, fresh)), bad) =
    after_first h mid first (subst (λ z. FailsInRound handshake z mid) same (subst (FailsInRound handshake g) fresh bad))
two_rounds_hold (suc (suc r), small, g, stacks, rounds, bad) = absurd (omega arith)

three_rounds_fail : Unsafe handshake 3
three_rounds_fail = (
  2,
  omega arith,
  true ∷ true ∷ true ∷ [],
  a a2 ∷ b done ∷ [],
  (
    true ∷ false ∷ false ∷ [],
    a a0 ∷ b b1 ∷ [],
    (false ∷ false ∷ false ∷ [], (0, refl), (true ∷ false ∷ false ∷ [], (1, (true ∷ [], (refl, tt), refl)), (refl, refl))),
    (
      true ∷ true ∷ true ∷ [],
      a a2 ∷ b done ∷ [],
      (
        true ∷ true ∷ false ∷ [],
        (2, (refl, (true ∷ [], (refl, tt), refl))),
        (true ∷ true ∷ true ∷ [], (2, (refl, (true ∷ [], (refl, tt), refl))), (refl, refl)),
      ),
      (refl, refl),
    ),
  ),
  inl (_, (1, (refl, refl)), refl),
)

pub handshake_needs_three : (Unsafe handshake 2 → ⊥) × Unsafe handshake 3
handshake_needs_three = (two_rounds_hold, three_rounds_fail)
