-- From one turn to the next, and what a search has found at the end.
use Rattle.std.proofs.Common.{◌≡◌, ◌⊎◌, ℕ, zero, suc, ◌+◌, ◌<◌, ◌≤◌, List, [], ◌∷◌, ◌++◌, length, inl, inr, refl, sym, ◌∙◌, ap, subst}
use Rattle.std.proofs.Common.{arith, length-append}
use Rattle.std.proofs.Math.Nat.{eq-or-lt_of_le}
use Rattle.language.specs.Lists.{Member}
use Rattle.turns.specs.Machines.{Runs, no_step, TurnFails}
use Rattle.turns.specs.Between.{Threads, Between, begins, takes_turn, ends_round, FailsBelow}
use Rattle.turns.proofs.RunLemmas.{runs_then}
use Rattle.turns.specs.declared.numbered_frame.NumberedFrame.{NumberedFrame}
use Rattle.stack_sets.specs.declared.node.Node.{Node}
use Rattle.exploration.specs.declared.tuple.Tuple.{Tuple}
use Rattle.exploration.specs.Moments.{ComesNext}
use Rattle.exploration.specs.Met.{Stacks, AreMet}
use Rattle.exploration.specs.Searched.{NeverFails, IsExpanded, NoneFailsBefore, IsMetThen}
use Rattle.exploration.proofs.BetweenLemmas.{Came, came, lengths, all_over, last_of}

pub less_or_same : (i j : ℕ) → i < suc j → (i < j) ⊎ (i ≡ j)
less_or_same i j small =
    let few : i ≤ j = omega (arith, small) in
    elim (eq-or-lt_of_le few) [ inl e ↦ inr e | inr less ↦ inl less ]

module _ {Alloc : Type 0} (p : Threads ℕ NumberedFrame) (nodes : List (Node Alloc)) where
  abbrev n : ℕ
  n = length p.stacks

  -- where all have had their turn, none has had that of the next round
  pub met_round : (tuples : List Tuple) (g : ℕ) (had : Stacks) → AreMet nodes tuples g had [] → AreMet nodes tuples g [] had
  met_round tuples g [] met = met
  met_round tuples g (s ∷ had) met = met

  -- what is met before and after a turn
  module _ (few tuples : List Tuple) (all : (t : Tuple) → Member t few → IsExpanded p nodes tuples t × NeverFails p nodes t) where
    turn_met : (r g h : ℕ) (had : Stacks) (stack stack' : List NumberedFrame) (left : Stacks) → Between p r g had (stack ∷ left)
        → AreMet nodes few g had (stack ∷ left) → Runs p.machine g stack h stack' → AreMet nodes tuples h (had ++ stack' ∷ []) left
    turn_met r g h had stack stack' left at (t, is, same, same', held) run =
        let count : length had + suc (length left) ≡ n = lengths p r g had (stack ∷ left) at in
        (all t is).0 h had stack stack' left (sym same) count held (subst (λ z. Runs p.machine z stack h stack') (sym same') run)

    turn_holds : (g : ℕ) (had : Stacks) (stack : List NumberedFrame) (left : Stacks) → AreMet nodes few g had (stack ∷ left)
        → TurnFails p.machine g stack → ⊥
    turn_holds g had stack left (t, is, same, same', held) bad =
        (all t is).1 had stack left (sym same) held (subst (λ z. TurnFails p.machine z stack) (sym same') bad)

    module _ (r thread : ℕ) (then : IsMetThen p nodes few r thread) where
      -- the next thread's turn
      abbrev LedTo : ℕ → Stacks → Stacks → Type 0
      LedTo g had left = Came p r g had left

      next_thread : (g : ℕ) (had left : Stacks) → length had ≡ suc thread → Came p r g had left → AreMet nodes tuples g had left
      next_thread g had left e (inl (zero_r, same, none, all_left)) = let z = ap length none in absurd (omega (arith, e, z))
      next_thread g had left e (inr (inl (g0, before, stack, stack', same, at, run))) =
          let k = ap length same in
          let longer = length-append before (stack' ∷ []) in
          let place : length before ≡ thread = omega (arith, k, longer, e) in
          subst (λ z. AreMet nodes tuples g z left) (sym same)
          (turn_met r g0 g before stack stack' left at (then g0 before (stack ∷ left) at place) run)
      next_thread g had left e (inr (inr (r0, same_r, none, at))) = let z = ap length none in absurd (omega (arith, e, z))

      -- the round's end
      round_end : suc thread ≡ n → (g : ℕ) (had : Stacks) → Between p r g had [] → Came p r g had [] → AreMet nodes tuples g had []
      round_end whole g had at (inl (zero_r, same, none, all_left)) =
          let z = ap length all_left in
          absurd (omega (arith, whole, z))
      round_end whole g had at (inr (inl (g0, before, stack, stack', same, at', run))) =
          let count = lengths p r g0 before (stack ∷ []) at' in
          let place : length before ≡ thread = omega (arith, count, whole) in
          subst (λ z. AreMet nodes tuples g z []) (sym same)
          (turn_met r g0 g before stack stack' [] at' (then g0 before (stack ∷ []) at' place) run)
      round_end whole g had at (inr (inr (r0, same_r, none, at'))) =
          let z = ap length none in
          let count = lengths p r g had [] at in
          absurd (omega (arith, whole, z, count))

      next_round : suc thread ≡ n → (r' g : ℕ) (had left : Stacks) → r' ≡ suc r → length had ≡ 0 → Came p r' g had left
          → AreMet nodes tuples g had left
      next_round whole r' g had left same_r' e (inl (zero_r, same, none, all_left)) = absurd (omega (arith, same_r', zero_r))
      next_round whole r' g had left same_r' e (inr (inl (g0, before, stack, stack', same, at, run))) =
          let k = ap length same in
          let longer = length-append before (stack' ∷ []) in
          absurd (omega (arith, k, longer, e))
      next_round whole r' g had left same_r' e (inr (inr (r0, same_r, none, at))) =
          let back : r0 ≡ r = omega (arith, same_r, same_r') in
          let at' : Between p r g left [] = subst (λ z. Between p z g left []) back at in
          subst (λ z. AreMet nodes tuples g z left) (sym none)
          (met_round tuples g left (round_end whole g left at' (came p r g left [] at')))

      pub met_next : (r' thread' : ℕ) → ComesNext n r thread r' thread' → IsMetThen p nodes tuples r' thread'
      met_next r' thread' (inl (small, same_r, to)) g had left at e =
          next_thread g had left (e ∙ to) (came p r g had left (subst (λ z. Between p z g had left) same_r at))
      met_next r' thread' (inr (whole, same_r, to)) g had left at e =
          next_round whole r' g had left same_r (e ∙ to) (came p r' g had left at)

      holds_here : NoneFailsBefore p r thread → (g : ℕ) (had : Stacks) (stack : List NumberedFrame) (left : Stacks)
          → Between p r g had (stack ∷ left) → length had < suc thread → TurnFails p.machine g stack → ⊥
      holds_here holds g had stack left at small bad =
          elim (less_or_same (length had) thread small) [
            | inl less ↦ holds.1 g had stack left at less bad
            | inr same ↦ turn_holds g had stack left (then g had (stack ∷ left) at same) bad
          ]

      pub holds_next : (r' thread' : ℕ) → ComesNext n r thread r' thread' → NoneFailsBefore p r thread → NoneFailsBefore p r' thread'
      holds_next r' thread' (inl (small, same_r, to)) holds = (
        λ bad. holds.0 (subst (FailsBelow p) same_r bad),
        λ g had stack left at less bad.
            holds_here holds g had stack left (subst (λ z. Between p z g had (stack ∷ left)) same_r at) (omega (arith, less, to)) bad,
      )
      holds_next r' thread' (inr (whole, same_r, to)) holds = (
        λ (r0, less, g, had, stack, left, at, bad).
            elim (less_or_same r0 r (omega (arith, less, same_r))) [
              | inl small ↦ holds.0 (r0, small, g, had, stack, left, at, bad)
              | inr same ↦
                  let at' : Between p r g had (stack ∷ left) = subst (λ z. Between p z g had (stack ∷ left)) same at in
                  let count = lengths p r g had (stack ∷ left) at' in
                  holds_here holds g had stack left at' (omega (arith, count, whole)) bad
            ],
        λ g had stack left at less bad. absurd (omega (arith, less, to)),
      )

  -- Where all tuples are expanded, nothing more is reached.
  module _ (tuples : List Tuple) (all : (t : Tuple) → Member t tuples → IsExpanded p nodes tuples t × NeverFails p nodes t)
      (starts : AreMet nodes tuples p.globals [] p.stacks) where
    all_met : (r g : ℕ) (had left : Stacks) → Between p r g had left → AreMet nodes tuples g had left
    all_met _ _ _ _ begins = starts
    all_met _ _ _ _ (takes_turn r g h had stack stack' left at run) =
        turn_met tuples tuples all r g h had stack stack' left at (all_met r g had (stack ∷ left) at) run
    all_met _ _ _ _ (ends_round r g had at) = met_round tuples g had (all_met r g had [] at)

    pub settled_holds : (k : ℕ) → FailsBelow p k → ⊥
    settled_holds k (r, small, g, had, stack, left, at, bad) =
        turn_holds tuples tuples all g had stack left (all_met r g had (stack ∷ left) at) bad

  -- at first
  met_first : (tuples : List Tuple) → AreMet nodes tuples p.globals [] p.stacks → (g : ℕ) (had left : Stacks) → length had ≡ 0
      → Came p zero g had left → AreMet nodes tuples g had left
  met_first tuples starts g had left e (inl (zero_r, same, none, all_left)) =
      subst (λ z. AreMet nodes tuples z had left) (sym same)
      (subst (λ z. AreMet nodes tuples p.globals z left) (sym none) (subst (λ z. AreMet nodes tuples p.globals [] z) (sym all_left) starts))
  met_first tuples starts g had left e (inr (inl (g0, before, stack, stack', same, at, run))) =
      let k = ap length same in
      let longer = length-append before (stack' ∷ []) in
      absurd (omega (arith, k, longer, e))
  met_first tuples starts g had left e (inr (inr (r0, same_r, none, at))) = absurd (omega (arith, same_r))

  pub met_at_first : (tuples : List Tuple) → AreMet nodes tuples p.globals [] p.stacks → IsMetThen p nodes tuples 0 0
  met_at_first tuples starts g had left at e = met_first tuples starts g had left e (came p zero g had left at)

pub holds_at_first : (p : Threads ℕ NumberedFrame) → NoneFailsBefore p 0 0
holds_at_first p = (
  λ (r0, less, g, had, stack, left, at, bad). absurd (omega (arith, less)),
  λ g had stack left at less bad. absurd (omega (arith, less)),
)

-- without threads no turn fails
pub none_holds : (p : Threads ℕ NumberedFrame) → length p.stacks ≡ 0 → (k : ℕ) → FailsBelow p k → ⊥
none_holds p none k (r, small, g, had, stack, left, at, bad) =
    let count = lengths p r g had (stack ∷ left) at in
    absurd (omega (arith, count, none))

-- A thread that is alone runs on from turn to turn.
module _ (p : Threads ℕ NumberedFrame) (first : List NumberedFrame) (one : p.stacks ≡ first ∷ []) where
  abbrev Alone : ℕ → Stacks → Type 0
  Alone g stacks = (stack : List NumberedFrame) × (stacks ≡ stack ∷ []) × Runs p.machine p.globals first g stack

  alone_turn : (g h : ℕ) (had : Stacks) (stack stack' : List NumberedFrame) (left : Stacks) → Alone g (had ++ stack ∷ left)
      → Runs p.machine g stack h stack' → Alone h ((had ++ stack' ∷ []) ++ left)
  alone_turn g h [] stack stack' [] (s, e, run) run' =
      let same : stack ≡ s = cc in
      (stack', refl, runs_then p.machine p.globals g h first s stack' run (subst (λ z. Runs p.machine g z h stack') same run'))
  alone_turn g h [] stack stack' (x ∷ left) (s, e, run) run' = let z = ap length e in absurd (omega (arith, z))
  alone_turn g h (x ∷ had) stack stack' left (s, e, run) run' =
      let z = ap length e in
      let more = length-append had (stack ∷ left) in
      absurd (omega (arith, z, more))

  alone : (r g : ℕ) (had left : Stacks) → Between p r g had left → Alone g (had ++ left)
  alone _ _ _ _ begins = (first, one, no_step p.globals first)
  alone _ _ _ _ (takes_turn r g h had stack stack' left at run) = alone_turn g h had stack stack' left (alone r g had (stack ∷ left) at) run
  alone _ _ _ _ (ends_round r g had at) = subst (Alone g) (all_over had) (alone r g had [] at)

  alone_fails : (g : ℕ) (had : Stacks) (stack : List NumberedFrame) (left : Stacks) → Alone g (had ++ stack ∷ left)
      → TurnFails p.machine g stack → FailsBelow p 1
  alone_fails g [] stack [] (s, e, run) (h, stack', run', bad) =
      let same : stack ≡ s = cc in
      let small : 0 < 1 = omega arith in
      let start : Between p 0 p.globals [] (first ∷ []) = subst (λ z. Between p 0 p.globals [] z) one begins in (
        0,
        small,
        p.globals,
        [],
        first,
        [],
        start,
        (h, stack', runs_then p.machine p.globals g h first s stack' run (subst (λ z. Runs p.machine g z h stack') same run'), bad),
      )
  alone_fails g [] stack (x ∷ left) (s, e, run) bad = let z = ap length e in absurd (omega (arith, z))
  alone_fails g (x ∷ had) stack left (s, e, run) bad =
      let z = ap length e in
      let more = length-append had (stack ∷ left) in
      absurd (omega (arith, z, more))

  alone_below : (k : ℕ) → FailsBelow p k → FailsBelow p 1
  alone_below k (r, small, g, had, stack, left, at, bad) = alone_fails g had stack left (alone r g had (stack ∷ left) at) bad

-- fewer rounds that fail are no fewer that fail
pub fails_more : (p : Threads ℕ NumberedFrame) (k m : ℕ) → k ≤ m → FailsBelow p k → FailsBelow p m
fails_more p k m few (r, small, g, had, stack, left, at, bad) = (r, omega (arith, small, few), g, had, stack, left, at, bad)

-- a thread that is alone fails in its first turn or never
pub alone_holds : (p : Threads ℕ NumberedFrame) → length p.stacks ≡ 1 → (r : ℕ) → 0 < r → (FailsBelow p r → ⊥) → (k : ℕ) → FailsBelow p k
    → ⊥
alone_holds p one r some holds k bad =
    let (before, stack, e, n) = last_of 0 p.stacks one in
    let whole : p.stacks ≡ stack ∷ [] = e ∙ ap (λ z. z ++ stack ∷ []) (empty before n) in
    holds (fails_more p 1 r (omega (arith, some)) (alone_below p stack whole k bad))
  where
    empty : (xs : Stacks) → length xs ≡ 0 → xs ≡ []
    empty [] n = refl
    empty (x ∷ xs) n = absurd (omega (arith, n))
