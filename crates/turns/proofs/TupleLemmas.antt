-- Closed tuples cover all that is reached.
use Rattle.std.proofs.Common.{ℕ, suc, ◌<◌, List, [], ◌∷◌, ◌++◌, arith}
use Rattle.turns.specs.Machines.{Runs, TurnFails}
use Rattle.turns.specs.Stacks.{Nodes}
use Rattle.turns.specs.Between.{Threads, Between, begins, takes_turn, ends_round, FailsBelow}
use Rattle.turns.specs.Tuples.{Meeting, Covered, IsClosedBelow, NoneFailsBelow, AreReached, SomeFailsBelow}

module _ {Name Globals Frame : Type 0} (p : Threads Globals Frame) (nodes : Nodes Name Frame) (Met : Meeting Name Globals) (k : ℕ)
    (closed : IsClosedBelow p nodes Met k) where
  -- the tuple's turn is that of the thread that is next
  turn_covered : (r : ℕ) (g h : Globals) (had : List (List Frame)) (stack stack' : List Frame) (left : List (List Frame)) → r < k
      → Covered p nodes Met r g had (stack ∷ left) → Runs p.machine g stack h stack' → Covered p nodes Met r h (had ++ stack' ∷ []) left
  turn_covered r g h had stack stack' left small (qs, [], met, in_qs, none) run = absurd none
  turn_covered r g h had stack stack' left small (qs, q ∷ rs, met, in_qs, (is, in_rs)) run =
      closed.turns r g h qs q rs had stack stack' left small met in_qs is in_rs run

  round_covered : (r : ℕ) (g : Globals) (had : List (List Frame)) → suc r < k → Covered p nodes Met r g had []
      → Covered p nodes Met (suc r) g [] had
  round_covered r g had small (qs, [], met, in_qs, none) = closed.rounds r g qs had small met in_qs
  round_covered r g had small (qs, q ∷ rs, met, in_qs, none) = absurd none

  covered : (r : ℕ) (g : Globals) (had left : List (List Frame)) → r < k → Between p r g had left → Covered p nodes Met r g had left
  covered _ _ _ _ small begins = closed.begins
  covered _ _ _ _ small (takes_turn r g h had stack stack' left at run) =
      turn_covered r g h had stack stack' left small (covered r g had (stack ∷ left) small at) run
  covered _ _ _ _ small (ends_round r g had at) =
      let less : r < k = omega arith in
      round_covered r g had small (covered r g had [] less at)

  fails_covered : (r : ℕ) (g : Globals) (had : List (List Frame)) (stack : List Frame) (left : List (List Frame)) → r < k
      → NoneFailsBelow p nodes Met k → Covered p nodes Met r g had (stack ∷ left) → TurnFails p.machine g stack → ⊥
  fails_covered r g had stack left small never (qs, [], met, in_qs, none) bad = absurd none
  fails_covered r g had stack left small never (qs, q ∷ rs, met, in_qs, (is, in_rs)) bad = never r g qs q rs stack small met is bad

  -- where tuples are closed and none of their turns fails, no turn fails
  pub closed_safe : NoneFailsBelow p nodes Met k → FailsBelow p k → ⊥
  closed_safe never (r, small, g, had, stack, left, at, bad) =
      fails_covered r g had stack left small never (covered r g had (stack ∷ left) small at) bad

module _ {Name Globals Frame : Type 0} (p : Threads Globals Frame) (nodes : Nodes Name Frame) (Met : Meeting Name Globals) where
  -- where a turn of a tuple that is reached fails, a turn fails
  pub reached_fails : (k : ℕ) → AreReached p nodes Met → SomeFailsBelow p nodes Met k → FailsBelow p k
  reached_fails k reached (r, g, qs, q, rs, had, stack, left, small, met, in_qs, is, in_rs, bad) =
      let (r', less, at) = reached r g qs (q ∷ rs) had (stack ∷ left) met in_qs (is, in_rs) in
      let below : r' < k = omega arith in
      (r', below, g, had, stack, left, at, bad)
