-- What the turn of a tuple comes to.
use Rattle.std.proofs.Common.{◌≡◌, ℕ, zero, suc, ◌+◌, ◌-◌, ◌<◌, ◌≤◌, List, [], ◌∷◌, ◌++◌, length, set, get_or, inl, inr, sym, ◌∙◌, ap}
use Rattle.std.proofs.Common.{subst, arith, length-append}
use Rattle.std.proofs.Math.ListN.{length-set}
use Rattle.language.specs.Lists.{Member}
use Rattle.turns.specs.Between.{Threads, Between, takes_turn, ends_round, FailsBelow}
use Rattle.turns.specs.Stacks.{InNode}
use Rattle.turns.specs.Turn.{SomeStackFails}
use Rattle.turns.specs.declared.numbered_frame.NumberedFrame.{NumberedFrame}
use Rattle.stack_sets.specs.Nodes.{by_number}
use Rattle.stack_sets.specs.declared.node.Node.{Node}
use Rattle.stack_sets.specs.Turns.{AreEndings, ending}
use Rattle.exploration.specs.declared.tuple.Tuple.{Tuple}
use Rattle.exploration.specs.Moments.{ComesNext}
use Rattle.exploration.specs.Met.{Stacks, Ending, AreHeld, AreMet, IsCovered, after_turn}
use Rattle.exploration.specs.Searched.{IsReached, NeverFails, IsExpanded, IsTuple}
use Rattle.exploration.proofs.BetweenLemmas.{next_over, last_of}
use Rattle.exploration.proofs.HeldLemmas.{held_at, held_set, set_at, held_back, around, member_set}

module _ {Alloc : Type 0} (p : Threads ℕ NumberedFrame) (nodes : List (Node Alloc)) (t : Tuple) (is : IsTuple p nodes t) where
  -- the node of the thread whose turn is next
  abbrev own : ℕ
  own = get_or t.nodes t.thread 0

  own_at : (had : Stacks) (stack : List NumberedFrame) (left : Stacks) → length had ≡ t.thread → AreHeld nodes (had ++ stack ∷ left) t.nodes
      → InNode (by_number nodes) own stack
  own_at had stack left e held =
      subst (λ i. InNode (by_number nodes) (get_or t.nodes i 0) stack) e (held_at nodes had stack left t.nodes held)

  -- a turn of the node that does not fail
  pub never_fails : (SomeStackFails p.machine (by_number nodes) t.globals own → ⊥) → NeverFails p nodes t
  never_fails holds = λ had stack left e held bad. holds (stack, own_at had stack left e held, bad)

  module _ (es : List Ending) (are : AreEndings p.machine nodes nodes t.globals own es) (r r' thread' : ℕ)
      (next : ComesNext (length p.stacks) r t.thread r' thread') where
    -- where the next turn is
    met_next : (tuples : List Tuple) (h : ℕ) (had : Stacks) (stack' : List NumberedFrame) (left : Stacks) (n : Tuple) → Member n tuples
        → length had ≡ t.thread → length had + suc (length left) ≡ length p.stacks → n.globals ≡ h → n.thread ≡ thread'
        → AreHeld nodes (had ++ stack' ∷ left) n.nodes → ComesNext (length p.stacks) r t.thread r' thread'
        → AreMet nodes tuples h (had ++ stack' ∷ []) left
    met_next tuples h had stack' [] n m e count same_g same_t held (inl (small, same, to)) = absurd (omega (arith, e, count, small))
    met_next tuples h had stack' [] n m e count same_g same_t held (inr (all, same, to)) = (n, m, same_t ∙ to, same_g, held)
    met_next tuples h had stack' (s ∷ left) n m e count same_g same_t held (inl (small, same, to)) =
        let longer = length-append had (stack' ∷ []) in
        let place : n.thread ≡ length (had ++ stack' ∷ []) = omega (arith, longer, e, same_t, to) in
        (n, m, place, same_g, subst (λ z. AreHeld nodes z n.nodes) (sym (next_over had stack' (s ∷ left))) held)
    met_next tuples h had stack' (s ∷ left) n m e count same_g same_t held (inr (all, same, to)) = absurd (omega (arith, e, count, all))

    -- what the endings lead to is met
    pub is_expanded : (tuples : List Tuple) → ((e : Ending) → Member e es → IsCovered nodes tuples (after_turn t thread' e))
        → IsExpanded p nodes tuples t
    is_expanded tuples added = λ h had stack stack' left e count held run.
        let (m, inside, at) = are.all h stack' (stack, own_at had stack left e held, run) in
        let held' : AreHeld nodes (had ++ stack' ∷ left) (set t.nodes t.thread m) =
        subst (λ i. AreHeld nodes (had ++ stack' ∷ left) (set t.nodes i m)) e (held_set nodes had stack stack' left t.nodes m held at) in
        let (other, is_there, same_t, same_g, all) = added (ending h m) inside in
        met_next tuples h had stack' left other is_there e count same_g same_t (all (had ++ stack' ∷ left) held') next

    module _ (e : Ending) (inside : Member e es) where
      -- the tuple after the turn
      abbrev after : Tuple
      after = after_turn t thread' e

      pub after_is : thread' < length p.stacks → IsTuple p nodes after
      after_is small = record {
        thread = small;
        places = length-set t.nodes t.thread e.node ∙ is.places;
        full = λ q m. elim (member_set q e.node t.thread t.nodes m) [
          | inl same ↦
              subst (λ z. (stack : List NumberedFrame) × InNode (by_number nodes) z stack) (sym same) (are.some e.globals e.node inside)
          | inr m ↦ is.full q m
        ];
      }

      -- a turn led there
      led : IsReached p nodes r t → (had : Stacks) (stack' : List NumberedFrame) (left : Stacks) → length had ≡ t.thread
          → length had + suc (length left) ≡ length p.stacks → AreHeld nodes (had ++ stack' ∷ left) after.nodes
          → (r0 : ℕ) × (r0 ≤ r) × Between p r0 e.globals (had ++ stack' ∷ []) left
      led reached had stack' left same count held =
          let held' : AreHeld nodes (had ++ stack' ∷ left) (set t.nodes (length had) e.node) =
          subst (λ i. AreHeld nodes (had ++ stack' ∷ left) (set t.nodes i e.node)) (sym same) held in
          let (stack, at, run) = are.only e.globals e.node stack' inside (set_at nodes had stack' left t.nodes e.node held') in
          let at' : InNode (by_number nodes) (get_or t.nodes (length had) 0) stack =
          subst (λ i. InNode (by_number nodes) (get_or t.nodes i 0) stack) (sym same) at in
          let (r0, few, before) = reached had (stack ∷ left) same count (held_back nodes had stack stack' left t.nodes e.node held' at') in
          (r0, few, takes_turn r0 t.globals e.globals had stack stack' left before run)

      reached_in : IsReached p nodes r t → ComesNext (length p.stacks) r t.thread r' thread' → (had left : Stacks) → length had ≡ thread'
          → length had + length left ≡ length p.stacks → AreHeld nodes (had ++ left) after.nodes
          → (r0 : ℕ) × (r0 ≤ r') × Between p r0 e.globals had left
      reached_in reached (inl (small, same, to)) had left place count held =
          let (before, stack', e', n) = last_of t.thread had (place ∙ to) in
          let whole : had ++ left ≡ before ++ stack' ∷ left = ap (λ z. z ++ left) e' ∙ next_over before stack' left in
          let count' : length before + suc (length left) ≡ length p.stacks = omega (arith, n, place, to, count) in
          let (r0, few, at) = led reached before stack' left n count' (subst (λ z. AreHeld nodes z after.nodes) whole held) in
          (r0, omega (arith, few, same), subst (λ z. Between p r0 e.globals z left) (sym e') at)
      reached_in reached (inr (all, same, to)) [] left place count held =
          let (before, stack', e', n) = last_of t.thread left (omega (arith, all, count)) in
          let count' : length before + suc zero ≡ length p.stacks = omega (arith, n, all) in
          let (r0, few, at) = led reached before stack' [] n count' (subst (λ z. AreHeld nodes z after.nodes) e' held) in
          let ended : Between p (suc r0) e.globals [] (before ++ stack' ∷ []) = ends_round r0 e.globals (before ++ stack' ∷ []) at in
          (suc r0, omega (arith, few, same), subst (λ z. Between p (suc r0) e.globals [] z) (sym e') ended)
      reached_in reached (inr (all, same, to)) (s ∷ had) left place count held = absurd (omega (arith, place, to))

      pub after_reached : IsReached p nodes r t → IsReached p nodes r' after
      after_reached reached = λ had left place count held. reached_in reached next had left place count held

  -- a turn of the node that fails is one of the round
  pub fails_there : (r : ℕ) → length p.stacks ≤ 8 → IsReached p nodes r t → SomeStackFails p.machine (by_number nodes) t.globals own
      → FailsBelow p (suc r)
  fails_there r eight reached (stack, at, bad) =
      let small : t.thread < length p.stacks = is.thread in
      let places : length t.nodes ≡ 8 = is.places in
      let (had, left, n, k, held) = around nodes t.thread (length p.stacks - suc t.thread) t.nodes stack is.full (omega arith) at in
      let count : length had + suc (length left) ≡ length p.stacks = omega (arith, n, k, small) in
      let (r0, few, between) = reached had (stack ∷ left) n count held in
      (r0, omega (arith, few), t.globals, had, stack, left, between, bad)
