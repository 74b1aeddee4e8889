-- Turns that were made stay turns when nodes are added.
use Rattle.std.proofs.Common.{◌≡◌, inl, inr, Some, slice_get, ℕ, zero, suc, ◌<◌, ◌≤◌, List, [], ◌∷◌, ◌++◌, length, refl, sym, ◌∙◌, ap}
use Rattle.std.proofs.Common.{subst, arith, append_assoc, length-append}
use Rattle.language.specs.Lists.{Member}
use Rattle.turns.specs.Machines.{Machine}
use Rattle.turns.specs.Turn.{SomeStackFails}
use Rattle.turns.specs.declared.numbered_frame.NumberedFrame.{NumberedFrame}
use Rattle.stack_sets.specs.Nodes.{by_number, IsPrefix}
use Rattle.stack_sets.specs.declared.node.Node.{Node}
use Rattle.stack_sets.specs.Turns.{AreWhole, AreEndings}
use Rattle.stack_sets.specs.declared.turn.Ending.{Ending}
use Rattle.stack_sets.proofs.GrowLemmas.{in_later, in_before}
use Rattle.language.proofs.Members.{member_append}
use Rattle.exploration.specs.declared.kept_turns.Start.{Start}
use Rattle.exploration.specs.declared.kept_turns.KeptTurn.{KeptTurn}
use Rattle.exploration.specs.Turns.{HasStart, AddsTurn, IsTurn, AreTurns}

module _ {Alloc : Type 0} where
  pub prefix_then : (old mid new : List (Node Alloc)) → IsPrefix old mid → IsPrefix mid new → IsPrefix old new
  prefix_then old mid new (first, e) (second, e') = (first ++ second, e' ∙ ap (λ l. l ++ second) e ∙ append_assoc old first second)

  pub prefix_same : (nodes : List (Node Alloc)) → IsPrefix nodes nodes
  prefix_same nodes = ([], sym (all nodes))
    where
      all : (xs : List (Node Alloc)) → xs ++ [] ≡ xs
      all [] = refl
      all (x ∷ xs) = ap (λ l. x ∷ l) (all xs)

  pub prefix_length : (old new : List (Node Alloc)) → IsPrefix old new → length old ≤ length new
  prefix_length old new (more, e) = let n = ap length e in let m = length-append old more in omega (arith, n, m)

  module _ (machine : Machine ℕ NumberedFrame) where
    -- the endings of a turn are such among more nodes
    pub endings_later : (before after now : List (Node Alloc)) → IsPrefix before after → IsPrefix after now → AreWhole before
        → AreWhole after
        → (g q : ℕ) (es : List Ending) → q < length before → AreEndings machine before after g q es → AreEndings machine now now g q es
    endings_later before after now first second whole whole' g q es small are =
        let both : IsPrefix before now = prefix_then before after now first second in
        let longer : length after ≤ length now = prefix_length after now second in record {
          only = λ h m stack is inside.
              let (s, at, run) = are.only h m stack is (in_before after now second whole' m stack (are.within h m is) inside) in
              (s, in_later before now both q s at, run);
          all = λ h stack ends.
              let (s, at, run) = ends in
              let (m, is, inside) = are.all h stack (s, in_before before now both whole q s small at, run) in
              (m, is, in_later after now second m stack inside);
          within = λ h m is. let less : m < length after = are.within h m is in omega (arith, less, longer);
          some = λ h m is. let (stack, inside) = are.some h m is in (stack, in_later after now second m stack inside);
        }

    pub fails_before : (old new : List (Node Alloc)) → IsPrefix old new → AreWhole old → (g q : ℕ) → q < length old
        → SomeStackFails machine (by_number new) g q → SomeStackFails machine (by_number old) g q
    fails_before old new prefix whole g q small (stack, at, bad) = (stack, in_before old new prefix whole q stack small at, bad)

    pub turn_later : (old new : List (Node Alloc)) → IsPrefix old new → AreWhole old → (turn : KeptTurn Alloc) → IsTurn machine old turn
        → IsTurn machine new turn
    turn_later old new prefix whole turn is = record {
      endings =
          endings_later old old new (prefix_same old) prefix whole whole turn.start.globals turn.start.node turn.endings.items is.within
          is.endings;
      holds = λ bad. is.holds (fails_before old new prefix whole turn.start.globals turn.start.node is.within bad);
      within = let less = is.within in let longer = prefix_length old new prefix in omega (arith, less, longer);
    }

    pub turns_later : (old new : List (Node Alloc)) → IsPrefix old new → AreWhole old → (turns : List (KeptTurn Alloc))
        → AreTurns machine old turns → AreTurns machine new turns
    turns_later old new prefix whole turns are = λ turn is. turn_later old new prefix whole turn (are turn is)

    -- one turn more
    pub turns_made : (old new : List (Node Alloc)) → IsPrefix old new → AreWhole old → AreWhole new → (turns turns' : List (KeptTurn Alloc))
        (start : Start) (es : List Ending) → AreTurns machine old turns → start.node < length old
        → AreEndings machine old new start.globals start.node es × (SomeStackFails machine (by_number old) start.globals start.node → ⊥)
        → AddsTurn start es turns turns' → AreTurns machine new turns'
    turns_made old new prefix whole whole' turns turns' start es are small (ends, holds) (made, (same, same'), e) turn m =
        elim (member_append turn turns (made ∷ []) (subst (Member turn) e m)) [
          | inl m ↦ turn_later old new prefix whole turn (are turn m)
          | inr (inl is) ↦ subst (IsTurn machine new) (sym is) (record {
            endings = subst (λ z. AreEndings machine new new z.globals z.node made.endings.items) (sym same)
                (subst (λ z. AreEndings machine new new start.globals start.node z) (sym same')
                (endings_later old new new prefix (prefix_same new) whole whole' start.globals start.node es small ends));
            holds = λ bad. holds (fails_before old new prefix whole start.globals start.node small
                (subst (λ z. SomeStackFails machine (by_number new) z.globals z.node) same bad));
            within = let longer = prefix_length old new prefix in
                let node : made.start.node ≡ start.node = ap (λ (z : Start). z.node) same in omega (arith, small, longer, node);
          })
          | inr (inr none) ↦ absurd none
        ]

-- a turn that is found is one of those that were made
pub turn_found : {Alloc : Type 0} (start : Start) (turns : List (KeptTurn Alloc)) (n : ℕ) → HasStart start (slice_get turns n)
    → (turn : KeptTurn Alloc) × (slice_get turns n ≡ Some turn) × Member turn turns × (turn.start ≡ start)
turn_found start [] n is = absurd is
turn_found start (x ∷ turns) zero is = (x, refl, inl refl, is)
turn_found start (x ∷ turns) (suc n) is = let (turn, at, m, e) = turn_found start turns n is in (turn, at, inr m, e)
