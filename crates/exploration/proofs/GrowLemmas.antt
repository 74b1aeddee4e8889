-- What a search knows stays so when nodes and tuples are added.
use Rattle.std.proofs.Common.{◌≡◌, ℕ, zero, suc, ◌<◌, ◌≤◌, List, [], ◌∷◌, ◌++◌, Some, length, slice_get, inl, inr, refl, sym, ap, subst}
use Rattle.std.proofs.Common.{arith, length-append}
use Rattle.language.specs.Lists.{Member}
use Rattle.language.proofs.Members.{member_left, member_append}
use Rattle.turns.specs.Between.{Threads}
use Rattle.turns.specs.Stacks.{InNode}
use Rattle.turns.specs.declared.numbered_frame.NumberedFrame.{NumberedFrame}
use Rattle.stack_sets.specs.Nodes.{by_number, IsPrefix}
use Rattle.stack_sets.specs.declared.node.Node.{Node}
use Rattle.stack_sets.specs.Turns.{AreWhole}
use Rattle.exploration.specs.declared.kept_turns.KeptTurn.{KeptTurn}
use Rattle.exploration.specs.declared.tuple.Tuple.{Tuple}
use Rattle.exploration.specs.Met.{Stacks, AreHeld, IsMet, AreMet}
use Rattle.exploration.specs.Turns.{AreTurns}
use Rattle.exploration.specs.Searched.{IsReached, NeverFails, IsExpanded, IsTuple, IsSearched}
use Rattle.stack_sets.proofs.GrowLemmas.{in_later, in_before, in_within}

-- what is at a place of a list stays there when others are appended
pub get_before : {A : Type 0} (xs ys : List A) (j : ℕ) (x : A) → j < length xs → slice_get (xs ++ ys) j ≡ Some x → slice_get xs j ≡ Some x
get_before [] ys j x small at = absurd (omega (arith, small))
get_before (z ∷ xs) ys zero x small at = at
get_before (z ∷ xs) ys (suc j) x small at = get_before xs ys j x (omega (arith, small)) at

-- what is at a place of a list is in it
pub get_member : {A : Type 0} (xs : List A) (j : ℕ) (x : A) → slice_get xs j ≡ Some x → Member x xs
get_member [] j x at = absurd (cc)
get_member (z ∷ xs) zero x at = inl (cc)
get_member (z ∷ xs) (suc j) x at = inr (get_member xs j x at)

-- what is in a list is at a place of it
pub member_place : {A : Type 0} (x : A) (xs : List A) → Member x xs → (j : ℕ) × (j < length xs) × (slice_get xs j ≡ Some x)
member_place x [] is = absurd is
member_place x (z ∷ xs) (inl e) = (0, omega arith, ap Some (sym e))
member_place x (z ∷ xs) (inr is) = let (j, small, at) = member_place x xs is in (suc j, omega (arith, small), at)

module _ {Alloc : Type 0} (old new : List (Node Alloc)) (prefix : IsPrefix old new) where
  pub held_later : (stacks : Stacks) (qs : List ℕ) → AreHeld old stacks qs → AreHeld new stacks qs
  held_later [] qs held = tt
  held_later (s ∷ stacks) [] held = absurd held
  held_later (s ∷ stacks) (q ∷ qs) held = (in_later old new prefix q s held.0, held_later stacks qs held.1)

  pub is_met_later : (few more : List Tuple) → ((t : Tuple) → Member t few → Member t more) → (thread g : ℕ) (stacks : Stacks)
      → IsMet old few thread g stacks → IsMet new more thread g stacks
  is_met_later few more sub thread g stacks (t, is, same, same', held) = (t, sub t is, same, same', held_later stacks t.nodes held)

  pub met_later : (few more : List Tuple) → ((t : Tuple) → Member t few → Member t more) → (g : ℕ) (had left : Stacks)
      → AreMet old few g had left → AreMet new more g had left
  met_later few more sub g had [] met = is_met_later few more sub 0 g had met
  met_later few more sub g had (s ∷ left) met = is_met_later few more sub (length had) g (had ++ s ∷ left) met

  module _ (whole : AreWhole old) where
    pub held_before : (stacks : Stacks) (qs : List ℕ)
        → ((q : ℕ) → Member q qs → (stack : List NumberedFrame) × InNode (by_number old) q stack)
        → AreHeld new stacks qs → AreHeld old stacks qs
    held_before [] qs full held = tt
    held_before (s ∷ stacks) [] full held = absurd held
    held_before (s ∷ stacks) (q ∷ qs) full held =
        let (stack, is) = full q (inl refl) in
        (in_before old new prefix whole q s (in_within old q stack is) held.0, held_before stacks qs (λ r m. full r (inr m)) held.1)

    module _ (p : Threads ℕ NumberedFrame) where
      pub tuple_later : (t : Tuple) → IsTuple p old t → IsTuple p new t
      tuple_later t is = record {
        thread = is.thread;
        places = is.places;
        full = λ q m. let (stack, inside) = is.full q m in (stack, in_later old new prefix q stack inside);
      }

      pub reached_later : (round : ℕ) (t : Tuple) → IsTuple p old t → IsReached p old round t → IsReached p new round t
      reached_later round t is reached = λ had left e n held. reached had left e n (held_before (had ++ left) t.nodes is.full held)

      pub never_later : (t : Tuple) → IsTuple p old t → NeverFails p old t → NeverFails p new t
      never_later t is never = λ had stack left e held. never had stack left e (held_before (had ++ stack ∷ left) t.nodes is.full held)

      pub expanded_later : (few more : List Tuple) → ((t : Tuple) → Member t few → Member t more) → (t : Tuple) → IsTuple p old t
          → IsExpanded p old few t → IsExpanded p new more t
      expanded_later few more sub t is expanded = λ h had stack stack' left e n held run.
          met_later few more sub h (had ++ stack' ∷ []) left
          (expanded h had stack stack' left e n (held_before (had ++ stack ∷ left) t.nodes is.full held) run)

      -- more nodes, turns and tuples
      pub searched_later : (turns turns' : List (KeptTurn Alloc)) (tuples tuples' more : List Tuple) (expanded : ℕ)
          → IsSearched p old turns tuples expanded → AreWhole new → AreTurns p.machine new turns' → tuples' ≡ tuples ++ more
          → ((t : Tuple) → Member t more → IsTuple p new t) → IsSearched p new turns' tuples' expanded
      searched_later turns turns' tuples tuples' more expanded is whole' made same others =
          let sub : (t : Tuple) → Member t tuples → Member t tuples' =
          λ t m. subst (Member t) (sym same) (member_left t tuples more m) in record {
            whole = whole';
            made = made;
            each = λ t m. elim (member_append t tuples more (subst (Member t) same m)) [
              | inl m ↦ tuple_later t (is.each t m)
              | inr m ↦ others t m
            ];
            starts = met_later tuples tuples' sub p.globals [] p.stacks is.starts;
            done = λ j t small at.
                let few : expanded ≤ length tuples = is.few in
                let at' : slice_get tuples j ≡ Some t =
                get_before tuples more j t (omega arith) (subst (λ z. slice_get z j ≡ Some t) same at) in
                let was : IsTuple p old t = is.each t (get_member tuples j t at') in
                (expanded_later tuples tuples' sub t was (is.done j t small at').0, never_later t was (is.done j t small at').1);
            few =
                let n = ap length same in
                let m = length-append tuples more in
                let few : expanded ≤ length tuples = is.few in
                omega (arith, n, m, few);
          }
