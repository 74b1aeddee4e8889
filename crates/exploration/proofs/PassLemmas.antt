-- The turns of all tuples that wait, one after the other.
use Rattle.std.proofs.Common.{◌≡◌, ℕ, zero, suc, ◌+◌, ◌<◌, ◌≤◌, List, [], ◌∷◌, ◌++◌, Some, length, slice_get, get_or, inl, inr, sym, ◌∙◌}
use Rattle.std.proofs.Common.{ap, subst, arith, length-append}
use Rattle.std.proofs.lemmas.Option.{slice_get-get_or, slice_get_within, same_Some}
use Rattle.language.specs.Lists.{Member}
use Rattle.language.proofs.Members.{member_append}
use Rattle.turns.specs.Between.{Threads, FailsBelow}
use Rattle.turns.specs.declared.numbered_frame.NumberedFrame.{NumberedFrame}
use Rattle.stack_sets.specs.Nodes.{IsPrefix}
use Rattle.stack_sets.specs.declared.node.Node.{Node}
use Rattle.exploration.specs.declared.kept_turns.KeptTurn.{KeptTurn}
use Rattle.exploration.specs.declared.moment.Moment.{Moment}
use Rattle.exploration.specs.declared.tuple.Tuple.{Tuple}
use Rattle.exploration.specs.Met.{Adds}
use Rattle.exploration.specs.Moments.{ComesNext, Follows}
use Rattle.exploration.specs.Searched.{IsReached, NeverFails, IsExpanded, IsTuple, IsSearched, IsMetThen, HasCome, IsNew, NoneFailsBefore}
use Rattle.exploration.proofs.TupleLemmas.{adds_then, adds_keep, adds_none}
use Rattle.exploration.proofs.GrowLemmas.{get_before, get_member, member_place, met_later, tuple_later, reached_later}
use Rattle.exploration.proofs.ComeLemmas.{less_or_same, met_next, holds_next, settled_holds}

-- what is behind the first ones of a list is among the others
behind : {A : Type 0} (xs ys : List A) (j : ℕ) (x : A) → length xs ≤ j → slice_get (xs ++ ys) j ≡ Some x → Member x ys
behind [] ys j x few at = get_member ys j x at
behind (z ∷ xs) ys zero x few at = absurd (omega (arith, few))
behind (z ∷ xs) ys (suc j) x few at = behind xs ys j x (omega (arith, few)) at

-- what is at a place of a list stays there when others are appended
get_after : {A : Type 0} (xs ys : List A) (j : ℕ) (x : A) → slice_get xs j ≡ Some x → slice_get (xs ++ ys) j ≡ Some x
get_after [] ys j x at = absurd (cc)
get_after (z ∷ xs) ys zero x at = at
get_after (z ∷ xs) ys (suc j) x at = get_after xs ys j x at

next_small : (n r i r' i' : ℕ) → i < n → ComesNext n r i r' i' → i' < n
next_small n r i r' i' small (inl (less, same, to)) = omega (arith, less, to)
next_small n r i r' i' small (inr (all, same, to)) = omega (arith, small, to)

next_later : (n r i r' i' : ℕ) → ComesNext n r i r' i' → r ≤ r'
next_later n r i r' i' (inl (less, same, to)) = omega (arith, same)
next_later n r i r' i' (inr (all, same, to)) = omega (arith, same)

pub comes_within : (p : Threads ℕ NumberedFrame) (moment next : Moment) → moment.thread < length p.stacks
    → Follows (length p.stacks) moment next
    → next.thread < length p.stacks
comes_within p moment next small follows = next_small (length p.stacks) moment.round moment.thread next.round next.thread small follows

module _ {A : Type 0} (p : Threads ℕ NumberedFrame) where
  -- Of the tuples that were there first, some more have had their turn. The others are before it, and what was added is
  -- before the next one.
  pub record IsPassing (nodes : List (Node A)) (turns : List (KeptTurn A)) (first tuples : List Tuple) (expanded : ℕ)
      (moment next : Moment) : Type 0 where
    pub searched : IsSearched p nodes turns tuples expanded
    pub within : expanded ≤ length first
    pub added : Adds (IsNew p nodes next) first tuples
    pub reached : (t : Tuple) → Member t first → IsReached p nodes moment.round t
    pub waits : (j : ℕ) (t : Tuple) → expanded ≤ j → slice_get first j ≡ Some t → t.thread ≡ moment.thread
    pub met : IsMetThen p nodes first moment.round moment.thread

  pub passing_begins : (nodes : List (Node A)) (turns : List (KeptTurn A)) (tuples : List Tuple) (expanded : ℕ) (moment next : Moment)
      → HasCome p nodes turns tuples expanded moment.round moment.thread → IsPassing nodes turns tuples tuples expanded moment next
  passing_begins nodes turns tuples expanded moment next come = record {
    searched = come.searched;
    within = come.searched.few;
    added = adds_none (IsNew p nodes next) tuples;
    reached = come.reached;
    waits = come.waits;
    met = come.met;
  }

  -- the tuple whose turn it is
  pub passing_tuple : (nodes : List (Node A)) (turns : List (KeptTurn A)) (first tuples : List Tuple) (expanded : ℕ) (moment next : Moment)
      → IsPassing nodes turns first tuples expanded moment next → expanded < length first → (t d : Tuple) → t ≡ get_or tuples expanded d
      → IsTuple p nodes t × (t.thread ≡ moment.thread) × IsReached p nodes moment.round t × (slice_get tuples expanded ≡ Some t)
  passing_tuple nodes turns first tuples expanded moment next is small t d read =
      let (more, e, ps) = is.added in
      let longer = ap length e in
      let sum = length-append first more in
      let within : expanded < length tuples = omega (arith, longer, sum, small) in
      let at : slice_get tuples expanded ≡ Some t = slice_get-get_or tuples expanded d within ∙ ap Some (sym read) in
      let at' : slice_get first expanded ≡ Some t =
      get_before first more expanded t small (subst (λ z. slice_get z expanded ≡ Some t) e at) in
      let few : expanded ≤ expanded = omega arith in (
        is.searched.each t (get_member tuples expanded t at),
        is.waits expanded t few at',
        is.reached t (get_member first expanded t at'),
        at,
      )

  -- one tuple more has had its turn
  pub passing_on : (old new : List (Node A)) (turns turns' : List (KeptTurn A)) (first tuples tuples' : List Tuple) (expanded : ℕ)
      (moment next : Moment) → IsPassing old turns first tuples expanded moment next → expanded < length first → IsPrefix old new
      → IsSearched p new turns' tuples' expanded → (t : Tuple) → slice_get tuples expanded ≡ Some t
      → IsExpanded p new tuples' t × NeverFails p new t → Adds (IsNew p new next) tuples tuples'
      → IsPassing new turns' first tuples' (expanded + 1) moment next
  passing_on old new turns turns' first tuples tuples' expanded moment next is small prefix now t at turn adds =
      let whole = is.searched.whole in
      let older : (t : Tuple) → Member t first → IsTuple p old t = λ t m.
      is.searched.each t (adds_keep (IsNew p old next) first tuples is.added t m) in
      let later : (t : Tuple) → IsNew p old next t → IsNew p new next t = λ t (was, same, reached).
      (tuple_later old new prefix whole p t was, same, reached_later old new prefix whole p next.round t was reached) in record {
        searched = record {
          whole = now.whole;
          made = now.made;
          each = now.each;
          starts = now.starts;
          done = λ j t' less at'.
              elim (less_or_same j expanded (omega (arith, less))) [
                | inl less' ↦ now.done j t' less' at'
                | inr same ↦
                    let (more, e, ps) = adds in
                    let here : slice_get tuples' expanded ≡ Some t =
                    subst (λ z. slice_get z expanded ≡ Some t) (sym e) (get_after tuples more expanded t at) in
                    let same' : t ≡ t' = same_Some t t' (sym here ∙ subst (λ z. slice_get tuples' z ≡ Some t') same at') in
                    subst (λ z. IsExpanded p new tuples' z × NeverFails p new z) same' turn
              ];
          few =
              let (more, e, ps) = adds in
              let within = slice_get_within tuples expanded t at in
              let longer = ap length e in
              let sum = length-append tuples more in
              omega (arith, within, longer, sum);
        };
        within = omega (arith, small);
        added = adds_then (IsNew p old next) (IsNew p new next) (IsNew p new next) first tuples tuples' later (λ t q. q) is.added adds;
        reached = λ t m. reached_later old new prefix whole p moment.round t (older t m) (is.reached t m);
        waits = λ j t' few at'. is.waits j t' (omega (arith, few)) at';
        met = λ g had left between place. met_later old new prefix first first (λ t m. m) g had left (is.met g had left between place);
      }

  reached_more : (nodes : List (Node A)) (r r' : ℕ) (t : Tuple) → r ≤ r' → IsReached p nodes r t → IsReached p nodes r' t
  reached_more nodes r r' t few reached = λ had left place count held.
      let (r0, less, at) = reached had left place count held in
      (r0, omega (arith, few, less), at)

  -- all that were there first have had their turn
  pub passing_ends : (nodes : List (Node A)) (turns : List (KeptTurn A)) (first tuples : List Tuple) (expanded : ℕ) (moment next : Moment)
      → IsPassing nodes turns first tuples expanded moment next → length first ≤ expanded → moment.thread < length p.stacks
      → Follows (length p.stacks) moment next → NoneFailsBefore p moment.round moment.thread
      → HasCome p nodes turns tuples expanded next.round next.thread
  passing_ends nodes turns first tuples expanded moment next is all small follows holds =
      let (more, e, ps) = is.added in
      let done : (t : Tuple) → Member t first → IsExpanded p nodes tuples t × NeverFails p nodes t = λ t m.
      let (j, less, at) = member_place t first m in
      is.searched.done j t (omega (arith, less, all)) (subst (λ z. slice_get z j ≡ Some t) (sym e) (get_after first more j t at)) in
      let later = next_later (length p.stacks) moment.round moment.thread next.round next.thread follows in record {
        searched = is.searched;
        within = comes_within p moment next small follows;
        waits = λ j t few at. (ps t (behind first more j t (omega (arith, few, all)) (subst (λ z. slice_get z j ≡ Some t) e at))).1;
        reached = λ t m. elim (member_append t first more (subst (Member t) e m)) [
          | inl m ↦ reached_more nodes moment.round next.round t later (is.reached t m)
          | inr m ↦ (ps t m).2
        ];
        met = met_next p nodes first tuples done moment.round moment.thread is.met next.round next.thread follows;
        holds = holds_next p nodes first tuples done moment.round moment.thread is.met next.round next.thread follows holds;
      }

-- where all tuples have had their turn, no turn of any round fails
pub all_hold : {A : Type 0} (p : Threads ℕ NumberedFrame) (nodes : List (Node A)) (turns : List (KeptTurn A)) (tuples : List Tuple)
    (expanded : ℕ)
    → IsSearched p nodes turns tuples expanded → length tuples ≤ expanded → (k : ℕ) → FailsBelow p k → ⊥
all_hold p nodes turns tuples expanded is all k bad =
    settled_holds p nodes tuples (λ t m. let (j, less, at) = member_place t tuples m in
    is.done j t (omega (arith, less, all)) at) is.starts k bad
