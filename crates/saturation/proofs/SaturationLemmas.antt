-- Items that are worked on one after another: what they lead to is there, and all of them are found.
use Rattle.std.proofs.Common.{◌≡◌, ◌↔◌, ◌⊎◌, ◌++◌, ◌≤◌, ◌+◌, ℕ, zero, suc, Bool, true, false, true≢false, Some, List, [], ◌∷◌, take, length}
use Rattle.std.proofs.Common.{slice_get}
use Rattle.std.proofs.Common.{inl, inr, refl, sym, ap, ◌∙◌, subst, arith}
use Rattle.std.proofs.lemmas.Option.{same_Some, none-some}
use Rattle.language.specs.Lists.{Member}
use Rattle.language.proofs.Members.{member_append}
use Rattle.flow_graph.specs.declared.graph.Graph.{Graph}
use Rattle.turns.specs.Machines.{Machine}
use Rattle.turns.specs.Numbered.{numbered_machine, Failures}
use Rattle.turns.specs.Saturated.{First, Next, moves, enters, stays, comes_out, goes, Together, returns}
use Rattle.turns.specs.Stacks.{Nodes}
use Rattle.turns.specs.Turn as turn
use Rattle.turns.specs.Turn.{SomeHeadFails}
use Rattle.turns.specs.declared.numbered_frame.NumberedFrame.{NumberedFrame}
use Rattle.turns.proofs.SaturatedLemmas.{all_found, first_found, next_found}
use Rattle.saturation.specs.Calls.{callers_of, finished_of, caller_item, finished_item, AreListed}
use Rattle.saturation.specs.Items.{Found, below_of, item_of, IsAmong, Extends}
use Rattle.saturation.specs.Leads.{HaveAll, IsReturn}
use Rattle.saturation.specs.Saturation.{AreFound, IsClosedFor, IsClosed, SomeFails}
use Rattle.saturation.specs.Work.{Follows, IsFailing}
use Rattle.saturation.specs.declared.calls.Calls.{Calls}
use Rattle.saturation.specs.declared.item.Below.{Below}
use Rattle.saturation.specs.declared.item.Below.TheVariants.{Old, Call}
use Rattle.saturation.specs.declared.item.Entry.{Entry}
use Rattle.saturation.specs.declared.item.Item.{Item}
use Rattle.saturation.specs.declared.item.Item.TheVariants.{Head, Waits, Gone}
use Rattle.saturation.specs.declared.paired.Finished.{Finished}
use Rattle.saturation.specs.declared.paired.Resting.{Resting}
use Rattle.saturation.proofs.CallLemmas.{is_head, last_item}
use Rattle.saturation.proofs.FollowLemmas.{have_more}
use Rattle.saturation.proofs.NextLemmas.{globals_at, frame_at, waiting_at, below_at}

-- ---- what is found, and the items for it

abbrev is_top : Found → Bool
is_top (turn.head g f b) = true
is_top (turn.caller g e w b) = false
is_top (turn.gone g) = false

abbrev is_waiting : Found → Bool
is_waiting (turn.head g f b) = false
is_waiting (turn.caller g e w b) = true
is_waiting (turn.gone g) = false

abbrev is_call : turn.Below ℕ ℕ NumberedFrame → Bool
is_call (turn.old q) = false
is_call (turn.call g e) = true

abbrev call_globals : turn.Below ℕ ℕ NumberedFrame → ℕ
call_globals (turn.old q) = 0
call_globals (turn.call g e) = g

abbrev call_frame : NumberedFrame → turn.Below ℕ ℕ NumberedFrame → NumberedFrame
call_frame d (turn.old q) = d
call_frame d (turn.call g e) = e

call_below : (b : Below) (g : ℕ) (e : NumberedFrame) → below_of b ≡ turn.call g e → b ≡ Call (record { globals = g; frame = e })
call_below (Old q) g e same = absurd (true≢false (sym (ap is_call same)))
call_below (Call entry) g e same =
    let same_g : entry.globals ≡ g = ap call_globals same in
    let same_e : entry.frame ≡ e = ap (call_frame e) same in
    ap Call (λ i. record { globals = same_g i; frame = same_e i })

as_finished : (item : Item) (i g : ℕ) (f e : NumberedFrame) → item_of item ≡ turn.head i f (turn.call g e)
    → item ≡ finished_item (record { globals = g; frame = e }) (record { globals = i; frame = f })
as_finished (Head top) i g f e same =
    let same_i : top.globals ≡ i = ap globals_at same in
    let same_f : top.frame ≡ f = ap (frame_at f) same in
    let same_b = call_below top.below g e (ap below_at same) in
    ap Head (λ j. record { globals = same_i j; frame = same_f j; below = same_b j })
as_finished (Waits caller) i g f e same = absurd (true≢false (sym (ap is_top same)))
as_finished (Gone globals) i g f e same = absurd (true≢false (sym (ap is_top same)))

-- the caller of a call, as it is kept
as_caller : (item : Item) (g : ℕ) (e w : NumberedFrame) (b : turn.Below ℕ ℕ NumberedFrame) → item_of item ≡ turn.caller g e w b
    → (resting : Resting) × (item ≡ caller_item (record { globals = g; frame = e }) resting) × (resting.frame ≡ w)
    × (below_of resting.below ≡ b)
as_caller (Head top) g e w b same = absurd (true≢false (sym (ap is_waiting same)))
as_caller (Gone globals) g e w b same = absurd (true≢false (sym (ap is_waiting same)))
as_caller (Waits caller) g e w b same =
    let same_g : caller.entry.globals ≡ g = ap globals_at same in
    let same_e : caller.entry.frame ≡ e = ap (frame_at e) same in (
      record { frame = caller.frame; below = caller.below },
      ap Waits (λ i. record { entry = record { globals = same_g i; frame = same_e i }; frame = caller.frame; below = caller.below }),
      ap (waiting_at w) same,
      ap below_at same,
    )

module _ {A : Type 0} (graphs : List (Graph A)) (fails : Failures) (nodes : Nodes ℕ NumberedFrame) where
  abbrev machine : Machine ℕ NumberedFrame
  machine = numbered_machine graphs fails

  -- only a top frame leads on by itself
  from_top : (y x : Found) → Next machine nodes y x → is_top y ≡ true
  from_top _ _ (moves g f h k b is) = refl
  from_top _ _ (enters g f e w b is) = refl
  from_top _ _ (stays g f e w b is) = refl
  from_top _ _ (comes_out g f q w r h k has is) = refl
  from_top _ _ (goes g f q bare is) = refl

  module _ {B : Type 0} (calls : Calls B) (done all more : List Item) (item : Item) where
    next_follows : (one : Item) (x : Found) → Next machine nodes (item_of one) x → Follows machine nodes calls one x
    next_follows (Head top) x next = inl next
    next_follows (Waits caller) x next = absurd (true≢false (sym (from_top _ x next)))
    next_follows (Gone globals) x next = absurd (true≢false (sym (from_top _ x next)))

    module _ (P : Found → Type 0) (closed : IsClosedFor machine nodes done all) (listed : AreListed calls done) (grows : Extends P all more)
        (follow : HaveAll (Follows machine nodes calls item) more) (passes : IsFailing machine item → ⊥) where
      pairs : (entry : Entry) (one : Finished) (resting : Resting)
          → Member (finished_item entry one) done ⊎ (finished_item entry one ≡ item)
          → Member (caller_item entry resting) done ⊎ (caller_item entry resting ≡ item) → HaveAll (IsReturn machine one resting) more
      pairs entry one resting (inl m) (inl n) x is =
          have_more (IsReturn machine one resting) P all more grows (closed.together entry one resting m n) x is
      pairs entry one resting (inr same) (inl n) x is =
          subst (λ z. HaveAll (Follows machine nodes calls z) more) (sym same) follow x
          (inr (entry, refl, (resting, (listed.callers entry resting).1 n, is)))
      pairs entry one resting (inl m) (inr same) x (h, k, back, is) =
          subst (λ z. HaveAll (Follows machine nodes calls z) more) (sym same) follow x
          (one, (listed.finished entry one).1 (m, back.2), (h, k, back, is))
      pairs entry one resting (inr same) (inr same') x is = absurd (true≢false (ap is_head (same ∙ sym same')))

      -- with one item more that has been worked on
      pub closed_more : IsClosedFor machine nodes (done ++ item ∷ []) more
      closed_more = record {
        next = λ one m.
            elim (last_item one item done m) [
              | inl was ↦ have_more (Next machine nodes (item_of one)) P all more grows (closed.next one was)
              | inr same ↦ λ x next.
                  follow x (subst (λ z. Follows machine nodes calls z x) same (next_follows one x next))
            ];
        together = λ entry one resting m n.
            pairs entry one resting (last_item (finished_item entry one) item done m) (last_item (caller_item entry resting) item done n);
        passes = λ one m bad.
            elim (last_item one item done m) [
              | inl was ↦ closed.passes one was bad
              | inr same ↦ passes (subst (IsFailing machine) same bad)
            ];
      }

  -- where all items have been worked on, they lead to nothing else
  pub closed_all : (items : List Item) → IsClosedFor machine nodes items items → IsClosed machine nodes items
  closed_all items closed = record { next = next; together = together }
    where
      next : (x y : Found) → IsAmong items x → Next machine nodes x y → IsAmong items y
      next x y (item, m, same) leads = closed.next item m y (subst (λ z. Next machine nodes z y) (sym same) leads)

      together : (x c y : Found) → IsAmong items x → IsAmong items c → Together machine x c y → IsAmong items y
      together _ _ _ (one, m, same) (other, n, same') (returns g e i f w b h k is) =
          let finished = as_finished one i g f e same in
          let (resting, caller, same_w, same_b) = as_caller other g e w b same' in
          closed.together (record { globals = g; frame = e }) (record { globals = i; frame = f }) resting (subst
          (λ z. Member z items) finished m)
          (subst (λ z. Member z items) caller n) (turn.head h k b)
          (h, k, subst (λ z. machine.Returns i f z h k) (sym same_w) is, ap (turn.head h k) (sym same_b))

  module _ {B : Type 0} (globals node : ℕ) where
    -- what follows from what is found is found
    follows_found : (calls : Calls B) (done : List Item) → AreListed calls done → AreFound machine nodes globals node done → (item : Item)
        → turn.Found machine nodes globals node (item_of item) → (x : Found) → Follows machine nodes calls item x
        → turn.Found machine nodes globals node x
    follows_found calls done listed found (Head top) is x (inl next) = next_found machine nodes globals node (item_of (Head top)) x next is
    follows_found calls done listed found (Head top) is x (inr (entry, over, (resting, m, (h, k, back, same)))) =
        let over_call : turn.Found machine nodes globals node (turn.head top.globals top.frame (turn.call entry.globals entry.frame)) =
        subst (λ b. turn.Found machine nodes globals node (turn.head top.globals top.frame (below_of b))) over is in
        subst (turn.Found machine nodes globals node) (sym same)
        (turn.returns entry.globals entry.frame top.globals top.frame resting.frame (below_of resting.below) h k over_call
        (found (caller_item entry resting) ((listed.callers entry resting).0 m)) back)
    follows_found calls done listed found (Waits caller) is x (one, m, (h, k, back, same)) =
        subst (turn.Found machine nodes globals node) (sym same)
        (turn.returns caller.entry.globals caller.entry.frame one.globals one.frame caller.frame (below_of caller.below) h k
        (found (finished_item caller.entry one) ((listed.finished caller.entry one).0 m).0) is back)
    follows_found calls done listed found (Gone g) is x follows = absurd follows

    pub found_more : (calls : Calls B) (done all more : List Item) (item : Item) → AreListed calls done
        → ((one : Item) → Member one done → Member one all) → Member item all → Extends (Follows machine nodes calls item) all more
        → AreFound machine nodes globals node all → AreFound machine nodes globals node more
    found_more calls done all more item listed among m (new, is, follow) found one n =
        elim (member_append one all new (subst (Member one) is n)) [
          | inl was ↦ found one was
          | inr now ↦ follows_found calls done listed (λ z k. found z (among z k)) item (found item m) (item_of one) (follow one now)
        ]

-- ---- the items that have been worked on

-- before any has been
pub none_closed : (m : Machine ℕ NumberedFrame) (nodes : Nodes ℕ NumberedFrame) (items : List Item) → IsClosedFor m nodes [] items
none_closed m nodes items = record {
  next = λ item none. absurd none;
  together = λ entry one resting none more. absurd none;
  passes = λ item none bad. none;
}

pub none_listed : {A : Type 0} (calls : Calls A) → ((entry : Entry) → callers_of calls entry ≡ [])
    → ((entry : Entry) → finished_of calls entry ≡ [])
    → AreListed calls []
none_listed calls callers finished = record {
  callers = λ entry resting. (λ m. subst (Member resting) (callers entry) m, λ none. absurd none);
  finished = λ entry one. (λ m. absurd (subst (Member one) (finished entry) m), λ (none, at). absurd none);
}

-- one more
pub take_next : (xs more all : List Item) (i : ℕ) (x : Item) → slice_get xs i ≡ Some x → all ≡ xs ++ more
    → take (i + 1) all ≡ take i xs ++ x ∷ []
take_next xs more all i x at is =
    let next : i + 1 ≡ suc i = omega arith in
    ap (λ j. take j all) next ∙ ap (take (suc i)) is ∙ go xs i at
  where
    go : (ys : List Item) (j : ℕ) → slice_get ys j ≡ Some x → take (suc j) (ys ++ more) ≡ take j ys ++ x ∷ []
    go [] j at = absurd (none-some x at)
    go (y ∷ ys) zero at = ap (λ z. z ∷ []) (same_Some y x at)
    go (y ∷ ys) (suc j) at = ap (λ zs. y ∷ zs) (go ys j at)

pub member_take : (xs : List Item) (i : ℕ) (x : Item) → Member x (take i xs) → Member x xs
member_take [] i x m = absurd (none_taken i m)
  where
    none_taken : (i : ℕ) → Member x (take i []) → ⊥
    none_taken zero m = m
    none_taken (suc i) m = m
member_take (y ∷ xs) zero x m = absurd m
member_take (y ∷ xs) (suc i) x (inl same) = inl same
member_take (y ∷ xs) (suc i) x (inr m) = inr (member_take xs i x m)

-- all
pub take_whole : (xs : List Item) (i : ℕ) → length xs ≤ i → take i xs ≡ xs
take_whole [] zero long = refl
take_whole [] (suc i) long = refl
take_whole (x ∷ xs) zero long = absurd (omega (arith, long))
take_whole (x ∷ xs) (suc i) long = ap (λ l. x ∷ l) (take_whole xs i (omega (arith, long)))

-- ---- what a turn finds

-- what a list has that goes on as first items is found
pub starts_found : (m : Machine ℕ NumberedFrame) (nodes : Nodes ℕ NumberedFrame) (globals node : ℕ) (items : List Item)
    → Extends (First nodes globals node) [] items → AreFound m nodes globals node items
starts_found m nodes globals node items (more, is, first) item k =
    first_found m nodes globals node (item_of item) (first item (subst (Member item) is k))

-- an item that fails is a head that fails
pub fails_found : (m : Machine ℕ NumberedFrame) (nodes : Nodes ℕ NumberedFrame) (globals node : ℕ) (items : List Item)
    → AreFound m nodes globals node items → SomeFails m items → SomeHeadFails m nodes globals node
fails_found m nodes globals node items found (Head top, k, bad) = (top.globals, top.frame, below_of top.below, found (Head top) k, bad)
fails_found m nodes globals node items found (Waits caller, k, bad) = absurd bad
fails_found m nodes globals node items found (Gone g, k, bad) = absurd bad

failing_item : (m : Machine ℕ NumberedFrame) (item : Item) (g : ℕ) (f : NumberedFrame) (b : turn.Below ℕ ℕ NumberedFrame)
    → item_of item ≡ turn.head g f b → m.Fails g f → IsFailing m item
failing_item m (Head top) g f b same bad =
    let same_g : g ≡ top.globals = sym (ap globals_at same) in
    let same_f : f ≡ top.frame = sym (ap (frame_at f) same) in
    subst (λ z. m.Fails top.globals z) same_f (subst (λ z. m.Fails z f) same_g bad)
failing_item m (Waits caller) g f b same bad = absurd (true≢false (sym (ap is_top same)))
failing_item m (Gone globals) g f b same bad = absurd (true≢false (sym (ap is_top same)))

-- items that have the first ones, what they lead to, and nothing that is not found, are what the turn finds
module _ (m : Machine ℕ NumberedFrame) (nodes : Nodes ℕ NumberedFrame) (globals node : ℕ) (items : List Item)
    (first : HaveAll (First nodes globals node) items) (closed : IsClosed m nodes items) (found : AreFound m nodes globals node items) where
  pub are_found : (x : Found) → IsAmong items x ↔ turn.Found m nodes globals node x
  are_found x = (
    λ (item, k, same). subst (turn.Found m nodes globals node) same (found item k),
    all_found m nodes globals node (IsAmong items) (record { first = first; next = closed.next; together = closed.together }) x,
  )

  -- if none of the items fails, no head that the turn finds does
  pub none_fails : (SomeFails m items → ⊥) → SomeHeadFails m nodes globals node → ⊥
  none_fails never (g, f, b, is, bad) =
      let (item, k, same) = (are_found (turn.head g f b)).1 is in
      never (item, k, failing_item m item g f b same bad)
