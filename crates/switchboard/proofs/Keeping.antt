-- What each call of a book keeps.
use Rattle.std.proofs.Common.{◌≡◌, ◌≢◌, inl, inr, ℕ, zero, suc, ◌+◌, ◌*◌, ◌<◌, ◌≤◌, List, [], ◌∷◌, ◌++◌, Some, length, set, get_or}
use Rattle.std.proofs.Common.{slice_get, Contains, refl, sym, ap, ◌∙◌, subst, arith, length-set}
use Rattle.std.proofs.lemmas.List.{append-nil}
use Rattle.std.proofs.lemmas.Option.{slice_get-get_or, slice_get_within}
use Rattle.std.proofs.lemmas.Bool.{cases_eq}
use Rattle.post_ledger.specs.declared.event.Event.{Event}
use Rattle.post_ledger.specs.declared.event.Event.TheVariants.{Post}
use Rattle.post_ledger.specs.declared.entry.Entry.{Entry}
use Rattle.post_ledger.specs.declared.entry.Entry.TheVariants.{Posted, Completed}
use Rattle.post_ledger.specs.declared.entry.Entry.TheVariants as entry
use Rattle.post_ledger.specs.History.{posts, takes, dones, MayFollow}
use Rattle.post_ledger.specs.Orders.{mailbox_of, event_of, part, completed, HasJob, IsLawful, IsClosed}
use Rattle.post_ledger.proofs.Orders.{part-append, part_here, part_else, posted-append, completed-append, UnderJob, lawful_push}
use Rattle.post_ledger.proofs.Orders.{lawful_open, order_short, order_shorter, sizes_of, dones_few, dones_fewer, job_inside, counted_closed}
use Rattle.std.proofs.Common.{Bool, true, false, None}
use Rattle.std.proofs.lemmas.Option.{same_Some}
use Rattle.std.specs.Prelude.{Option, is_some, IsSome}
use Rattle.switchboard.specs.declared.calls.Abort.{Abort}
use Rattle.switchboard.specs.Sights.{BoardState}
use Rattle.switchboard.specs.declared.calls.Taken.{Taken}
use Rattle.switchboard.specs.declared.calls.Taken.TheVariants.{Message}
use Rattle.switchboard.specs.Books.{IsBook, with_new_event, BoardGivesOldest, TakeAnswers}

module _ {X : Type 0} where
  set_here : (xs : List X) (i : ℕ) (x y : X) → slice_get (set xs i x) i ≡ Some y → x ≡ y
  set_here [] i x y e = cc
  set_here (z ∷ xs) zero x y e = cc
  set_here (z ∷ xs) (suc i) x y e = set_here xs i x y e

  set_else : (xs : List X) (i j : ℕ) (x : X) → j ≢ i → slice_get (set xs i x) j ≡ slice_get xs j
  set_else [] i j x ne = refl
  set_else (z ∷ xs) zero zero x ne = absurd (ne refl)
  set_else (z ∷ xs) zero (suc j) x ne = refl
  set_else (z ∷ xs) (suc i) zero x ne = refl
  set_else (z ∷ xs) (suc i) (suc j) x ne = set_else xs i j x (λ e. ne (ap suc e))

  -- an element at a place inside a list
  pub item_at : (xs : List X) (i : ℕ) (x : X) → i < length xs → x ≡ get_or xs i x → slice_get xs i ≡ Some x
  item_at xs i x short is = slice_get-get_or xs i x short ∙ ap Some (sym is)

  -- and so is the mailbox of a pass, of which there are as many
  pub box_at : (xs : List X) (i : ℕ) (x : X) {p boxes : ℕ} → i ≡ p → length xs ≡ boxes → p < boxes → x ≡ get_or xs i x →
      slice_get xs i ≡ Some x
  box_at xs i x same many short is = item_at xs i x (omega (arith, same, many, short)) is

  set_again : (xs : List X) (i : ℕ) (x : X) → slice_get xs i ≡ Some x → set xs i x ≡ xs
  set_again [] i x e = refl
  set_again (y ∷ ys) zero x e = ap (λ z. z ∷ ys) (sym (same_Some y x e))
  set_again (y ∷ ys) (suc i) x e = ap (λ r. y ∷ r) (set_again ys i x e)

  pub same_again : (xs : List X) (i : ℕ) (x y : X) → slice_get xs i ≡ Some x → y ≡ x → set xs i y ≡ xs
  same_again xs i x y at same = ap (set xs i) same ∙ set_again xs i x at

module _ {M : Type 0} where
  -- the order and its history continue by the same event
  pub kept_push : (hs : List (List (Event M))) (order : List (Entry M)) (cap cap' ps ds ps' ds' : ℕ) (e : Entry M) (h : List (Event M))
      → IsBook hs order cap ps ds → slice_get hs (mailbox_of e) ≡ Some h → mailbox_of e < length hs
      → MayFollow (part (mailbox_of e) order) (event_of e) → UnderJob order e → ps' ≡ ps + length (posts (event_of e ∷ []))
      → ds' ≡ ds + length (dones (event_of e ∷ [])) → 3 * ps' ≤ cap'
      → IsBook (set hs (mailbox_of e) (h ++ event_of e ∷ [])) (order ++ e ∷ []) cap' ps' ds'
  kept_push hs order cap cap' ps ds ps' ds' e h k at near may under more_posts more_dones room =
      let q : ℕ = mailbox_of e in
      let new : List (Event M) = h ++ event_of e ∷ [] in
      let long : length (set hs q new) ≡ length hs = length-set hs q new in
      record {
        lawful = subst (λ n. IsLawful n (order ++ e ∷ [])) (sym long) (lawful_push (length hs) order e k.lawful near may under);
        parts = λ j x there. elim (cases_eq j q) [
          | inl same ↦ (let is : new ≡ x = set_here hs q new x (subst (λ i. slice_get (set hs q new) i ≡ Some x) same there) in
              sym is
              ∙ (ap (λ l. l ++ event_of e ∷ []) (k.parts q h at)
              ∙ sym
              (subst (λ i. part i (order ++ e ∷ []) ≡ part q order ++ event_of e ∷ []) (sym same)
              (part-append q order (e ∷ []) ∙ ap (λ l. part q order ++ l) (part_here q e [] refl)))))
          | inr other ↦
              k.parts j x (sym (set_else hs q j new other) ∙ there)
              ∙ sym
              (part-append j order (e ∷ [])
              ∙ (ap (λ l. part j order ++ l) (part_else j e [] (λ s. other (sym s))) ∙ append-nil (part j order)))
        ];
        few = omega (arith, long, k.few);
        all_posted = omega (arith, more_posts, k.all_posted, posted-append order (e ∷ []));
        all_completed = omega (arith, more_dones, k.all_completed, completed-append order (e ∷ []));
        room = room;
      }

  -- the same with more room
  pub kept_grow : (hs : List (List (Event M))) (order order' : List (Entry M)) (cap cap' ps ds : ℕ) → order' ≡ order → cap ≤ cap'
      → IsBook hs order cap ps ds → IsBook hs order' cap' ps ds
  kept_grow hs order order' cap cap' ps ds same more k =
      subst (λ l. IsBook hs l cap' ps ds)
      (sym same) record {
        lawful = k.lawful;
        parts = k.parts;
        few = k.few;
        all_posted = k.all_posted;
        all_completed = k.all_completed;
        room = omega (arith, k.room);
      }

  -- a board with the opening post alone
  pub kept_open : (hs : List (List (Event M))) (boxes to cap : ℕ) (m : M) (h : List (Event M)) → length hs ≡ boxes → boxes ≤ 64
      → to < boxes → ((q : ℕ) (x : List (Event M)) → slice_get hs q ≡ Some x → x ≡ []) → h ≡ Post boxes m ∷ [] → 3 ≤ cap
      → IsBook (set hs to h) (Posted to boxes m 0 ∷ []) cap 1 0
  kept_open hs boxes to cap m h long few near none is room = record {
    lawful = subst (λ n. IsLawful n (Posted to boxes m 0 ∷ [])) (sym (length-set hs to h ∙ long)) (lawful_open boxes to m near);
    parts = λ j x there. elim (cases_eq j to) [
      | inl same ↦
          sym (set_here hs to h x (subst (λ i. slice_get (set hs to h) i ≡ Some x) same there))
          ∙ (is ∙ sym (part_here j (Posted to boxes m 0) [] (sym same)))
      | inr other ↦ none j x (sym (set_else hs to j h other) ∙ there) ∙ sym (part_else j (Posted to boxes m 0) [] (λ s. other (sym s)))
    ];
    few = omega (arith, length-set hs to h);
    all_posted = refl;
    all_completed = refl;
    room = omega arith;
  }

  -- there is room for a Take if a Post is not taken
  pub room_take : (hs : List (List (Event M))) (order : List (Entry M)) (cap ps ds by : ℕ) → IsBook hs order cap ps ds → by < length hs
      → length (takes (part by order)) < length (posts (part by order)) → length order < cap
  room_take hs order cap ps ds by k near some_of =
      let z = sizes_of (part by order) (k.lawful.legal by) in
      omega (arith, order_shorter (length hs) order by k.lawful near (omega (arith, dones_few (part by order) z)), k.room, k.all_posted)

  -- and for a Done if a Take is not completed
  pub room_done : (hs : List (List (Event M))) (order : List (Entry M)) (cap ps ds by job : ℕ) → IsBook hs order cap ps ds
      → HasJob by job order → length order < cap
  room_done hs order cap ps ds by job k has =
      let z = sizes_of (part by order) (k.lawful.legal by) in
      omega (
        arith,
        order_shorter (length hs) order by k.lawful (job_inside (length hs) order by job k.lawful has)
            (omega (arith, dones_fewer (part by order) job z has.0 has.1, z.fewer)),
        k.room,
        k.all_posted,
      )

  -- the order is not longer than three times its Posts
  pub order_fits : (hs : List (List (Event M))) (order : List (Entry M)) (cap ps ds : ℕ) → IsBook hs order cap ps ds → length order ≤ 3 * ps
  order_fits hs order cap ps ds k = omega (arith, order_short (length hs) order k.lawful, k.all_posted)

  -- the same, at a place that is the entry's mailbox, with the history and the order as they are now
  pub kept_entry : (hs : List (List (Event M))) (order order' : List (Entry M)) (cap cap' ps ds ps' ds' : ℕ) (e : Entry M) (q : ℕ)
      (h h' : List (Event M)) → q ≡ mailbox_of e → IsBook hs order cap ps ds → slice_get hs q ≡ Some h
      → MayFollow (part (mailbox_of e) order) (event_of e) → UnderJob order e → ps' ≡ ps + length (posts (event_of e ∷ []))
      → ds' ≡ ds + length (dones (event_of e ∷ [])) → 3 * ps' ≤ cap' → h' ≡ h ++ event_of e ∷ [] → order' ≡ order ++ e ∷ []
      → IsBook (set hs q h') order' cap' ps' ds'
  kept_entry hs order order' cap cap' ps ds ps' ds' e q h h' at_box k at may under more_posts more_dones room grown longer =
      let at_e : slice_get hs (mailbox_of e) ≡ Some h = subst (λ i. slice_get hs i ≡ Some h) at_box at in
      let r =
      kept_push hs order cap cap' ps ds ps' ds' e h k at_e
      (slice_get_within hs (mailbox_of e) h at_e) may under more_posts more_dones room in
      subst (λ i. IsBook (set hs i h') order' cap' ps' ds') (sym at_box)
      (subst (λ x. IsBook (set hs (mailbox_of e) x) order' cap' ps' ds') (sym grown)
      (subst (λ l. IsBook (set hs (mailbox_of e) (h ++ event_of e ∷ [])) l cap' ps' ds') (sym longer) r))

  -- the same histories, with more room
  pub kept_back : (hs : List (List (Event M))) (order order' : List (Entry M)) (cap cap' ps ds q : ℕ) (h h' : List (Event M))
      → IsBook hs order cap ps ds → slice_get hs q ≡ Some h → h' ≡ h → order' ≡ order → cap ≤ cap' → IsBook (set hs q h') order' cap' ps ds
  kept_back hs order order' cap cap' ps ds q h h' k at same still more =
      subst (λ l. IsBook l order' cap' ps ds) (sym (same_again hs q h h' at same)) (kept_grow hs order order' cap cap' ps ds still more k)

  pub kept_closed : (hs : List (List (Event M))) (order : List (Entry M)) (cap ps ds : ℕ) → IsBook hs order cap ps ds → ps ≡ ds
      → IsClosed order
  kept_closed hs order cap ps ds k same = (counted_closed (length hs) order k.lawful).0 (sym k.all_posted ∙ (same ∙ k.all_completed))

  pub kept_counts : (hs : List (List (Event M))) (order : List (Entry M)) (cap ps ds : ℕ) → IsBook hs order cap ps ds → IsClosed order
      → ps ≡ ds
  kept_counts hs order cap ps ds k closed = k.all_posted ∙ ((counted_closed (length hs) order k.lawful).1 closed ∙ sym k.all_completed)

  -- a job of the state is one of the fields
  pub job_inside_is : (by job take : ℕ) (order now : List (Entry M)) → take ≡ job → order ≡ now → HasJob by job now → HasJob by take order
  job_inside_is by job take order now same_job same has =
      subst (λ k. HasJob by k order) (sym same_job) (subst (λ l. HasJob by job l) (sym same) has)

  -- the history of a mailbox has the job's Take, and no Done of it
  pub job_in_history : (by take q : ℕ) (order : List (Entry M)) (h : List (Event M)) → q ≡ by → h ≡ part q order → HasJob by take order
      → (take < length (takes h)) × (Contains (dones h) take → ⊥)
  job_in_history by take q order h same is has =
      subst (λ x. (take < length (takes x)) × (Contains (dones x) take → ⊥)) (sym (is ∙ ap (λ k. part k order) same)) has

  -- and so in the mailbox of the job's pass
  pub job_in_box : (hs : List (List (Event M))) (order : List (Entry M)) (cap ps ds by take q : ℕ) (h : List (Event M)) →
      IsBook hs order cap ps ds →
      q ≡ by → slice_get hs q ≡ Some h → HasJob by take order → (take < length (takes h)) × (Contains (dones h) take → ⊥)
  job_in_box hs order cap ps ds by take q h kept same at has = job_in_history by take q order h same (kept.parts q h at) has

  -- there are no more Dones than entries
  completed_few : (order : List (Entry M)) → completed order ≤ length order
  completed_few [] = omega arith
  completed_few (Posted to s m t ∷ es) = omega (arith, completed_few es)
  completed_few (entry.Taken of s m ∷ es) = omega (arith, completed_few es)
  completed_few (Completed of t ∷ es) = omega (arith, completed_few es)

  pub few_done : (hs : List (List (Event M))) (order : List (Entry M)) (cap ps ds : ℕ) → IsBook hs order cap ps ds → ds ≤ length order
  few_done hs order cap ps ds k = omega (arith, k.all_completed, completed_few order)

pub none_of : {X : Type 0} (o : Option X) (b : Bool) → b ≡ is_some o → b ≡ false → o ≡ None
none_of None b is none = refl
none_of (Some x) b is none = cc

pub some_of : {X : Type 0} (o : Option X) (b : Bool) → b ≡ is_some o → b ≡ true → IsSome o
some_of o b is there = sym is ∙ there

module _ {M W : Type 0} where
  -- the state of the fields after one more event
  pub state_push : (w : W) (hs hs' : List (List (Event M))) (order order' : List (Entry M)) (e : Entry M) (a : Option Abort)
      (s : BoardState M W) → length hs' ≡ length hs → order' ≡ order ++ e ∷ []
      → (let fields : BoardState M W = record { world = w; boxes = length hs; order = order; aborted = a } in fields ≡ s)
      → (let fields : BoardState M W = record { world = w; boxes = length hs'; order = order'; aborted = a } in fields ≡ with_new_event e s)
  state_push w hs hs' order order' e a s same longer is = (λ i. record { world = w; boxes = same i; order = longer i; aborted = a })
      ∙ ap (with_new_event e) is

  -- the answer is that take
  pub answers_message : (by job : ℕ) (m : M) (s t : BoardState M W) (r : Taken M) → r ≡ Message job m → BoardGivesOldest by job m s t
      → TakeAnswers by r s t
  answers_message by job m s t r is took = subst (λ x. TakeAnswers by x s t) (sym is) took
