-- What a pass knows after it was inside once.
use Rattle.std.proofs.Common.{◌≡◌, ◌≢◌, ◌⊎◌, inl, inr, ℕ, zero, suc, ◌+◌, ◌-◌, ◌<◌, Bool, true, false, not}
use Rattle.std.proofs.Common.{List, [], ◌∷◌, ◌++◌, Some, None, Ok, Err, length, slice_get, refl, sym, ap, ◌∙◌}
use Rattle.std.proofs.Common.{subst, arith, IfErr, OnOk, MatchResult, eq-eqb, ne_eqb}
use Rattle.std.specs.Prelude.{Option, Result, IsSome}
use Rattle.std.proofs.lemmas.List.{append-nil}
use Rattle.std.proofs.lemmas.Bool.{cases_eq, eqb-true, not-true}
use Rattle.std.proofs.lemmas.Option.{same_Some}
use Rattle.ticket_lock.specs.Lanes.{Standing, Held}
use Rattle.ticket_lock.specs.History.{EndsIn}
use Rattle.ticket_lock.specs.Promises.{EnteredLock, MayLeave, Left}
use Rattle.ticket_lock.specs.Proved.Facts.{EndsIn-same, StartsWith-refl}
use Rattle.ticket_lock.proofs.HistoryFacts.{rises_last}
use Rattle.post_ledger.specs.declared.event.Event.TheVariants as event
use Rattle.post_ledger.specs.declared.entry.Entry.{Entry}
use Rattle.post_ledger.specs.declared.entry.Entry.TheVariants as entry
use Rattle.post_ledger.specs.History.{posts, takes}
use Rattle.post_ledger.specs.Orders.{maker_of, part, own, posted, completed, HasJob, IsLawful, IsClosed}
use Rattle.post_ledger.proofs.Orders.{counted_closed, nothing_follows}
use Rattle.post_ledger.proofs.Orders.{part-append, part_here, part_else, own-append, own_here, own_else, job_inside}
use Rattle.switchboard.specs.declared.calls.Abort.{Abort}
use Rattle.switchboard.specs.declared.calls.PostFault.{PostFault}
use Rattle.switchboard.specs.declared.calls.PostFault.TheVariants as fault
use Rattle.switchboard.specs.declared.calls.Taken.{Taken}
use Rattle.switchboard.specs.declared.calls.Taken.TheVariants as answer
use Rattle.switchboard.specs.Sights.{BoardState, Sight, Before, IsSound, abort_of}
use Rattle.switchboard.specs.Books.{with_new_event, BoardGivesOldest, TakeAnswers, RefusesPost}
use Rattle.switchboard.specs.Promises.{GoesOn, Looked, Added, WasPosted, WasRefused, Took, MadeAbort}
use Rattle.switchboard.specs.Passes.{is_by, is_complete, latest, calls_of, share, sight_of, Comes, IsPass}
use Rattle.switchboard.specs.Proved.Laws.{before_refl, before_trans}
use Rattle.switchboard.specs.Proved.Entries.{Allowed, sound_push, job_stays}

-- a relation at other ends
pub moved : {X : Type 0} (R : X → X → Type 0) (s s' t t' : X) → s ≡ s' → t ≡ t' → R s t → R s' t'
moved R s s' t t' p q r = subst (λ z. R z t') p (subst (λ z. R s z) q r)

-- what comes last
pub latest_is : {A B : Type 0} (f : A → B) (d : B) (l : List A) (x : A) → EndsIn l x → latest f d l ≡ f x
latest_is f d l x ends = ap (latest f d) ends.1 ∙ at_end f d ends.0 x
  where
    at_end : {A B : Type 0} (f : A → B) (d : B) (front : List A) (x : A) → latest f d (front ++ x ∷ []) ≡ f x
    at_end f d [] x = refl
    at_end f d (y ∷ []) x = refl
    at_end f d (y ∷ z ∷ r) x = at_end f d (z ∷ r) x

module _ {M W : Type 0} (fits : W → ℕ → M → Type 0) where
  -- what a pass does to the state while it is inside: nothing, one event of its own, or an abort of its own
  pub data Step (n : ℕ) (x y : BoardState M W) : Type 0 where
    stays : y ≡ x → Step n x y
    adds : (e : Entry M) → y ≡ with_new_event e x → maker_of e ≡ n → Allowed fits e x → Step n x y
    aborts : (a : Abort) → y ≡ record x { aborted = abort_of x.aborted a } → a.by ≡ n → a.by < x.boxes → Step n x y

  -- a state continues from the one before, stays sound, and has the parts of the other passes as they were
  pub record Kept (n : ℕ) (x y : BoardState M W) : Type 0 where
    pub before : Before x y
    pub sound : IsSound fits y
    pub apart : (k : ℕ) → k ≢ n → share k y ≡ share k x

  first_abort : (o : Option Abort) (a b : Abort) → o ≡ Some b → abort_of o a ≡ Some b
  first_abort None a b is = cc
  first_abort (Some c) a b is = is

  by_one : (o : Option Abort) (a b : Abort) (n : ℕ) → ((c : Abort) → o ≡ Some c → c.by < n) → a.by < n → abort_of o a ≡ Some b → b.by < n
  by_one None a b n old new is = (let same : a ≡ b = cc in subst (λ (c : Abort). c.by < n) same new)
  by_one (Some c) a b n old new is = old b is

  not_others : (o : Option Abort) (a : Abort) (k : ℕ) → k ≢ a.by → is_by k (abort_of o a) ≡ is_by k o
  not_others None a k ne = ne_eqb a.by k (λ e. ne (sym e))
  not_others (Some c) a k ne = refl

  pub step_keeps : (n : ℕ) (x y : BoardState M W) → IsSound fits x → Step n x y → Kept n x y
  step_keeps n x y s (stays is) = subst (Kept n x) (sym is) record { before = before_refl x; sound = s; apart = λ k ne. refl }
  step_keeps n x y s (adds e is maker may) = subst (Kept n x) (sym is) record {
    before = record { world = refl; boxes = refl; order = (e ∷ [], refl); aborted = λ a h. h };
    sound = sound_push fits e x s may;
    apart =
        λ k ne.
        (let rest : own k (x.order ++ e ∷ []) ≡ own k x.order = own-append k x.order (e ∷ [])
        ∙ (ap (λ l. own k x.order ++ l) (own_else k e [] (λ h. ne (sym h ∙ maker))) ∙ append-nil (own k x.order)) in
        (λ i. (rest i, is_by k x.aborted)));
  }
  step_keeps n x y s (aborts a is maker near) = subst (Kept n x) (sym is) record {
    before = record { world = refl; boxes = refl; order = StartsWith-refl x.order; aborted = λ b h. first_abort x.aborted a b h };
    sound = record { lawful = s.lawful; fitting = s.fitting; by = λ b h. by_one x.aborted a b x.boxes s.by near h };
    apart = λ k ne. (let rest = not_others x.aborted a k (λ h. ne (h ∙ maker)) in (λ i. (own k x.order, rest i)));
  }

  -- the value found comes after the one that the pass had seen last
  pub found_is : (guard : Held (BoardState M W)) (a m : Standing (BoardState M W)) → EnteredLock (Comes fits) share guard a m
      → (s : BoardState M W)
      → EndsIn a.seen s → Comes fits s guard.value
  found_is guard a m e s ends = rises_last (Comes fits) m.seen a.seen s guard.value e.stands.rises e.stands.later ends e.stands.found

  pub may_leave : (guard : Held (BoardState M W)) (a m : Standing (BoardState M W)) (y : BoardState M W)
      → EnteredLock (Comes fits) share guard a m
      → Kept a.number guard.value y → MayLeave (Comes fits) share m y
  may_leave guard a m y e k =
      let same : (x : BoardState M W) → EndsIn m.seen x → guard.value ≡ x =
      λ x ends. EndsIn-same m.seen guard.value x e.stands.found ends in
      let number : m.number ≡ a.number = ap (λ (z : Standing (BoardState M W)). z.number) e.lane in
      record {
        later = λ x ends. subst (λ z. Comes fits z y) (same x ends) (k.before, λ s. k.sound);
        apart = λ x ends j ne. k.apart j (λ h. ne (h ∙ sym number)) ∙ ap (share j) (same x ends);
      }

  -- inside once: the lane is outside again, with one ticket fewer
  pub record Visit (a b : Standing (BoardState M W)) (x y : BoardState M W) : Type 0 where
    pub lock : b.lock ≡ a.lock
    pub number : b.number ≡ a.number
    pub had : 0 < a.left
    pub left : b.left ≡ a.left - 1
    pub tickets : b.tickets ≡ a.tickets
    pub inside : b.inside ≡ []
    pub own : b.own ≡ y ∷ []
    pub ends : EndsIn b.seen y
    pub found : (s : BoardState M W) → EndsIn a.seen s → Comes fits s x
    pub part : (z : BoardState M W) → a.own ≡ z ∷ [] → share a.number x ≡ share a.number z

  pub visit_is : (guard : Held (BoardState M W)) (a m b : Standing (BoardState M W)) (y : BoardState M W)
      → EnteredLock (Comes fits) share guard a m
      → Left y m b → Visit a b guard.value y
  visit_is guard a m b y e l = record {
    lock = ap (λ (z : Standing (BoardState M W)). z.lock) l ∙ ap (λ (z : Standing (BoardState M W)). z.lock) e.lane;
    number = ap (λ (z : Standing (BoardState M W)). z.number) l ∙ ap (λ (z : Standing (BoardState M W)). z.number) e.lane;
    had = e.had;
    left = ap (λ (z : Standing (BoardState M W)). z.left) l ∙ ap (λ (z : Standing (BoardState M W)). z.left) e.lane;
    tickets = ap (λ (z : Standing (BoardState M W)). z.tickets) l ∙ ap (λ (z : Standing (BoardState M W)). z.tickets) e.lane;
    inside = ap (λ (z : Standing (BoardState M W)). z.inside) l;
    own = ap (λ (z : Standing (BoardState M W)). z.own) l;
    ends = (m.seen, ap (λ (z : Standing (BoardState M W)). z.seen) l);
    found = found_is guard a m e;
    part = e.stands.own;
  }

  -- a sight, by the state that it shows
  abbrev pub showing : Standing (BoardState M W) → Bool → BoardState M W → Sight M W
  showing lane kept s = record {
    board = lane.lock;
    number = lane.number;
    calls = calls_of kept lane.left;
    made =
        not kept;
    knows = is_complete s.order;
    seen = s;
  }

  pub shows_now : (lane : Standing (BoardState M W)) (w : W) (boxes : ℕ) (kept : Bool) (s : BoardState M W) → EndsIn lane.seen s
      → s.world ≡ w
      → s.boxes ≡ boxes → sight_of lane w boxes kept ≡ showing lane kept s
  shows_now lane w boxes kept s ends same_world same_boxes =
      let order = latest_is (λ (s : BoardState M W). s.order) [] lane.seen s ends in
      let aborted = latest_is (λ (s : BoardState M W). s.aborted) None lane.seen s ends in
      let world = sym same_world in
      let number = sym same_boxes in
      λ i. record {
        board = lane.lock;
        number = lane.number;
        calls = calls_of kept lane.left;
        made = not kept;
        knows =
            is_complete (order i);
        seen = record {
          world = world i;
          boxes = number i;
          order = order i;
          aborted =
              aborted i;
        };
      }

  pub shows : (lane : Standing (BoardState M W)) (w : W) (boxes : ℕ) (kept : Bool) (p : IsPass fits lane w boxes kept)
      → sight_of lane w boxes kept ≡ showing lane kept p.last
  shows lane w boxes kept p = shows_now lane w boxes kept p.last p.ends p.same_world p.same_boxes

  pub calls_less : (kept : Bool) (a b : ℕ) → 0 < calls_of kept a → b ≡ a - 1 → calls_of kept a ≡ calls_of kept b + 1
  calls_less true a b some_of less = omega arith
  calls_less false a b some_of less = omega arith

  ticket_stays : (kept : Bool) (a b : ℕ) → 0 < calls_of kept a → b ≡ a - 1 → kept ≡ true → 0 < b
  ticket_stays true a b some_of less is = omega arith
  ticket_stays false a b some_of less is = cc

  -- a sound state is closed if and only if its order is complete
  pub complete_is : (s : BoardState M W) → IsSound fits s → is_complete s.order ≡ true → IsClosed s.order
  complete_is s sound is = (counted_closed s.boxes s.order sound.lawful).0
      (eqb-true (posted s.order) (completed s.order) is)

  pub closed_is : (s : BoardState M W) → IsSound fits s → IsClosed s.order → is_complete s.order ≡ true
  closed_is s sound closed = eq-eqb (posted s.order) (completed s.order)
      ((counted_closed s.boxes s.order sound.lawful).1 closed)

  pub open_is : (s : BoardState M W) → IsSound fits s → (IsClosed s.order → ⊥) → is_complete s.order ≡ false
  open_is s sound open_order = ne_eqb (posted s.order) (completed s.order)
      (λ same. open_order ((counted_closed s.boxes s.order sound.lawful).0 same))

  -- a sound state that continues from a sound one with a closed order has that order
  pub same_order : (s t : BoardState M W) → IsSound fits s → IsClosed s.order → Before s t → IsSound fits t
      → t.order ≡ s.order
  same_order s t sound closed b later =
      let rest = b.order.0 in
      let law : IsLawful s.boxes (s.order ++ rest) = subst (λ l. IsLawful s.boxes l) b.order.1
      (subst (λ n. IsLawful n t.order) b.boxes later.lawful) in
      b.order.1 ∙ (ap (λ l. s.order ++ l) (nothing_follows s.boxes s.order rest sound.lawful closed law)
      ∙ append-nil s.order)

  pub complete_stays : (s t : BoardState M W) → IsSound fits s → Before s t → IsSound fits t → is_complete s.order ≡ true
      → is_complete t.order ≡ true
  complete_stays s t sound b later is = ap is_complete (same_order s t sound (complete_is s sound is) b later) ∙ is

  pub some_later : (s t : BoardState M W) → Before s t → IsSome s.aborted → IsSome t.aborted
  some_later s t b known = later s.aborted t.aborted b.aborted known
    where
      later : (o q : Option Abort) → ((a : Abort) → o ≡ Some a → q ≡ Some a) → IsSome o → IsSome q
      later None q f known = cc
      later (Some a) q f known = ap Rattle.std.specs.Prelude.is_some (f a refl)

  -- what the pass finds inside: it comes after what the pass had seen, is sound, and has the pass's own part
  pub record Found (n : ℕ) (last x : BoardState M W) : Type 0 where
    pub before : Before last x
    pub sound : IsSound fits x
    pub part : share n x ≡ share n last

  pub found_here : (guard : Held (BoardState M W)) (a m : Standing (BoardState M W)) (w : W) (boxes : ℕ) (kept : Bool)
      (p : IsPass fits a w boxes kept) → EnteredLock (Comes fits) share guard a m → Found a.number p.last guard.value
  found_here guard a m w boxes kept p e = let comes =
      found_is guard a m e p.last p.ends in record {
        before = comes.0;
        sound = comes.1 p.sound;
        part = e.stands.own p.left p.has ∙ sym p.own_part;
      }

  pub found_of : (a b : Standing (BoardState M W)) (x y : BoardState M W) (w : W) (boxes : ℕ) (kept : Bool) (p : IsPass fits a w boxes kept)
      → Visit a b x y → Found a.number p.last x
  found_of a b x y w boxes kept p v = let comes =
      v.found p.last p.ends in record { before = comes.0; sound = comes.1 p.sound; part = v.part p.left p.has ∙ sym p.own_part }

  -- the pass after it was inside
  pub pass_on : (a b : Standing (BoardState M W)) (x y : BoardState M W) (w : W) (boxes : ℕ) (kept kept' : Bool)
      (p : IsPass fits a w boxes kept)
      → Visit a b x y → Kept a.number x y → (kept' ≡ true → 0 < b.left) → (kept' ≡ true → is_by a.number y.aborted ≡ false)
      → (kept' ≡ false → IsSome y.aborted) → IsPass fits b w boxes kept'
  pass_on a b x y w boxes kept kept' p v k ticket mine known =
      let f = found_of a b x y w boxes kept p v in
      record {
        waits = v.tickets ∙ p.waits;
        outside = v.inside;
        last = y;
        ends = v.ends;
        sound = k.sound;
        same_world = k.before.world ∙ (f.before.world ∙ p.same_world);
        same_boxes = k.before.boxes ∙ (f.before.boxes ∙ p.same_boxes);
        left = y;
        has = v.own;
        own_part = refl;
        number = subst (λ n. n < boxes) (sym v.number) p.number;
        few = p.few;
        ticket = ticket;
        not_by = λ is. ap (λ n. is_by n y.aborted) v.number ∙ mine is;
        knows = known;
      }

  -- the same, if the step made no abort
  pub pass_stays : (a b : Standing (BoardState M W)) (x y : BoardState M W) (w : W) (boxes : ℕ) (kept : Bool)
      (p : IsPass fits a w boxes kept)
      → Visit a b x y → Kept a.number x y → y.aborted ≡ x.aborted → 0 < calls_of kept a.left → IsPass fits b w boxes kept
  pass_stays a b x y w boxes kept p v k same some_of =
      let f = found_of a b x y w boxes kept p v in
      pass_on a b x y w boxes kept kept p v k (ticket_stays kept a.left b.left some_of v.left)
      (λ is. ap (is_by a.number) same ∙ (ap (λ (q : List (Entry M) × Bool). q.1) (f.part ∙ p.own_part) ∙ p.not_by is))
      (λ is. some_later p.last y (before_trans p.last x y f.before k.before) (p.knows is))

  goes_on : (a b : Standing (BoardState M W)) (x y : BoardState M W) (w : W) (boxes : ℕ) (kept kept' : Bool)
      (p : IsPass fits a w boxes kept)
      → Visit a b x y → Kept a.number x y → (kept' ≡ false → IsSome y.aborted) → GoesOn fits (showing a kept p.last) (showing b kept' y)
  goes_on a b x y w boxes kept kept' p v k known =
      let f = found_of a b x y w boxes kept p v in
      record {
        board = v.lock;
        number = v.number;
        before = before_trans p.last x y f.before k.before;
        sound = k.sound;
        made = λ made. known (not-true kept' made);
        knows = λ done. complete_stays p.last y p.sound (before_trans p.last x y f.before k.before) k.sound done;
        close = complete_is y k.sound;
      }

  -- a call at which the pass made no event
  pub looked_is : (a b : Standing (BoardState M W)) (x : BoardState M W) (w : W) (boxes : ℕ) (kept : Bool) (p : IsPass fits a w boxes kept)
      → Visit a b x x → 0 < calls_of kept a.left → Looked fits (showing a kept p.last) (showing b kept x)
  looked_is a b x w boxes kept p v some_of =
      let f = found_of a b x x w boxes kept p v in
      let k = step_keeps a.number x x f.sound (stays refl) in (
        record {
          goes = goes_on a b x x w boxes kept kept p v k (λ is. some_later p.last x f.before (p.knows is));
          made = refl;
          own = ap (λ (q : List (Entry M) × Bool). q.0) f.part;
        },
        calls_less kept a.left b.left some_of v.left,
      )

  -- a call at which it made one
  pub added_is : (a b : Standing (BoardState M W)) (x y : BoardState M W) (e : Entry M) (w : W) (boxes : ℕ) (kept : Bool)
      (p : IsPass fits a w boxes kept) → Visit a b x y → y ≡ with_new_event e x → maker_of e ≡ a.number → Allowed fits e x
      → 0 < calls_of kept a.left → Added fits e (showing a kept p.last) (showing b kept y)
  added_is a b x y e w boxes kept p v is maker may some_of =
      let f = found_of a b x y w boxes kept p v in
      let k = step_keeps a.number x y f.sound (adds e is maker may) in
      let last = ap (λ (s : BoardState M W). s.order) is in
      let abort = ap (λ (s : BoardState M W). s.aborted) is in
      record {
        goes =
            goes_on a b x y w boxes kept kept p v k
            (λ no_ticket. some_later p.last y (before_trans p.last x y f.before k.before) (p.knows no_ticket));
        made = refl;
        calls = calls_less kept a.left b.left some_of v.left;
        front = x.order;
        last = last;
        found = f.before.order;
        own = ap (own a.number) last ∙ (own-append a.number x.order (e ∷ []) ∙ (λ i. (f.part i).0 ++ own_here a.number e [] maker i));
      }

  -- a message that is not yet taken was posted, and fits
  pub posted_fits : (w : W) (q k s : ℕ) (m : M) (order : List (Entry M))
      → ((i to sender : ℕ) (n : M) (t : ℕ) → slice_get order i ≡ Some (entry.Posted to sender n t) → fits w to n)
      → slice_get (posts (part q order)) k ≡ Some (s, m) → fits w q m
  posted_fits w q k s m [] all at = cc
  posted_fits w q k s m (entry.Posted to s' m' t ∷ es) all at = elim (cases_eq to q) [
    | inl here ↦
        first k (ap (λ l. slice_get (posts l) k) (sym (part_here q (entry.Posted to s' m' t) es here)) ∙ at) here
        (λ j. posted_fits w q j s m es (λ i. all (suc i)))
    | inr else ↦
        posted_fits w q k s m es (λ i. all (suc i))
        (ap (λ l. slice_get (posts l) k) (sym (part_else q (entry.Posted to s' m' t) es else)) ∙ at)
  ]
    where
      first : (j : ℕ) → slice_get ((s', m') ∷ posts (part q es)) j ≡ Some (s, m) → to ≡ q
          → ((i : ℕ) → slice_get (posts (part q es)) i ≡ Some (s, m) → fits w q m) → fits w q m
      first zero is here rest =
          (let same : m' ≡ m = ap (λ (z : ℕ × M). z.1) (same_Some (s', m') (s, m) is) in
          subst (λ i. fits w i m) here (subst (λ n. fits w to n) same (all 0 to s' m' t refl)))
      first (suc j) is here rest = rest j is
  posted_fits w q k s m (entry.Taken of s' m' ∷ es) all at = elim (cases_eq of q) [
    | inl here ↦
        posted_fits w q k s m es (λ i. all (suc i))
        (ap (λ l. slice_get (posts l) k) (sym (part_here q (entry.Taken of s' m') es here)) ∙ at)
    | inr else ↦
        posted_fits w q k s m es (λ i. all (suc i))
        (ap (λ l. slice_get (posts l) k) (sym (part_else q (entry.Taken of s' m') es else)) ∙ at)
  ]
  posted_fits w q k s m (entry.Completed of t ∷ es) all at = elim (cases_eq of q) [
    | inl here ↦
        posted_fits w q k s m es (λ i. all (suc i))
        (ap (λ l. slice_get (posts l) k) (sym (part_here q (entry.Completed of t) es here)) ∙ at)
    | inr else ↦
        posted_fits w q k s m es (λ i. all (suc i))
        (ap (λ l. slice_get (posts l) k) (sym (part_else q (entry.Completed of t) es else)) ∙ at)
  ]

  -- of a mailbox of the board
  take_allowed : (n job : ℕ) (m : M) (x y : BoardState M W) → n < x.boxes → (t : BoardGivesOldest n job m x y)
      → Allowed fits (entry.Taken n t.sender m) x
  take_allowed n job m x y near t = record { near = near; follows = t.oldest; under = tt; fit = tt }

  pub take_step : (n : ℕ) (r : Taken M) (x y : BoardState M W) → n < x.boxes → TakeAnswers n r x y → Step n x y
  take_step n (answer.Message job m) x y near t = adds (entry.Taken n t.sender m) t.after refl (take_allowed n job m x y near t)
  take_step n answer.Empty x y near t = stays t.0
  take_step n answer.Closed x y near t = stays t.0
  take_step n answer.Aborted x y near t = stays t.0

  pub take_still : (n : ℕ) (r : Taken M) (x y : BoardState M W) → TakeAnswers n r x y → y.aborted ≡ x.aborted
  take_still n (answer.Message job m) x y t = ap (λ (s : BoardState M W). s.aborted) t.after
  take_still n answer.Empty x y t = ap (λ (s : BoardState M W). s.aborted) t.0
  take_still n answer.Closed x y t = ap (λ (s : BoardState M W). s.aborted) t.0
  take_still n answer.Aborted x y t = ap (λ (s : BoardState M W). s.aborted) t.0

  pub took_is : (r : Taken M) (a b : Standing (BoardState M W)) (x y : BoardState M W) (w : W) (boxes : ℕ) (kept : Bool)
      (p : IsPass fits a w boxes kept) → Visit a b x y → a.number < x.boxes → TakeAnswers a.number r x y → 0 < calls_of kept a.left
      → Took fits (Ok r) (showing a kept p.last) (showing b kept y)
  unfolding added_is
  took_is (answer.Message job m) a b x y w boxes kept p v near t some_of =
      let f = found_of a b x y w boxes kept p v in
      let e : Entry M = entry.Taken a.number t.sender m in
      let add = added_is a b x y e w boxes kept p v t.after refl (take_allowed a.number job m x y near t) some_of in
      let longer : part a.number y.order ≡ part a.number x.order ++ event.Take t.sender m ∷ [] =
      ap (λ (s : BoardState M W). part a.number s.order) t.after
      ∙ (part-append a.number x.order (e ∷ []) ∙ ap (λ l. part a.number x.order ++ l) (part_here a.number e [] refl)) in
      record {
        sender = t.sender;
        added = add;
        oldest = (t.sender, t.oldest, longer);
        number = t.number;
        fit =
            subst (λ z. fits z a.number m) f.before.world
            (posted_fits x.world a.number (length (takes (part a.number x.order))) t.sender m x.order f.sound.fitting t.oldest);
        alive = ap (λ (s : BoardState M W). s.aborted) t.after ∙ t.alive;
      }
  took_is answer.Empty a b x y w boxes kept p v near t some_of =
      subst (λ z. Visit a b x z → Took fits (Ok answer.Empty) (showing a kept p.last) (showing b kept z)) (sym t.0)
      (λ u. (
        looked_is a b x w boxes kept p u some_of,
        open_is x (found_of a b x x w boxes kept p u).sound t.1,
        t.2,
        t.3,
      )) v
  took_is answer.Closed a b x y w boxes kept p v near t some_of =
      subst (λ z. Visit a b x z → Took fits (Ok answer.Closed) (showing a kept p.last) (showing b kept z)) (sym t.0)
      (λ u. (looked_is a b x w boxes kept p u some_of, closed_is x (found_of a b x x w boxes kept p u).sound t.1)) v
  took_is answer.Aborted a b x y w boxes kept p v near t some_of =
      subst (λ z. Visit a b x z → Took fits (Ok answer.Aborted) (showing a kept p.last) (showing b kept z)) (sym t.0)
      (λ u. (looked_is a b x w boxes kept p u some_of, open_is x (found_of a b x x w boxes kept p u).sound t.1, t.2)) v

  -- a post that was made or refused
  pub post_step : (n : ℕ) (e : Entry M) (m : M) (r : Result (Unit {0}) (PostFault M)) (x y : BoardState M W) → maker_of e ≡ n
      → Allowed fits e x
      → OnOk r ((x.aborted ≡ None) × (y ≡ with_new_event e x)) → IfErr r (λ f. RefusesPost m f x y) → Step n x y
  post_step n e m (Ok u) x y maker may ok err = adds e ok.1 maker may
  post_step n e m (Err (fault.Spent back)) x y maker may ok err = absurd err
  post_step n e m (Err (fault.Memory back)) x y maker may ok err = stays err.1
  post_step n e m (Err (fault.Aborted back)) x y maker may ok err = stays err.1

  pub post_still : (e : Entry M) (m : M) (r : Result (Unit {0}) (PostFault M)) (x y : BoardState M W)
      → OnOk r ((x.aborted ≡ None) × (y ≡ with_new_event e x)) → IfErr r (λ f. RefusesPost m f x y) → y.aborted ≡ x.aborted
  post_still e m (Ok u) x y ok err = ap (λ (s : BoardState M W). s.aborted) ok.1
  post_still e m (Err (fault.Spent back)) x y ok err = absurd err
  post_still e m (Err (fault.Memory back)) x y ok err = ap (λ (s : BoardState M W). s.aborted) err.1
  post_still e m (Err (fault.Aborted back)) x y ok err = ap (λ (s : BoardState M W). s.aborted) err.1

  abbrev pub PostAnswer : ℕ → ℕ → M → Sight M W → Sight M W → Result (Unit {0}) (PostFault M) → Type 0
  PostAnswer job to m s t r = MatchResult r (λ _. WasPosted fits job to m s t) (λ f. WasRefused fits m f s t)

  pub posted_is : (job to : ℕ) (m : M) (r : Result (Unit {0}) (PostFault M)) (a b : Standing (BoardState M W)) (x y : BoardState M W)
      (w : W)
      (boxes : ℕ) (kept : Bool) (p : IsPass fits a w boxes kept) → Visit a b x y → Allowed fits (entry.Posted to a.number m job) x
      → OnOk r ((x.aborted ≡ None) × (y ≡ with_new_event (entry.Posted to a.number m job) x)) → IfErr r (λ f. RefusesPost m f x y)
      → 0 < calls_of kept a.left → PostAnswer job to m (showing a kept p.last) (showing b kept y) r
  posted_is job to m (Ok u) a b x y w boxes kept p v may ok err some_of = (
    added_is a b x y (entry.Posted to a.number m job) w boxes kept p v ok.1 refl may some_of,
    ap (λ (s : BoardState M W). s.aborted) ok.1 ∙ ok.0,
  )
  posted_is job to m (Err (fault.Spent back)) a b x y w boxes kept p v may ok err some_of = absurd err
  posted_is job to m (Err (fault.Memory back)) a b x y w boxes kept p v may ok err some_of =
      subst (λ z. Visit a b x z → WasRefused fits m (fault.Memory back) (showing a kept p.last) (showing b kept z)) (sym err.1)
      (λ u. (err.0, looked_is a b x w boxes kept p u some_of, err.2)) v
  posted_is job to m (Err (fault.Aborted back)) a b x y w boxes kept p v may ok err some_of =
      subst (λ z. Visit a b x z → WasRefused fits m (fault.Aborted back) (showing a kept p.last) (showing b kept z)) (sym err.1)
      (λ u. (err.0, looked_is a b x w boxes kept p u some_of, err.2)) v

  some_abort : (o : Option Abort) (a : Abort) → IsSome (abort_of o a)
  some_abort None a = refl
  some_abort (Some b) a = refl

  -- the abort that stands after one of a pass that had made none is this one, or another pass's
  first_of : (o : Option Abort) (a : Abort) (n : ℕ) → a.by ≡ n → is_by n o ≡ false → (b : Abort)
      × (abort_of o a ≡ Some b) × ((b ≡ a) ⊎ (b.by ≢ n))
  first_of None a n by mine = (a, refl, inl refl)
  first_of (Some b) a n by mine =
      (b, refl, inr (λ same. (let no_way : true ≡ false = sym (eq-eqb b.by n same) ∙ mine in cc)))

  -- an abort
  pub abort_pass : (q : Abort) (a b : Standing (BoardState M W)) (x y : BoardState M W) (w : W) (boxes : ℕ) (kept : Bool)
      (p : IsPass fits a w boxes kept) → Visit a b x y → Kept a.number x y → y ≡ record x { aborted = abort_of x.aborted q }
      → IsPass fits b w boxes false
  abort_pass q a b x y w boxes kept p v k is =
      pass_on a b x y w boxes kept false p v k (λ e. cc) (λ e. cc)
      (λ e. subst (λ (s : BoardState M W). IsSome s.aborted) (sym is) (some_abort x.aborted q))

  pub aborted_is : (q : Abort) (a b : Standing (BoardState M W)) (x y : BoardState M W) (w : W) (boxes : ℕ)
      (p : IsPass fits a w boxes true) → q.by ≡ a.number → Visit a b x y → Kept a.number x y
      → y ≡ record x { aborted = abort_of x.aborted q } → MadeAbort fits q (showing a true p.last) (showing b false y)
  aborted_is q a b x y w boxes p by v k is =
      let f = found_of a b x y w boxes true p v in
      record {
        goes =
            goes_on a b x y w boxes true false p v k
            (λ e. subst (λ (s : BoardState M W). IsSome s.aborted) (sym is) (some_abort x.aborted q));
        made = refl;
        calls = v.left;
        own = ap (λ (s : BoardState M W). own a.number s.order) is ∙ ap (λ (z : List (Entry M) × Bool). z.0) f.part;
        first = λ e.
            let mine = ap (λ (z : List (Entry M) × Bool). z.1) (f.part ∙ p.own_part) ∙ p.not_by refl in
            let o = first_of x.aborted q a.number by mine in (o.0, ap (λ (s : BoardState M W). s.aborted) is ∙ o.1, o.2);
        again = λ e. cc;
      }

  pub aborted_again : (q : Abort) (a : Standing (BoardState M W)) (w : W) (boxes : ℕ) (p : IsPass fits a w boxes false)
      → MadeAbort fits q (showing a false p.last) (showing a false p.last)
  aborted_again q a w boxes p = record {
    goes = record {
      board = refl;
      number = refl;
      before = before_refl p.last;
      sound = p.sound;
      made = λ e. p.knows refl;
      knows = λ e. e;
      close = complete_is p.last p.sound;
    };
    made = refl;
    calls = refl;
    own = refl;
    first = λ e. cc;
    again = λ e. refl;
  }

  -- the pass as it shows itself after it was inside
  pub after_shows : (a b : Standing (BoardState M W)) (x y : BoardState M W) (w : W) (boxes : ℕ) (kept kept' : Bool)
      (p : IsPass fits a w boxes kept)
      → Visit a b x y → Kept a.number x y → sight_of b w boxes kept' ≡ showing b kept' y
  after_shows a b x y w boxes kept kept' p v k =
      let f = found_of a b x y w boxes kept p v in
      shows_now b w boxes kept' y v.ends (k.before.world ∙ (f.before.world ∙ p.same_world))
      (k.before.boxes ∙ (f.before.boxes ∙ p.same_boxes))

  pub job_allowed : (n job : ℕ) (x : BoardState M W) → IsSound fits x → HasJob n job x.order → Allowed fits (entry.Completed n job) x
  job_allowed n job x s has = record { near = job_inside x.boxes x.order n job s.lawful has; follows = has; under = tt; fit = tt }

  -- the pass's job is one of the state found
  pub job_found : (n job : ℕ) (last x : BoardState M W) (s : Sight M W) (a : Standing (BoardState M W)) (kept : Bool) → Found n last x
      → showing a kept last ≡ s → a.number ≡ n → HasJob s.number job s.seen.order → HasJob n job x.order
  job_found n job last x s a kept f see same has =
      let here : HasJob n job last.order =
      subst (λ k. HasJob k job last.order) same (subst (λ (z : Sight M W). HasJob z.number job z.seen.order) (sym see) has) in
      job_stays n job last.order x.order (sym (ap (λ (z : List (Entry M) × Bool). z.0) f.part)) here

  pub some_calls : (r : ℕ) (a : Standing (BoardState M W)) (kept : Bool) (last : BoardState M W) (s : Sight M W) → showing a kept last ≡ s
      → r ≡ s.calls → (r ≡ 0 → ⊥) → 0 < calls_of kept a.left
  some_calls r a kept last s see is some_of = subst (λ k. 0 < k) (is ∙ sym (ap (λ (z : Sight M W). z.calls) see)) (positive r some_of)
    where
      positive : (n : ℕ) → (n ≡ 0 → ⊥) → 0 < n
      positive zero none = absurd (none refl)
      positive (suc n) none = omega arith

  pub post_allowed : (n job to : ℕ) (m : M) (x : BoardState M W) → to < x.boxes → HasJob n job x.order → fits x.world to m
      → Allowed fits (entry.Posted to n m job) x
  post_allowed n job to m x near has fit = record { near = near; follows = tt; under = has; fit = fit }

  pub aborted_when : (q : Abort) (a b : Standing (BoardState M W)) (x y : BoardState M W) (w : W) (boxes : ℕ) (kept : Bool)
      (p : IsPass fits a w boxes kept) → kept ≡ true → q.by ≡ a.number → Visit a b x y → Kept a.number x y
      → y ≡ record x { aborted = abort_of x.aborted q } → MadeAbort fits q (showing a kept p.last) (showing b false y)
  aborted_when q a b x y w boxes true p e by v k is = aborted_is q a b x y w boxes p by v k is
  aborted_when q a b x y w boxes false p e by v k is = cc

  pub again_when : (q : Abort) (a : Standing (BoardState M W)) (w : W) (boxes : ℕ) (kept : Bool) (p : IsPass fits a w boxes kept)
      → kept ≡ false
      → MadeAbort fits q (showing a kept p.last) (showing a kept p.last)
  again_when q a w boxes true p e = cc
  again_when q a w boxes false p e = aborted_again q a w boxes p
