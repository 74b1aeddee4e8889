-- What a call of the board with a lock for each mailbox promises, from what its steps told.
use Rattle.std.proofs.Common.{◌≡◌, ◌≢◌, ℕ, ◌+◌, ◌-◌, ◌<◌, ◌≤◌, Bool, true, List, [], ◌∷◌, ◌++◌}
use Rattle.std.proofs.Common.{length, set, get_or, Contains, Some, refl, sym, ap, ◌∙◌, subst, arith, get_or-set_other}
use Rattle.std.specs.Prelude.{IsSome}
use mathlib.Core.Option.{some}
use mathlib.Core.Logic.{dite}
use native.Mathlib.Decide.{ℕ_discrete}
use lib.ListN.{get_elem?}
use Rattle.atomic_table.specs.Table as table
use Rattle.atomic_table.specs.Seated.{TableId}
use Rattle.ticket_lock.specs.declared.hand.Hand.{Hand}
use Rattle.ticket_lock.specs.History.{StartsWith}
use Rattle.ticket_lock.specs.Turns.{passes, with_leave}
use Rattle.ticket_lock.specs.Calls as lock
use Rattle.ticket_lock.specs.Proved.Facts.{StartsWith-refl, StartsWith-trans, EndsIn-same}
use Rattle.ticket_lock.proofs.HistoryFacts.{StartsWith-length}
use Rattle.post_ledger.specs.declared.event.Event.{Event}
use Rattle.post_ledger.specs.declared.entry.Entry.{Entry}
use Rattle.post_ledger.specs.History.{takes, dones}
use Rattle.post_ledger.specs.Orders.{own, maker_of, HasJob, IsClosed}
use Rattle.post_ledger.proofs.Orders.{own-append, own_here}
use Rattle.switchboard.specs.declared.calls.Abort.{Abort}
use Rattle.switchboard.specs.declared.lock_per_box.knowing.Ground.{Ground}
use Rattle.switchboard.specs.declared.lock_per_box.knowing.Seen.{Seen}
use Rattle.switchboard.specs.declared.lock_per_box.knowing.Own.{Own}
use Rattle.switchboard.specs.Sights.{Sight, IsSound}
use Rattle.switchboard.specs.Promises.{GoesOn, Looked, Added}
use Rattle.switchboard.specs.Proved.Entries.{job_stays}
use Rattle.switchboard.specs.Knowing.{fresh_hand, entry_of, unseen, hand_at, with_hand, counted_down}
use Rattle.switchboard.specs.PerBox.{SeatView, Seat, News, HasOwn, IsInside, LookedAtWord, CountedUp, Recorded, TellsOrder}
use Rattle.switchboard.specs.BoxPasses.{IsIdleHand, state_seen, box_sight, IsSeen, IsBoxPass}
use Rattle.switchboard.proofs.Visits.{some_later}

-- a seat that has counted down differs in that alone
pub is_counted_down : {M W : Type 0} (u z : Seat M W) → z ≡ (counted_down u.0, u.1) → z ≡ (record u.0 { owes = z.0.owes }, u.1)
is_counted_down {M} {W} u z is = is ∙ ap (λ k. (record u.0 { owes = k }, u.1)) (sym (ap (λ (k : Seat M W). k.0.owes) is))

module _ {M W : Type 0} (fits : W → ℕ → M → Type 0) where
  -- what a pass sees continues from what it had seen
  pub record Later (w : W) (boxes : ℕ) (a x : Seen M) : Type 0 where
    pub begins : StartsWith x.order a.order
    pub aborted : (c : Abort) → a.aborted ≡ Some c → x.aborted ≡ Some c
    pub knows : a.knows ≡ true → x.knows ≡ true
    pub sound : IsSound fits (state_seen w boxes x)
    pub close : x.knows ≡ true → IsClosed x.order

  pub later_start : (w : W) (boxes : ℕ) (made : Bool) (x : Seen M) → IsSeen fits w boxes made x → Later w boxes x x
  later_start w boxes made x s = record {
    begins = StartsWith-refl x.order;
    aborted = λ c e. e;
    knows = λ e. e;
    sound = s.sound;
    close = s.close;
  }

  -- and so after one more step
  pub later_next : (w : W) (boxes : ℕ) (base : Ground M W) (a : Seen M) (v : SeatView M W) (y : Seen M) → get_elem? v.boards 0 ≡ some base
      → base.world.value ≡ w → base.boxes ≡ boxes → Later w boxes a v.seen → News fits v y → Later w boxes a y
  later_next w boxes base a v y is world count l n =
      let opens = l.sound.lawful.opens in
      let some_of : 0 < length y.order = omega (arith, ap length opens.3, StartsWith-length y.order v.seen.order n.begins) in
      record {
        begins = StartsWith-trans y.order v.seen.order a.order n.begins l.begins;
        aborted = λ c e. n.aborted c (l.aborted c e);
        knows = λ e. n.knows (l.knows e);
        sound =
            subst (λ z. IsSound fits z) (λ i. record { world = world i; boxes = count i; order = y.order; aborted = y.aborted })
            (n.sound some_of base is);
        close = n.close;
      }

  pub seen_on : (w : W) (boxes : ℕ) (made : Bool) (a x : Seen M) → IsSeen fits w boxes made a → Later w boxes a x
      → IsSeen fits w boxes made x
  seen_on w boxes made a x s l = record {
    sound = l.sound;
    close = l.close;
    known =
        λ e.
        some_later fits (state_seen w boxes a) (state_seen w boxes x) record {
          world = refl;
          boxes = refl;
          order = l.begins;
          aborted = l.aborted;
        } (s.known e);
  }

  -- a pass entered the lock of a mailbox, found x, and left y
  pub record Visit (q : ℕ) (x y : List (Event M)) (b v out : Seat M W) : Type 0 where
    pub inside : IsInside fits q x b v
    pub left : lock.Left (hand_at q) (TellsOrder fits q) y v out

  module _ (q : ℕ) (x y : List (Event M)) (b v out : Seat M W) (visit : Visit q x y b v out) where
    pub visit_tells : TellsOrder fits q (passes x y) v.0 out.0
    visit_tells =
        let t = visit.left.2 in
        subst (λ z. TellsOrder fits q (passes z y) v.0 out.0) (EndsIn-same (hand_at q v.0).seen t.0 x t.1 visit.inside.found) t.2

    pub visit_out : out.1 ≡ b.1
    visit_out = visit.left.0 ∙ ap table.rest visit.inside.lies

    -- it has one ticket fewer to draw in that lock, and is ready again
    pub visit_hands : (left boxes : ℕ) → (left ≡ 0 → ⊥) → ((k : ℕ) → k < boxes → IsIdleHand left (hand_at k b.0))
        → out.0.hands ≡ set v.0.hands q (hand_at q out.0) → (k : ℕ) → k < boxes → IsIdleHand (left - 1) (hand_at k out.0)
    visit_hands left boxes some_of idle hands k near = dite (ℕ_discrete k q)
        (λ (e : k ≡ q). subst (λ i. IsIdleHand (left - 1) (hand_at i out.0)) (sym e) (
        let was = idle q (subst (λ i. i < boxes) e near) in
        let h : hand_at q out.0 ≡ with_leave y (hand_at q v.0) = visit.left.1 in
        record {
          tickets = ap (λ (z : Hand (List (Event M))). z.tickets) h ∙ visit.inside.tickets;
          inside = ap (λ (z : Hand (List (Event M))). z.inside) h;
          parts = ap (λ (z : Hand (List (Event M))). z.parts) h ∙ (visit.inside.parts ∙ was.parts);
          drawn = omega (arith, ap (λ (z : Hand (List (Event M))). length z.drawn) h, visit.inside.drawn, was.drawn, some_of);
        }))
        (λ (ne : k ≢ q).
        let was = idle k near in
        let there : hand_at k out.0 ≡ hand_at k b.0 =
        ap (λ l. get_or l k (fresh_hand 0)) hands
        ∙ (get_or-set_other v.0.hands q k (hand_at q out.0) (fresh_hand 0) ne
        ∙ (ap (λ (z : SeatView M W). get_or z.hands k (fresh_hand 0)) visit.inside.after
        ∙ get_or-set_other b.0.hands q k (hand_at q v.0) (fresh_hand 0) ne)) in
        subst (λ h. IsIdleHand (left - 1) h)
        (sym there) record { tickets = was.tickets; inside = was.inside; parts = was.parts; drawn = omega (arith, was.drawn) })

  module _ (id : TableId) (number left : ℕ) (made : Bool) (w : W) (boxes : ℕ) (m : Seat M W)
      (p : IsBoxPass fits id number left made w boxes m) where
    abbrev pub own_part : Own M
    own_part = record { number = number; events = own number m.0.seen.order; made = made }

    abbrev sight : Sight M W
    sight = box_sight id number left made w boxes m.0.seen

    pub first_later : Later w boxes m.0.seen m.0.seen
    first_later = later_start w boxes made m.0.seen p.seen

    -- a later sight, after one more step of a seat of the pass
    pub step_later : (v : SeatView M W) (y : Seen M) → v.boards ≡ m.0.boards → Later w boxes m.0.seen v.seen → News fits v y
        → Later w boxes m.0.seen y
    step_later v y same l n = later_next w boxes p.base m.0.seen v y (ap (λ l. get_elem? l 0) same ∙ p.is_base) p.world p.mailboxes l n

    -- and after its first step
    pub next_later : (y : Seen M) → News fits m.0 y → Later w boxes m.0.seen y
    next_later y news = step_later m.0 y refl first_later news

    -- the pass made none but its own events
    pub own_same : (v : SeatView M W) (order : List (Entry M)) → v.lanes ≡ m.0.lanes → HasOwn fits v order
        → own number order ≡ own number m.0.seen.order
    own_same v order same has = has 0 own_part (ap (λ l. get_elem? l 0) (same ∙ p.lanes))

    -- so it has its jobs still
    pub still_has : (job : ℕ) (s : Sight M W) (order : List (Entry M)) → sight ≡ s → HasJob s.number job s.seen.order
        → own number order ≡ own number m.0.seen.order → HasJob number job order
    still_has job s order see has list =
        job_stays number job m.0.seen.order order (sym list)
        (subst (λ (z : Sight M W). HasJob z.number job z.seen.order) (sym see) has)

    pub goes : (id' : TableId) (left' : ℕ) (made' : Bool) (x : Seen M) → id' ≡ id → Later w boxes m.0.seen x
        → (made' ≡ true → IsSome x.aborted) → GoesOn fits sight (box_sight id' number left' made' w boxes x)
    goes id' left' made' x same l known = record {
      board = same;
      number = refl;
      before = record { world = refl; boxes = refl; order = l.begins; aborted = l.aborted };
      sound = l.sound;
      made = known;
      knows = l.knows;
      close = l.close;
    }

    pub looked_is : (id' : TableId) (x : Seen M) → id' ≡ id → (left ≡ 0 → ⊥) → Later w boxes m.0.seen x
        → own number x.order ≡ own number m.0.seen.order → Looked fits sight (box_sight id' number (left - 1) made w boxes x)
    looked_is id' x same some_of l list = (
      record { goes = goes id' (left - 1) made x same l (seen_on w boxes made m.0.seen x p.seen l).known; made = refl; own = list },
      omega (arith, some_of),
    )

    pub pass_on : (id' : TableId) (left' : ℕ) (made' : Bool) (u : Seat M W) → id' ≡ id → u.0.boards ≡ m.0.boards
        → u.0.lanes ≡ record { number = number; events = own number u.0.seen.order; made = made' } ∷ [] → u.1 ≡ [] → u.0.told ≡ unseen
        → u.0.owes ≡ 0
        → left' ≤ u.0.budget → ((q : ℕ) → q < boxes → IsIdleHand left' (hand_at q u.0)) → IsSeen fits w boxes made' u.0.seen
        → IsBoxPass fits id' number left' made' w boxes u
    pass_on id' left' made' u same board lanes out told owes budget hands seen = record {
      base = p.base;
      is_base = ap (λ l. get_elem? l 0) board ∙ p.is_base;
      world = p.world;
      mailboxes = p.mailboxes;
      sized = subst (λ i. Rattle.switchboard.specs.PerBox.IsBoardTable i boxes) (sym same) p.sized;
      near = p.near;
      lanes = lanes;
      outside = out;
      told = told;
      owes = owes;
      budget = budget;
      hands = hands;
      seen = seen;
    }

    -- the lanes, if the own list stays
    pub same_lanes : (u : SeatView M W) → u.lanes ≡ m.0.lanes → own number u.seen.order ≡ own number m.0.seen.order
        → u.lanes ≡ record { number = number; events = own number u.seen.order; made = made } ∷ []
    same_lanes u same list = same ∙ (p.lanes ∙ ap (λ l. record { number = number; events = l; made = made } ∷ []) (sym list))

    -- In a call, before it enters a mailbox: the seat is as it was but for what it sees and what it has in the count.
    pub record Outside (u : Seat M W) : Type 0 where
      pub boards : u.0.boards ≡ m.0.boards
      pub hands : u.0.hands ≡ m.0.hands
      pub lanes : u.0.lanes ≡ m.0.lanes
      pub told : u.0.told ≡ m.0.told
      pub slots : u.1 ≡ m.1
      pub budget : left ≤ u.0.budget + 1
      pub later : Later w boxes m.0.seen u.0.seen
      pub list : own number u.0.seen.order ≡ own number m.0.seen.order

    -- when it has done nothing yet,
    pub outside_now : Outside m
    outside_now = record {
      boards = refl;
      hands = refl;
      lanes = refl;
      told = refl;
      slots = refl;
      budget = omega (arith, p.budget);
      later = first_later;
      list = refl;
    }

    -- looked,
    pub outside_looked : (n : ℕ) (u : Seat M W) → LookedAtWord fits m n u → Outside u
    outside_looked n u looked =
        let is = looked.after in
        record {
          boards = ap (λ (z : Seat M W). z.0.boards) is;
          hands = ap (λ (z : Seat M W). z.0.hands) is;
          lanes = ap (λ (z : Seat M W). z.0.lanes) is;
          told = ap (λ (z : Seat M W). z.0.told) is;
          slots = ap (λ (z : Seat M W). z.1) is;
          budget = omega (arith, ap (λ (z : Seat M W). z.0.budget) is, p.budget);
          later = next_later u.0.seen looked.news;
          list = own_same m.0 u.0.seen.order refl looked.own;
        }

    -- or looked and counted up
    pub outside_counted : (job n : ℕ) (u : Seat M W) → CountedUp fits job m n u → Outside u
    outside_counted job n u counted =
        let is = counted.2 in
        let l = outside_looked n counted.0 counted.1 in
        let seen : u.0.seen ≡ counted.0.0.seen = ap (λ (z : Seat M W). z.0.seen) is in
        record {
          boards = ap (λ (z : Seat M W). z.0.boards) is ∙ l.boards;
          hands = ap (λ (z : Seat M W). z.0.hands) is ∙ l.hands;
          lanes = ap (λ (z : Seat M W). z.0.lanes) is ∙ l.lanes;
          told = ap (λ (z : Seat M W). z.0.told) is ∙ l.told;
          slots = ap (λ (z : Seat M W). z.1) is ∙ l.slots;
          budget =
              omega (arith, ap (λ (z : Seat M W). z.0.budget) is, ap (λ (z : Seat M W). z.0.budget) counted.1.after, p.budget);
          later = subst (λ z. Later w boxes m.0.seen z) (sym seen) l.later;
          list = ap (λ (z : Seen M). own number z.order) seen ∙ l.list;
        }

    -- a call that ends there
    module _ (u : Seat M W) (outside : Outside u) (z : Seat M W) (is : z ≡ (record u.0 { owes = z.0.owes }, u.1)) where
      seen : z.0.seen ≡ u.0.seen
      seen = ap (λ (k : Seat M W). k.0.seen) is

      later : Later w boxes m.0.seen z.0.seen
      later = subst (λ k. Later w boxes m.0.seen k) (sym seen) outside.later

      list : own number z.0.seen.order ≡ own number m.0.seen.order
      list = ap (λ (k : Seen M). own number k.order) seen ∙ outside.list

      pub stays_on : (id' : TableId) → id' ≡ id → (left ≡ 0 → ⊥) → z.0.owes ≡ 0 → IsBoxPass fits id' number (left - 1) made w boxes z
      stays_on id' same some_of owes =
          pass_on id' (left - 1) made z same (ap (λ (k : Seat M W). k.0.boards) is ∙ outside.boards)
          (same_lanes z.0 (ap (λ (k : Seat M W). k.0.lanes) is ∙ outside.lanes) list)
          (ap (λ (k : Seat M W). k.1) is ∙ (outside.slots ∙ p.outside)) (ap (λ (k : Seat M W). k.0.told) is ∙ (outside.told ∙ p.told))
          owes (omega (arith, ap (λ (k : Seat M W). k.0.budget) is, outside.budget))
          (λ q near. let was = p.hands q near in
          subst (λ h. IsIdleHand (left - 1) h)
          (sym (ap (λ l. get_or l q (fresh_hand 0)) (ap (λ (k : Seat M W). k.0.hands) is ∙ outside.hands)))
          record { tickets = was.tickets; inside = was.inside; parts = was.parts; drawn = omega (arith, was.drawn) })
          (seen_on w boxes made m.0.seen z.0.seen p.seen later)

      pub stays_looked : (id' : TableId) → id' ≡ id → (left ≡ 0 → ⊥)
          → Looked fits sight (box_sight id' number (left - 1) made w boxes z.0.seen)
      stays_looked id' same some_of = looked_is id' z.0.seen same some_of later list

    -- a seat of the pass recorded an event of the pass's own
    module _ (q : ℕ) (x : List (Event M)) (v o : SeatView M W) (board : v.boards ≡ m.0.boards) (later : Later w boxes m.0.seen v.seen)
        (e : Event M) (maker : maker_of (entry_of q v.under e) ≡ number) (rec : Recorded fits q own_part e x v o) where
      abbrev made_entry : Entry M
      made_entry = entry_of q v.under e

      pub order_after : o.seen.order ≡ rec.front ++ made_entry ∷ []
      order_after = ap (λ (z : SeatView M W). z.seen.order) rec.after

      pub own_after : own number o.seen.order ≡ own number m.0.seen.order ++ made_entry ∷ []
      own_after = ap (own number) order_after
          ∙ (own-append number rec.front (made_entry ∷ []) ∙ (λ i. rec.own i ++ own_here number made_entry [] maker i))

      pub later_after : Later w boxes m.0.seen o.seen
      later_after = step_later v o.seen board later rec.news

      abbrev pub added_after : (id' : TableId) → id' ≡ id → (left ≡ 0 → ⊥)
          → Added fits made_entry sight (box_sight id' number (left - 1) made w boxes o.seen)
      added_after id' same some_of = record {
        goes = goes id' (left - 1) made o.seen same later_after (seen_on w boxes made m.0.seen o.seen p.seen later_after).known;
        made = refl;
        calls = omega (arith, some_of);
        front = rec.front;
        last = order_after;
        found = StartsWith-trans rec.front v.seen.order m.0.seen.order rec.begins later.begins;
        own = own_after;
      }

    -- In a call, inside a mailbox, which it entered from b: but for its hand and what it sees it is as it was there.
    pub record Within (b v : Seat M W) : Type 0 where
      pub boards : v.0.boards ≡ m.0.boards
      pub lanes : v.0.lanes ≡ m.0.lanes
      pub told : v.0.told ≡ m.0.told
      pub owes : v.0.owes ≡ b.0.owes
      pub under : v.0.under ≡ b.0.under
      pub budget : left ≤ v.0.budget + 1
      pub later : Later w boxes m.0.seen v.0.seen
      pub list : own number v.0.seen.order ≡ own number m.0.seen.order

    pub within_is : (q : ℕ) (x : List (Event M)) (b v : Seat M W) → Outside b → IsInside fits q x b v → Within b v
    within_is q x b v outside inside =
        let is = inside.after in
        record {
          boards = ap (λ (z : SeatView M W). z.boards) is ∙ outside.boards;
          lanes = ap (λ (z : SeatView M W). z.lanes) is ∙ outside.lanes;
          told = ap (λ (z : SeatView M W). z.told) is ∙ outside.told;
          owes = ap (λ (z : SeatView M W). z.owes) is;
          under = ap (λ (z : SeatView M W). z.under) is;
          budget = omega (arith, ap (λ (z : SeatView M W). z.budget) is, outside.budget);
          later = step_later b.0 v.0.seen outside.boards outside.later inside.news;
          list = own_same b.0 v.0.seen.order outside.lanes inside.own;
        }

    -- inside its own mailbox, a job that it has is of a Take there, which has no Done
    pub may_complete : (x : List (Event M)) (b v : Seat M W) → IsInside fits number x b v → Within b v → (job take : ℕ) → take ≡ job
        → (s : Sight M W) → sight ≡ s → HasJob s.number job s.seen.order
        → (take < length (takes x)) × (Contains (dones x) take → ⊥)
    may_complete x b v inside within job take same_job s see has =
        subst (λ h. (take < length (takes h)) × (Contains (dones h) take → ⊥)) inside.part
        (subst (λ k. HasJob number k v.0.seen.order) (sym same_job) (still_has job s v.0.seen.order see has within.list))

    -- In a call, after it left the mailbox: it has its own events there still.
    pub record Departed (q : ℕ) (v out : Seat M W) : Type 0 where
      pub boards : out.0.boards ≡ v.0.boards
      pub hands : out.0.hands ≡ set v.0.hands q (hand_at q out.0)
      pub lanes : out.0.lanes ≡ record { number = number; events = own number out.0.seen.order; made = made } ∷ []
      pub told : out.0.told ≡ v.0.told
      pub budget : out.0.budget ≡ v.0.budget
      pub later : Later w boxes m.0.seen out.0.seen

    module _ (q : ℕ) (x y : List (Event M)) (b v out : Seat M W) (outside : Outside b) (visit : Visit q x y b v out) where
      abbrev within : Within b v
      within = within_is q x b v outside visit.inside

      -- a call that ends there: the pass has some calls fewer
      pub departed_on : Departed q v out → (id' : TableId) → id' ≡ id → (calls : ℕ) → calls < left → (z : Seat M W)
          → z ≡ (record out.0 { owes = z.0.owes }, out.1) → z.0.owes ≡ 0 → IsBoxPass fits id' number calls made w boxes z
      departed_on d id' same calls fewer z is none =
          let seen : z.0.seen ≡ out.0.seen = ap (λ (k : Seat M W). k.0.seen) is in
          pass_on id' calls made z same (ap (λ (k : Seat M W). k.0.boards) is ∙ (d.boards ∙ within.boards))
          (ap (λ (k : Seat M W). k.0.lanes) is
          ∙ (d.lanes
          ∙ ap (λ (k : Seen M). record { number = number; events = own number k.order; made = made } ∷ []) (sym seen)))
          (ap (λ (k : Seat M W). k.1) is ∙ (visit_out q x y b v out visit ∙ (outside.slots ∙ p.outside)))
          (ap (λ (k : Seat M W). k.0.told) is ∙ (d.told ∙ (within.told ∙ p.told))) none
          (omega (arith, ap (λ (k : Seat M W). k.0.budget) is, d.budget, within.budget, fewer))
          (λ k near.
          let hand =
          visit_hands q x y b v out visit left boxes (λ e. omega (arith, e, fewer))
          (λ j by. subst (λ h. IsIdleHand left h) (sym (ap (λ l. get_or l j (fresh_hand 0)) outside.hands)) (p.hands j by))
          d.hands k near in
          subst (λ h. IsIdleHand calls h) (sym (ap (λ (j : Seat M W). hand_at k j.0) is))
          record { tickets = hand.tickets; inside = hand.inside; parts = hand.parts; drawn = omega (arith, hand.drawn, fewer) })
          (seen_on w boxes made m.0.seen z.0.seen p.seen (subst (λ k. Later w boxes m.0.seen k) (sym seen) d.later))

      -- it left the mailbox as it was
      module _ (unchanged : y ≡ x) where
        is_same : out.0 ≡ with_hand q (hand_at q out.0) v.0
        is_same = (visit_tells q x y b v out visit).0 unchanged

        pub same_seen : out.0.seen ≡ v.0.seen
        same_seen = ap (λ (z : SeatView M W). z.seen) is_same

        pub same_owes : out.0.owes ≡ b.0.owes
        same_owes = ap (λ (z : SeatView M W). z.owes) is_same ∙ within.owes

        list_same : own number out.0.seen.order ≡ own number m.0.seen.order
        list_same = ap (λ (z : Seen M). own number z.order) same_seen ∙ within.list

        pub departed_same : Departed q v out
        departed_same = record {
          boards = ap (λ (z : SeatView M W). z.boards) is_same;
          hands = ap (λ (z : SeatView M W). z.hands) is_same;
          lanes = same_lanes out.0 (ap (λ (z : SeatView M W). z.lanes) is_same ∙ within.lanes) list_same;
          told = ap (λ (z : SeatView M W). z.told) is_same;
          budget = ap (λ (z : SeatView M W). z.budget) is_same;
          later = subst (λ z. Later w boxes m.0.seen z) (sym same_seen) within.later;
        }

        pub same_looked : (id' : TableId) → id' ≡ id → (left ≡ 0 → ⊥)
            → Looked fits sight (box_sight id' number (left - 1) made w boxes out.0.seen)
        same_looked id' same some_of = looked_is id' out.0.seen same some_of departed_same.later list_same

      -- it recorded an event of its own
      module _ (e : Event M) (grown : y ≡ x ++ e ∷ []) (maker : maker_of (entry_of q v.0.under e) ≡ number) where
        pub recorded_is : Recorded fits q own_part e x v.0 out.0
        recorded_is = (visit_tells q x y b v out visit).1 own_part e (within.lanes ∙ p.lanes) grown

        pub departed_recorded : Departed q v out
        departed_recorded =
            let is = recorded_is.after in
            record {
              boards = ap (λ (z : SeatView M W). z.boards) is;
              hands = ap (λ (z : SeatView M W). z.hands) is;
              lanes =
                  ap (λ (z : SeatView M W). z.lanes) is
                  ∙ ap (λ l. record { number = number; events = l; made = made } ∷ [])
                  (sym (own_after q x v.0 out.0 within.boards within.later e maker recorded_is));
              told = ap (λ (z : SeatView M W). z.told) is;
              budget = ap (λ (z : SeatView M W). z.budget) is;
              later = later_after q x v.0 out.0 within.boards within.later e maker recorded_is;
            }

        abbrev pub added_is : (id' : TableId) → id' ≡ id → (left ≡ 0 → ⊥)
            → Added fits (entry_of q v.0.under e) sight (box_sight id' number (left - 1) made w boxes out.0.seen)
        added_is id' same some_of = added_after q x v.0 out.0 within.boards within.later e maker recorded_is id' same some_of
