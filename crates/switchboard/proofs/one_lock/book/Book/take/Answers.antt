-- The oldest Post is taken, if the order is not closed.
use Rattle.std.proofs.Common.{◌≡◌, length, set, ap, ◌∙◌, subst, arith, refl, length-set}
use Rattle.std.specs.Vec.{vec_capacity}
use Rattle.std.specs.Prelude.{IsSome}
use Rattle.std.proofs.Common.{Some, None, slice_get}
use Rattle.post_ledger.specs.declared.entry.Entry.TheVariants.{Taken}
use Rattle.post_ledger.specs.History.{posts, takes}
use Rattle.post_ledger.specs.Orders.{part, IsClosed}
use Rattle.std.proofs.lemmas.Option.{slice_get_within}
use Rattle.switchboard.proofs.Keeping.{box_at, kept_entry, kept_closed, kept_counts, room_take, none_of, some_of}
use Rattle.switchboard.proofs.Keeping.{same_again, state_push, answers_message}
use Rattle.switchboard.proofs.one_lock.book.Book.take.Given as given
use Rattle.switchboard.proofs.one_lock.book.Book.take.Goals as goal
use Rattle.switchboard.proofs.one_lock.book.Book.take.Goals.{After-index_mut-mailbox}

-- the mailbox that is taken from is the one with its number, and has its part of the order
its_box : (g : given.Over) (c : After-index_mut-mailbox g) →
    let i = c.self.inside in
    let h = c.index_mut-mailbox.result.now in
    (slice_get i.mailboxes.items c.from.result ≡ Some h) × (h ≡ part c.args.by i.order.items)
its_box g c =
    let i = c.self.inside in
    let at = box_at i.mailboxes.items c.from.result c.index_mut-mailbox.result.now c.from.ensures (ap (λ s. s.boxes) c.self.view_is)
    c.requires c.index_mut-mailbox.ensures.value in
    (at, c.self.invariant.parts c.from.result c.index_mut-mailbox.result.now at ∙ ap (λ k. part k i.order.items) c.from.ensures)

pub returns-then-self : goal.returns-then-self
returns-then-self g c = let i = c.self.inside in (
  refl,
  subst (λ s. IsClosed s.order) c.self.view_is
      (kept_closed i.mailboxes.items i.order.items (vec_capacity i.order) i.posted i.completed c.self.invariant c.if-self.true),
)

pub returns-then-is_some : goal.returns-then-is_some
returns-then-is_some g c =
    let i = c.self.inside in (
      refl,
      subst (λ s. IsClosed s.order → ⊥) c.self.view_is
          (λ closed.
          c.if-self.false
          (kept_counts i.mailboxes.items i.order.items (vec_capacity i.order) i.posted i.completed c.self.invariant closed)),
      subst (λ s. IsSome s.aborted) c.self.view_is (some_of i.aborted c.is_some.result c.is_some.ensures c.if-is_some.true),
    )

pub note_take-requires : goal.note_take-requires
note_take-requires g c =
    let i = c.self.inside in
    let (at, is) = its_box g (goal.at.note_take-requires g c).After-index_mut-mailbox in
    let oldest =
    subst (λ h. slice_get (posts h) (length (takes h)) ≡ Some (c.in-Some.found.1, c.in-Some.found.2)) is c.in-Some.ensures.some.1 in
    let history = part c.args.by i.order.items in
    let within = slice_get_within (posts history) (length (takes history)) (c.in-Some.found.1, c.in-Some.found.2) oldest in
    omega (
      arith,
      room_take i.mailboxes.items i.order.items (vec_capacity i.order) i.posted i.completed c.args.by
          c.self.invariant (omega (arith, c.requires, ap (λ s. s.boxes) c.self.view_is)) within,
    )

pub invariant_of-self-in-Some : goal.invariant_of-self-in-Some
invariant_of-self-in-Some g c =
    let i = c.self.inside in
    let (at, is) = its_box g (goal.at.invariant_of-self-in-Some g c).After-index_mut-mailbox in
    let oldest =
    subst (λ h. slice_get (posts h) (length (takes h)) ≡ Some (c.in-Some.found.1, c.in-Some.found.2)) is c.in-Some.ensures.some.1 in
    kept_entry i.mailboxes.items i.order.items c.note_take.new.order.items (vec_capacity i.order)
    (vec_capacity c.note_take.new.order) i.posted i.completed i.posted i.completed
    (Taken c.args.by c.in-Some.found.1 c.in-Some.found.2) c.from.result c.index_mut-mailbox.result.now c.take_from.new.self
    c.from.ensures c.self.invariant at oldest tt (omega arith) (omega arith)
    (omega (arith, c.self.invariant.room, c.note_take.ensures.room)) c.in-Some.ensures.some.2 c.note_take.ensures.order

pub returns-in-None : goal.returns-in-None
returns-in-None g c =
    let i = c.self.inside in
    let (at, is) = its_box g (goal.at.returns-in-None g c).After-index_mut-mailbox in
    let still =
    same_again i.mailboxes.items c.from.result c.index_mut-mailbox.result.now c.take_from.new.self at c.in-None.ensures.unchanged in (
      (λ k. record { world = i.world.value; boxes = length (still k); order = i.order.items; aborted = i.aborted }) ∙ c.self.view_is,
      subst (λ s. IsClosed s.order → ⊥) c.self.view_is
          (λ closed.
          c.if-self.false
          (kept_counts i.mailboxes.items i.order.items (vec_capacity i.order) i.posted i.completed c.self.invariant closed)),
      subst (λ s. s.aborted ≡ None) c.self.view_is (none_of i.aborted c.is_some.result c.is_some.ensures c.if-is_some.false),
      subst (λ s. length (posts (part c.args.by s.order)) ≡ length (takes (part c.args.by s.order))) c.self.view_is
          (subst (λ h. length (posts h) ≡ length (takes h)) is (c.in-None.ensures.none.0 refl)),
    )

pub returns-in-Some : goal.returns-in-Some
returns-in-Some g c =
    let i = c.self.inside in
    let (at, is) = its_box g (goal.at.returns-in-Some g c).After-index_mut-mailbox in
    let e = c.in-Some.ensures.some in
    let same_order = ap (λ s. s.order) c.self.view_is in
    let is_now = is ∙ ap (part c.args.by) same_order in
    answers_message c.args.by c.in-Some.found.0 c.in-Some.found.2 c.args.self.now _ c.note_take.result c.note_take.ensures.answer record {
      sender = c.in-Some.found.1;
      oldest = subst (λ h. slice_get (posts h) (length (takes h)) ≡ Some (c.in-Some.found.1, c.in-Some.found.2)) is_now e.1;
      number = e.0 ∙ ap (λ h. length (takes h)) is_now;
      after =
          state_push i.world.value i.mailboxes.items
          (set i.mailboxes.items c.from.result c.take_from.new.self) i.order.items c.note_take.new.order.items
          (Taken c.args.by c.in-Some.found.1 c.in-Some.found.2) i.aborted c.args.self.now
          (length-set i.mailboxes.items c.from.result c.take_from.new.self) c.note_take.ensures.order c.self.view_is;
      alive = subst (λ s. s.aborted ≡ None) c.self.view_is (none_of i.aborted c.is_some.result c.is_some.ensures c.if-is_some.false);
    }
