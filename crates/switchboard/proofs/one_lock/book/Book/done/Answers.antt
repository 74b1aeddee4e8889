-- The Take of the job is there and is not completed, so there is room for its Done.
use Rattle.std.proofs.Common.{refl, ◌∙◌, set, length-set, ◌<◌, ◌+◌, length, Contains, ap, arith}
use Rattle.std.specs.Vec.{vec_capacity}
use Rattle.post_ledger.specs.declared.entry.Entry.TheVariants.{Completed}
use Rattle.post_ledger.specs.History.{takes, dones}
use Rattle.post_ledger.specs.Orders.{HasJob}
use Rattle.switchboard.specs.Books.{with_new_event}
use Rattle.post_ledger.proofs.Orders.{job_inside}
use Rattle.switchboard.proofs.Keeping.{state_push, box_at, kept_entry, room_done, few_done, job_inside_is, job_in_box}
use Rattle.switchboard.proofs.one_lock.book.Book.done.Given as given
use Rattle.switchboard.proofs.one_lock.book.Book.done.Goals as goal
use Rattle.switchboard.proofs.one_lock.book.Book.done.Goals.{After-index_mut-mailbox}

pub index_mut-mailbox-requires : goal.index_mut-mailbox-requires
index_mut-mailbox-requires g c =
    let i = c.self.inside in
    let has =
    job_inside_is c.args.by c.args.job c.job.inside.take i.order.items c.args.self.now.order c.job.view_is
    (ap (λ s. s.order) c.self.view_is) c.requires in
    let near : c.from.result < length i.mailboxes.items =
    omega (
      arith,
      c.from.ensures,
      job_inside (length i.mailboxes.items) i.order.items c.args.by c.job.inside.take c.self.invariant.lawful has,
    ) in
    omega (arith, near)

-- the job is one of the order inside
held : (g : given.Over) (c : After-index_mut-mailbox g) → HasJob c.args.by c.job.inside.take c.self.inside.order.items
held g c =
    job_inside_is c.args.by c.args.job c.job.inside.take c.self.inside.order.items c.args.self.now.order c.job.view_is
    (ap (λ s. s.order) c.self.view_is) c.requires

-- the job's Take is one of the mailbox, and is not completed there
there : (g : given.Over) (c : After-index_mut-mailbox g) →
    let h = c.index_mut-mailbox.result.now in
    (c.job.inside.take < length (takes h)) × (Contains (dones h) c.job.inside.take → ⊥)
there g c =
    let i = c.self.inside in
    let has = held g c in
    let at = box_at i.mailboxes.items c.from.result c.index_mut-mailbox.result.now c.from.ensures refl
    (job_inside (length i.mailboxes.items) i.order.items c.args.by c.job.inside.take c.self.invariant.lawful has)
    c.index_mut-mailbox.ensures.value in
    job_in_box i.mailboxes.items i.order.items (vec_capacity i.order) i.posted i.completed c.args.by c.job.inside.take
    c.from.result c.index_mut-mailbox.result.now c.self.invariant c.from.ensures at has

pub done-requires-clause-taken : goal.done-requires-clause-taken
done-requires-clause-taken g c = (there g c).0

pub done-requires-clause-open : goal.done-requires-clause-open
done-requires-clause-open g c = (there g c).1

-- so there is room for its Done
room : (g : given.Over) (c : After-index_mut-mailbox g) → length c.self.inside.order.items < vec_capacity c.self.inside.order
room g c =
    let i = c.self.inside in
    room_done i.mailboxes.items i.order.items (vec_capacity i.order) i.posted i.completed c.args.by c.job.inside.take c.self.invariant
    (held g c)

pub push_reserved-requires : goal.push_reserved-requires
push_reserved-requires g c =
    let r : length c.self.inside.order.items < vec_capacity c.self.inside.order =
    room g (goal.at.push_reserved-requires g c).After-index_mut-mailbox in
    omega (arith, r)

pub overflow_add-self : goal.overflow_add-self
overflow_add-self g c =
    let i = c.self.inside in
    let r : length i.order.items < vec_capacity i.order = room g (goal.at.overflow_add-self g c).After-index_mut-mailbox in
    omega (arith, few_done i.mailboxes.items i.order.items (vec_capacity i.order) i.posted i.completed c.self.invariant, r)

pub invariant_of-self : goal.invariant_of-self
invariant_of-self g c =
    let i = c.self.inside in
    let has = held g (goal.at.invariant_of-self g c).After-index_mut-mailbox in
    let at = box_at i.mailboxes.items c.from.result c.index_mut-mailbox.result.now c.from.ensures refl
    (job_inside (length i.mailboxes.items) i.order.items c.args.by c.job.inside.take c.self.invariant.lawful has)
    c.index_mut-mailbox.ensures.value in
    kept_entry i.mailboxes.items i.order.items c.push_reserved.new.self.items (vec_capacity i.order)
    (vec_capacity c.push_reserved.new.self) i.posted i.completed i.posted (i.completed + 1)
    (Completed c.args.by c.job.inside.take) c.from.result c.index_mut-mailbox.result.now c.done.new.self
    c.from.ensures c.self.invariant at has tt (omega arith) (omega arith)
    (omega (arith, c.self.invariant.room, c.push_reserved.ensures.capacity)) c.done.ensures c.push_reserved.ensures.items

pub returns : goal.returns
returns g c =
    let i = c.self.inside in
    state_push i.world.value i.mailboxes.items (set i.mailboxes.items c.from.result c.done.new.self) i.order.items
    c.push_reserved.new.self.items (Completed c.args.by c.job.inside.take) i.aborted c.args.self.now
    (length-set i.mailboxes.items c.from.result c.done.new.self) c.push_reserved.ensures.items c.self.view_is
    ∙ ap (λ j. with_new_event (Completed c.args.by j) c.args.self.now) c.job.view_is
