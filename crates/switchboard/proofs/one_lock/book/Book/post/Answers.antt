-- There is room for the Post and for all that is owed.
use Rattle.std.proofs.Common.{◌≡◌, ◌+◌, ◌∷◌, ◌++◌, [], None, refl, set, length, length-set, ap, ◌∙◌, subst, arith}
use Rattle.std.specs.Vec.{vec_capacity}
use Rattle.std.specs.Prelude.{IsSome}
use Rattle.std.proofs.Common.{◌*◌, ◌≤◌}
use Rattle.post_ledger.specs.declared.entry.Entry.TheVariants.{Posted}
use Rattle.switchboard.specs.Books.{with_new_event}
use Rattle.switchboard.proofs.Keeping.{state_push, none_of, some_of}
use Rattle.switchboard.proofs.Keeping.{box_at, kept_entry, kept_back, order_fits, job_inside_is}
use Rattle.switchboard.proofs.one_lock.book.Book.post.Goals as goal

pub overflow_sub-owed : goal.overflow_sub-owed
overflow_sub-owed g c =
    let i = c.self.inside in
    omega (arith, c.len.ensures, order_fits i.mailboxes.items i.order.items (vec_capacity i.order) i.posted i.completed c.self.invariant)

pub invariant_of-self-in-Err-post : goal.invariant_of-self-in-Err-post
invariant_of-self-in-Err-post g c =
    let i = c.self.inside in
    let at = box_at i.mailboxes.items c.from.result c.index_mut-mailbox.result.now c.from.ensures (ap (λ s. s.boxes) c.self.view_is)
    c.requires.to c.index_mut-mailbox.ensures.value in
    kept_back i.mailboxes.items i.order.items c.reserve.new.self.items (vec_capacity i.order)
    (vec_capacity c.reserve.new.self) i.posted i.completed c.from.result c.index_mut-mailbox.result.now c.post.new.self
    c.self.invariant at c.in-Err-post.ensures.err.1 c.reserve.ensures.items c.reserve.ensures.capacity

pub push_reserved-requires : goal.push_reserved-requires
push_reserved-requires g c =
    let i = c.self.inside in
    let short = order_fits i.mailboxes.items i.order.items (vec_capacity i.order) i.posted i.completed c.self.invariant in
    let room : 3 * (i.posted + 1) ≤ vec_capacity c.reserve.new.self =
    omega (arith, c.in-Ok.ensures.ok, c.len.ensures, c.reserve.ensures.len) in
    omega (arith, c.reserve.ensures.len)

pub invariant_of-self-in-Ok-post : goal.invariant_of-self-in-Ok-post
invariant_of-self-in-Ok-post g c =
    let i = c.self.inside in
    let at = box_at i.mailboxes.items c.from.result c.index_mut-mailbox.result.now c.from.ensures (ap (λ s. s.boxes) c.self.view_is)
    c.requires.to c.index_mut-mailbox.ensures.value in
    let has =
    job_inside_is c.args.by c.args.job.now c.job.inside.take i.order.items c.args.self.now.order c.job.view_is
    (ap (λ s. s.order) c.self.view_is) c.requires.job in
    let short = order_fits i.mailboxes.items i.order.items (vec_capacity i.order) i.posted i.completed c.self.invariant in
    let room : 3 * (i.posted + 1) ≤ vec_capacity c.reserve.new.self =
    omega (arith, c.in-Ok.ensures.ok, c.len.ensures, c.reserve.ensures.len) in
    kept_entry i.mailboxes.items i.order.items c.push_reserved.new.self.items (vec_capacity i.order)
    (vec_capacity c.push_reserved.new.self) i.posted i.completed (i.posted + 1) i.completed
    (Posted c.args.to c.args.by c.args.message c.job.inside.take) c.from.result c.index_mut-mailbox.result.now c.post.new.self
    c.from.ensures c.self.invariant at tt has (omega arith) (omega arith)
    (omega (arith, c.push_reserved.ensures.capacity)) c.in-Ok-post.ensures.ok
    (c.push_reserved.ensures.items
    ∙ ap (λ l. l ++ Posted c.args.to c.args.by c.args.message c.job.inside.take ∷ []) c.reserve.ensures.items)

pub overflow_add-owed : goal.overflow_add-owed
overflow_add-owed g c = omega (arith, c.self.invariant.room, c.self.inside.order.ok)

pub overflow_mul-owed : goal.overflow_mul-owed
overflow_mul-owed g c = omega (arith, c.self.invariant.room, c.self.inside.order.ok)

pub overflow_add-self : goal.overflow_add-self
overflow_add-self g c = omega (arith, c.self.invariant.room, c.self.inside.order.ok)

pub index_mut-mailbox-requires : goal.index_mut-mailbox-requires
index_mut-mailbox-requires g c = omega (arith, c.from.ensures, c.requires.to, ap (λ s. s.boxes) c.self.view_is)

pub returns-then-is_some-clause-err : goal.returns-then-is_some-clause-err
returns-then-is_some-clause-err g c =
    let i = c.self.inside in
    let some = some_of i.aborted c.is_some.result c.is_some.ensures c.if-is_some.true in
    (refl, refl, subst (λ s. IsSome s.aborted) c.self.view_is some)

pub returns-in-Err-clause-err : goal.returns-in-Err-clause-err
returns-in-Err-clause-err g c =
    let i = c.self.inside in
    let none = none_of i.aborted c.is_some.result c.is_some.ensures c.if-is_some.false in (
      refl,
      (λ k. record {
        world = i.world.value;
        boxes = length i.mailboxes.items;
        order = c.reserve.ensures.items k;
        aborted = i.aborted;
      })
          ∙ c.self.view_is,
      subst (λ s. s.aborted ≡ None) c.self.view_is none,
    )

pub returns-in-Err-post-clause-err : goal.returns-in-Err-post-clause-err
returns-in-Err-post-clause-err g c =
    let i = c.self.inside in
    let none = none_of i.aborted c.is_some.result c.is_some.ensures c.if-is_some.false in (
      c.in-Err-post.ensures.err.0,
      (λ k. record {
        world = i.world.value;
        boxes = length-set i.mailboxes.items c.from.result c.post.new.self k;
        order = c.reserve.ensures.items k;
        aborted = i.aborted;
      })
          ∙ c.self.view_is,
      subst (λ s. s.aborted ≡ None) c.self.view_is none,
    )

pub returns-in-Err-post-clause-ok : goal.returns-in-Err-post-clause-ok
returns-in-Err-post-clause-ok g c = tt

pub returns-in-Ok-post-clause-ok : goal.returns-in-Ok-post-clause-ok
returns-in-Ok-post-clause-ok g c =
    let i = c.self.inside in
    let none = none_of i.aborted c.is_some.result c.is_some.ensures c.if-is_some.false in
    let e = Posted c.args.to c.args.by c.args.message c.job.inside.take in (
      subst (λ s. s.aborted ≡ None) c.self.view_is none,
      state_push i.world.value i.mailboxes.items (set i.mailboxes.items c.from.result c.post.new.self) i.order.items
          c.push_reserved.new.self.items e i.aborted c.args.self.now
          (length-set i.mailboxes.items c.from.result c.post.new.self)
          (c.push_reserved.ensures.items ∙ ap (λ l. l ++ e ∷ []) c.reserve.ensures.items) c.self.view_is
          ∙ ap (λ j. with_new_event (Posted c.args.to c.args.by c.args.message j) c.args.self.now) c.job.view_is,
    )
