-- The histories are the parts of the order, which is closed if the numbers of Posts and Dones are the same.
use Rattle.std.proofs.Common.{refl, subst, eq-eqb, nat_eq}
use Rattle.std.proofs.lemmas.Bool.{eqb-true}
use Rattle.std.specs.Prelude.{IsTrue, ◌↔◌}
use Rattle.std.specs.Vec.{vec_capacity}
use Rattle.post_ledger.specs.Orders.{IsClosed}
use Rattle.switchboard.specs.Books.{AreParts}
use Rattle.switchboard.proofs.Keeping.{kept_closed, kept_counts}
use Rattle.switchboard.proofs.one_lock.book.Book.into_ledger.Goals as goal

pub returns-clause-parts : goal.returns-clause-parts
returns-clause-parts g c =
    subst (λ s. AreParts c.self.inside.mailboxes.items s) c.self.view_is record { count = refl; each = c.self.invariant.parts }

pub returns-clause-closed : goal.returns-clause-closed
returns-clause-closed g c =
    let i = c.self.inside in
    subst (λ s. IsTrue (nat_eq i.posted i.completed) ↔ IsClosed s.order) c.self.view_is (
      (λ same.
          kept_closed i.mailboxes.items i.order.items (vec_capacity i.order) i.posted i.completed c.self.invariant
          (eqb-true i.posted i.completed same)),
      λ closed.
          eq-eqb i.posted i.completed
          (kept_counts i.mailboxes.items i.order.items (vec_capacity i.order) i.posted i.completed c.self.invariant closed),
    )
