-- The opening post, in one of the empty mailboxes.
use Rattle.std.proofs.Common.{◌<◌, ◌∷◌, ◌++◌, [], length, set, sym, ap, ◌∙◌, subst, arith}
use Rattle.std.specs.Vec.{vec_capacity}
use Rattle.post_ledger.specs.declared.event.Event.TheVariants.{Post}
use Rattle.post_ledger.specs.declared.entry.Entry.TheVariants.{Posted}
use Rattle.switchboard.specs.Books.{IsBook}
use Rattle.switchboard.proofs.Keeping.{item_at, kept_open}
use Rattle.switchboard.proofs.one_lock.book.Book.open.Goals as goal

pub invariant_of-result : goal.invariant_of-result
invariant_of-result g c =
    let hs = c.in_ok-mailboxes.mailboxes.items in
    let made = c.in_ok-mailboxes.ensures in
    let near : c.from.result < length hs = omega (arith, c.from.ensures, made.0, c.requires.0) in
    let at = item_at hs c.from.result c.index_mut-mailbox.result.now near c.index_mut-mailbox.ensures.value in
    let first = c.in-Ok.ensures.ok
    ∙ ap (λ h. h ++ Post c.args.boxes c.args.first ∷ []) (made.1 c.from.result c.index_mut-mailbox.result.now at) in
    let one = c.push_reserved.ensures.items
    ∙ ap (λ l. l ++ Posted c.args.to c.args.boxes c.args.first 0 ∷ []) c.in_ok-order.ensures.items in
    subst (λ q. IsBook (set hs q c.post.new.self) c.push_reserved.new.self.items (vec_capacity c.push_reserved.new.self) 1 0)
    (sym c.from.ensures)
    (subst (λ l. IsBook (set hs c.args.to c.post.new.self) l (vec_capacity c.push_reserved.new.self) 1 0) (sym one)
    (kept_open hs c.args.boxes c.args.to
    (vec_capacity c.push_reserved.new.self) c.args.first c.post.new.self made.0 c.requires.1 c.requires.0 made.1 first
    (omega (arith, c.push_reserved.ensures.capacity, c.in_ok-order.ensures.capacity))))
