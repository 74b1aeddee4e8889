-- A Post finds the room that was reserved, and its sender goes into the step of the message's number.
use Rattle.std.proofs.Common.{◌≡◌, ◌≤◌, ◌<◌, ◌+◌, ◌-◌, ◌^◌, ◌∷◌, ◌++◌, [], length, set, map, refl, ap, ap₂, ◌∙◌, arith}
use Rattle.std.specs.Vec.{vec_capacity}
use Rattle.std.proofs.lemmas.List.{length-map, length_push}
use Rattle.post_ledger.specs.declared.event.Event.TheVariants.{Post}
use Rattle.post_ledger.specs.declared.mailbox.Kind.TheVariants as kind
use Rattle.post_ledger.specs.Kept.{events_of, numbered_of, posted_of}
use Rattle.post_ledger.proofs.Keeping.{counts_fields, counts_post, message_more, posted_event}
use Rattle.post_ledger.proofs.mailbox.Mailbox.post.Given.{Over}
use Rattle.post_ledger.proofs.mailbox.Mailbox.post.Goals as goal
use Rattle.post_ledger.proofs.mailbox.Mailbox.post.Goals.{After-index_mut}

post_number : (g : Over) (c : After-index_mut g)
    → c.len-post.result ≡ length (posted_of c.self.inside.messages.items c.self.inside.steps.items)
post_number g c = omega (arith, c.len-post.ensures, c.self.invariant.all_sent)

-- the new Post is the last, and its event too
more : (g : Over) (c : After-index_mut g)
    → let i = c.self.inside in
    let posted = posted_of i.messages.items i.steps.items in
    let steps = set c.push_reserved-2.new.self.items c.len-post.result
    record { number = c.index_mut.result.now.number; kind = c.index_mut.result.now.kind; sender = c.args.sender } in
    (posted_of c.push_reserved.new.self.items steps ≡ posted ++ (c.args.sender, c.args.message) ∷ [])
    × (map numbered_of steps ≡ map numbered_of i.steps.items ++ (kind.Post, length posted) ∷ [])
more g c =
    let i = c.self.inside in
    let number : c.in-Ok.number ≡ length (posted_of i.messages.items i.steps.items) = omega (arith, c.in-Ok.ensures, post_number g c) in
    message_more i.messages.items c.push_reserved.new.self.items i.steps.items c.push_reserved-2.new.self.items c.new.result
    c.index_mut.result.now _ c.args.message c.len-post.result _ c.self.invariant.all_sent
    (c.push_reserved.ensures.items ∙ ap (λ l. l ++ c.args.message ∷ []) c.reserve.ensures.items)
    (c.push_reserved-2.ensures.items ∙ ap (λ l. l ++ c.new.result ∷ []) c.reserve-2.ensures.items) (omega (arith, c.len-post.ensures))
    (c.new.ensures ∙ ap (λ n. (kind.Post, n)) number) c.index_mut.ensures.value refl

pub invariant_of-self-2 : goal.invariant_of-self-2
invariant_of-self-2 g c =
    let at = (goal.at.invariant_of-self-2 g c).After-index_mut in
    let i = c.self.inside in
    let posted = posted_of i.messages.items i.steps.items in
    let n = length posted in
    let many = length-map i.steps.items numbered_of in
    let short : n < 2 ^ 32 = omega (arith, c.in-Ok.ensures, post_number g at) in
    let room : length (map numbered_of i.steps.items) + ((n - i.taken) + (n - i.taken) + i.open + 3)
    ≤ vec_capacity c.push_reserved-2.new.self =
    omega (arith, c.in_default-reserve-2.ensures.ok, c.reserve-2.ensures.len, c.push_reserved-2.ensures.capacity, post_number g at, many) in
    let longer = length_push posted (c.args.sender, c.args.message) in
    let sent : length (posted ++ (c.args.sender, c.args.message) ∷ []) ≡ length c.push_reserved.new.self.items =
    omega (arith, longer, c.self.invariant.all_sent, c.push_reserved.ensures.len, c.reserve.ensures.len) in
    counts_fields c.push_reserved.new.self.items _ (vec_capacity c.push_reserved-2.new.self) (more g at).0 (more g at).1 (omega arith) sent
    (counts_post posted (map numbered_of i.steps.items) (vec_capacity i.steps) (vec_capacity c.push_reserved-2.new.self) i.taken
    i.open c.args.sender c.args.message c.self.invariant.counts short room)

pub returns-clause-ok : goal.returns-clause-ok
returns-clause-ok g c =
    let at = (goal.at.returns-clause-ok g c).After-index_mut in
    let i = c.self.inside in
    ap₂ events_of (more g at).0 (more g at).1
    ∙ posted_event (posted_of i.messages.items i.steps.items) (map numbered_of i.steps.items) c.args.sender c.args.message
    c.self.invariant.counts.numbered
    ∙ ap (λ l. l ++ Post c.args.sender c.args.message ∷ []) c.self.view_is

pub returns-in_default-clause-ok : goal.returns-in_default-clause-ok
returns-in_default-clause-ok g c = tt

pub returns-in-Err-clause-ok : goal.returns-in-Err-clause-ok
returns-in-Err-clause-ok g c = tt

pub returns-in-Err-reserve-clause-ok : goal.returns-in-Err-reserve-clause-ok
returns-in-Err-reserve-clause-ok g c = tt

pub returns-clause-err : goal.returns-clause-err
returns-clause-err g c = tt
