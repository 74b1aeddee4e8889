-- What a pass that knows the close, or an abort, finds later.
use Rattle.std.proofs.Common.{◌≡◌, ◌∙◌, ℕ, Bool, true, false, ◌∷◌, ◌++◌, [], Some, None, length, refl, sym, ap}
use Rattle.std.proofs.Common.{subst, arith, Ok, Err}
use Rattle.std.specs.Prelude.{Result, Option, IsSome}
use Rattle.std.proofs.lemmas.List.{length_push}
use Rattle.std.proofs.Common.{length-append}
use Rattle.ticket_lock.specs.declared.lane.Spent.{Spent}
use Rattle.ticket_lock.proofs.HistoryFacts.{StartsWith-length}
use Rattle.post_ledger.specs.declared.event.Event.TheVariants as event
use Rattle.post_ledger.specs.declared.entry.Entry.{Entry}
use Rattle.post_ledger.specs.declared.entry.Entry.TheVariants.{Posted}
use Rattle.post_ledger.specs.History.{posts, takes, IsLegal}
use Rattle.post_ledger.specs.Orders.{part, IsClosed}
use Rattle.post_ledger.proofs.Histories.{posts-append, takes-append}
use Rattle.post_ledger.proofs.Orders.{part-append, part_here, sizes_of, no_job}
use Rattle.switchboard.specs.declared.calls.PostFault.{PostFault}
use Rattle.switchboard.specs.declared.calls.PostFault.TheVariants as fault
use Rattle.switchboard.specs.declared.calls.Taken as answers
use Rattle.switchboard.specs.declared.calls.Taken.TheVariants as answer
use Rattle.switchboard.specs.Sights.{Sight, IsSound}
use Rattle.switchboard.specs.Promises.{GoesOn, Added, TookOldest, WasPosted, WasRefused, Took, SaysClosed, SaysStopped, IsPostStopped}
use Rattle.switchboard.proofs.Visits.{some_later, same_order}
use Rattle.switchboard.proofs.Jobs.{legal_front, job_new}

some_not_none : {X : Type 0} (o : Option X) → IsSome o → o ≡ None → ⊥
some_not_none (Some x) s e = cc
some_not_none None s e = cc

not_both : (b : Bool) → b ≡ true → b ≡ false → ⊥
not_both b is isnt = (let no_way : true ≡ false = sym is ∙ isnt in cc)

module _ {M W : Type 0} (fits : W → ℕ → M → Type 0) where
  -- a pass that has seen a closed order has seen no other later
  same_later : (s t : Sight M W) → IsSound fits s.seen → IsClosed s.seen.order → GoesOn fits s t
      → t.seen.order ≡ s.seen.order
  same_later s t sound closed goes = same_order fits s.seen t.seen sound closed goes.before goes.sound

  -- so no event is added to it
  none_added : (e : Entry M) (s t : Sight M W) → IsSound fits s.seen → IsClosed s.seen.order → Added fits e s t → ⊥
  none_added e s t sound closed a =
      let n = ap length (same_later s t sound closed a.goes) in
      let m = ap length a.last in
      let few = StartsWith-length a.front s.seen.order a.found in
      omega (arith, n, m, few, length_push a.front e)

  -- an order that ends with a Post is not closed
  open_behind_post : (s t : Sight M W) (job to : ℕ) (m : M) → WasPosted fits job to m s t → IsClosed t.seen.order → ⊥
  open_behind_post s t job to m p closed =
      let a = p.0 in
      let e : Entry M = Posted to s.number m job in
      let whole : part to t.seen.order ≡ part to a.front ++ event.Post s.number m ∷ [] = ap (part to) a.last
      ∙ (part-append to a.front (e ∷ []) ∙ ap (λ l. part to a.front ++ l) (part_here to e [] refl)) in
      let sizes = sizes_of (part to a.front) (legal_front (part to a.front) (event.Post s.number m)
      (subst IsLegal whole (a.goes.sound.lawful.legal to))) in
      let more = ap (λ h. length (posts h)) whole
      ∙ (ap length (posts-append (part to a.front) (event.Post s.number m ∷ [])) ∙ length-append
      (posts (part to a.front)) ((s.number, m) ∷ [])) in
      let same = ap (λ h. length (takes h)) whole
      ∙ (ap length (takes-append (part to a.front) (event.Post s.number m ∷ [])) ∙ length-append
      (takes (part to a.front)) []) in
      omega (arith, more, same, (closed to).0, sizes.fewer)

  -- nor is one that a message was taken from last, since its job is left
  open_behind_take : (s t : Sight M W) (job : ℕ) (m : M) → TookOldest fits job m s t → IsClosed t.seen.order → ⊥
  open_behind_take s t job m k closed =
      no_job t.seen.boxes t.seen.order t.number job k.added.goes.sound.lawful closed (job_new fits s t job m k)

  pub closed_answers : (s t : Sight M W) (r : Result (answers.Taken M) Spent) → s.knows ≡ true → Took fits r s t
      → SaysClosed r
  closed_answers s t (Err e) known k = tt
  closed_answers s t (Ok answer.Closed) known k = tt
  closed_answers s t (Ok answer.Aborted) known k = not_both t.knows (k.0.0.goes.knows known) k.1
  closed_answers s t (Ok answer.Empty) known k = not_both t.knows (k.0.0.goes.knows known) k.1
  closed_answers s t (Ok (answer.Message job m)) known k = open_behind_take s t job m k
      (k.added.goes.close (k.added.goes.knows known))

  pub closed_known : (s t : Sight M W) (r : Result (answers.Taken M) Spent) → s.knows ≡ true → Took fits r s t
      → t.knows ≡ true
  closed_known s t (Err e) known k = ap (λ (z : Sight M W). z.knows) k.1 ∙ known
  closed_known s t (Ok answer.Closed) known k = k.1
  closed_known s t (Ok answer.Aborted) known k = k.0.0.goes.knows known
  closed_known s t (Ok answer.Empty) known k = k.0.0.goes.knows known
  closed_known s t (Ok (answer.Message job m)) known k = k.added.goes.knows known

  pub closed_same : (s t : Sight M W) (r : Result (answers.Taken M) Spent) → IsSound fits s.seen
      → IsClosed s.seen.order → Took fits r s t → t.seen.order ≡ s.seen.order
  closed_same s t (Err e) sound closed k = ap (λ (z : Sight M W). z.seen.order) k.1
  closed_same s t (Ok answer.Closed) sound closed k = same_later s t sound closed k.0.0.goes
  closed_same s t (Ok answer.Aborted) sound closed k = same_later s t sound closed k.0.0.goes
  closed_same s t (Ok answer.Empty) sound closed k = same_later s t sound closed k.0.0.goes
  closed_same s t (Ok (answer.Message job m)) sound closed k = same_later s t sound closed k.added.goes

  pub known_to_posts : (s t : Sight M W) (job to : ℕ) (m : M) → s.knows ≡ true → WasPosted fits job to m s t → ⊥
  known_to_posts s t job to m known p = open_behind_post s t job to m p (p.0.goes.close (p.0.goes.knows known))

  pub closed_to_posts : (s t : Sight M W) (job to : ℕ) (m : M) → IsSound fits s.seen → IsClosed s.seen.order → WasPosted fits job to m s t
      → ⊥
  closed_to_posts s t job to m sound closed p = none_added _ s t sound closed p.0

  pub abort_answers : (s t : Sight M W) (r : Result (answers.Taken M) Spent) → IsSome s.seen.aborted → Took fits r s t → SaysStopped r
  abort_answers s t (Err e) some_one k = tt
  abort_answers s t (Ok answer.Closed) some_one k = tt
  abort_answers s t (Ok answer.Aborted) some_one k = tt
  abort_answers s t (Ok answer.Empty) some_one k =
      some_not_none t.seen.aborted (some_later fits s.seen t.seen k.0.0.goes.before some_one) k.2
  abort_answers s t (Ok (answer.Message job m)) some_one k =
      some_not_none t.seen.aborted (some_later fits s.seen t.seen k.added.goes.before some_one) k.alive

  pub abort_posts : (s t : Sight M W) (job to : ℕ) (m : M) → IsSome s.seen.aborted → WasPosted fits job to m s t → ⊥
  abort_posts s t job to m some_one p = some_not_none t.seen.aborted (some_later fits s.seen t.seen p.0.goes.before some_one) p.1

  pub abort_refusals : (s t : Sight M W) (m : M) (f : PostFault M) → IsSome s.seen.aborted → WasRefused fits m f s t → IsPostStopped f
  abort_refusals s t m (fault.Spent back) some_one p = tt
  abort_refusals s t m (fault.Aborted back) some_one p = tt
  abort_refusals s t m (fault.Memory back) some_one p =
      some_not_none t.seen.aborted (some_later fits s.seen t.seen p.1.0.goes.before some_one) p.2
