-- What the workers of a closed board have posted is what is due, each message once.
use Rattle.std.proofs.Common.{◌≡◌, inl, inr, ℕ, zero, suc, ◌<◌, ◌≤◌, List, [], ◌∷◌, ◌++◌, Some, slice_get}
use Rattle.std.proofs.Common.{length, take, drop, refl, sym, ap, ◌∙◌, subst, arith}
use Rattle.std.specs.Prelude.{Bool}
use Rattle.std.proofs.lemmas.Option.{same_Some}
use Rattle.std.proofs.lemmas.Bool.{cases_eq, cases_lt}
use Rattle.std.proofs.lemmas.List.{take-append-drop}
use Rattle.atomic_table.specs.Seated.{TableId}
use Rattle.post_ledger.specs.declared.event.Event.{Event}
use Rattle.post_ledger.specs.declared.entry.Entry.{Entry}
use Rattle.post_ledger.specs.declared.entry.Entry.TheVariants.{Posted, Taken, Completed}
use Rattle.post_ledger.specs.History.{posts, takes}
use Rattle.post_ledger.specs.Orders.{maker_of, part, own}
use Rattle.post_ledger.proofs.Closing.{all_taken}
use Rattle.post_ledger.proofs.Orders.{own_here, own_else}
use Rattle.language.specs.Step.{Program}
use Rattle.language.specs.Sequential.{IsDue}
use Rattle.language.specs.Lists.{Member, NoneTwice}
use Rattle.language.proofs.Members.{member_left, member_map, map_member}
use Rattle.path_sets.specs.Triples.{Triple}
use Rattle.flow_graph.specs.declared.graph.Graph.{Graph}
use Rattle.flow_graph.specs.declared.graph.Graphs.{Graphs}
use Rattle.flow_graph.specs.Drawn.{graphs_of}
use Rattle.flow_graph.specs.Graphs.{AreDrawnFrom}
use Rattle.flow_graph.specs.Numbers.{NumberedMessage, IsNumberOf, Sends, asks, tells}
use Rattle.summaries.specs.declared.due.Due.{Due}
use Rattle.path_sets.specs.declared.edge_limit.EdgeLimit.{EdgeLimit}
use Rattle.summaries.specs.Dues.{due_of}
use Rattle.summaries.specs.Fitting.{FitsIn}
use Rattle.summaries.specs.Found.{TookMessage}
use Rattle.summaries.specs.Mails.{mail}
use Rattle.summaries.specs.Tables.{answers_of, procedure_of}
use Rattle.summaries.specs.Together.{opening}
use Rattle.summaries.proofs.Steps.{number_of_due}
use Rattle.summaries.proofs.TableLemmas.{answers_once}
use Rattle.summaries.proofs.TabulationLemmas.{table_due}
use Rattle.switchboard.specs.Sights.{Sight}
use Rattle.switchboard.specs.Promises.{Settles}
use Rattle.procedure_worker.specs.declared.outcome.Outcome.{Outcome}
use Rattle.procedure_worker.specs.Own.{messages_taken, posted_in}
use Rattle.gather.specs.Ends.{HaveEnded}
use Rattle.gather.specs.Gathered.{NoneFailed}
use Rattle.gather.specs.Reports.{posted_to, sender_of, AreDueOnce}
use Rattle.gather.proofs.Lists.{in_own, take_there}
use Rattle.gather.proofs.Posts.{none_twice_of_map, posted_member, post_there, posted_once, taken_part, own_nothing}
use Rattle.gather.proofs.Full.{ends_of, Served, outcome_at, served, some_procedure, order_closed, has_tables, table_at, ts, full}
use Rattle.path_sets.proofs.PlaceLemmas.{at_index, index_of, some_member}

-- the procedure whose flow graph sends a message is its sender
sends_own : {A : Type 0} (graph : Graph A) (c : ℕ) (M : NumberedMessage → Type 0) (n s : ℕ) (k : NumberedMessage)
    → Sends graph c M s k → c ≡ sender_of n (due_of k)
sends_own graph c M n s k (asks a m v s' e m' flow reached at enters) = refl
sends_own graph c M n s k (tells a v s' took reached) = refl

abbrev post_of : Due → Entry Due → Due
post_of d (Posted a b c t) = c
post_of d (Taken a b c) = d
post_of d (Completed a t) = d

module _ {G A S : Type 0} (members : S → List Triple) (graphs : Graphs G) (limit : EdgeLimit) (board : TableId)
    (passes : List (Sight Due (Graphs G))) (outcomes : List (Outcome G A S)) (histories : List (List (Event Due)))
    (closed : Bool) (ended : HaveEnded members graphs limit board passes outcomes)
    (settled : Settles FitsIn (length (graphs_of graphs)) passes histories closed)
    (none : NoneFailed (ends_of outcomes)) where
  abbrev boxes : ℕ
  boxes = length (graphs_of graphs)

  -- the outcome of a procedure, and what its worker has served
  outcome : (q : ℕ) → q < boxes → (o : Outcome G A S) × (slice_get outcomes q ≡ Some o)
  outcome q near = outcome_at members graphs limit board passes outcomes histories closed ended settled q near

  serving : (q : ℕ) (o : Outcome G A S) → slice_get outcomes q ≡ Some o
      → Served members graphs limit board passes outcomes histories closed ended settled none q o
  serving q o is = served members graphs limit board passes outcomes histories closed ended settled none q o is

  -- after the opening post each entry was made by a pass
  maker_inside : (i : ℕ) (e : Entry Due) → slice_get settled.order (suc i) ≡ Some e → maker_of e < boxes
  maker_inside i (Posted to s m t) at =
      let job = settled.lawful.jobs (suc i) to s m t (omega arith) at in
      let (x, took) = some_member (takes (part s (take (suc i) settled.order))) t job.0 in
      let there = take_there s (take (suc i) settled.order) x took in
      let (j, where_it_is) = index_of settled.order (Taken s x.0 x.1)
      (subst (Member (Taken s x.0 x.1)) (take-append-drop (suc i) settled.order)
      (member_left (Taken s x.0 x.1) (take (suc i) settled.order) (drop (suc i) settled.order) there)) in
      settled.lawful.inside j (Taken s x.0 x.1) where_it_is
  maker_inside i (Taken of s m) at = settled.lawful.inside (suc i) (Taken of s m) at
  maker_inside i (Completed of t) at = settled.lawful.inside (suc i) (Completed of t) at

  -- whoever is not a pass has posted at most the opening message
  once_outside : (s : ℕ) → boxes ≤ s → NoneTwice (posted_in (own s settled.order))
  once_outside s far =
      let (to, m, rest, is) = settled.lawful.opens in
      let nothing : own s rest ≡ [] = own_nothing s rest (λ e there same.
      let (i, at) = index_of rest e there in
      let inside = maker_inside i e (subst (λ l. slice_get l (suc i) ≡ Some e) (sym is) at) in
      omega (arith, inside, same, far)) in
      subst (λ l. NoneTwice (posted_in (own s l))) (sym is) (first to m rest nothing)
    where
      first : (to : ℕ) (m : Due) (rest : List (Entry Due)) → own s rest ≡ []
          → NoneTwice (posted_in (own s (Posted to boxes m 0 ∷ rest)))
      first to m rest nothing = elim (cases_eq boxes s) [
        | inl same ↦
            subst (λ l. NoneTwice (posted_in l))
            (sym (own_here s (Posted to boxes m 0) rest same ∙ ap (λ l. Posted to boxes m 0 ∷ l) nothing))
            (λ never. never, tt)
        | inr other ↦
            subst (λ l. NoneTwice (posted_in l)) (sym (own_else s (Posted to boxes m 0) rest other ∙ nothing)) tt
      ]

  -- no pass posted a message twice to one mailbox
  own_once : (s : ℕ) → NoneTwice (posted_in (own s settled.order))
  own_once s = elim (cases_lt s boxes) [
    | inl near ↦
        let (o, is) = outcome s near in
        let v = serving s o is in
        let sent = v.served.0 in
        let mine : NoneTwice v.sent =
        none_twice_of_map (λ (x : ℕ × Due). mail x.0 x.1) v.sent
        (subst NoneTwice (sym sent.1)
        (answers_once members v.table (sent.0.stands.table sent.0.stands.pass.drawn.0 sent.0.stands.pass.drawn.1).table sent.0.whole)) in
        subst (λ l. NoneTwice (posted_in l)) (sym (settled.own s v.pass v.at))
        (subst NoneTwice (sym sent.0.stands.posts) mine)
    | inr far ↦ once_outside s far
  ]

  -- the opening post is the first entry
  first_post : slice_get settled.order 0 ≡ Some (Posted 0 boxes opening.due 0)
  first_post =
      let near = some_procedure members graphs limit board passes outcomes histories closed ended settled none in
      let (o, is) = outcome 0 near in
      let v = serving 0 o is in
      let (more, first) = v.served.0.0.stands.pass.opened in
      let (rest, begins) = settled.begins 0 v.pass v.at in
      subst (λ l. slice_get l 0 ≡ Some (Posted 0 boxes opening.due 0)) (sym begins)
      (subst (λ (l : List (Entry Due)). slice_get (l ++ rest) 0 ≡ Some (Posted 0 boxes opening.due 0)) (sym first) refl)

  -- a post was made by the sender of its message
  by_sender : (q s : ℕ) (m : Due) (t i : ℕ) → slice_get settled.order i ≡ Some (Posted q s m t) → s ≡ sender_of boxes m
  by_sender q s m t zero at =
      let same = same_Some (Posted 0 boxes opening.due 0) (Posted q s m t) (sym first_post ∙ at) in
      sym (ap maker_of same) ∙ ap (sender_of boxes) (ap (post_of m) same)
  by_sender q s m t (suc i) at =
      let near : s < boxes = maker_inside i (Posted q s m t) at in
      let (o, is) = outcome s near in
      let v = serving s o is in
      let sent = v.served.0 in
      let mine : Member (q, m) (posted_in (own s settled.order)) =
      posted_member (own s settled.order) q s m t
      (in_own settled.order (Posted q s m t) (at_index settled.order (Posted q s m t) (suc i) at)) in
      let listed : Member (q, m) v.sent =
      subst (Member (q, m)) sent.0.stands.posts (subst (λ l. Member (q, m) (posted_in l)) (settled.own s v.pass v.at) mine) in
      let answered : Member (mail q m) (answers_of v.table) =
      subst (Member (mail q m)) sent.1 (member_map (λ (x : ℕ × Due). mail x.0 x.1) v.sent (q, m) listed) in
      let (k, same) = number_of_due m in
      let sends = (v.served.1.sends q k).1 (subst (λ d. Member (mail q d) (answers_of v.table)) (sym same) answered) in
      let stands = sent.0.stands in
      let number : procedure_of v.table ≡ s = (stands.table stands.pass.drawn.0 stands.pass.drawn.1).number in
      sym number
      ∙ (sends_own v.table.graph.now v.table.procedure (TookMessage v.table.found) boxes q k sends
      ∙ ap (sender_of boxes) same)

  module _ (p : Program) (drawn : AreDrawnFrom p (graphs_of graphs)) (q : ℕ) (near : q < boxes) where
    -- a message that was posted is due
    posted_due : (k : NumberedMessage) → Member (due_of k) (posted_to (part q settled.order)) → IsNumberOf (IsDue p q) k
    posted_due k there =
        let (x, among, is) = map_member (λ (y : ℕ × Due). y.1) (posts (part q settled.order)) (due_of k) there in
        let (t, posted) = post_there q settled.order x among in
        let (i, at) = index_of settled.order (Posted q x.0 x.1 t) posted in
        let (o, here) = outcome q near in
        let v = serving q o here in
        let fits = settled.fitting q v.pass v.at i q x.0 x.1 t at in
        subst (λ g. FitsIn g q x.1) v.served.0.0.stands.pass.world fits p drawn k is

    -- and what is due was posted
    due_posted : (k : NumberedMessage) → IsNumberOf (IsDue p q) k → Member (due_of k) (posted_to (part q settled.order))
    due_posted k due =
        let (o, here) = outcome q near in
        let v = serving q o here in
        let whole = full members graphs limit board passes outcomes histories closed ended settled none p drawn in
        let all = ts members graphs limit board passes outcomes histories closed ended settled none in
        let tables = has_tables members graphs limit board passes outcomes histories closed ended settled none in
        let at = table_at outcomes tables q o v.table here v.is in
        let took = (table_due members p all whole.0 whole.1 q v.table at k).1 due in
        let stands = v.served.0.0.stands in
        let mine : Member (due_of k) (messages_taken (own q settled.order)) =
        subst (λ l. Member (due_of k) (messages_taken l)) (sym (settled.own q v.pass v.at))
        (subst (Member (due_of k)) (sym stands.takes) (stands.only k took)) in
        let (s, taken) = taken_part q settled.order (due_of k) mine in
        let same = all_taken (part q settled.order) (settled.lawful.legal q)
        (order_closed members graphs limit board passes outcomes histories closed ended settled none q) in
        member_map (λ (y : ℕ × Due). y.1) (posts (part q settled.order)) (s, due_of k) (subst (Member (s, due_of k)) same taken)

    -- what was posted to a mailbox is what is due there, each message once and by its sender
    pub due_once : AreDueOnce p q (part q settled.order)
    due_once = record {
      once = posted_once q settled.order own_once (λ s s' m t t' a b.
          let (i, at) = index_of settled.order (Posted q s m t) a in
          let (j, there) = index_of settled.order (Posted q s' m t') b in
          by_sender q s m t i at ∙ sym (by_sender q s' m t' j there));
      all = λ k. (posted_due k, due_posted k);
      senders = λ s d there.
          let (t, posted) = post_there q settled.order (s, d) there in
          let (i, at) = index_of settled.order (Posted q s d t) posted in
          by_sender q s d t i at ∙ ap (λ n. sender_of n d) drawn.2.0;
    }
