-- What a worker knows after each call of its board and of its table.
use Rattle.std.proofs.Common.{◌≡◌, ◌≢◌, ◌⊎◌, inl, inr, ℕ, ◌<◌, ◌∷◌, ◌++◌, [], List, Some, None, Ok, Err}
use Rattle.std.proofs.Common.{length, slice_get, refl, sym, ap, ◌∙◌, subst, arith, false}
use Rattle.std.specs.Prelude.{◌↔◌, Option, Result, IsSome, IsErrAnd, MatchResult}
use Rattle.std.specs.Option.{IfNone}
use Rattle.atomic_table.specs.Seated.{TableId}
use Rattle.ticket_lock.specs.Proved.Facts.{StartsWith-trans}
use Rattle.std.proofs.lemmas.Option.{slice_get_within}
use Rattle.std.proofs.lemmas.List.{map-append}
use Rattle.post_ledger.specs.declared.entry.Entry.{Entry}
use Rattle.post_ledger.specs.declared.entry.Entry.TheVariants.{Posted, Taken, Completed}
use Rattle.post_ledger.specs.Orders.{own, HasJob}
use Rattle.language.specs.Step.{Program}
use Rattle.language.proofs.Members.{member_left, member_right}
use Rattle.language.proofs.Entering.{due_there}
use Rattle.path_sets.specs.Triples.{Triple}
use Rattle.flow_graph.specs.declared.graph.Graphs.{Graphs}
use Rattle.flow_graph.specs.Drawn.{graphs_of}
use Rattle.flow_graph.specs.Graphs.{IsGraph, AreDrawnFrom}
use Rattle.summaries.specs.declared.due.Due.{Due}
use Rattle.summaries.specs.declared.table.Table.{Table}
use Rattle.summaries.specs.declared.table_fault.TableFault.{TableFault}
use Rattle.summaries.specs.declared.table_fault.TableFault.TheVariants as fault
use Rattle.path_sets.specs.EdgeLimits.{most_of}
use Rattle.summaries.specs.Mails.{mail}
use Rattle.summaries.specs.Dues.{due_of}
use Rattle.summaries.specs.Fitting.{IsDueFor, FitsIn}
use Rattle.summaries.specs.Found.{TookMessage}
use Rattle.summaries.specs.Tables.{graph_of, procedure_of, limit_of, answers_of, failure, IsNew, IsQuiet, IsAnswer, TableTakes, KeepsTable}
use Rattle.summaries.specs.Tabulated.{HasMoreEdges}
use Rattle.summaries.specs.Together.{opening, IsTableOf}
use Rattle.summaries.proofs.TableLemmas.{over_limit, answer_due}
use Rattle.summaries.proofs.Steps.{number_of_due, opening_fits}
use Rattle.summaries.proofs.SweepLemmas.{same_taken, same_taken_back}
use Rattle.switchboard.specs.declared.calls.Abort.{Abort}
use Rattle.switchboard.specs.declared.calls.Cause.{Cause}
use Rattle.switchboard.specs.declared.calls.Cause.TheVariants as cause
use Rattle.switchboard.specs.Sights.{Sight, opened, fresh_sight}
use Rattle.switchboard.proofs.Opening.{sound_open}
use Rattle.post_ledger.proofs.Orders.{own_else}
use Rattle.path_sets.specs.declared.edge_limit.EdgeLimit.{EdgeLimit}
use Rattle.procedure_worker.specs.Works.{begun}
use Rattle.switchboard.specs.Promises.{GoesOn, MadeNone, Added, WasPosted, WasDone, MadeAbort}
use Rattle.switchboard.specs.Promises as promises
use Rattle.switchboard.specs.declared.calls.Taken as answers
use Rattle.switchboard.specs.declared.calls.Taken.TheVariants as answer
use Rattle.switchboard.proofs.Jobs.{kept_none, kept_added, job_new, no_done_post}
use Rattle.procedure_worker.specs.declared.outcome.End.{End}
use Rattle.procedure_worker.specs.declared.outcome.End.TheVariants as end
use Rattle.procedure_worker.specs.declared.stop.Reason.{Reason}
use Rattle.procedure_worker.specs.declared.stop.Reason.TheVariants as reason
use Rattle.procedure_worker.specs.declared.worker.Worker.{Worker}
use Rattle.procedure_worker.specs.Own.{messages_taken, posted_in}
use Rattle.procedure_worker.specs.Stops.{StopReason, WorkerEnd, cause_of, end_of, memory_of, end_at, RefusedFor, FailsFor, TakesOrFails}
use Rattle.procedure_worker.specs.Works.{Start, IsPassOf, IsFresh, HasStood, HasFailed, Stands, Goes, HasSent, HasServed, EndsSo, IsReady}
use Rattle.procedure_worker.specs.Works.{IsTaking}
use Rattle.procedure_worker.specs.Works.{IsDealing, IsSending, IsStopped, HasStopped, HasFound, Failed, TurnsOrEnds, StopsSo, StoppedFor}
use Rattle.procedure_worker.specs.Works.{IsAtFault}
use Rattle.procedure_worker.specs.Works.{IsFounded, HasAnswered, HasDealt, cause_for, took_by}
use Rattle.procedure_worker.proofs.Lists.{taken_post, taken_take, taken_done, posted_post, posted_take, posted_done}
use Rattle.path_sets.proofs.PlaceLemmas.{last_or}

-- what is said of an error holds for an answer that is this error
pub match_err : {T E : Type 0} (r : Result T E) (e : E) (P : T → Type 0) (Q : E → Type 0)
    → IsErrAnd r (λ x. x ≡ e) → Q e → MatchResult r P Q
match_err (Ok x) e P Q is q = absurd is
match_err (Err x) e P Q is q = subst Q (sym is) q

-- memory was refused if and only if the worker failed for that
lack_shown : (e : WorkerEnd) → (end_of e ≡ end.Failed cause.Memory) ↔ IsSome (memory_of e)
lack_shown (Ok _) = (λ h. absurd cc, λ h. absurd cc)
lack_shown (Err None) = (λ h. absurd cc, λ h. absurd cc)
lack_shown (Err (Some reason.Spent)) = (λ h. absurd cc, λ h. absurd cc)
lack_shown (Err (Some reason.EdgeLimit)) = (λ h. absurd cc, λ h. absurd cc)
lack_shown (Err (Some (reason.OutOfMemory witness))) = (λ h. refl, λ h. refl)

module _ {G A S : Type 0} where
  -- a table that has not failed decides no end
  not_at_fault : (e : End) (t : Table G A S) → failure t ≡ None → IsAtFault e t
  not_at_fault e t whole f failed = absurd cc

  -- a table has this fault
  at_fault : (f : TableFault) (t : Table G A S) → failure t ≡ Some f → IsAtFault (end.Failed (cause_for f)) t
  at_fault f t failed g again = cc

  -- if the board was aborted, the table has not failed
  not_at_abort : (e : End) (t : Table G A S) → IsAtFault end.Aborted t → IsAtFault e t
  not_at_abort e t fault f failed = let same = fault f failed in absurd cc

  -- what a worker's end rests on
  pub founded : (e : WorkerEnd) (t : Table G A S) → IsAtFault (end_of e) t → IsFounded (end_of e) (memory_of e) t
  founded e t fault = record { memory = lack_shown e; fault = fault }

module _ {G : Type 0} (b : Start G) where
  pass_on : (s t : Sight Due (Graphs G)) → IsPassOf b s → GoesOn FitsIn s t → IsPassOf b t
  pass_on s t p g = record {
    drawn = p.drawn;
    board = g.board ∙ p.board;
    number = g.number ∙ p.number;
    sound = g.sound;
    opened = StartsWith-trans t.seen.order s.seen.order (Posted 0 (length (graphs_of b.graphs)) opening.due 0 ∷
        []) g.before.order p.opened;
    world = g.before.world ∙ p.world;
    boxes = g.before.boxes ∙ p.boxes;
  }

  -- the pass's jobs by the number of the procedure
  pub job_to_pass : (s : Sight Due (Graphs G)) (job : ℕ) → IsPassOf b s → HasJob b.number job s.seen.order
      → HasJob s.number job s.seen.order
  job_to_pass s job p has = subst (λ n. HasJob n job s.seen.order) (sym p.number) has

  job_of_pass : (s : Sight Due (Graphs G)) (job : ℕ) → IsPassOf b s → HasJob s.number job s.seen.order
      → HasJob b.number job s.seen.order
  job_of_pass s job p has = subst (λ n. HasJob n job s.seen.order) p.number has

  own_none : (s t : Sight Due (Graphs G)) → IsPassOf b s → MadeNone FitsIn s t
      → own b.number t.seen.order ≡ own b.number s.seen.order
  own_none s t p m = subst (λ n. own n t.seen.order ≡ own n s.seen.order) p.number m.own

  own_added : (e : Entry Due) (s t : Sight Due (Graphs G)) → IsPassOf b s → Added FitsIn e s t →
      own b.number t.seen.order ≡ own b.number s.seen.order ++ e ∷ []
  own_added e s t p a = subst (λ n. own n t.seen.order ≡ own n s.seen.order ++ e ∷ []) p.number a.own

  stood_on : (c : Cause) (s t : Sight Due (Graphs G)) → t.calls ≡ s.calls → HasStood b c s → HasStood b c t
  stood_on cause.Memory s t same stood = stood
  stood_on cause.EdgeLimit s t same stood = stood
  stood_on cause.NoWorker s t same stood = stood
  stood_on cause.Spent s t same stood = same ∙ stood

  has_failed : (c : Cause) (s t : Sight Due (Graphs G)) → IsPassOf b s → s.made ≡ false → HasStood b c s →
      MadeAbort FitsIn (record { by = s.number; cause = c }) s t → HasFailed b c t
  has_failed c s t p made stood m =
      let f = m.first made in record {
        made = m.made;
        abort = f.0;
        kept = f.1;
        first = subst (λ n. (f.0 ≡ record { by = n; cause = c }) ⊎ (f.0.by ≢ n)) p.number f.2;
        stood = stood_on c s t m.calls stood;
      }

  -- a message that is due has its mailbox
  receiver_there : (s : Sight Due (Graphs G)) (to : ℕ) (d : Due) (k : IsPassOf b s) → IsDueFor k.drawn.0 to d
      → to < s.seen.boxes
  receiver_there s to d k due =
      let program = k.drawn.0 in
      let (i, is) = number_of_due d in
      let (m, is_due, e) = due i is in
      let (routine, there) = due_there program to m is_due in
      let below : to < length program.routines = slice_get_within program.routines to routine there in
      let are = k.drawn.1 in omega (arith, below, k.boxes, are.2.0)

  -- The job stays if no event was made.
  job_none : (job : ℕ) (s t : Sight Due (Graphs G)) → IsPassOf b s → MadeNone FitsIn s t
      → HasJob b.number job s.seen.order →
      HasJob b.number job t.seen.order
  job_none job s t p m has =
      job_of_pass t job (pass_on s t p m.goes) (kept_none FitsIn s t job m (job_to_pass s job p has))

  -- a message that fits the procedure is due for it in each program of the graphs
  fit_due : (d : Due) (s : Sight Due (Graphs G)) → IsPassOf b s → FitsIn s.seen.world b.number d
      → FitsIn b.graphs b.number d
  fit_due d s p fit = subst (λ world. FitsIn world b.number d) p.world fit

  module _ {A S : Type 0} (members : S → List Triple) where
    module _ (s t : Sight Due (Graphs G)) (x : Table G A S) (took : List Due) (sent : List (ℕ × Due))
        (k : Stands b members s x took sent) where
      stands_same : GoesOn FitsIn s t → own b.number t.seen.order ≡ own b.number s.seen.order → Stands b members t x took sent
      stands_same g same = record {
        pass = pass_on s t k.pass g;
        table = k.table;
        limit = k.limit;
        only = k.only;
        takes = ap messages_taken same ∙ k.takes;
        posts = ap posted_in same ∙ k.posts;
      }

      -- no event was made
      stands_none : MadeNone FitsIn s t → Stands b members t x took sent
      stands_none m = stands_same m.goes (own_none s t k.pass m)

      -- a message was completed
      stands_done : (job : ℕ) → WasDone FitsIn job s t → Stands b members t x took sent
      stands_done job a =
          let longer = own_added (Completed s.number job) s t k.pass a in record {
            pass = pass_on s t k.pass a.goes;
            table = k.table;
            limit = k.limit;
            only = k.only;
            takes = taken_done (own b.number s.seen.order) (own b.number t.seen.order) s.number job longer ∙ k.takes;
            posts = posted_done (own b.number s.seen.order) (own b.number t.seen.order) s.number job longer ∙ k.posts;
          }

      -- an abort was made
      stands_abort : (c : Cause) → MadeAbort FitsIn (record { by = s.number; cause = c }) s t → Stands b members t x took sent
      stands_abort c m = stands_same m.goes (subst (λ n. own n t.seen.order ≡ own n s.seen.order) k.pass.number m.own)

      -- a message was posted
      stands_post : (job to : ℕ) (d : Due) → WasPosted FitsIn job to d s t → Stands b members t x took (sent ++ (to, d) ∷ [])
      stands_post job to d p =
          let longer = own_added (Posted to s.number d job) s t k.pass p.0 in
          let mine = own b.number s.seen.order in
          let now = own b.number t.seen.order in record {
            pass = pass_on s t k.pass p.0.goes;
            table = k.table;
            limit = k.limit;
            only = k.only;
            takes = taken_post mine now to s.number d job longer ∙ k.takes;
            posts = posted_post mine now to s.number d job longer ∙ ap (λ l. l ++ (to, d) ∷ []) k.posts;
          }

      -- a message was taken
      stands_take : (job : ℕ) (d : Due) → promises.TookOldest FitsIn job d s t → Stands b members t x (took ++ d ∷ []) sent
      stands_take job d m =
          let longer = own_added (Taken s.number m.sender d) s t k.pass m.added in
          let mine = own b.number s.seen.order in
          let now = own b.number t.seen.order in record {
            pass = pass_on s t k.pass m.added.goes;
            table = k.table;
            limit = k.limit;
            only = λ i h. member_left (due_of i) took (d ∷ []) (k.only i h);
            takes = taken_take mine now s.number m.sender d longer ∙ ap (λ l. l ++ d ∷ []) k.takes;
            posts = posted_take mine now s.number m.sender d longer ∙ k.posts;
          }

      -- The worker aborted the board.
      failed_ends : (why : Reason) (e : WorkerEnd) → s.made ≡ false → HasStood b (cause_of why) s
          → IsAtFault (end.Failed (cause_of why)) x → Failed FitsIn why e s t
          → ((took : List Due) × (sent : List (ℕ × Due)) × EndsSo b members (end_of e) t x took sent) × IsAtFault (end_of e) x
      failed_ends why e made stood fault f =
          let c = cause_of why in
          subst (λ z. ((l : List Due) × (m : List (ℕ × Due)) × EndsSo b members (end_of z) t x l m) × IsAtFault (end_of z) x) (sym f.0)
          ((took, sent, (stands_abort c f.1, has_failed c s t k.pass made stood f.1)), fault)

    -- The worker stops, for its reason.
    pub stopped_ends : {P : Type 0} (job : ℕ) (why : StopReason) (e : WorkerEnd) (s t : Sight Due (Graphs G)) (w : Worker P G A S)
        → IsStopped b members job why s w →
        StopsSo FitsIn job why e s t → HasStopped b members e t w
    stopped_ends job None e s t w k so = elim so [
      | inl done ↦ subst (λ z. HasStopped b members z t w) (sym done.0) (
        (
          k.took,
          k.posts,
          (
            stands_done s t w.table k.took k.posts k.stands job done.1,
            done.1.made ∙ k.made,
            abort_stays done.1.goes,
          ),
        ),
        k.fault,
      )
      | inr failed ↦ failed_ends s t w.table k.took k.posts k.stands reason.Spent e k.made failed.0
          (not_at_abort (end.Failed cause.Spent) w.table k.fault) failed.1
    ]
      where
        known : (o : Option Abort) → IsSome o → (a : Abort) × (o ≡ Some a)
        known None h = cc
        known (Some a) h = (a, refl)

        abort_stays : GoesOn FitsIn s t → IsSome t.seen.aborted
        abort_stays g = let z = known s.seen.aborted k.reason in ap Rattle.std.specs.Prelude.is_some
            (g.before.aborted z.0 z.1)
    stopped_ends job (Some why) e s t w k so =
        failed_ends s t w.table k.took k.posts k.stands why e k.made k.reason k.fault so

    -- A table that has kept what it took is that of the procedure still.
    table_keeps : (f : Option TableFault) (p : Program) (q : ℕ) (x y : Table G A S) → IsTableOf members p q x
        → KeepsTable members f x y →
        IsTableOf members p q y
    table_keeps f p q x y is k = record {
      fit = is.fit;
      in_order = is.in_order;
      graph = subst (IsGraph p q) (sym k.stays.graph) is.graph;
      number = k.stays.procedure ∙ is.number;
      table = k.table;
      due = λ i h. is.due i (same_taken_back x.found y.found k.taken i h);
    }

    stands_keeps : (f : Option TableFault) (s : Sight Due (Graphs G)) (x y : Table G A S) (took : List Due)
        (sent : List (ℕ × Due)) →
        Stands b members s x took sent → KeepsTable members f x y → Stands b members s y took sent
    stands_keeps f s x y took sent k keeps = record {
      pass = k.pass;
      table = λ p drawn. table_keeps f p b.number x y (k.table p drawn) keeps;
      limit = ap most_of keeps.stays.limit ∙ k.limit;
      only = λ i h. k.only i (same_taken_back x.found y.found keeps.taken i h);
      takes = k.takes;
      posts = k.posts;
    }

    -- A fault of the table has stood.
    fault_stood : (f : TableFault) (s t : Sight Due (Graphs G)) (x : Table G A S) (took : List Due)
        (sent : List (ℕ × Due))
        → Stands b members s x took sent → failure x ≡ Some f → HasStood b (cause_for f) t
    fault_stood fault.Memory s t x took sent k failed = tt
    fault_stood fault.EdgeLimit s t x took sent k failed = λ p drawn.
        subst (HasMoreEdges p b.number) k.limit (over_limit members p b.number x (k.table p drawn) failed)

    -- A table that keeps what it took keeps what goes on.
    goes_keeps : (s : Sight Due (Graphs G)) (x y : Table G A S) (took : List Due) (sent : List (ℕ × Due))
        → Goes b members s x took sent → KeepsTable members None x y → Goes b members s y took sent
    goes_keeps s x y took sent g keeps = record {
      stands = stands_keeps None s x y took sent g.stands keeps;
      made = g.made;
      whole = keeps.fault;
      all = λ i h. same_taken x.found y.found keeps.taken i (g.all i h);
    }

    module _ {P : Type 0} (job : ℕ) (s : Sight Due (Graphs G)) (w : Worker P G A S) (y : Table G A S)
        (deals : IsDealing b members job s w) where
      -- The table has answered a message, which is due and is posted next.
      pub answered_sending : (to : ℕ) (d : Due) → KeepsTable members None w.table y → IsAnswer w.table y to d
          → IsSending b members job to d s (record w { table = y })
      answered_sending to d keeps answer =
          let g = deals.sent.0 in
          let stands = stands_keeps None s w.table y deals.took deals.posts g.stands keeps in
          let pass = g.stands.pass in
          let p = pass.drawn.0 in
          let due : IsDueFor p to d = answer_due members p b.number y (stands.table p pass.drawn.1) w.table to d answer in
          record {
            took = deals.took;
            posts = deals.posts;
            goes = goes_keeps s w.table y deals.took deals.posts g keeps;
            but = ap (λ l. l ++ mail to d ∷ []) deals.sent.1 ∙ sym answer.behind;
            near = receiver_there s to d pass due;
            fits = subst (λ world. FitsIn world to d) (sym g.stands.pass.world)
                (λ p drawn. answer_due members p b.number y (stands.table p drawn) w.table to d answer);
            has = deals.has;
          }

      -- The table has failed.
      table_stops : (f : TableFault) (why : Reason) → cause_of why ≡ cause_for f → KeepsTable members (Some f) w.table y
          → IsStopped b members job (Some why) s (record w { table = y })
      table_stops f why same keeps =
          let g = deals.sent.0 in
          let stands = stands_keeps (Some f) s w.table y deals.took deals.posts g.stands keeps in record {
            took = deals.took;
            posts = deals.posts;
            stands = stands;
            made = g.made;
            has = deals.has;
            reason = subst (λ c. HasStood b c s) (sym same)
                (fault_stood f s s y deals.took deals.posts stands keeps.fault);
            fault = subst (λ c. IsAtFault (end.Failed c) y) (sym same) (at_fault f y keeps.fault);
          }

      pub answered_fault : (why : Reason) → FailsFor why (λ f. KeepsTable members (Some f) w.table y)
          → IsStopped b members job (Some why) s (record w { table = y })
      answered_fault reason.Spent failed = absurd failed
      answered_fault reason.EdgeLimit failed = table_stops fault.EdgeLimit reason.EdgeLimit refl failed
      answered_fault (reason.OutOfMemory witness) failed = table_stops fault.Memory (reason.OutOfMemory witness) refl failed

      -- The table owed no message: all that it answered is posted still.
      pub answered_none : KeepsTable members None w.table y → answers_of y ≡ answers_of w.table → IsQuiet members y
          → HasAnswered b members job false s s (record w { table = y })
      answered_none keeps same quiet = record {
        dealing = record {
          took = deals.took;
          posts = deals.posts;
          sent = (goes_keeps s w.table y deals.took deals.posts deals.sent.0 keeps, deals.sent.1 ∙ sym same);
          has = deals.has;
        };
        none = quiet;
        takes = refl;
      }

    module _ {P : Type 0} (job to : ℕ) (d : Due) (s t : Sight Due (Graphs G)) (v w : Worker P G A S) (k : IsSending b members job to d s v)
        (table : w.table ≡ v.table) where
      -- The message is posted.
      pub sent_dealing : WasPosted FitsIn job to d s t → IsDealing b members job t w
      sent_dealing p =
          let g = k.goes in
          let still = stands_post s t v.table k.took k.posts g.stands job to d p in
          let whole : HasSent b members t v.table k.took (k.posts ++ (to, d) ∷ []) = (
            record { stands = still; made = p.0.made ∙ g.made; whole = g.whole; all = g.all },
            map-append (λ (x : ℕ × Due). mail x.0 x.1) k.posts ((to, d) ∷ []) ∙ k.but,
          ) in record {
            took = k.took;
            posts = k.posts ++ (to, d) ∷ [];
            sent = subst (λ x. HasSent b members t x k.took (k.posts ++ (to, d) ∷ [])) (sym table) whole;
            has = job_of_pass t job still.pass (kept_added FitsIn s t job (Posted to s.number d job) p.0
                (no_done_post s.number to s.number d job)
                (job_to_pass s job g.stands.pass k.has));
          }

      -- The worker stops before the post, or at a post that made no event.
      sending_stopped : (why : StopReason) → StoppedFor b why s → IsStopped b members job why s w
      sending_stopped why stopped = record {
        took = k.took;
        posts = k.posts;
        stands = subst (λ x. Stands b members s x k.took k.posts) (sym table) k.goes.stands;
        made = k.goes.made;
        has = k.has;
        reason = stopped;
        fault = not_at_fault (end_at why) w.table (ap failure table ∙ k.goes.whole);
      }

      sending_none : (why : StopReason) → MadeNone FitsIn s t → StoppedFor b why t → IsStopped b members job why t w
      sending_none why m stopped =
          let g = k.goes in record {
            took = k.took;
            posts = k.posts;
            stands = subst (λ x. Stands b members t x k.took k.posts) (sym table) (stands_none s t v.table k.took k.posts g.stands m);
            made = m.made ∙ g.made;
            has = job_none job s t g.stands.pass m k.has;
            reason = stopped;
            fault = not_at_fault (end_at why) w.table (ap failure table ∙ g.whole);
          }

      -- The post was refused.
      pub sending_refused : (why : StopReason) → RefusedFor FitsIn why s t → IsStopped b members job why t w
      sending_refused None refused = sending_none None refused.0.0 refused.1
      sending_refused (Some reason.Spent) spent =
          subst (λ z. IsStopped b members job (Some reason.Spent) z w) (sym spent.1) (sending_stopped (Some reason.Spent) spent.0)
      sending_refused (Some reason.EdgeLimit) refused = absurd refused
      sending_refused (Some (reason.OutOfMemory witness)) refused = sending_none (Some (reason.OutOfMemory witness)) refused.0.0 tt

    -- The pass took a message, which the table is to take.
    pub took_taking : {P : Type 0} (job : ℕ) (d : Due) (s t : Sight Due (Graphs G)) (v w : Worker P G A S) → IsReady b members s v
        → promises.TookOldest FitsIn job d s t → w.table ≡ v.table → IsTaking b members job d t w
    took_taking job d s t v w ready m table =
        let g = ready.served.0.0 in
        let still = stands_take s t v.table ready.took ready.sent g.stands job d m in record {
          before = ready.took;
          posts = ready.sent;
          stands = subst (λ x. Stands b members t x (ready.took ++ d ∷ []) ready.sent) (sym table) still;
          made = m.added.made ∙ g.made;
          whole = ap failure table ∙ g.whole;
          all = λ i h. subst (λ x. TookMessage x.found i) (sym table) (g.all i h);
          sent = ready.served.0.1 ∙ sym (ap answers_of table);
          fits = subst (λ world. FitsIn world b.number d) (sym m.added.goes.before.world)
              (subst (λ n. FitsIn s.seen.world n d) g.stands.pass.number m.fit);
          has = job_of_pass t job still.pass (job_new FitsIn s t job d m);
        }

    -- A worker that is ready stays so if no event is made.
    ready_none : {P : Type 0} (s t : Sight Due (Graphs G)) (v w : Worker P G A S) → IsReady b members s v → MadeNone FitsIn s t
        → w.table ≡ v.table → IsReady b members t w
    ready_none s t v w ready m table =
        let g = ready.served.0.0 in
        let still : HasServed b members t v.table ready.took ready.sent = (
          (
            record {
              stands = stands_none s t v.table ready.took ready.sent g.stands m;
              made = m.made ∙ g.made;
              whole = g.whole;
              all = g.all;
            },
            ready.served.0.1,
          ),
          ready.served.1,
        ) in record {
          took = ready.took;
          sent = ready.sent;
          served = subst (λ x. HasServed b members t x ready.took ready.sent) (sym table) still;
        }

    -- What a take answers is what the worker has found.
    pub took_found : {P : Type 0} (taken : answers.Taken Due) (s t : Sight Due (Graphs G)) (v w : Worker P G A S) → IsReady b members s v
        → promises.Took FitsIn (Ok taken) s t → w.table ≡ v.table → HasFound b members taken t w
    took_found (answer.Message job d) s t v w ready took table = took_taking job d s t v w ready took table
    took_found answer.Empty s t v w ready took table = ready_none s t v w ready took.0.0 table
    took_found answer.Closed s t v w ready took table =
        (ready_none s t v w ready took.0.0 table, took.1, took.0.0.goes.close took.1)
    took_found answer.Aborted s t v w ready took table = (ready_none s t v w ready took.0.0 table, took.2)

    module _ {P : Type 0} (job : ℕ) (s t : Sight Due (Graphs G)) (w : Worker P G A S) (pass : P) (d : IsDealing b members job s w) where
      -- The message is completed, and all that is implied was posted.
      completed_ready : IsQuiet members w.table → WasDone FitsIn job s t → IsReady b members t w
      completed_ready quiet done =
          let g = d.sent.0 in record {
            took = d.took;
            sent = d.posts;
            served = (
              (
                record {
                  stands = stands_done s t w.table d.took d.posts g.stands job done;
                  made = done.made ∙ g.made;
                  whole = g.whole;
                  all = g.all;
                },
                d.sent.1,
              ),
              quiet,
            );
          }

      -- No call was left, for the completion or behind it.
      turn_left : (e : WorkerEnd) → TurnsOrEnds FitsIn job (Err e) s t → HasStopped b members e t (record w { pass = pass })
      turn_left e left =
          let g = d.sent.0 in
          let fault = not_at_fault (end.Failed cause.Spent) w.table g.whole in elim left [
            | inl first ↦ failed_ends s t w.table d.took d.posts g.stands reason.Spent e g.made first.0 fault first.1
            | inr then ↦
                failed_ends then.0 t w.table d.took d.posts (stands_done s then.0 w.table d.took d.posts g.stands job then.1)
                reason.Spent e (then.1.made ∙ g.made) then.2 fault then.3
          ]

    -- The worker has turned to what it has found, or was without a call. It had taken no message since `r`.
    pub turn_dealt : {P : Type 0} (job : ℕ) (a : Result (answers.Taken Due) WorkerEnd) (r s t : Sight Due (Graphs G)) (w : Worker P G A S)
        (pass : P) → IsDealing b members job s w → IsQuiet members w.table → took_by s ≡ took_by r → TurnsOrEnds FitsIn job a s t
        → HasDealt b members job a r t (record w { pass = pass })
    turn_dealt job (Ok next) r s t w pass d quiet same did = (
      took_found next did.0 t w (record w { pass = pass }) (completed_ready job s did.0 w pass d quiet did.1) did.2 refl,
      (s, same, did),
    )
    turn_dealt job (Err e) r s t w pass d quiet same left = turn_left job s t w pass d e left

    module _ {P : Type 0} (d : Due) (job : ℕ) (s : Sight Due (Graphs G)) (w v : Worker P G A S)
        (k : IsTaking b members job d s w) where
      -- The table was given the message, with this result.
      given_stands : {T : Type 0} (answer : Result T TableFault) → TableTakes members d answer w.table v.table
          → Stands b members s v.table (k.before ++ d ∷ []) k.posts
      given_stands answer given = record {
        pass = k.stands.pass;
        table = λ p drawn.
            let is = k.stands.table p drawn in record {
              fit = is.fit;
              in_order = is.in_order;
              graph = subst (IsGraph p b.number) (sym given.stays.graph) is.graph;
              number = given.stays.procedure ∙ is.number;
              table = given.table;
              due = λ i h. elim
                  (given.only i h) [
                    | inl this ↦ fit_due d s k.stands.pass k.fits p drawn i this
                    | inr old ↦ is.due i
                        old
                  ];
            };
        limit = ap most_of given.stays.limit ∙ k.stands.limit;
        only = λ i h. elim (given.only i h) [
          | inl this ↦ member_right (due_of i) k.before (d ∷ []) (inl this)
          | inr old ↦ k.stands.only i old
        ];
        takes = k.stands.takes;
        posts = k.stands.posts;
      }

      -- The table took the message.
      pub given_dealing : {T : Type 0} (x : T) → TableTakes members d (Ok x) w.table v.table → IsDealing b members job s v
      given_dealing x given = record {
        took = k.before ++ d ∷ [];
        posts = k.posts;
        sent = (
          record {
            stands = given_stands (Ok x) given;
            made = k.made;
            whole = given.fault;
            all = λ i h. (given.taken i).1
                (elim (last_or k.before d (due_of i) h) [ inl old ↦ inr (k.all i old) | inr this ↦ inl this ]);
          },
          k.sent ∙ sym given.answers,
        );
        has = k.has;
      }

      -- The table failed at the message.
      module _ (e : WorkerEnd) (t : Sight Due (Graphs G)) where
        taking_stops : {T : Type 0} (f : TableFault) (why : Reason) → cause_of why ≡ cause_for f
            → TableTakes members d {Returned = T} (Err f) w.table v.table → Failed FitsIn why e s t
            → HasStopped b members e t v
        taking_stops {T} f why same given failed =
            let stands = given_stands {T = T} (Err f) given in
            failed_ends s t v.table (k.before ++ d ∷ []) k.posts stands why e k.made
            (subst (λ c. HasStood b c s) (sym same) (fault_stood f s s v.table (k.before ++ d ∷ []) k.posts stands given.fault))
            (subst (λ c. IsAtFault (end.Failed c) v.table) (sym same) (at_fault f v.table given.fault)) failed

        pub given_fault : (T : Type 0) (why : Reason) → TakesOrFails members {T = T} d (Err why) w.table v.table → Failed FitsIn why e s t
            → HasStopped b members e t v
        given_fault T reason.Spent given failed = absurd given
        given_fault T reason.EdgeLimit given failed = taking_stops {T = T} fault.EdgeLimit reason.EdgeLimit refl given failed
        given_fault T (reason.OutOfMemory witness) given failed =
            taking_stops {T = T} fault.Memory (reason.OutOfMemory witness) refl given failed

    -- A new worker is ready.
    pub fresh_ready : {P : Type 0} (s : Sight Due (Graphs G)) (w : Worker P G A S) → (p : Program) × AreDrawnFrom p
        (graphs_of b.graphs) →
        IsFresh b s → IsNew members w.table → IsQuiet members w.table →
        slice_get (graphs_of b.graphs) b.number ≡ Some (graph_of w.table) → procedure_of w.table ≡ b.number →
        limit_of w.table ≡ b.limit → IsReady b members s w
    fresh_ready s w drawn fresh new quiet graph procedure limit = record {
      took = [];
      sent = [];
      served = (
        (
          record {
            stands = record {
              pass = record {
                drawn = drawn;
                board = fresh.board;
                number = fresh.number;
                sound = fresh.sound;
                opened = fresh.opened;
                world =
                    fresh.world;
                boxes = fresh.boxes;
              };
              table = λ p are. record {
                fit = are.0;
                in_order = are.1;
                graph = are.2.1 b.number (graph_of w.table) graph;
                number = procedure;
                table = new.table;
                due = λ i h. absurd (new.nothing i h);
              };
              limit = limit;
              only = λ i h. absurd (new.nothing i h);
              takes = ap messages_taken fresh.none;
              posts = ap posted_in fresh.none;
            };
            made = fresh.made;
            whole = new.fault;
            all = λ i h. absurd h;
          },
          sym new.answered,
        ),
        quiet,
      );
    }

module _ {G : Type 0} where
  -- what a pass took, by its own list at a number that stays
  took_on : (s t : Sight Due (Graphs G)) (l : List Due) → t.number ≡ s.number
      → messages_taken (own s.number t.seen.order) ≡ l → took_by t ≡ l
  took_on s t l same is = ap (λ n. messages_taken (own n t.seen.order)) same ∙ is

  -- a post takes no message
  pub took_posted : (job to : ℕ) (d : Due) (s t : Sight Due (Graphs G)) → WasPosted FitsIn job to d s t → took_by t ≡ took_by s
  took_posted job to d s t p =
      took_on s t (took_by s) p.0.goes.number
      (taken_post (own s.number s.seen.order) (own s.number t.seen.order) to s.number d job p.0.own)

  -- no call was left: the worker has failed for that, before the message was completed or after it
  pub left_ends : (job : ℕ) (back : Option ℕ) (e : WorkerEnd) (s u t : Sight Due (Graphs G)) → promises.LeftTurn FitsIn job back s u
      → Failed FitsIn reason.Spent e u t → TurnsOrEnds FitsIn job (Err e) s t
  left_ends job (Some back) e s u t left failed = inl (left.1.0, subst (λ z. Failed FitsIn reason.Spent e z t) left.1.1 failed)
  left_ends job None e s u t left failed =
      inr (left.0, left.1, left.2.0, subst (λ z. Failed FitsIn reason.Spent e z t) left.2.1 failed)

-- a pass that has seen the opening alone
pub new_fresh : {G : Type 0} (graphs : Graphs G) (board : TableId) (budget boxes number : ℕ) (limit : EdgeLimit)
    → boxes ≡ length (graphs_of graphs) → number < boxes
    → IsFresh (begun graphs number limit board) (fresh_sight board budget (opened graphs boxes 0 opening.due) number)
new_fresh graphs board budget boxes number limit count near =
    let some : 0 < boxes = omega (arith, near) in record {
      board = refl;
      number = refl;
      sound = sound_open FitsIn graphs boxes 0 opening.due some (opening_fits graphs (subst (λ n. 0 < n) count some));
      opened = ([], ap (λ n. Posted 0 n opening.due 0 ∷ []) count);
      world = refl;
      boxes = count;
      made = refl;
      none = own_else number (Posted 0 boxes opening.due 0) [] (λ same. omega (arith, same, near));
    }
