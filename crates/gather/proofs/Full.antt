-- If no worker failed, the board is closed, and the tables have taken all that any of them answered.
use Rattle.std.proofs.Common.{◌≡◌, inl, inr, ℕ, zero, suc, ◌<◌, List, [], ◌∷◌, true, Some, None, slice_get, map, length}
use Rattle.std.proofs.Common.{refl, sym, ap, ◌∙◌, subst, arith}
use Rattle.std.specs.Prelude.{Bool, Option, IsSome}
use Rattle.std.proofs.lemmas.Option.{none-some, same_Some, slice_get_within}
use Rattle.std.proofs.lemmas.List.{length-map}
use Rattle.std.proofs.lemmas.Bool.{false≢true}
use Rattle.atomic_table.specs.Seated.{TableId}
use Rattle.post_ledger.specs.declared.event.Event.{Event}
use Rattle.post_ledger.specs.declared.entry.Entry.{Entry}
use Rattle.post_ledger.specs.declared.entry.Entry.TheVariants.{Posted}
use Rattle.post_ledger.specs.History.{posts, takes}
use Rattle.post_ledger.specs.Sides.{sent, taken}
use Rattle.post_ledger.specs.Orders.{part, own, IsLawful, IsClosed}
use Rattle.post_ledger.proofs.Orders.{element_at}
use Rattle.post_ledger.proofs.Closing.{all_taken, each_taken}
use Rattle.post_ledger.proofs.Orders.{nothing_follows}
use Rattle.language.specs.Step.{Program}
use Rattle.language.specs.Sequential.{IsDue}
use Rattle.language.specs.Lists.{Member}
use Rattle.language.proofs.Members.{member_left}
use Rattle.path_sets.specs.Triples.{Triple}
use Rattle.flow_graph.specs.declared.graph.Graphs.{Graphs}
use Rattle.flow_graph.specs.Drawn.{graphs_of}
use Rattle.flow_graph.specs.Graphs.{IsGraph, AreDrawnFrom}
use Rattle.flow_graph.specs.Numbers.{IsNumberOf}
use Rattle.summaries.specs.declared.due.Due.{Due}
use Rattle.path_sets.specs.declared.edge_limit.EdgeLimit.{EdgeLimit}
use Rattle.summaries.specs.declared.table.Table.{Table}
use Rattle.summaries.specs.Fitting.{FitsIn}
use Rattle.summaries.specs.Found.{TookMessage}
use Rattle.path_sets.specs.EdgeLimits.{most_of}
use Rattle.summaries.specs.Mails.{AddressedMail, mail}
use Rattle.summaries.specs.Tables.{graph_of, procedure_of, limit_of, answers_of, failure, IsTable, IsQuiet}
use Rattle.summaries.specs.Together.{opening, IsTaken, IsReceived, HaveLimit, AreFull}
use Rattle.switchboard.specs.declared.calls.Abort.{Abort}
use Rattle.switchboard.specs.declared.calls.Cause.{Cause}
use Rattle.switchboard.specs.declared.calls.Cause.TheVariants.{NoWorker}
use Rattle.switchboard.specs.Sights.{Sight}
use Rattle.switchboard.specs.Promises.{Settles}
use Rattle.procedure_worker.specs.declared.outcome.End.{End}
use Rattle.procedure_worker.specs.declared.outcome.End.TheVariants.{Closed, Aborted, Failed}
use Rattle.procedure_worker.specs.declared.outcome.Outcome.{Outcome}
use Rattle.procedure_worker.specs.Own.{messages_taken, posted_in}
use Rattle.procedure_worker.specs.Works.{Start, begun, mails_of, EndsSo, HasServed}
use Rattle.gather.specs.Ends.{HaveEnded}
use Rattle.gather.specs.Gathered.{NoneFailed, AllClosed}
use Rattle.gather.specs.Through.{AreThrough}
use Rattle.gather.proofs.Lists.{posted_part, post_in, take_own}
use Rattle.path_sets.proofs.PlaceLemmas.{at_index, index_of, get_map, got_map}

-- a mail is that of a post
got_mail : (sent : List (ℕ × Due)) (x : AddressedMail) → Member x (mails_of sent)
    → (y : ℕ × Due) × Member y sent × (x ≡ mail y.0 y.1)
got_mail [] x h = absurd h
got_mail (y ∷ sent) x (inl is) = (y, inl refl, is)
got_mail (y ∷ sent) x (inr h) = let (z, there, is) = got_mail sent x h in (z, inr there, is)

-- an abort that is there is some abort
some_abort : (o : Option Abort) → IsSome o → (a : Abort) × (o ≡ Some a)
some_abort None h = cc
some_abort (Some a) h = (a, refl)

module _ {G A S : Type 0} where
  -- how the workers have ended
  abbrev pub ends_of : List (Outcome G A S) → List End
  ends_of outcomes = map (λ o. o.end) outcomes

  -- the tables, with this one in front, if there is one
  abbrev beside : Option (Table G A S) → List (Table G A S) → List (Table G A S)
  beside None ts = ts
  beside (Some t) ts = t ∷ ts

  -- the tables that the outcomes have, in their order
  abbrev pub tables_in : List (Outcome G A S) → List (Table G A S)
  tables_in [] = []
  tables_in (o ∷ os) = beside o.table (tables_in os)

  -- each outcome has a table
  abbrev pub HaveTables : List (Outcome G A S) → Type 0
  HaveTables os = (q : ℕ) (o : Outcome G A S) → slice_get os q ≡ Some o → (t : Table G A S) × (o.table ≡ Some t)

  as_long : (os : List (Outcome G A S)) → HaveTables os → length (tables_in os) ≡ length os
  as_long [] has = refl
  as_long (o ∷ os) has =
      let (t, is) = has 0 o refl in
      ap (λ z. length (beside z (tables_in os))) is ∙ ap suc (as_long os (λ q. has (suc q)))

  -- the tables are those of the outcomes, in their order
  pub table_at : (os : List (Outcome G A S)) → HaveTables os → (q : ℕ) (o : Outcome G A S) (t : Table G A S)
      → slice_get os q ≡ Some o → o.table ≡ Some t → slice_get (tables_in os) q ≡ Some t
  table_at [] has q o t there is = absurd (none-some o there)
  table_at (x ∷ os) has zero o t there is =
      ap (λ z. slice_get (beside z (tables_in os)) 0) (ap (λ (y : Outcome G A S). y.table) (same_Some x o there) ∙ is)
  table_at (x ∷ os) has (suc q) o t there is =
      let (u, first) = has 0 x refl in
      ap (λ z. slice_get (beside z (tables_in os)) (suc q)) first ∙ table_at os (λ n. has (suc n)) q o t there is

  module _ (members : S → List Triple) where
    -- a pass that has made an abort is that of a worker whose end names a cause
    named_by : (b : Start G) (e : End) (s : Sight Due (Graphs G)) (t : Table G A S) (took : List Due)
        (sent : List (ℕ × Due)) → EndsSo b members e s t took sent → s.made ≡ true → (c : Cause) × (e ≡ Failed c)
    named_by b Closed s t took sent (((goes, sent_all), quiet), knows, closed) made = absurd (false≢true (sym goes.made ∙ made))
    named_by b Aborted s t took sent so made = absurd (false≢true (sym so.1 ∙ made))
    named_by b (Failed c) s t took sent so made = (c, refl)

    module _ (graphs : Graphs G) (limit : EdgeLimit) (board : TableId) (passes : List (Sight Due (Graphs G)))
        (outcomes : List (Outcome G A S)) (histories : List (List (Event Due))) (closed : Bool)
        (ended : HaveEnded members graphs limit board passes outcomes)
        (settled : Settles FitsIn (length (graphs_of graphs)) passes histories closed) where
      -- the pass of an outcome, and the outcome of a pass
      pass_at : (q : ℕ) → q < length (graphs_of graphs) → (s : Sight Due (Graphs G)) × (slice_get passes q ≡ Some s)
      pass_at q near = element_at passes q (subst (λ n. q < n) (sym ended.each_pass) near)

      pub outcome_at : (q : ℕ) → q < length (graphs_of graphs) → (o : Outcome G A S) × (slice_get outcomes q ≡ Some o)
      outcome_at q near = element_at outcomes q (subst (λ n. q < n) (sym ended.each_outcome) near)

      near_outcome : (q : ℕ) (o : Outcome G A S) → slice_get outcomes q ≡ Some o → q < length (graphs_of graphs)
      near_outcome q o is = subst (λ n. q < n) ended.each_outcome (slice_get_within outcomes q o is)

      near_pass : (q : ℕ) (s : Sight Due (Graphs G)) → slice_get passes q ≡ Some s → q < length (graphs_of graphs)
      near_pass q s is = subst (λ n. q < n) ended.each_pass (slice_get_within passes q s is)

      end_there : (q : ℕ) (o : Outcome G A S) → slice_get outcomes q ≡ Some o → Member o.end (ends_of outcomes)
      end_there q o is = at_index (ends_of outcomes) o.end q (get_map (λ (x : Outcome G A S). x.end) outcomes q o is)

      -- if some pass has made an abort, some end names a cause
      abort_named : (q : ℕ) (s : Sight Due (Graphs G)) → slice_get passes q ≡ Some s → s.made ≡ true
          → (c : Cause) × Member (Failed c) (ends_of outcomes)
      abort_named q s is made =
          let (o, there) = outcome_at q (near_pass q s is) in
          let named : (c : Cause) × (o.end ≡ Failed c) = elim (ended.ends q s o is there) [
            | inl e ↦ named_by (begun graphs q limit board) o.end s e.0 e.2.0 e.2.1 e.2.2 made
            | inr none ↦ (NoWorker, none.named)
          ] in
          (named.0, subst (λ e. Member e (ends_of outcomes)) named.1 (end_there q o there))

      module _ (none : NoneFailed (ends_of outcomes)) where
        -- how a worker ended
        end_closed : (q : ℕ) (s : Sight Due (Graphs G)) → slice_get passes q ≡ Some s → (e : End)
            → Member e (ends_of outcomes) → (t : Table G A S) (took : List Due) (sent : List (ℕ × Due))
            → EndsSo (begun graphs q limit board) members e s t took sent → e ≡ Closed
        end_closed q s is Closed there t took sent so = refl
        end_closed q s is Aborted there t took sent so =
            let (a, abort) = some_abort s.seen.aborted so.2 in
            let (p, at, made) = settled.aborts q s a is abort in
            let named = abort_named a.by p at made in
            absurd (none named.0 named.1)
        end_closed q s is (Failed c) there t took sent so = absurd (none c there)

        -- What a worker has served by the close.
        pub record Served (q : ℕ) (o : Outcome G A S) : Type 0 where
          pub pass : Sight Due (Graphs G)
          pub at : slice_get passes q ≡ Some pass
          pub table : Table G A S
          pub is : o.table ≡ Some table
          pub shut : o.end ≡ Closed
          pub took : List Due
          pub sent : List (ℕ × Due)
          pub served : HasServed (begun graphs q limit board) members pass table took sent
          pub knows : pass.knows ≡ true

        pub served : (q : ℕ) (o : Outcome G A S) → slice_get outcomes q ≡ Some o → Served q o
        served q o there =
            let (s, at) = pass_at q (near_outcome q o there) in
            elim (ended.ends q s o at there) [
              | inl e ↦
                  let (took, sent, how) = e.2 in
                  let ends = end_closed q s at o.end (end_there q o there) e.0 took sent how in
                  let so = subst (λ z. EndsSo (begun graphs q limit board) members z s e.0 took sent) ends how in
                  record { pass = s; at = at; table = e.0; is = e.1; shut = ends; took = took; sent = sent; served = so.0; knows = so.1 }
              | inr idle ↦ absurd (none NoWorker (subst (λ e. Member e (ends_of outcomes)) idle.named (end_there q o there)))
            ]

        pub all_closed : AllClosed (ends_of outcomes)
        all_closed e there =
            let (q, is) = index_of (ends_of outcomes) e there in
            let (o, at, same) = got_map (λ (x : Outcome G A S). x.end) outcomes q e is in
            sym same ∙ (served q o at).shut

        pub some_procedure : 0 < length (graphs_of graphs)
        some_procedure =
            let (to, m, rest, is) = settled.lawful.opens in
            let inside = settled.lawful.inside 0 (Posted to (length (graphs_of graphs)) m 0) (ap (λ l. slice_get l 0) is) in
            omega (arith, inside)

        -- the board is closed
        pub shut : closed ≡ true
        shut =
            let (o, there) = outcome_at 0 some_procedure in
            let s = served 0 o there in
            settled.known 0 s.pass s.at s.knows

        pub order_closed : IsClosed settled.order
        order_closed = settled.close.0 shut

        pub has_tables : HaveTables outcomes
        has_tables q o there = let s = served q o there in (s.table, s.is)

        abbrev pub ts : List (Table G A S)
        ts = tables_in outcomes

        pub tables_all : length ts ≡ length (graphs_of graphs)
        tables_all = as_long outcomes has_tables ∙ ended.each_outcome

        -- a table, with the outcome that it is of
        pub outcome_of : (q : ℕ) (t : Table G A S) → slice_get ts q ≡ Some t
            → (o : Outcome G A S) × (there : slice_get outcomes q ≡ Some o) × ((served q o there).table ≡ t)
        outcome_of q t is =
            let (o, there) = outcome_at q (subst (λ n. q < n) tables_all (slice_get_within ts q t is)) in
            let s = served q o there in
            (o, there, same_Some s.table t (sym (table_at outcomes has_tables q o s.table there s.is) ∙ is))

        -- what the table of a procedure is
        module _ (P : ℕ → Table G A S → Type 0) (each : (q : ℕ) (o : Outcome G A S) → (s : Served q o) → P q s.table) where
          of_table : (q : ℕ) (t : Table G A S) → slice_get ts q ≡ Some t → P q t
          of_table q t is =
              let (o, there, same) = outcome_of q t is in subst (P q) same (each q o (served q o there))

        -- a message that was posted has been taken by its receiver's table
        received : (s to : ℕ) (m : Due) (t : ℕ) → Member (Posted to s m t) settled.order → IsReceived ts (mail to m)
        received s to m t there k same =
            let order = settled.order in
            let (i, at) = index_of order (Posted to s m t) there in
            let near = settled.lawful.inside i (Posted to s m t) at in
            let all = all_taken (part to order) (settled.lawful.legal to) (order_closed to) in
            let taken : Member (s, m) (takes (part to order)) = subst (Member (s, m)) (sym all) (post_in order to s m t there) in
            let (o, is) = outcome_at to near in
            let v = served to o is in
            let g = v.served.0.0 in
            let mine : Member m (messages_taken (own to v.pass.seen.order)) =
            subst (λ l. Member m (messages_taken l)) (settled.own to v.pass v.at) (take_own to order (s, m) taken) in
            let took : Member m v.took = subst (Member m) g.stands.takes mine in
            subst (λ z. IsTaken z k) (sym (table_at outcomes has_tables to o v.table is v.is))
            (g.all k (subst (λ d. Member d v.took) (sym same) took))

        opened_received : IsReceived ts opening
        opened_received =
            let (o, is) = outcome_at 0 some_procedure in
            let v = served 0 o is in
            let (more, first) = v.served.0.0.stands.pass.opened in
            let (rest, begins) = settled.begins 0 v.pass v.at in
            let e : Entry Due = Posted 0 (length (graphs_of graphs)) opening.due 0 in
            let seen : Member e v.pass.seen.order = subst (Member e) (sym first) (inl refl) in
            received (length (graphs_of graphs)) 0 opening.due 0
            (subst (Member e) (sym begins) (member_left e v.pass.seen.order rest seen))

        answer_received : (q : ℕ) (o : Outcome G A S) (v : Served q o) (x : AddressedMail) → Member x (answers_of v.table)
            → IsReceived ts x
        answer_received q o v x there =
            let sent = v.served.0 in
            let stands = sent.0.stands in
            let (y, mine, is) = got_mail v.sent x (subst (Member x) (sym sent.1) there) in
            let posted : Member y (posted_in (own q v.pass.seen.order)) = subst (Member y) (sym stands.posts) mine in
            let (t, at) = posted_part q settled.order y
            (subst (λ l. Member y (posted_in l)) (sym (settled.own q v.pass v.at)) posted) in
            subst (IsReceived ts) (sym is) (received q y.0 y.1 t at)

        -- the tables are full, in each program that the graphs are drawn from
        pub full : (p : Program) → AreDrawnFrom p (graphs_of graphs) → AreFull members p ts
        full p drawn = (
          record {
            drawn = (
              drawn.0,
              drawn.1,
              (
                length-map ts graph_of ∙ (tables_all ∙ drawn.2.0),
                λ q graph is.
                    let (t, at, same) = got_map graph_of ts q graph is in
                    subst (IsGraph p q) same (of_table (λ n u. IsGraph p n (graph_of u)) (λ n o v.
                    (v.served.0.0.stands.table p drawn).graph) q t at),
              ),
            );
            table = of_table (λ n u. IsTable members u) (λ n o v. (v.served.0.0.stands.table p drawn).table);
            whole = of_table (λ n u. failure u ≡ None) (λ n o v. v.served.0.0.whole);
            number = of_table (λ n u. procedure_of u ≡ n) (λ n o v. (v.served.0.0.stands.table p drawn).number);
            due = λ q t k is. of_table (λ n u. TookMessage u.found k → IsNumberOf (IsDue p n) k)
                (λ n o v. (v.served.0.0.stands.table p drawn).due k) q t is;
            opened = λ t is. inr opened_received;
            answers = λ q t x is there. inr (of_table (λ n u. Member x (answers_of u) → IsReceived ts x) (λ n o
                v. answer_received n o v x) q t is there);
          },
          λ q t below is. of_table (λ n u. IsQuiet members u) (λ n o v. v.served.1) q t is,
        )

        -- and each has the limit that it began with
        pub limits : HaveLimit (most_of limit) ts
        limits = of_table (λ n u. limit_of u ≡ most_of limit) (λ n o v. v.served.0.0.stands.limit)

-- the histories of a closed board are through
pub through : {M W : Type 0} (fits : W → ℕ → M → Type 0) (boxes : ℕ) (passes : List (Sight M W))
    (histories : List (List (Event M))) (closed : Bool) → Settles fits boxes passes histories closed → closed ≡ true
    → AreThrough boxes histories
through fits boxes passes histories closed settled is =
    let order = settled.order in
    let shut = settled.close.0 is in
    record {
      order = order;
      lawful = settled.lawful;
      all = settled.count;
      parts = settled.parts;
      each_taken = λ q h at.
          subst (λ l. takes l ≡ posts l) (sym (settled.parts q h at)) (all_taken (part q order) (settled.lawful.legal q) (shut q));
      in_order = λ q s h at.
          subst (λ l. taken s l ≡ sent s l) (sym (settled.parts q h at))
          (each_taken (part q order) s (settled.lawful.legal q) (shut q));
      close = shut;
      last = λ front rest same law end.
          nothing_follows boxes front rest law end (subst (IsLawful boxes) same settled.lawful);
    }
