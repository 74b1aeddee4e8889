-- If no table owes a message, the tables have the entries, the pairs and the path edges of their procedures.
use Rattle.std.proofs.Common.{◌≡◌, ◌<◌, ◌↔◌, ℕ, nat_eq, true, List, [], ◌∷◌, Option, Some, None, map, slice_get, length, inl}
use Rattle.std.proofs.Common.{inr, refl, sym, subst, arith}
use Rattle.std.proofs.lemmas.Option.{none-some, slice_get_within}
use Rattle.language.specs.Step.{Program}
use Rattle.language.specs.Sequential.{Caller, starter, caller, Valuation, IsDue, Entered, SomeBad}
use Rattle.language.specs.Lists.{Member}
use Rattle.language.proofs.Entering.{entered_there}
use Rattle.language.proofs.Gathered.{pair_exit}
use Rattle.path_sets.specs.Triples.{Triple, triple}
use Rattle.flow_graph.specs.Bits.{bit_of}
use Rattle.flow_graph.specs.Numbers.{NumberedMessage, numbered_entry, GraphReaches, Sends}
use Rattle.flow_graph.specs.Numbers.{Leaves, IsNumberOf, IsNumberOfEntry, AreNumbersOfEdge, AreNumbersOfPair}
use Rattle.flow_graph.specs.declared.graph.Graph.{Graph}
use Rattle.flow_graph.specs.declared.exit.Exit.{Exit}
use Rattle.flow_graph.proofs.DueLemmas.{there_too, taken_due, edges_taken}
use Rattle.flow_graph.proofs.Pairs.{edge_numbers, pairs_left, bad_left, entries_taken}
use Rattle.path_sets.proofs.PlaceLemmas.{get_map, got_map, item_there, some_member}
use Rattle.summaries.specs.declared.due.Caller as callers
use Rattle.summaries.specs.declared.due.Caller.TheVariants.{Starter, Proc}
use Rattle.summaries.specs.declared.table.Table.{Table}
use Rattle.groups.specs.Under.{under}
use Rattle.summaries.specs.Mails.{mail}
use Rattle.summaries.specs.Dues.{caller_of, due_of}
use Rattle.summaries.specs.Found.{pair, HasExit, TookMessage}
use Rattle.summaries.specs.Tables.{graph_of, IsQuiet}
use Rattle.summaries.specs.Effects.{Effect}
use Rattle.summaries.specs.Tabulated.{IsSummary, HasMoreEdges}
use Rattle.summaries.specs.Together.{IsTaken, HaveLimit, IsReadOff, AreReadOff, AreTables, AreQuietBefore}
use Rattle.summaries.proofs.Once.{no_longer}
use Rattle.summaries.proofs.Steps.{as_many}

-- each caller has its number
caller_is : (by : callers.Caller) → (from : Caller) × (caller_of from ≡ by)
caller_is Starter = (starter, refl)
caller_is (Proc q) = (caller q, refl)

-- if there is an item there is a first one
first_too : {X : Type 0} (xs : List X) (q : ℕ) (x : X) → slice_get xs q ≡ Some x → (y : X) × (slice_get xs 0 ≡ Some y)
first_too [] q x e = absurd (none-some x e)
first_too (y ∷ ys) q x e = (y, refl)

module _ {G A S : Type 0} (members : S → List Triple) (p : Program) (ts : List (Table G A S)) (are : AreTables members p (λ x. ⊥) ts) where
  -- if a procedure is entered its table is there
  entered_table : (q : ℕ) (a : Valuation) → Entered p q a → q < length ts
  entered_table q a entered =
      let (routine, is) = entered_there p q a entered in
      let below : q < length p.routines = slice_get_within p.routines q routine is in
      let same : length ts ≡ length p.routines = as_many members p (λ x. ⊥) ts are in
      omega (arith, below, same)

  -- a procedure with edges has a table
  pub edge_table : (q n : ℕ) → HasMoreEdges p q n → q < length ts
  edge_table q n (xs, once, more, all) =
      let (x, is) = some_member xs n more in
      let (a, v, point, edge, ea, en, ev) = all x is in
      entered_table q a edge.0

  -- if some pair is bad there is a first table
  pub bad_table : (bad : ℕ) → SomeBad p bad → 0 < length ts
  bad_table bad (x, g, pair, is) = entered_table 0 x ((pair_exit p 0 x g).0 pair).2.0

  module _ (quiet : AreQuietBefore members (length ts) ts) where
    abbrev T : ℕ → NumberedMessage → Type 0
    T q k = IsTaken (slice_get ts q) k

    quiet_at : (q : ℕ) (t : Table G A S) → slice_get ts q ≡ Some t → IsQuiet members t
    quiet_at q t is = quiet q t (slice_get_within ts q t is) is

    opening : (t : Table G A S) → slice_get ts 0 ≡ Some t → T 0 (numbered_entry starter 0)
    opening t is = elim (are.opened t is) [ inl none ↦ absurd none | inr received ↦ received (numbered_entry starter 0) refl ]

    is_due : (q : ℕ) (k : NumberedMessage) → T q k → IsNumberOf (IsDue p q) k
    is_due q k h = by (slice_get ts q) refl h
      where
        by : (o : Option (Table G A S)) → slice_get ts q ≡ o → IsTaken o k → IsNumberOf (IsDue p q) k
        by None e h = absurd h
        by (Some t) e h = are.due q t k e h

    sent_taken : (q s : ℕ) (graph : Graph G) (k : NumberedMessage) → slice_get (map graph_of ts) q ≡ Some graph → Sends graph q (T q) s k
        → T s k
    sent_taken q s graph k here sends =
        let (t, is, same) = got_map graph_of ts q graph here in
        let by_table : Sends t.graph.now t.procedure (TookMessage t.found) s k =
        subst (λ n. Sends t.graph.now n (TookMessage t.found) s k) (sym (are.number q t is))
        (subst (λ (o : Option (Table G A S)). Sends t.graph.now q (IsTaken o) s k) is
        (subst (λ (g : Graph G). Sends g q (T q) s k) (sym same) sends)) in
        elim (are.answers q t (mail s (due_of k)) is (((quiet_at q t is).sends s k).0 by_table))
        [ inl none ↦ absurd none | inr received ↦ received k refl ]

    module _ (q : ℕ) (t : Table G A S) (is : slice_get ts q ≡ Some t) where
      started : T 0 (numbered_entry starter 0)
      started = let (first, there) = first_too ts q t is in opening first there

      here : slice_get (map graph_of ts) q ≡ Some t.graph.now
      here = get_map graph_of ts q t is

      -- the messages that the table has taken are those that are due for its procedure
      pub table_due : (k : NumberedMessage) → TookMessage t.found k ↔ IsNumberOf (IsDue p q) k
      table_due k =
          subst (λ (o : Option (Table G A S)). IsTaken o k ↔ IsNumberOf (IsDue p q) k) is
          (taken_due p (map graph_of ts) T are.drawn.0 are.drawn.2 started sent_taken is_due q k)

      -- the entries that the table has taken are those of its procedure
      pub table_entries : (a : ℕ) → ((from : Caller) × TookMessage t.found (numbered_entry from a)) ↔ IsNumberOfEntry p q a
      table_entries a =
          subst (λ (o : Option (Table G A S)). ((from : Caller) × IsTaken o (numbered_entry from a)) ↔ IsNumberOfEntry p q a) is
          (entries_taken p (map graph_of ts) T are.drawn.0 are.drawn.2 started sent_taken is_due q a)

      -- the pairs that it keeps are those of its procedure
      pub table_pairs : (a : ℕ) (b : Exit) → HasExit t.found a b ↔ AreNumbersOfPair p q a b
      table_pairs a b =
          let pairs : Leaves t.graph.now (TookMessage t.found) a b ↔ AreNumbersOfPair p q a b =
          subst (λ (o : Option (Table G A S)). Leaves t.graph.now (IsTaken o) a b ↔ AreNumbersOfPair p q a b) is
          (pairs_left p (map graph_of ts) T are.drawn.0 are.drawn.2 started sent_taken is_due are.drawn.1 q t.graph.now here a b) in
          let left = (quiet_at q t is).leaves a b in
          (λ m. pairs.0 (left.0 m), λ h. left.1 (pairs.1 h))

      -- the path edges that it keeps are those of its procedure
      pub table_edges : (a n v : ℕ) → Member (triple a n v) (members t.edges) ↔ AreNumbersOfEdge p q a n v
      table_edges a n v =
          let edges : GraphReaches t.graph.now (TookMessage t.found) a n v ↔ AreNumbersOfEdge p q a n v =
          subst (λ (o : Option (Table G A S)). GraphReaches t.graph.now (IsTaken o) a n v ↔ AreNumbersOfEdge p q a n v) is
          (let taken = edges_taken p (map graph_of ts) T are.drawn.0 are.drawn.2 started sent_taken is_due q t.graph.now here a n v in
          let numbers = edge_numbers p q a n v in
          (λ r. numbers.0 (taken.0 r), λ h. taken.1 (numbers.1 h))) in
          let kept = (quiet_at q t is).edges a n v in
          (λ m. edges.0 (kept.1 m), λ h. kept.0 (edges.1 h))

      -- so no more than the limit
      pub table_few : (n : ℕ) → HaveLimit n ts → HasMoreEdges p q n → ⊥
      table_few n limits (xs, once, more, all) =
          let short = no_longer xs (members t.edges) once (λ x m. (table_edges x.entry x.point x.values).1 (all x m)) in
          let within = (are.table q t is).within in
          let limit = limits q t is in
          omega (arith, short, within, limit, more)

    -- no procedure has more edges than the limit
    pub few : (n : ℕ) → HaveLimit n ts → (q : ℕ) → HasMoreEdges p q n → ⊥
    few n limits q more = let (t, is) = item_there ts q (edge_table q n more) in table_few q t is n limits more

    -- some pair is bad if some pair that the first table keeps has the bit
    pub table_bad : (t : Table G A S) → slice_get ts 0 ≡ Some t → (bad : ℕ)
        → SomeBad p bad ↔ ((a : ℕ) × (b : Exit) × HasExit t.found a b × (bit_of b.globals bad ≡ true))
    table_bad t is bad =
        let bits =
        bad_left p (map graph_of ts) T are.drawn.0 are.drawn.2 (opening t is) sent_taken is_due are.drawn.1 t.graph.now
        (get_map graph_of ts 0 t is) bad in (
          λ h. let (a, b, leaves, bit) = bits.0 h in (
            a,
            b,
            ((quiet_at 0 t is).leaves a b).1 (subst (λ (o : Option (Table G A S)). Leaves t.graph.now (IsTaken o) a b) is leaves),
            bit,
          ),
          λ h.
              bits.1 (
                h.0,
                h.1,
                subst (λ (o : Option (Table G A S)). Leaves t.graph.now (IsTaken o) h.0 h.1) (sym is)
                    (((quiet_at 0 t is).leaves h.0 h.1).0 h.2),
                h.3,
              ),
        )

    module _ (ss : List Effect) (read : AreReadOff ts ss) where
      -- a summary and its table
      table_of : (q : ℕ) (s : Effect) → slice_get ss q ≡ Some s → (t : Table G A S) × (slice_get ts q ≡ Some t) × IsReadOff t.found s
      table_of q s is = let (t, there) = there_too ss ts q s read.all is in (t, there, read.each q t s there is)

      -- what is read off are the summaries of the procedures
      pub all_summaries : (q : ℕ) (s : Effect) → slice_get ss q ≡ Some s → IsSummary p q s
      all_summaries q s is =
          let (t, there, off) = table_of q s is in
          record {
            ascend = off.ascend;
            entries = λ a. (
              λ m. let (by, taken) = (off.entries a).0 m in
                  let (from, same) = caller_is by in
                  (table_entries q t there a).0 (from, subst (λ c. Member c (under nat_eq t.found.entries.by_key a)) (sym same) taken),
              λ h. let (from, taken) = (table_entries q t there a).1 h in (off.entries a).1 (caller_of from, taken),
            );
            pairs_ascend = off.pairs_ascend;
            pairs = λ a b. (
              λ m. (table_pairs q t there a b).0 ((off.pairs (pair a b)).0 m),
              λ h. (off.pairs (pair a b)).1 ((table_pairs q t there a b).1 h),
            );
          }

      -- and some pair is bad if the program has a bad pair
      pub all_bad : (bad : ℕ)
          → ((s : Effect) × (slice_get ss 0 ≡ Some s) ×
          ((a : ℕ) × (b : Exit) × Member (pair a b) s.pairs × (bit_of b.globals bad ≡ true))) ↔ SomeBad p bad
      all_bad bad = (
        λ h. let (t, there, off) = table_of 0 h.0 h.1 in
            let (a, b, m, bit) = h.2 in
            (table_bad t there bad).1 (a, b, (off.pairs (pair a b)).0 m, bit),
        λ h. let (t, there) = item_there ts 0 (bad_table bad h) in
            let (s, is) = there_too ts ss 0 t (sym read.all) there in
            let (a, b, m, bit) = (table_bad t there bad).0 h in
            (s, is, (a, b, ((read.each 0 t s there is).pairs (pair a b)).1 m, bit)),
      )
