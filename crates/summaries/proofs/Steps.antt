-- The steps of a tabulation.
use Rattle.std.proofs.Common.{◌≡◌, ◌<◌, ◌≤◌, ◌+◌, ◌-◌, ◌*◌, ◌++◌, ℕ, List, [], ◌∷◌, Some, None, map, slice_get, slice_set}
use Rattle.std.proofs.Common.{length, inl, inr, refl, sym, ap, ◌∙◌, subst, arith, length-append, get_or}
use Rattle.std.specs.List.{sum_by}
use Rattle.std.proofs.lemmas.Option.{none-some, get_or_from_slice_get, slice_get_within}
use Rattle.std.proofs.lemmas.List.{length-map}
use Rattle.std.proofs.lemmas.Nat.{mul-add-lt}
use Rattle.std.proofs.Math.Nat.{mul_comm}
use Rattle.std.proofs.lemmas.List.Sums.{sum_by-set}
use Rattle.language.specs.Step.{Program, Routine, AtRoutine, zeros, frame_size}
use Rattle.post_ledger.proofs.Orders.{element_at}
use Rattle.flow_graph.specs.declared.graph.Graphs.{Graphs}
use Rattle.flow_graph.specs.Drawn.{graphs_of}
use Rattle.summaries.specs.Fitting.{FitsIn}
use Rattle.language.specs.Sequential.{starter, caller, Valuation, entry, IsZero, IsDue}
use Rattle.language.specs.Lists.{Member}
use Rattle.language.proofs.Entering.{due_there}
use Rattle.path_sets.specs.Triples.{Triple}
use Rattle.flow_graph.specs.Flows.{code}
use Rattle.flow_graph.specs.Graphs.{AreDrawnFrom, IsGraph}
use Rattle.flow_graph.specs.Numbers.{NumberedMessage, numbered_entry, numbered_summary, IsNumberOf}
use Rattle.flow_graph.proofs.NumberLemmas.{coded_zeros}
use Rattle.flow_graph.proofs.DueLemmas.{there_too}
use Rattle.summaries.specs.declared.due.Caller.TheVariants.{Starter, Proc}
use Rattle.summaries.specs.declared.due.Due.{Due}
use Rattle.summaries.specs.declared.due.Due.TheVariants.{Entry, Summary}
use Rattle.summaries.specs.declared.table.Table.{Table}
use Rattle.summaries.specs.declared.table_fault.TableFault.{TableFault}
use Rattle.summaries.specs.declared.table_fault.TableFault.TheVariants.{Memory, EdgeLimit}
use Rattle.summaries.specs.declared.no_verdict.NoVerdict.TheVariants as verdict
use Rattle.summaries.specs.Mails.{AddressedMail, mail}
use Rattle.summaries.specs.Dues.{due_of}
use Rattle.summaries.specs.Found.{left, TookMessage}
use Rattle.summaries.specs.Tables.{graph_of, answers_of, IsTable, IsQuiet, IsAnswer, KeepsTable, StaysAs, TookAlso, TookOnly, TookSame}
use Rattle.summaries.specs.Tabulated.{no_verdict, HasMoreEdges}
use Rattle.summaries.specs.Together.{opening, IsReceived, IsTaken, HaveLimit, IsTableOf, AreNew, AreTables, AreQuietBefore}
use Rattle.summaries.proofs.TableLemmas.{over_limit, answer_due}
use Rattle.summaries.proofs.ReplaceLemmas.{set_get}
use Rattle.summaries.proofs.SweepLemmas.{same_taken, same_taken_back, Becomes, replaced}
use Rattle.path_sets.specs.EdgeLimits.{most_of}
use Rattle.path_sets.proofs.PlaceLemmas.{last_or, get_map, set_there}

-- the numbers of a message
pub number_of_due : (d : Due) → (k : NumberedMessage) × (due_of k ≡ d)
number_of_due (Entry Starter a) = (numbered_entry starter a, refl)
number_of_due (Entry (Proc q) a) = (numbered_entry (caller q) a, refl)
number_of_due (Summary s r a b) = (numbered_summary s a (left b r), refl)

-- what a message's numbers are, if it is the starter's
is_opening : (k : NumberedMessage) → due_of k ≡ Entry Starter 0 → k ≡ numbered_entry starter 0
is_opening (numbered_entry starter a) e = let same : a ≡ 0 = cc in ap (numbered_entry starter) same
is_opening (numbered_entry (caller q) a) e = let no : ⊥ = cc in absurd no
is_opening (numbered_summary s a b) e = let no : ⊥ = cc in absurd no

-- the starter's message is due for the first procedure
starter_due : (p : Program) (routine : Routine) → slice_get p.routines 0 ≡ Some routine → (k : NumberedMessage)
    → due_of k ≡ Entry Starter 0 → IsNumberOf (IsDue p 0) k
starter_due p routine there k e =
    let x : Valuation = record { globals = zeros p.globals; places = zeros (frame_size routine) } in
    let zero_is : code x ≡ 0 = coded_zeros p.globals (frame_size routine) in
    let begins : IsZero p x =
    subst (λ o. AtRoutine o (λ r. x ≡ record { globals = zeros p.globals; places = zeros (frame_size r) }))
    (sym there) refl in
    (entry starter x, (refl, begins), is_opening k e ∙ ap (numbered_entry starter) (sym zero_is))

pub opening_fits : {G : Type 0} (graphs : Graphs G) → 0 < length (graphs_of graphs) → FitsIn graphs 0 (Entry Starter 0)
opening_fits graphs some_of p drawn k e =
    let (graph, there) = element_at (graphs_of graphs) 0 some_of in
    let (routine, is) = there_too (graphs_of graphs) p.routines 0 graph drawn.2.0 there in starter_due p routine is k e

module _ {G A S : Type 0} (members : S → List Triple) (p : Program) (Aside : AddressedMail → Type 0) (ts : List (Table G A S))
    (are : AreTables members p Aside ts) where
  -- as many tables as procedures
  pub as_many : length ts ≡ length p.routines
  as_many = sym (length-map ts graph_of) ∙ are.drawn.2.0

  pub has_graph : (q : ℕ) (t : Table G A S) → slice_get ts q ≡ Some t → IsGraph p q t.graph.now
  has_graph q t is = are.drawn.2.1 q t.graph.now (get_map graph_of ts q t is)

  -- a message that is due has its receiver
  pub is_receiver : (q : ℕ) (k : NumberedMessage) → IsNumberOf (IsDue p q) k → q < length ts
  is_receiver q k (m, due, e) =
      let (routine, is) = due_there p q m due in
      let below : q < length p.routines = slice_get_within p.routines q routine is in
      omega (arith, as_many, below)

  -- the opening is due
  pub opening_due : (t : Table G A S) → slice_get ts 0 ≡ Some t → (k : NumberedMessage) → due_of k ≡ Entry Starter 0
      → IsNumberOf (IsDue p 0) k
  opening_due t is k e = let (routine, there) = there_too ts p.routines 0 t as_many is in
      starter_due p routine there k e

  -- what a table has taken is due, if it has taken only a message that is due beside what it had
  pub only_due : (q : ℕ) (d : Due) (t t' : Table G A S) → slice_get ts q ≡ Some t → TookOnly d t.found t'.found
      → ((k : NumberedMessage) → due_of k ≡ d → IsNumberOf (IsDue p q) k) → (k : NumberedMessage) →
      TookMessage t'.found k → IsNumberOf (IsDue p q) k
  only_due q d t t' is only due k taken = elim (only k taken) [ inl e ↦ due k e | inr old ↦ are.due q t k is old ]

  same_due : (q : ℕ) (t t' : Table G A S) → slice_get ts q ≡ Some t → TookSame t.found t'.found →
      (k : NumberedMessage) → TookMessage t'.found k → IsNumberOf (IsDue p q) k
  same_due q t t' is same k taken = are.due q t k is (same_taken_back t.found t'.found same k taken)

  -- a table that has become of one is still that of its procedure
  still_of : (q : ℕ) (t t' : Table G A S) → slice_get ts q ≡ Some t → IsTable members t' → StaysAs t t'
      → ((k : NumberedMessage) → TookMessage t'.found k → IsNumberOf (IsDue p q) k) → IsTableOf members p q t'
  still_of q t t' is table stays due = record {
    fit = are.drawn.0;
    in_order = are.drawn.1;
    graph = subst (IsGraph p q) (sym stays.graph) (has_graph q t is);
    number = stays.procedure ∙ are.number q t is;
    table = table;
    due = due;
  }

  -- a table that has failed for its limit has more edges than that
  pub too_many : (q : ℕ) (t t' : Table G A S) → slice_get ts q ≡ Some t → IsTable members t' → StaysAs t t' → t'.fault ≡ Some EdgeLimit
      → ((k : NumberedMessage) → TookMessage t'.found k → IsNumberOf (IsDue p q) k) → (n : ℕ) → HaveLimit n ts
      → HasMoreEdges p q n
  too_many q t t' is table stays failed due n limits =
      subst (HasMoreEdges p q) (ap most_of stays.limit ∙ limits q t is)
      (over_limit members p q t' (still_of q t t' is table stays due) failed)

  pub same_too_many : (q : ℕ) (t t' : Table G A S) → slice_get ts q ≡ Some t → IsTable members t' → StaysAs t t'
      → t'.fault ≡ Some EdgeLimit → TookSame t.found t'.found
      → (n : ℕ) → HaveLimit n ts → HasMoreEdges p q n
  same_too_many q t t' is table stays failed same = too_many q t t' is table stays failed (same_due q t t' is same)

  -- what a table answers is due
  pub mail_due : (q : ℕ) (t t' : Table G A S) → slice_get ts q ≡ Some t → KeepsTable members None t t' → (s : ℕ) (d : Due)
      → IsAnswer t t' s d
      → (k : NumberedMessage) → due_of k ≡ d → IsNumberOf (IsDue p s) k
  mail_due q t t' is keeps s d answer =
      answer_due members p q t' (still_of q t t' is keeps.table keeps.stays (same_due q t t' is keeps.taken)) t s d answer

  -- so its receiver is there
  pub mail_receiver : (s : ℕ) (d : Due) → ((k : NumberedMessage) → due_of k ≡ d → IsNumberOf (IsDue p s) k) → s < length ts
  mail_receiver s d due = let (k, e) = number_of_due d in is_receiver s k (due k e)

  -- a table answers, or has nothing to answer
  goes_on : (q : ℕ) (t t' : Table G A S) → slice_get ts q ≡ Some t → IsTable members t' → t'.fault ≡ None → StaysAs t t'
      → TookSame t.found t'.found → Becomes members p q t t'
  goes_on q t t' is table whole stays same = record {
    table = table;
    whole = whole;
    stays = stays;
    keeps = same_taken t.found t'.found same;
    due = same_due q t t' is same;
  }

-- a table answers a message, which then is left aside
pub answered : {G A S : Type 0} (members : S → List Triple) (p : Program) (ts : List (Table G A S)) → AreTables members p (λ x. ⊥) ts
    → (q : ℕ) (t t' : Table G A S) → slice_get ts q ≡ Some t → IsTable members t' → t'.fault ≡ None → StaysAs t t'
    → TookSame t.found t'.found
    → (x : AddressedMail) → answers_of t' ≡ answers_of t ++ x ∷ [] → AreTables members p (λ y. y ≡ x) (slice_set ts q t')
answered members p ts are q t t' is table whole stays same x more =
    replaced members p (λ y. ⊥) (λ y. y ≡ x) ts q t t' are is (goes_on members p (λ y. ⊥) ts are q t t' is table whole stays same)
    (λ y m. last_or (answers_of t) x y (subst (Member y) more m))
    (λ y h. absurd h)

-- a table has nothing to answer
pub answered_none : {G A S : Type 0} (members : S → List Triple) (p : Program) (ts : List (Table G A S)) → AreTables members p (λ x. ⊥) ts
    → (q : ℕ) (t t' : Table G A S) → slice_get ts q ≡ Some t → IsTable members t' → t'.fault ≡ None → StaysAs t t'
    → TookSame t.found t'.found
    → answers_of t' ≡ answers_of t → AreTables members p (λ y. ⊥) (slice_set ts q t')
answered_none members p ts are q t t' is table whole stays same none =
    replaced members p (λ y. ⊥) (λ y. ⊥) ts q t t' are is (goes_on members p (λ y. ⊥) ts are q t t' is table whole stays same)
    (λ y m. inl (subst (Member y) none m)) (λ y h. inl h)

-- the receiver takes the message that is left aside
pub delivered : {G A S : Type 0} (members : S → List Triple) (p : Program) (s : ℕ) (d : Due) (ts : List (Table G A S))
    → AreTables members p (λ y. y ≡ mail s d) ts
    → (t t' : Table G A S) → slice_get ts s ≡ Some t → IsTable members t' → t'.fault ≡ None → StaysAs t t' → TookAlso d t.found t'.found
    → TookOnly d t.found t'.found
    → answers_of t' ≡ answers_of t → ((k : NumberedMessage) → due_of k ≡ d → IsNumberOf (IsDue p s) k) →
    AreTables members p (λ y. ⊥) (slice_set ts s t')
delivered {G} {A} {S} members p s d ts are t t' is table whole stays also only none due =
    replaced members p (λ y. y ≡ mail s d) (λ y. ⊥) ts s t t' are is becomes (λ y m. inl (subst (Member y) none m))
    (λ y e. inr (subst (IsReceived (slice_set ts s t')) (sym e) taken))
  where
    becomes : Becomes members p s t t'
    becomes = record {
      table = table;
      whole = whole;
      stays = stays;
      keeps = λ k h. (also k).1 (inr h);
      due = only_due members p (λ y. y ≡ mail s d) ts are s d t t' is only due;
    }

    taken : IsReceived (slice_set ts s t') (mail s d)
    taken k e = subst (λ o. IsTaken o k) (sym (set_there ts s t' (slice_get_within ts s t is))) ((also k).1 (inl e))

module _ {G A S : Type 0} (members : S → List Triple) where
  -- one more table that owes nothing
  pub one_more_quiet : (n : ℕ) (ts : List (Table G A S)) (t' : Table G A S) → AreQuietBefore members n ts → IsQuiet members t'
      → AreQuietBefore members (n + 1) (slice_set ts n t')
  one_more_quiet n ts t' quiet now q u below e =
      elim (set_get ts n q t' u e) [
        | inl h ↦ subst (IsQuiet members) (sym h.1) now
        | inr h ↦ quiet q u (other q n h.0 below) h.1
      ]
    where
      other : (q n : ℕ) → (q ≡ n → ⊥) → q < n + 1 → q < n
      other q n h b = omega (arith, h, b)

  -- those before the tables that are replaced owe nothing
  pub still_quiet : (n i j m : ℕ) (ts : List (Table G A S)) (t' u' : Table G A S) → AreQuietBefore members n ts → m ≤ n → m ≤ i → m ≤ j
      → AreQuietBefore members m (slice_set (slice_set ts i t') j u')
  still_quiet n i j m ts t' u' quiet a b c q v below e =
      elim (set_get (slice_set ts i t') j q u' v e) [
        | inl h ↦ absurd (omega (arith, h.0, below, c))
        | inr h ↦ elim (set_get ts i q t' v h.1) [
          | inl k ↦ absurd (omega (arith, k.0, below, b))
          | inr k ↦ quiet q v (omega (arith, below, a)) k.1
        ]
      ]

module _ {G A S : Type 0} where
  -- how many messages the tables may answer still, if each may answer fewer than n
  abbrev pub left_of : ℕ → Table G A S → ℕ
  left_of n t = n - length (answers_of t)

  pub room : ℕ → List (Table G A S) → ℕ
  room n ts = sum_by (left_of n) ts

  room_set : (n : ℕ) (ts : List (Table G A S)) (i : ℕ) (t t' : Table G A S) → slice_get ts i ≡ Some t
      → room n (slice_set ts i t') + left_of n t ≡ room n ts + left_of n t'
  unfolding room
  room_set n ts i t t' is =
      let same : left_of n (get_or ts i t) ≡ left_of n t = ap (left_of n) (get_or_from_slice_get ts i t t is) in
      let moved = sum_by-set (left_of n) ts i t' t (slice_get_within ts i t is) in
      omega (arith, same, moved)

  pub less_room : (n : ℕ) (ts : List (Table G A S)) (i : ℕ) (t t' : Table G A S) (x : AddressedMail) → slice_get ts i ≡ Some t →
      answers_of t' ≡ answers_of t ++ x ∷ [] → length (answers_of t') < n
      → room n (slice_set ts i t') < room n ts
  less_room n ts i t t' x is more few =
      let longer : length (answers_of t') ≡ length (answers_of t) + 1 = ap length more ∙ length-append (answers_of t) (x ∷ []) in
      omega (arith, room_set n ts i t t' is, longer, few)

  pub same_room : (n : ℕ) (ts : List (Table G A S)) (i : ℕ) (t t' : Table G A S) → slice_get ts i ≡ Some t →
      answers_of t' ≡ answers_of t → room n (slice_set ts i t') ≡ room n ts
  same_room n ts i t t' is same =
      let kept : left_of n t' ≡ left_of n t = ap (λ l. n - length l) same in
      omega (arith, room_set n ts i t t' is, kept)

-- what counts down: messages first, and then the tables that may owe one
abbrev pub steps_left : ℕ → ℕ → ℕ → ℕ
steps_left room tables at = room * (tables + 1) + (tables - at)

pub fewer_rooms : (r s n i j : ℕ) → s < r → steps_left s n i < steps_left r n j
fewer_rooms r s n i j h =
    let below = mul-add-lt s (n + 1) (n - i) r h (omega arith) in
    let same : (n + 1) * r ≡ r * (n + 1) = mul_comm (n + 1) r in
    omega (arith, below, same)

pub nearer : (r n i : ℕ) → i < n → steps_left r n (i + 1) < steps_left r n i
nearer r n i h = omega (arith, h)

-- the table for whose limit there is no verdict, and its fault
pub limit_told : (procedure q : ℕ) (fault : TableFault) → no_verdict procedure fault ≡ verdict.EdgeLimit q
    → (fault ≡ EdgeLimit) × (procedure ≡ q)
limit_told procedure q Memory e = let no : ⊥ = cc in absurd no
limit_told procedure q EdgeLimit e = let same : procedure ≡ q = cc in (refl, same)

-- tables that are new have taken nothing except the opening
pub new_tables : {G A S : Type 0} (members : S → List Triple) (p : Program) (ts : List (Table G A S)) → AreDrawnFrom p (map graph_of ts)
    → AreNew members ts → AreTables members p (λ x. x ≡ opening) ts
new_tables members p ts drawn new = record {
  drawn = drawn;
  table = λ q t is. (new.fresh q t is).table;
  whole = λ q t is. (new.fresh q t is).fault;
  number = new.number;
  due = λ q t k is taken. absurd ((new.fresh q t is).nothing k taken);
  opened = λ t is. inl refl;
  answers = λ q t x is m. absurd (subst (Member x) (new.fresh q t is).answered m);
}

-- if there are no tables, nothing is left aside
pub none_aside : {G A S : Type 0} (members : S → List Triple) (p : Program) (Aside : AddressedMail → Type 0) (ts : List (Table G A S))
    → length ts ≡ 0 → AreTables members p Aside ts → AreTables members p (λ x. ⊥) ts
none_aside members p Aside [] none are = record {
  drawn = are.drawn;
  table = are.table;
  whole = are.whole;
  number = are.number;
  due = are.due;
  opened = λ t e. absurd (none-some t e);
  answers = λ q t x e m. absurd (none-some t e);
}
none_aside members p Aside (t ∷ ts) none are = absurd (omega (arith, none))
